use Rattle.std.proofs.Common.{◌≡◌, ◌≤◌, replicate}
use Rattle.std.specs.Vec.{vec_capacity}
use Rattle.gomp_tasks.specs.declared.rows.Newest.{Newest}
use Rattle.gomp_tasks.specs.Rows.{no_newest}
use Rattle.gomp_tasks.proofs.tasks.empty_roots.Given as goal

abbrev pub invariant-loop : goal.invariant-loop
invariant-loop l = record {
  items : l.roots.items ≡ replicate {A = Newest} l.counter no_newest;
  room : l.fn.count ≤ vec_capacity l.roots;
}
