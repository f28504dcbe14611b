use Rattle.std.proofs.Common.{◌≡◌, ◌≤◌, ℕ, List, [], replicate}
use Rattle.std.specs.Vec.{vec_capacity}
use Rattle.gomp_tasks.proofs.tasks.empty_stacks.Given as goal

abbrev pub invariant-loop : goal.invariant-loop
invariant-loop l = record {
  items : l.stacks.items ≡ replicate {A = List ℕ} l.counter [];
  room : l.fn.count ≤ vec_capacity l.stacks;
}
