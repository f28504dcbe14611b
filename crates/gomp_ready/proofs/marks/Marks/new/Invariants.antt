use Rattle.std.proofs.Common.{◌≡◌, ◌≤◌}
use Rattle.std.specs.Prelude.{replicate}
use Rattle.std.specs.Vec.{vec_capacity}
use Rattle.gomp_ready.proofs.marks.Marks.new.Given as goal

abbrev pub invariant-loop : goal.invariant-loop
invariant-loop l = record {
  zero : l.members.items ≡ replicate l.counter (replicate 65 0);
  capacity : l.count ≤ vec_capacity l.members;
}
