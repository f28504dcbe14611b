use Rattle.std.proofs.Common.{◌≡◌, ◌≤◌, replicate}
use Rattle.std.specs.Vec.{vec_capacity}
use Rattle.gomp_model.specs.Past.{Waits, no_waits}
use Rattle.gomp_core.proofs.team.none_wait.Given as goal

abbrev pub invariant-loop : goal.invariant-loop
invariant-loop l = record {
  items : l.waits.items ≡ replicate {A = Waits} l.counter no_waits;
  room : l.fn.count ≤ vec_capacity l.waits;
}
