use Rattle.std.proofs.Common.{◌≡◌, ◌≤◌, replicate}
use Rattle.std.specs.Vec.{vec_capacity}
use Rattle.gomp_dispatch.specs.declared.leaving.Leaving.{Leaving}
use Rattle.gomp_dispatch.specs.Leaves.{leaves_nothing}
use Rattle.gomp_core.proofs.team.none_leave.Given as goal

abbrev pub invariant-loop : goal.invariant-loop
invariant-loop l = record {
  items : l.leaving.items ≡ replicate {A = Leaving} l.counter leaves_nothing;
  room : l.fn.count ≤ vec_capacity l.leaving;
}
