use Rattle.std.proofs.Common.{◌≡◌}
use Rattle.gomp_barrier.specs.Stands.{barrier_members}
use Rattle.gomp_tests.proofs.barriers.walk.Given as goal

abbrev pub invariant-loop-number : goal.invariant-loop-number
invariant-loop-number g l = barrier_members l.barriers ≡ 2
