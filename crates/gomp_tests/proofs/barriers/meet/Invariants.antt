use Rattle.std.proofs.Common.{◌≡◌}
use Rattle.gomp_barrier.specs.Stands.{barrier_members}
use Rattle.gomp_tests.proofs.barriers.meet.Given as goal

abbrev pub invariant-loop-member : goal.invariant-loop-member
invariant-loop-member g l = barrier_members l.barriers ≡ l.count

abbrev pub invariant-loop-member-2 : goal.invariant-loop-member-2
invariant-loop-member-2 g l = barrier_members l.barriers ≡ l.count
