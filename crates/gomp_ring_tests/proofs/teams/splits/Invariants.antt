use Rattle.gomp_ring_tests.specs.Members.{MayAct}
use Rattle.gomp_ring_tests.proofs.teams.splits.Given as goal

abbrev pub invariant-loop-member : goal.invariant-loop-member
invariant-loop-member g l = MayAct l.ring l.first
