use Rattle.std.proofs.Common.{◌≡◌}
use Rattle.gomp_board.proofs.DiscardSteps.{AreDiscarded}
use Rattle.gomp_board.proofs.cancels.discard_covered.Given as goal

-- the tasks before the place are discarded
abbrev pub invariant-loop-place : goal.invariant-loop-place
invariant-loop-place l = AreDiscarded l.before l.place l.member l.initial.scheduler l.scheduler l.initial.history.events l.history.events × (l.history.capacity ≡ l.initial.history.capacity)
