use Rattle.std.proofs.Common.{◌≡◌, length, reverse}
use Rattle.gomp_events.specs.Cancels.{is_cancelled}
use Rattle.gomp_team_region.proofs.Scans.{cancels_in}
use Rattle.gomp_team_region.proofs.history.is_cancelled.Given as goal

abbrev pub invariant-loop-rest : goal.invariant-loop-rest
invariant-loop-rest l = cancels_in l.rest ≡ is_cancelled (reverse l.history)

abbrev pub decreases-loop-rest : goal.decreases-loop-rest
decreases-loop-rest l = length l.rest
