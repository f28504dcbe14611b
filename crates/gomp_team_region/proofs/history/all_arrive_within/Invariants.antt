use Rattle.std.proofs.Common.{◌≡◌, length}
use Rattle.gomp_team_region.specs.Settled.{all_arrive_within}
use Rattle.gomp_team_region.proofs.history.all_arrive_within.Given as goal

abbrev pub invariant-loop-rest : goal.invariant-loop-rest
invariant-loop-rest l = all_arrive_within l.shares l.rest ≡ all_arrive_within l.shares l.history

abbrev pub decreases-loop-rest : goal.decreases-loop-rest
decreases-loop-rest l = length l.rest
