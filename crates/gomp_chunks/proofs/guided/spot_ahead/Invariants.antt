use Rattle.std.proofs.Common.{◌≤◌, ◌-◌}
use Rattle.gomp_chunks.specs.Spots.{IsSpot}
use Rattle.gomp_chunks.proofs.guided.spot_ahead.Given as goal

abbrev pub invariant-loop-spot : goal.invariant-loop-spot
invariant-loop-spot l = IsSpot l.members l.shape l.spot × (l.spot.number ≤ l.j)

abbrev pub decreases-loop-spot : goal.decreases-loop-spot
decreases-loop-spot l = l.j - l.spot.number
