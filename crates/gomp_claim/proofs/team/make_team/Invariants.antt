use Rattle.std.proofs.Common.{◌<◌}
use Rattle.std.specs.Arc.{arc_value}
use Rattle.gomp_ring.specs.RingSeats.{IsOnRing}
use Rattle.gomp_claim.proofs.team.make_team.Given as goal

-- member 0's seat is on the ring
abbrev pub invariant-loop-place : goal.invariant-loop-place
invariant-loop-place l = IsOnRing (arc_value l.ring) l.first × (l.first.member < l.first.members)
