-- What a test knows of a seat: that its member may act.
use Rattle.std.specs.Prelude.{◌<◌}
use Rattle.gomp_ring.specs.declared.ring.Ring.{Ring}
use Rattle.gomp_ring.specs.RingSeats.{SeatView, IsOnRing}

-- a seat of this ring, of a member of its team
pub record MayAct (ring : Ring) (seat : SeatView) : Type 0 where
  pub on : IsOnRing ring seat
  pub within : seat.member < seat.members
