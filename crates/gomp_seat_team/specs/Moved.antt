-- What a call is of: the member's seat before and after it, and the board that its lock guards before and after it. (own)
use Rattle.gomp_waits.specs.Waits.{WaitBoardView}
use Rattle.gomp_ring.specs.RingSeats.{SeatView}

pub record TeamMoved : Type 0 where
  pub before : SeatView
  pub now : SeatView
  pub view : WaitBoardView
  pub after : WaitBoardView

abbrev pub moved : (before now : SeatView) → (view after : WaitBoardView) → TeamMoved
moved before now view after = record { before = before; now = now; view = view; after = after }
