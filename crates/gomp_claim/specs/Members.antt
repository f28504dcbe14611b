-- What a call of C does to the member behind the pointer. (own)
use Rattle.std.specs.Prelude.{◌≡◌, ℕ, Bool, true, false}
use Rattle.gomp_events.specs.declared.event.Event.TheVariants.{Enter, End}
use Rattle.gomp_events.specs.Events.{share_number}
use Rattle.gomp_ring.specs.RingSeats.{SeatView, SeatActs, SeatClaimsNext, SeatGoesThrough, may_claim, piece_in}
use Rattle.gomp_claim.specs.declared.member.ClaimMember.{ClaimMember}

-- the member stays on its ring, and keeps the shape of its loop
pub record IsSameMember (before now : ClaimMember) : Type 0 where
  pub ring : now.ring ≡ before.ring
  pub shape : now.shape ≡ before.shape

-- its seat claims a piece if it may; else there is none, and nothing changes
pub record TakesPiece (before now : ClaimMember) (first end : ℕ) : Type 0 where
  pub member : IsSameMember before now
  pub claims : SeatClaimsNext (may_claim before.seat.seen) before.seat (piece_in first end) now.seat

-- its seat enters its next share, or nothing changes
abbrev pub SeatEnters : Bool → ClaimMember → SeatView → Type 0
SeatEnters true before seat = SeatActs (Enter before.seat.seen.entered before.seat.member before.shape) before.seat seat
SeatEnters false before seat = seat ≡ before.seat

pub record EntersShare (before now : ClaimMember) (done : Bool) : Type 0 where
  pub member : IsSameMember before now
  pub enters : SeatEnters done before now.seat

-- its seat leaves its share, or nothing changes
abbrev pub SeatLeaves : Bool → ClaimMember → SeatView → Type 0
SeatLeaves true before seat = SeatActs (End (share_number before.seat.seen.current) before.seat.member) before.seat seat
SeatLeaves false before seat = seat ≡ before.seat

pub record LeavesShare (before now : ClaimMember) (done : Bool) : Type 0 where
  pub member : IsSameMember before now
  pub leaves : SeatLeaves done before now.seat

-- its seat goes through its next share, a bare single, and executes it or not, or nothing changes
abbrev pub SeatPassesOrStays : Bool → Bool → ClaimMember → SeatView → Type 0
SeatPassesOrStays true executes before seat = SeatGoesThrough executes before.seat seat
SeatPassesOrStays false executes before seat = (executes ≡ false) × (seat ≡ before.seat)

pub record PassesSingle (before now : ClaimMember) (done executes : Bool) : Type 0 where
  pub member : IsSameMember before now
  pub passes : SeatPassesOrStays done executes before now.seat
