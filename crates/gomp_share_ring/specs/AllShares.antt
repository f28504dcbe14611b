-- One seat that stands for all members: what is kept beside it, and for which events it stands. (own)
use Rattle.std.specs.Prelude.{◌≡◌, ℕ, ◌+◌, ◌%◌, ◌<◌, ◌≤◌, List, length, slice_get, Option, Some, None, true, false}
use Rattle.gomp_types.specs.declared.shape.Shape.{Shape}
use Rattle.gomp_events.specs.declared.event.Event.{Event}
use Rattle.gomp_events.specs.declared.seen.Seen.{Seen}
use Rattle.gomp_types.specs.Pieces.{Piece, pieces_of}
use Rattle.gomp_types.specs.Values.{IsShape}
use Rattle.gomp_events.specs.Events.{open_share}
use Rattle.gomp_types.specs.Deals.{schedule}
use Rattle.gomp_events.specs.Takes.{taken_in}
use Rattle.gomp_types.specs.Limits.{shown_number}
use Rattle.gomp_types.specs.declared.limits.TheConstants.{OPEN_SHARES}
use Rattle.gomp_events.specs.Laws.{Always}
use Rattle.gomp_events.specs.Seen.{seen_of}
use Rattle.gomp_shares.specs.Calls.{was_taken}
use Rattle.gomp_shares.specs.Only.{shares_only}
use Rattle.gomp_shares.specs.Rules.{ShareRule}
use Rattle.gomp_slots.specs.declared.view.View.{View}
use Rattle.gomp_slots.specs.Rule.{stands_for}
use Rattle.gomp_slots.specs.Seats.{unseen}
use Rattle.gomp_share_ring.specs.declared.member_seat.MemberSeat.{MemberSeat}

-- the fields, as data: how many members the team has, what is kept of each, and what all of them did, the newest event first
pub record AllView : Type 0 where
  pub members : ℕ
  pub seats : List MemberSeat
  pub did : List Event

-- what a member sees that has just entered the share of this number, in this shape
abbrev pub seen_in_share : ℕ → Shape → Seen
seen_in_share number shape = record { entered = number + 1; current = Some (number, shape); drained = false; piece = None; next_part = 0; in_part = false; leaving = false }

-- what a member sees of its place
abbrev pub member_seen : Option MemberSeat → Seen
member_seen None = unseen
member_seen (Some seat) = seat.seen

-- which is kept at its number
abbrev pub all_seen : List MemberSeat → ℕ → Seen
all_seen seats m = member_seen (slice_get seats m)

-- it stands for each list of events whose events of the work-shares are these, and which kept the rule
pub record StandsForAll (members : ℕ) (seats : List MemberSeat) (did h : List Event) : Type 0 where
  pub same : shares_only h ≡ did
  pub rule : Always (ShareRule (schedule members) members) h
  -- each member sees what the events say, and is in a share only if a construct has its shape
  pub sees : (m : ℕ) → m < members → all_seen seats m ≡ seen_of m did
  pub valid : (m : ℕ) (share : ℕ × Shape) → open_share m did ≡ Some share → IsShape share.1

-- what is kept of a member says what it sees, how many pieces it took of the share that it is in, the number of its piece, and which pieces that share has
pub record SeatTells (members m : ℕ) (seat : MemberSeat) (did : List Event) : Type 0 where
  pub sees : seat.seen ≡ seen_of m did
  pub own_is : (share : ℕ × Shape) → seat.seen.current ≡ Some share → seat.own ≡ shown_number (taken_in (λ k. k) share.0 m did)
  pub number_is : (share : ℕ × Shape) (piece : Piece) → seat.seen.current ≡ Some share → seat.seen.piece ≡ Some piece → slice_get (pieces_of members share.1) seat.number ≡ Some piece
  pub plan_is : (share : ℕ × Shape) → seat.seen.current ≡ Some share → seat.cursor.plan ≡ record { members = members; shape = share.1 }

-- what holds of the seat's view, and of what is kept beside it
pub record IsAll (members : ℕ) (seats : List MemberSeat) (v : View) : Type 0 where
  pub size : length seats ≡ members
  pub some_member : 0 < members
  -- the seat is the only one, and stands for every member
  pub alone : v.alone ≡ true
  pub idle : v.opening ≡ None
  pub whose : (m : ℕ) → m < members → stands_for v m ≡ true
  pub rule : Always (ShareRule (schedule members) members) v.did
  pub clean : shares_only v.did ≡ v.did
  pub tells : (m : ℕ) (seat : MemberSeat) → slice_get seats m ≡ Some seat → SeatTells members m seat v.did
  pub valid : (m : ℕ) (share : ℕ × Shape) → open_share m v.did ≡ Some share → IsShape share.1

-- a place of each slot has the number of the last share there of which a piece was taken
pub record IsNoted (places : List (Option ℕ)) (did : List Event) : Type 0 where
  pub eight : length places ≡ OPEN_SHARES
  pub most : (i : ℕ) → was_taken i did ≡ true → (j : ℕ) × (slice_get places (i % OPEN_SHARES) ≡ Some (Some j)) × (i ≤ j)
  pub last : (slot j : ℕ) → slice_get places slot ≡ Some (Some j) → (j % OPEN_SHARES ≡ slot) × (was_taken j did ≡ true)
