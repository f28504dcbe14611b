-- What the plain shares keep of the events: the representation, and when it stands for a list of events. (own)
use Rattle.std.specs.Prelude.{ℕ, ◌+◌, ◌%◌, ◌^◌, ◌<◌, ◌≤◌, ◌≡◌, nat_lt, List, Option, Some, None, length, slice_get, false}
use Rattle.gomp_types.specs.declared.shape.Shape.{Shape}
use Rattle.gomp_events.specs.declared.event.Event.{Event}
use Rattle.gomp_types.specs.Values.{IsShape}
use Rattle.gomp_types.specs.Pieces.{Piece, pieces_of}
use Rattle.gomp_events.specs.Events.{has_ended, turn, shape_at}
use Rattle.gomp_events.specs.Cancels.{share_cancelled}
use Rattle.gomp_events.specs.Seen.{seen_of}
use Rattle.gomp_types.specs.Limits.{shown_number}
use Rattle.gomp_types.specs.declared.limits.TheConstants.{OPEN_SHARES}
use Rattle.gomp_types.specs.Deals.{schedule}
use Rattle.gomp_events.specs.Takes.{taken_in}
use Rattle.gomp_events.specs.Laws.{Always}
use Rattle.gomp_shares.specs.Rules.{ShareRule}
use Rattle.gomp_events.specs.declared.seen.Seen.{Seen}
use Rattle.gomp_shares.specs.Calls.{taken_of}
use Rattle.gomp_share_plain.specs.declared.seat.PlainSeat.{PlainSeat}
use Rattle.gomp_share_plain.specs.declared.open_share.OpenShare.{OpenShare}

-- the fields, as data
pub record PlainView : Type 0 where
  pub seats : List PlainSeat
  pub opened : ℕ
  pub places : List (Option OpenShare)

-- the seat of a member that has entered no share
abbrev pub new_seat : PlainSeat
new_seat = record {
  seen = record { entered = 0; current = None; drained = false; piece = None; next_part = 0; in_part = false; leaving = false };
  taken = 0;
  number = 0;
}

-- the seat of a member that has just entered the share of this number, in this shape
abbrev pub seat_in_share : ℕ → Shape → PlainSeat
seat_in_share number shape = record {
  seen = record { entered = number + 1; current = Some (number, shape); drained = false; piece = None; next_part = 0; in_part = false; leaving = false };
  taken = 0;
  number = 0;
}

-- the number of the share that a member is in, or of its next one if it is in none
abbrev pub number_or : ℕ → Option (ℕ × Shape) → ℕ
number_or next None = next
number_or next (Some share) = share.0

-- how many shares a member has left: those that it entered, but the one that it is in
abbrev pub ended_of : PlainSeat → ℕ
ended_of seat = number_or seat.seen.entered seat.seen.current

-- how many pieces of a share were taken by one member
abbrev pub taken_by : ℕ → ℕ → List Event → ℕ
taken_by share m h = taken_in (λ k. k) share m h

-- a member's seat says what the member sees and which shares it left, and it is near the newest share
pub record SeatStands (members m : ℕ) (seat : PlainSeat) (opened : ℕ) (h : List Event) : Type 0 where
  pub seen : seat.seen ≡ seen_of m h
  pub ended : (i : ℕ) → has_ended i m h ≡ nat_lt i (ended_of seat)
  -- the share that it is in is the one that it entered last, and has this shape
  pub inside : (share : ℕ × Shape) → seat.seen.current ≡ Some share → (seat.seen.entered ≡ share.0 + 1) × (shape_at share.0 h ≡ Some share.1)
  -- outside a share it is in no part
  pub apart : seat.seen.current ≡ None → seat.seen.in_part ≡ false
  -- its piece has this number among the pieces of the share that it is in
  pub number : (share : ℕ × Shape) (piece : Piece) → seat.seen.current ≡ Some share → seat.seen.piece ≡ Some piece → slice_get (pieces_of members share.1) seat.number ≡ Some piece
  -- how many pieces it took of the share that it is in, and none of those that it has not entered
  pub taken : (share : ℕ × Shape) → seat.seen.current ≡ Some share → shown_number (taken_by share.0 m h) ≡ seat.taken
  pub fresh : (i : ℕ) → seat.seen.entered ≤ i → taken_by i m h ≡ 0
  pub known : seat.seen.entered ≤ opened
  pub near : opened ≤ ended_of seat + OPEN_SHARES

-- the place of a share has its shape, a cursor in its pieces, how many of them were taken and handed on, and whether it was cancelled
pub record PlaceStands (members i : ℕ) (place : Option (Option OpenShare)) (h : List Event) : Type 0 where
  pub share : OpenShare
  pub there : place ≡ Some (Some share)
  pub shape : shape_at i h ≡ Some share.shape
  pub taken_is : shown_number (taken_of i h) ≡ share.taken
  pub turn_is : turn i h ≡ share.turn
  pub cancelled_is : share_cancelled i h ≡ share.cancelled
  pub cursor_is : share.cursor.plan ≡ record { members = members; shape = share.shape }
  pub valid : IsShape share.shape

-- nobody entered the share, took a piece of it, handed one on or cancelled it
abbrev pub Untouched : ℕ → List Event → Type 0
Untouched i h = (shape_at i h ≡ None) × ((queue_of : ℕ → ℕ) (q : ℕ) → taken_in queue_of i q h ≡ 0) × (turn i h ≡ 0) × (share_cancelled i h ≡ false)

-- the seats and places stand for these events, which kept the rule
pub record StandsFor (members : ℕ) (seats : List PlainSeat) (opened : ℕ) (places : List (Option OpenShare)) (h : List Event) : Type 0 where
  pub size : length seats ≡ members
  pub team : members < 2 ^ 16
  pub eight : length places ≡ OPEN_SHARES
  pub seat : (m : ℕ) (seat : PlainSeat) → slice_get seats m ≡ Some seat → SeatStands members m seat opened h
  pub place : (i : ℕ) → i < opened → opened ≤ i + OPEN_SHARES → PlaceStands members i (slice_get places (i % OPEN_SHARES)) h
  pub beyond : (i : ℕ) → opened ≤ i → Untouched i h
  pub rule : Always (ShareRule (schedule members) members) h

-- what a member sees of its place
abbrev pub seat_seen : Option PlainSeat → Seen
seat_seen None = new_seat.seen
seat_seen (Some seat) = seat.seen

abbrev pub plain_seen : List PlainSeat → ℕ → Seen
plain_seen seats m = seat_seen (slice_get seats m)
