-- If later events say of a seat, or of a place, what those before them said, it stands as before. (own)
use Rattle.std.specs.Prelude.{ℕ, ◌+◌, ◌≤◌, ◌≡◌, List, Option, Some, refl}
use Rattle.std.proofs.Common.{sym, ap, ◌∙◌, arith}
use Rattle.gomp_types.specs.declared.shape.Shape.{Shape}
use Rattle.gomp_events.specs.declared.event.Event.{Event}
use Rattle.gomp_events.specs.Events.{has_ended, turn, shape_at}
use Rattle.gomp_types.specs.Limits.{shown_number}
use Rattle.gomp_types.specs.declared.limits.TheConstants.{OPEN_SHARES}
use Rattle.gomp_events.specs.Takes.{taken_in}
use Rattle.gomp_events.specs.Cancels.{share_cancelled}
use Rattle.gomp_events.specs.Seen.{seen_of}
use Rattle.gomp_shares.specs.Calls.{taken_of}
use Rattle.gomp_share_plain.specs.Plain.{SeatStands, PlaceStands, Untouched, taken_by, number_or, ended_of}
use Rattle.gomp_share_plain.specs.declared.seat.PlainSeat.{PlainSeat}
use Rattle.gomp_share_plain.specs.declared.open_share.OpenShare.{OpenShare}

-- Seats

-- the number of the share that a seat shows is that of the shares that its member left
pub ended_is : (seat : PlainSeat) (share : ℕ × Shape) → seat.seen.current ≡ Some share → ended_of seat ≡ share.0
ended_is seat share is = ap (number_or seat.seen.entered) is

-- the later events say the same of where a member is, of what it left and took, and of the shape of each share that is open
pub record SameSeat (m : ℕ) (after before : List Event) : Type 0 where
  pub seen : seen_of m after ≡ seen_of m before
  pub left : (i : ℕ) → has_ended i m after ≡ has_ended i m before
  pub taken : (i : ℕ) → taken_by i m after ≡ taken_by i m before
  pub shape : (i : ℕ) (shape : Shape) → shape_at i before ≡ Some shape → shape_at i after ≡ Some shape

-- then its seat stands as before, also if more shares were opened, but not too many for it
pub seat_near : (members m : ℕ) (seat : PlainSeat) (opened more : ℕ) (after before : List Event) → SameSeat m after before → SeatStands members m seat opened before → opened ≤ more → more ≤ ended_of seat + OPEN_SHARES → SeatStands members m seat more after
seat_near members m seat opened more after before same s le near = record {
  seen = s.seen ∙ sym same.seen;
  ended = λ i. same.left i ∙ s.ended i;
  inside = λ share is. let o = s.inside share is in (o.0, same.shape share.0 share.1 o.1);
  apart = s.apart;
  number = s.number;
  taken = λ share is. ap shown_number (same.taken share.0) ∙ s.taken share is;
  fresh = λ i le. same.taken i ∙ s.fresh i le;
  known = let k = s.known in omega arith;
  near = near;
}

pub seat_same : (members m : ℕ) (seat : PlainSeat) (opened : ℕ) (after before : List Event) → SameSeat m after before → SeatStands members m seat opened before → SeatStands members m seat opened after
seat_same members m seat opened after before same s = seat_near members m seat opened opened after before same s (omega arith) s.near

-- Places

-- the later events say the same of the shape of each share, of what was taken from it and handed on, and of whether it was cancelled
pub record SamePlaces (after before : List Event) : Type 0 where
  pub shape : (i : ℕ) → shape_at i after ≡ shape_at i before
  pub taken : (queue_of : ℕ → ℕ) (i q : ℕ) → taken_in queue_of i q after ≡ taken_in queue_of i q before
  pub turn : (i : ℕ) → turn i after ≡ turn i before
  pub cancelled : (i : ℕ) → share_cancelled i after ≡ share_cancelled i before

-- then a place stands as before; so does one that has the same after a write elsewhere
pub place_same : (members i : ℕ) (place now : Option (Option OpenShare)) (after before : List Event) → PlaceStands members i place before → now ≡ place → shape_at i after ≡ shape_at i before → taken_of i after ≡ taken_of i before → turn i after ≡ turn i before → share_cancelled i after ≡ share_cancelled i before →
    PlaceStands members i now after
place_same members i place now after before p here shape taken handed cancelled = record {
  share = p.share;
  there = here ∙ p.there;
  shape = shape ∙ p.shape;
  taken_is = ap shown_number taken ∙ p.taken_is;
  turn_is = handed ∙ p.turn_is;
  cancelled_is = cancelled ∙ p.cancelled_is;
  cursor_is = p.cursor_is;
  valid = p.valid;
}

pub same_place_kept : (members i : ℕ) (place : Option (Option OpenShare)) (after before : List Event) → SamePlaces after before → PlaceStands members i place before → PlaceStands members i place after
same_place_kept members i place after before same p = place_same members i place place after before p refl (same.shape i) (same.taken (λ k. 0) i 0) (same.turn i) (same.cancelled i)

-- and a share is untouched if it was
pub beyond_kept : (i : ℕ) (after before : List Event) → SamePlaces after before → Untouched i before → Untouched i after
beyond_kept i after before same none = (same.shape i ∙ none.0, λ queue_of q. same.taken queue_of i q ∙ none.1 queue_of q, same.turn i ∙ none.2, same.cancelled i ∙ none.3)
