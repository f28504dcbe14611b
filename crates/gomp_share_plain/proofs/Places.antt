-- What lies at the place of a share: of the one that a member is in, and of its next.
use Rattle.std.proofs.Common.{◌≡◌, ◌≢◌, ℕ, ◌+◌, ◌%◌, ◌<◌, ◌≤◌, true, false, nat_lt, List, slice_get, Some, None, refl, ap, ◌∙◌, sym, arith}
use Rattle.std.specs.Prelude.{Option, not}
use Rattle.std.proofs.lemmas.Bool.Decides.{nat_tests}
use Rattle.gomp_types.specs.declared.limits.TheConstants.{OPEN_SHARES}
use Rattle.gomp_types.specs.declared.shape.Shape.{Shape}
use Rattle.gomp_events.specs.declared.event.Event.{Event}
use Rattle.gomp_types.specs.Shapes.{same_shape}
use Rattle.gomp_events.specs.Events.{shares_entered, open_share, shape_at, is_inside}
use Rattle.gomp_types.specs.Compare.{shape_differs}
use Rattle.gomp_types.specs.Values.{IsShape}
use Rattle.gomp_types.specs.Limits.{shown_number}
use Rattle.gomp_events.specs.declared.seen.Seen.{Seen}
use Rattle.gomp_types.proofs.Compared.{same_shape_is}
use Rattle.gomp_shares.specs.Calls.{taken_of, was_taken}
use Rattle.gomp_share_plain.specs.declared.seat.PlainSeat.{PlainSeat}
use Rattle.gomp_share_plain.specs.declared.open_share.OpenShare.{OpenShare}
use Rattle.gomp_share_plain.specs.Plain.{SeatStands, PlaceStands, StandsFor, ended_of}
use Rattle.gomp_share_plain.proofs.Seats.{seat_inside, ended_few}

-- eight numbers in a row lie at eight places
pub places_differ : (i n : ℕ) → i < n → n ≤ i + 7 → (i % OPEN_SHARES) ≢ (n % OPEN_SHARES)
places_differ i n low high same = absurd (omega arith)

pub places_apart : (i j n : ℕ) → i ≢ j → i < n → j < n → n ≤ i + OPEN_SHARES → n ≤ j + OPEN_SHARES → (i % OPEN_SHARES) ≢ (j % OPEN_SHARES)
places_apart i j n differ a b c d same = absurd (omega (arith, differ))

-- what was read there lies there
pub place_is : (place : Option (Option OpenShare)) (read share : Option OpenShare) → Some read ≡ place → read ≡ share → place ≡ Some share
place_is place read share there is = sym there ∙ ap Some is

-- a place that has a share is not empty
pub not_empty : (members i : ℕ) (place : Option (Option OpenShare)) (h : List Event) → PlaceStands members i place h → place ≡ Some None → ⊥
not_empty members i place h p e = let there = p.there in let both : Some (Some p.share) ≡ Some None = sym there ∙ e in cc

-- what lies at the place
pub here_is : (members i : ℕ) (place : Option (Option OpenShare)) (share : OpenShare) (h : List Event) (p : PlaceStands members i place h) → place ≡ Some (Some share) → p.share ≡ share
here_is members i place share h p e = let both : Some (Some p.share) ≡ Some (Some share) = sym p.there ∙ e in cc

pub here_valid : (members i : ℕ) (place : Option (Option OpenShare)) (share : OpenShare) (h : List Event) → PlaceStands members i place h → place ≡ Some (Some share) → IsShape share.shape
here_valid members i place share h p e = rw (← here_is members i place share h p e) p.valid

pub here_plan : (members i : ℕ) (place : Option (Option OpenShare)) (share : OpenShare) (h : List Event) → PlaceStands members i place h → place ≡ Some (Some share) → share.cursor.plan ≡ record { members = members; shape = share.shape }
here_plan members i place share h p e = rw (← here_is members i place share h p e) p.cursor_is

pub shape_here : (members i : ℕ) (place : Option (Option OpenShare)) (share : OpenShare) (h : List Event) → PlaceStands members i place h → place ≡ Some (Some share) → shape_at i h ≡ Some share.shape
shape_here members i place share h p e = p.shape ∙ ap (λ (v : OpenShare). Some v.shape) (here_is members i place share h p e)

-- The share that a member is in

-- the place of the share that the member is in
pub own_place : (members : ℕ) (seats : List PlainSeat) (count : ℕ) (places : List (Option OpenShare)) (h : List Event) (m : ℕ) (seat : PlainSeat) →
    StandsFor members seats count places h → slice_get seats m ≡ Some seat → is_inside m h ≡ true → PlaceStands members (ended_of seat) (slice_get places (ended_of seat % OPEN_SHARES)) h
own_place members seats count places h m seat st at within =
    let s : SeatStands members m seat count h = st.seat m seat at in
    let full = (seat_inside members m seat count h s within).full in
    st.place (ended_of seat) (let k = s.known in omega arith) (let k = s.near in omega arith)

-- the share that the member is in
pub own_share : (members : ℕ) (seats : List PlainSeat) (count : ℕ) (places : List (Option OpenShare)) (h : List Event) (m : ℕ) (seat : PlainSeat) (share : OpenShare) →
    StandsFor members seats count places h → slice_get seats m ≡ Some seat → is_inside m h ≡ true → slice_get places (ended_of seat % OPEN_SHARES) ≡ Some (Some share) → open_share m h ≡ Some (ended_of seat, share.shape)
own_share members seats count places h m seat share st at within found =
    let p = own_place members seats count places h m seat st at within in
    let own = seat_inside members m seat count h (st.seat m seat at) within in
    let one_shape : Some own.shape ≡ Some share.shape = sym own.there ∙ shape_here members (ended_of seat) (slice_get places (ended_of seat % OPEN_SHARES)) share h p found in
    let shape : own.shape ≡ share.shape = let e = one_shape in cc in
    own.is_open ∙ ap (λ (v : Shape). Some (ended_of seat, v)) shape

-- The next share of a member

-- the seat has its number
pub seat_entered : (members m : ℕ) (seat : PlainSeat) (opened : ℕ) (h : List Event) → SeatStands members m seat opened h → seat.seen.entered ≡ shares_entered m h
seat_entered members m seat opened h s = ap (λ (seen : Seen). seen.entered) s.seen

-- a member starts no share beyond the next
pub next_number_is_count : (members : ℕ) (seats : List PlainSeat) (count : ℕ) (places : List (Option OpenShare)) (h : List Event) (m : ℕ) (seat : PlainSeat) →
    StandsFor members seats count places h → slice_get seats m ≡ Some seat → count ≤ seat.seen.entered → seat.seen.entered ≡ count
next_number_is_count members seats count places h m seat st at past = let k = (st.seat m seat at).known in omega arith

-- the place of the member's next share, if another has opened it
pub next_place : (members : ℕ) (seats : List PlainSeat) (count : ℕ) (places : List (Option OpenShare)) (h : List Event) (m : ℕ) (seat : PlainSeat) →
    StandsFor members seats count places h → slice_get seats m ≡ Some seat → seat.seen.entered < count → PlaceStands members seat.seen.entered (slice_get places (seat.seen.entered % OPEN_SHARES)) h
next_place members seats count places h m seat st at before =
    let s : SeatStands members m seat count h = st.seat m seat at in
    st.place seat.seen.entered before (let r = s.near in let few = ended_few members m seat count h s in omega arith)

above_none : (n k : ℕ) → shown_number n ≡ k → nat_lt 0 k ≡ nat_lt 0 n
above_none n k e = grind (arith, nat_tests, e)

-- whether a piece of the member's next share was taken: the place tells it, if the share is open
pub next_taken : (members : ℕ) (seats : List PlainSeat) (count : ℕ) (places : List (Option OpenShare)) (h : List Event) (m : ℕ) (seat : PlainSeat) (share : OpenShare) →
    StandsFor members seats count places h → slice_get seats m ≡ Some seat → seat.seen.entered < count → slice_get places (seat.seen.entered % OPEN_SHARES) ≡ Some (Some share) →
    nat_lt 0 share.taken ≡ was_taken (shares_entered m h) h
next_taken members seats count places h m seat share st at before found =
    let s : SeatStands members m seat count h = st.seat m seat at in
    let p = next_place members seats count places h m seat st at before in
    let same = here_is members seat.seen.entered (slice_get places (seat.seen.entered % OPEN_SHARES)) share h p found in
    let taken : shown_number (taken_of seat.seen.entered h) ≡ share.taken = rw (← same) p.taken_is in
    rw (← seat_entered members m seat count h s) (above_none (taken_of seat.seen.entered h) share.taken taken)

-- of a share that nobody opened none was
pub next_new : (members : ℕ) (seats : List PlainSeat) (count : ℕ) (places : List (Option OpenShare)) (h : List Event) (m : ℕ) (seat : PlainSeat) →
    StandsFor members seats count places h → slice_get seats m ≡ Some seat → count ≤ seat.seen.entered → was_taken (shares_entered m h) h ≡ false
next_new members seats count places h m seat st at past =
    let s : SeatStands members m seat count h = st.seat m seat at in
    let none : taken_of seat.seen.entered h ≡ 0 = (st.beyond seat.seen.entered past).1 (λ k. 0) 0 in
    rw (← seat_entered members m seat count h s, none) refl

-- whether the member's next share is of another shape: its place tells it
pub next_differs : (members : ℕ) (seats : List PlainSeat) (count : ℕ) (places : List (Option OpenShare)) (h : List Event) (m : ℕ) (seat : PlainSeat) (share : OpenShare) (shape : Shape) →
    StandsFor members seats count places h → slice_get seats m ≡ Some seat → seat.seen.entered < count → slice_get places (seat.seen.entered % OPEN_SHARES) ≡ Some (Some share) →
    not (same_shape share.shape shape) ≡ shape_differs shape (shape_at (shares_entered m h) h)
next_differs members seats count places h m seat share shape st at before found =
    let s : SeatStands members m seat count h = st.seat m seat at in
    let p = next_place members seats count places h m seat st at before in
    let same = here_is members seat.seen.entered (slice_get places (seat.seen.entered % OPEN_SHARES)) share h p found in
    let there : shape_at seat.seen.entered h ≡ Some share.shape = rw (← same) p.shape in
    rw (← seat_entered members m seat count h s, there) refl

-- if it is not, it is of the shape that the member comes with
pub next_same : (members : ℕ) (seats : List PlainSeat) (count : ℕ) (places : List (Option OpenShare)) (h : List Event) (m : ℕ) (seat : PlainSeat) (share : OpenShare) (shape : Shape) →
    StandsFor members seats count places h → slice_get seats m ≡ Some seat → seat.seen.entered < count → slice_get places (seat.seen.entered % OPEN_SHARES) ≡ Some (Some share) →
    same_shape share.shape shape ≡ true → shape_at seat.seen.entered h ≡ Some shape
next_same members seats count places h m seat share shape st at before found same =
    shape_here members seat.seen.entered (slice_get places (seat.seen.entered % OPEN_SHARES)) share h (next_place members seats count places h m seat st at before) found ∙ ap Some (same_shape_is share.shape shape same)

-- and one that nobody opened differs from none
pub new_differs : (members : ℕ) (seats : List PlainSeat) (count : ℕ) (places : List (Option OpenShare)) (h : List Event) (m : ℕ) (seat : PlainSeat) (shape : Shape) →
    StandsFor members seats count places h → slice_get seats m ≡ Some seat → count ≤ seat.seen.entered → shape_differs shape (shape_at (shares_entered m h) h) ≡ false
new_differs members seats count places h m seat shape st at past =
    let s : SeatStands members m seat count h = st.seat m seat at in
    rw (← seat_entered members m seat count h s, (st.beyond seat.seen.entered past).0) refl
