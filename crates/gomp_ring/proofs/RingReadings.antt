-- What each event or element changes of the pieces and iterations that members took and of what a seat sees, for any member, share, piece, plan and list; no other changes it.
use Rattle.std.proofs.Common.{◌≡◌, ◌≢◌, ℕ, zero, suc, ◌+◌, ◌*◌, ◌<◌, ◌≤◌, Bool, true, false, List, [], ◌∷◌, ◌++◌, slice_get, Option, Some, None, inl, inr, refl, ap, sym, ◌∙◌, arith, append_assoc}
use Rattle.std.specs.Prelude.{◌==◌, ◌&&◌, nat_lt, is_some, not}
use Rattle.std.proofs.lemmas.Bool.{cases_Bool, lt-ltb}
use Rattle.std.proofs.lemmas.Bool.Decides.{nat_tests}
use Rattle.gomp_types.specs.declared.shape.Shape.{Shape}
use Rattle.gomp_events.specs.declared.event.Event.{Event}
use Rattle.gomp_events.specs.declared.event.Event.TheVariants.{Take}
use Rattle.gomp_events.specs.declared.seen.Seen.{Seen}
use Rattle.gomp_types.specs.Pieces.{Piece, pieces_of}
use Rattle.gomp_types.specs.Shapes.{is_loop, is_static}
use Rattle.gomp_events.specs.Events.{open_share, in_kind}
use Rattle.gomp_types.proofs.Booleans.{and_left, and_right, and_false, is_equal, same_number, other_number}
use Rattle.gomp_chunks.specs.Plans.{PlanView}
use Rattle.gomp_shares.specs.Calls.{most_shares}
use Rattle.gomp_slots.specs.Words.{gate_at}
use Rattle.gomp_ring.specs.Gathers.{pieces_taken, pieces_of_all, iterations_of, loop_iterations, same_piece, times_in, IsRearrangement}
use Rattle.gomp_ring.specs.RingSeats.{SeatView, asked_piece, seen_by, shares_left, AreWhole, asks_by_ticket, IsChunkOf, IsGateOf, may_claim, may_enter, piece_in, static_in, pieces_of_seats}
use Rattle.gomp_ring.proofs.Rearranged.{times_in-append}

-- Pieces that a member took

-- at first it took none
pub nothing_taken_at_first : (i m : ℕ) → pieces_taken i m [] ≡ []
nothing_taken_at_first i m = refl

-- a take of the share stands behind those before
pub take_stands_last : (i m low high : ℕ) (h : List Event) → pieces_taken i m (Take i m low high ∷ h) ≡ pieces_taken i m h ++ (low, high) ∷ []
take_stands_last i m low high h = rw (same_number i, same_number m) refl

-- and no event but a take of this member and of this share adds a piece
pub no_piece_by_another_event : (i m : ℕ) (event : Event) (h : List Event) → ((low high : ℕ) → event ≢ Take i m low high) → pieces_taken i m (event ∷ h) ≡ pieces_taken i m h
no_piece_by_another_event i m (Take j n low high) h other = elim (cases_Bool (j == i && n == m)) [
  | inl both ↦ absurd (other low high (let share = is_equal j i (and_left (j == i) (n == m) both) in let who = is_equal n m (and_right (j == i) (n == m) both) in rw (share, who) refl))
  | inr apart ↦ rw apart refl
]
no_piece_by_another_event i m _ h other = refl

-- Those of all members

-- no members have none, and one member more has its own behind those of the others
pub no_members_have_no_pieces : (i : ℕ) (h : List Event) → pieces_of_all 0 i h ≡ []
no_members_have_no_pieces i h = refl

pub member_more_has_its_pieces : (i m : ℕ) (h : List Event) → pieces_of_all (suc m) i h ≡ pieces_of_all m i h ++ pieces_taken i m h
member_more_has_its_pieces i m h = refl

-- no event but a take of this share by one of them adds a piece
pub no_piece_of_all_by_another_event : (members i : ℕ) (event : Event) (h : List Event) → ((m low high : ℕ) → m < members → event ≢ Take i m low high) → pieces_of_all members i (event ∷ h) ≡ pieces_of_all members i h
no_piece_of_all_by_another_event zero i event h other = refl
no_piece_of_all_by_another_event (suc m) i event h other =
    rw (no_piece_of_all_by_another_event m i event h (λ k low high lt. other k low high (omega arith)), no_piece_by_another_event i m event h (λ low high. other m low high (omega arith))) refl

-- so none by a take of a member that is not among them
pub no_piece_of_all_by_a_stranger : (members i m low high : ℕ) (h : List Event) → members ≤ m → pieces_of_all members i (Take i m low high ∷ h) ≡ pieces_of_all members i h
no_piece_of_all_by_a_stranger members i m low high h past = no_piece_of_all_by_another_event members i (Take i m low high) h (λ k from to lt is. apart k from to lt is)
  where
    apart : (k from to : ℕ) → k < members → Take i m low high ≡ Take i k from to → ⊥
    apart k from to lt is = let same : m ≡ k = cc in omega arith

-- and a take of one of them adds its piece, once
pub take_of_one_is_of_all : (members i m low high : ℕ) (piece : Piece) (h : List Event) → m < members → times_in piece (pieces_of_all members i (Take i m low high ∷ h)) ≡ times_in piece ((low, high) ∷ []) + times_in piece (pieces_of_all members i h)
take_of_one_is_of_all zero i m low high piece h lt = absurd (omega arith)
take_of_one_is_of_all (suc n) i m low high piece h lt = elim (cases_Bool (m == n)) [
  | inl e ↦
      let same = is_equal m n e in
      let before = no_piece_of_all_by_a_stranger n i n low high h (omega arith) in
      rw (same, before, take_stands_last i n low high h)
      (omega (arith, times_in-append piece (pieces_of_all n i h) (pieces_taken i n h ++ (low, high) ∷ []), times_in-append piece (pieces_taken i n h) ((low, high) ∷ []), times_in-append piece (pieces_of_all n i h) (pieces_taken i n h)))
  | inr e ↦
      let others = take_of_one_is_of_all n i m low high piece h (less m n e lt) in
      rw (same_number i, e)
      (omega (arith, others, times_in-append piece (pieces_of_all n i (Take i m low high ∷ h)) (pieces_taken i n h), times_in-append piece (pieces_of_all n i h) (pieces_taken i n h)))
]
  where
    less : (a b : ℕ) → (a == b) ≡ false → a < suc b → a < b
    less a b e lt = grind (arith, nat_tests)

-- Iterations

-- no pieces have none, and a piece more has its own
pub no_pieces_have_no_iterations : iterations_of [] ≡ 0
no_pieces_have_no_iterations = refl

pub piece_has_its_iterations : (low count : ℕ) (rest : List Piece) → iterations_of ((low, low + count) ∷ rest) ≡ count + iterations_of rest
piece_has_its_iterations low count rest = omega arith

-- at first a member took none of a loop
pub no_loop_iteration_at_first : (m : ℕ) → loop_iterations m [] ≡ 0
no_loop_iteration_at_first m = refl

-- a take in a loop adds its iterations
pub take_in_a_loop_counts : (i j m low count : ℕ) (shape : Shape) (h : List Event) → open_share m h ≡ Some (j, shape) → is_loop shape.kind ≡ true → loop_iterations m (Take i m low (low + count) ∷ h) ≡ loop_iterations m h + count
take_in_a_loop_counts i j m low count shape h inside loop =
    let kind : in_kind is_loop (open_share m h) ≡ true = ap (in_kind is_loop) inside ∙ loop in
    rw (same_number m, kind) (omega arith)

-- one in a share that is none adds nothing, and one in no share neither
pub take_in_no_loop_counts_nothing : (i j m low high : ℕ) (shape : Shape) (h : List Event) → open_share m h ≡ Some (j, shape) → is_loop shape.kind ≡ false → loop_iterations m (Take i m low high ∷ h) ≡ loop_iterations m h
take_in_no_loop_counts_nothing i j m low high shape h inside none = let kind : in_kind is_loop (open_share m h) ≡ false = ap (in_kind is_loop) inside ∙ none in rw (same_number m, kind) refl

pub take_in_no_share_counts_nothing : (i m low high : ℕ) (h : List Event) → open_share m h ≡ None → loop_iterations m (Take i m low high ∷ h) ≡ loop_iterations m h
take_in_no_share_counts_nothing i m low high h outside = let kind : in_kind is_loop (open_share m h) ≡ false = ap (in_kind is_loop) outside in rw (same_number m, kind) refl

-- nor does one of another member, or another event
pub take_of_another_counts_nothing : (i m n low high : ℕ) (h : List Event) → n ≢ m → loop_iterations m (Take i n low high ∷ h) ≡ loop_iterations m h
take_of_another_counts_nothing i m n low high h differ = rw (other_number n m differ) refl

pub no_loop_iteration_by_another_event : (m : ℕ) (event : Event) (h : List Event) → ((i n low high : ℕ) → event ≢ Take i n low high) → loop_iterations m (event ∷ h) ≡ loop_iterations m h
no_loop_iteration_by_another_event m (Take i n low high) h other = absurd (other i n low high refl)
no_loop_iteration_by_another_event m _ h other = refl

-- How often a piece stands in a list

-- a piece is one with itself, and with no other
pub piece_is_itself : (piece : Piece) → same_piece piece piece ≡ true
piece_is_itself piece = rw (same_number piece.0, same_number piece.1) refl

pub same_piece_is_that_piece : (low high from to : ℕ) → same_piece (low, high) (from, to) ≡ true → (low ≡ from) × (high ≡ to)
same_piece_is_that_piece low high from to same = (is_equal low from (and_left (low == from) (high == to) same), is_equal high to (and_right (low == from) (high == to) same))

-- so it counts for itself, and no other does
pub no_piece_stands_in_nothing : (piece : Piece) → times_in piece [] ≡ 0
no_piece_stands_in_nothing piece = refl

pub piece_counts_for_itself : (piece : Piece) (rest : List Piece) → times_in piece (piece ∷ rest) ≡ times_in piece rest + 1
piece_counts_for_itself piece rest = rw (piece_is_itself piece) refl

pub no_other_piece_counts : (low high from to : ℕ) (rest : List Piece) → (low ≡ from → high ≡ to → ⊥) → times_in (from, to) ((low, high) ∷ rest) ≡ times_in (from, to) rest
no_other_piece_counts low high from to rest differ = elim (cases_Bool (same_piece (low, high) (from, to))) [
  | inl same ↦ let is = same_piece_is_that_piece low high from to same in absurd (differ is.0 is.1)
  | inr other ↦ rw other refl
]

-- a list is a rearrangement of itself, and of its two parts the other way round
pub list_is_its_rearrangement : (some : List Piece) → IsRearrangement some some
list_is_its_rearrangement some = λ piece. refl

pub parts_are_rearranged : (one other : List Piece) → IsRearrangement (one ++ other) (other ++ one)
parts_are_rearranged one other = λ piece. let there = times_in-append piece one other in let back = times_in-append piece other one in omega arith

-- but not of one that has a piece more, a piece less, or another one in its place
pub no_rearrangement_with_a_piece_more : (piece : Piece) (some : List Piece) → IsRearrangement (piece ∷ some) some → ⊥
no_rearrangement_with_a_piece_more piece some is = let same = is piece in let own = piece_counts_for_itself piece some in omega arith

pub no_rearrangement_with_a_piece_less : (piece : Piece) (some : List Piece) → IsRearrangement some (piece ∷ some) → ⊥
no_rearrangement_with_a_piece_less piece some is = let same = is piece in let own = piece_counts_for_itself piece some in omega arith

pub no_rearrangement_with_another_piece : (low high from to : ℕ) (some : List Piece) → (low ≡ from → high ≡ to → ⊥) → IsRearrangement ((low, high) ∷ some) ((from, to) ∷ some) → ⊥
no_rearrangement_with_another_piece low high from to some differ is = let same = is (from, to) in let own = piece_counts_for_itself (from, to) some in let other = no_other_piece_counts low high from to some differ in omega arith

-- Seats

-- no seats took no pieces, and one more has those that its member took, before those of the others
pub no_seats_took_no_pieces : (i : ℕ) → pieces_of_seats i [] ≡ []
no_seats_took_no_pieces i = refl

pub seat_has_its_pieces : (i : ℕ) (seat : SeatView) (seats : List SeatView) → pieces_of_seats i (seat ∷ seats) ≡ pieces_taken i seat.member seat.did ++ pieces_of_seats i seats
seat_has_its_pieces i seat seats = refl

pub seats_have_the_pieces_of_both : (i : ℕ) (one other : List SeatView) → pieces_of_seats i (one ++ other) ≡ pieces_of_seats i one ++ pieces_of_seats i other
seats_have_the_pieces_of_both i [] other = refl
seats_have_the_pieces_of_both i (seat ∷ one) other =
    ap (λ (l : List Piece). pieces_taken i seat.member seat.did ++ l) (seats_have_the_pieces_of_both i one other)
    ∙ sym (append_assoc (pieces_taken i seat.member seat.did) (pieces_of_seats i one) (pieces_of_seats i other))

-- before a piece was asked for there is none, and then it is the one of its number, if the share has one
pub no_piece_before_one_is_asked_for : (plan : PlanView) → asked_piece plan 0 ≡ None
no_piece_before_one_is_asked_for plan = refl

pub asked_piece_is_that_of_its_number : (members number : ℕ) (shape : Shape) → asked_piece (record { members = members; shape = shape }) (number + 1) ≡ slice_get (pieces_of members shape) number
asked_piece_is_that_of_its_number members number shape = let one : number + 1 ≡ suc number = omega arith in rw one refl

-- what a seat sees is what it keeps: how many shares were entered, the share, the answer that nothing is left, and the piece
pub seat_sees_what_it_keeps : (entered asked next_part : ℕ) (current : Option (ℕ × Shape)) (drained in_part leaving : Bool) (plan : PlanView) →
    ((seen_by entered current drained plan asked next_part in_part leaving).entered ≡ entered) × ((seen_by entered current drained plan asked next_part in_part leaving).current ≡ current) × ((seen_by entered current drained plan asked next_part in_part leaving).drained ≡ drained)
    × ((seen_by entered current drained plan asked next_part in_part leaving).piece ≡ asked_piece plan asked)
seat_sees_what_it_keeps entered asked next_part current drained in_part leaving plan = (refl, refl, refl, refl)

-- and its ordered part, and whether it leaves
pub seat_sees_its_part : (entered asked next_part : ℕ) (current : Option (ℕ × Shape)) (drained in_part leaving : Bool) (plan : PlanView) →
    ((seen_by entered current drained plan asked next_part in_part leaving).next_part ≡ next_part) × ((seen_by entered current drained plan asked next_part in_part leaving).in_part ≡ in_part) × ((seen_by entered current drained plan asked next_part in_part leaving).leaving ≡ leaving)
seat_sees_its_part entered asked next_part current drained in_part leaving plan = (refl, refl, refl)

-- two numbers are a piece if the first is less, and else none
pub two_numbers_are_a_piece : (first end : ℕ) → first < end → piece_in first end ≡ Some (first, end)
two_numbers_are_a_piece first end lt = let less : nat_lt first end ≡ true = grind (arith, nat_tests) in rw less refl

pub two_numbers_are_no_piece : (first end : ℕ) → end ≤ first → piece_in first end ≡ None
two_numbers_are_no_piece first end le = let past : nat_lt first end ≡ false = grind (arith, nat_tests) in rw past refl

-- a whole piece is that of its number times the chunk, and ends by the last iteration
pub whole_piece_is_a_chunk : (members whole number : ℕ) (shape : Shape) → AreWhole (record { members = members; shape = shape }) whole → number < whole → slice_get (pieces_of members shape) number ≡ Some (number * shape.chunk, number * shape.chunk + shape.chunk)
whole_piece_is_a_chunk members whole number shape are lt = (are number lt).0

pub whole_piece_ends_by_the_last_iteration : (members whole number : ℕ) (shape : Shape) → AreWhole (record { members = members; shape = shape }) whole → number < whole → shape.trips < number * shape.chunk + shape.chunk → ⊥
whole_piece_ends_by_the_last_iteration members whole number shape are lt past = let within = (are number lt).1 in omega arith

-- the gate of a member's share is that of its number
pub gate_of_a_share_has_its_place : (i gate : ℕ) (shape : Shape) → IsGateOf (Some (i, shape)) gate → gate ≡ gate_at i
gate_of_a_share_has_its_place i gate shape is = is (i, shape) refl

-- and the chunk is that of its shape
pub chunk_of_a_share_is_its_own : (i chunk : ℕ) (shape : Shape) → IsChunkOf (Some (i, shape)) chunk → chunk ≡ shape.chunk
chunk_of_a_share_is_its_own i chunk shape is = is (i, shape) refl

-- a member may claim by ticket in a share that is not static, while it was not answered that nothing is left, and out of an ordered part
pub member_in_a_share_may_ask : (i : ℕ) (shape : Shape) → is_static shape.kind ≡ false → asks_by_ticket (Some (i, shape)) false false ≡ true
member_in_a_share_may_ask i shape queue = rw queue refl

-- a member may claim in a share, while it was not answered that nothing is left, and out of an ordered part
pub member_in_a_share_may_claim : (seen : Seen) (share : ℕ × Shape) → seen.current ≡ Some share → seen.drained ≡ false → seen.in_part ≡ false → may_claim seen ≡ true
member_in_a_share_may_claim seen share inside more apart = rw (inside, more, apart) refl

-- and not otherwise
pub no_claim_in_no_share : (seen : Seen) → seen.current ≡ None → may_claim seen ≡ false
no_claim_in_no_share seen outside = rw outside refl

pub no_claim_once_nothing_is_left : (seen : Seen) → seen.drained ≡ true → may_claim seen ≡ false
no_claim_once_nothing_is_left seen none = rw none (ap (λ (b : Bool). b && not seen.in_part) (and_false (is_some seen.current) false refl))

pub no_claim_in_a_part : (seen : Seen) → seen.in_part ≡ true → may_claim seen ≡ false
no_claim_in_a_part seen inside = rw inside (and_false (is_some seen.current && not seen.drained) false refl)

-- it may enter one in no share, while it has entered fewer than it can
pub member_in_no_share_may_enter : (seen : Seen) → seen.current ≡ None → seen.entered < most_shares → may_enter seen ≡ true
member_in_no_share_may_enter seen outside few = let less : nat_lt seen.entered most_shares ≡ true = lt-ltb seen.entered most_shares few in rw (outside, less) refl

-- and not otherwise
pub no_entry_in_a_share : (seen : Seen) (share : ℕ × Shape) → seen.current ≡ Some share → may_enter seen ≡ false
no_entry_in_a_share seen share inside = rw inside refl

pub no_entry_once_all_were_entered : (seen : Seen) → most_shares ≤ seen.entered → may_enter seen ≡ false
no_entry_once_all_were_entered seen all = let past : nat_lt seen.entered most_shares ≡ false = not_less seen.entered most_shares all in rw past (and_false (not (is_some seen.current)) false refl)
  where
    not_less : (a b : ℕ) → b ≤ a → nat_lt a b ≡ false
    not_less a b le = grind (arith, nat_tests)

-- a member has left the shares that it entered, but for the one that it is in
pub member_in_no_share_left_all : (seen : Seen) → seen.current ≡ None → shares_left seen ≡ seen.entered
member_in_no_share_left_all seen outside = rw outside refl

pub member_in_a_share_left_all_but_it : (seen : Seen) (share : ℕ × Shape) (count : ℕ) → seen.current ≡ Some share → seen.entered ≡ count + 1 → shares_left seen ≡ count
member_in_a_share_left_all_but_it seen share count inside entered = rw (inside, entered) (omega arith)

-- its share is static if that is of such a kind
pub share_of_a_member_is_static : (seen : Seen) (i : ℕ) (shape : Shape) → seen.current ≡ Some (i, shape) → static_in seen ≡ is_static shape.kind
share_of_a_member_is_static seen i shape inside = rw inside refl

pub no_share_is_not_static : (seen : Seen) → seen.current ≡ None → static_in seen ≡ false
no_share_is_not_static seen outside = rw outside refl
