-- What holds of the ring at no moment: what each of the laws of every moment forbids, of any team, member, share, shape, words, events and slot that is being opened.
use Rattle.std.proofs.Common.{◌≡◌, ◌≢◌, ℕ, ◌+◌, ◌<◌, ◌≤◌, true, false, List, [], ◌∷◌, ◌++◌, length, slice_get, get_or, Option, Some, None, sym, ◌∙◌, arith}
use Rattle.std.specs.Prelude.{◌%◌, slice_index}
use Rattle.std.proofs.lemmas.Option.{none-some, slice_get_within, slice_get_past, slice_get-get_or}
use mathlib.Core.Option.{some}
use lib.ListN.{get_elem?}
use Rattle.atomic_table.specs.Table.{State}
use Rattle.gomp_types.specs.declared.cancel.Scope.TheVariants.{OneShare}
use Rattle.gomp_types.specs.declared.shape.Shape.{Shape}
use Rattle.gomp_events.specs.declared.event.Event.{Event}
use Rattle.gomp_events.specs.declared.event.Event.TheVariants.{Enter, Take, End, HandOn, Part, Cancel}
use Rattle.gomp_types.specs.declared.loop_desc.EndKind.TheVariants.{Cancellable}
use Rattle.gomp_events.specs.Cancels.{share_cancelled}
use Rattle.gomp_types.specs.Shapes.{is_static}
use Rattle.gomp_types.specs.Pieces.{Piece, pieces_of}
use Rattle.gomp_events.specs.Events.{shape_at, times_taken, is_over, turn}
use Rattle.gomp_types.specs.Deals.{schedule}
use Rattle.gomp_events.specs.Takes.{next_for}
use Rattle.gomp_events.specs.Laws.{Always, Happened}
use Rattle.gomp_types.proofs.Booleans.{not_both}
use Rattle.gomp_shares.specs.Only.{own_of}
use Rattle.gomp_shares.specs.Laws.{IsOver, TakesItsOwn, ShareLaws, OrderedLaws}
use Rattle.gomp_shares.proofs.OrderRefutations.{never_handed_on_out_of_turn, never_part_backwards}
use Rattle.gomp_shares.proofs.Refutations.{never_taken_but_the_next_piece, never_cancelled_against_its_end_kind, never_left_with_a_piece_left, never_met_in_two_shapes}
use Rattle.gomp_gate.specs.Gates.{ticket_of, left_of, phase_of, phase_for, is_bare_single}
use Rattle.gomp_gate.specs.Shapes.{shape_word}
use Rattle.gomp_slots.specs.declared.view.TeamSize.{TeamSize}
use Rattle.gomp_slots.specs.declared.view.View.{View}
use Rattle.gomp_slots.specs.Rule.{stands_for, IsKept}
use Rattle.gomp_slots.specs.Words.{gate_at, left_count, BusySlot, is_busy, IsCurrent}
use Rattle.gomp_slots.specs.Moments.{claims_made, TicketLaws, MomentLaws, IsLawful}
use Rattle.gomp_slots.proofs.EveryMoment.{every_moment_is_lawful}

-- The laws of the work-shares. They are the whole ones: what these forbid stands with them, in gomp_shares

pub every_moment_keeps_the_laws_of_shares : (members : ℕ) (words : List ℕ) (h : List Event) (busy : Option BusySlot) → MomentLaws members words h busy → ShareLaws (schedule members) members h
every_moment_keeps_the_laws_of_shares members words h busy moment = moment.laws

pub every_moment_keeps_the_order_of_parts : (members : ℕ) (words : List ℕ) (h : List Event) (busy : Option BusySlot) → MomentLaws members words h busy → OrderedLaws members h
every_moment_keeps_the_order_of_parts members words h busy moment = moment.ordered

-- at no moment was an iteration taken twice
pub no_moment_with_an_iteration_taken_twice : (members share k : ℕ) (words : List ℕ) (h : List Event) (busy : Option BusySlot) → MomentLaws members words h busy → 1 < times_taken share k h → ⊥
no_moment_with_an_iteration_taken_twice members share k words h busy moment twice = let once = moment.laws.taken_once.once share k in omega arith

-- or left out of a share that all have left, and that nobody cancelled
pub no_moment_with_an_iteration_left_out : (members share m k : ℕ) (shape : Shape) (words : List ℕ) (h : List Event) (busy : Option BusySlot) → MomentLaws members words h busy → Happened (Enter share m shape) h → IsOver members share h → share_cancelled share h ≡ false → k < shape.trips →
    (times_taken share k h ≡ 1 → ⊥) → ⊥
no_moment_with_an_iteration_left_out members share m k shape words h busy moment entered over whole within left = left (moment.laws.whole share m shape entered over whole k within)

-- none after a piece was taken that was not the next one, a member left while a piece was left for it, or a share was cancelled that may not be
pub no_moment_after_a_piece_out_of_order : (members share m low high : ℕ) (words : List ℕ) (later h : List Event) (busy : Option BusySlot) → MomentLaws members words (later ++ Take share m low high ∷ h) busy →
    ((shape : Shape) → Happened (Enter share m shape) h → next_for (schedule members) shape share m h ≡ Some (low, high) → ⊥) → ⊥
no_moment_after_a_piece_out_of_order members share m low high words later h busy moment other = never_taken_but_the_next_piece (schedule members) members share m low high later h other moment.laws

pub no_moment_after_an_early_end : (members share m : ℕ) (shape : Shape) (piece : Piece) (words : List ℕ) (later h : List Event) (busy : Option BusySlot) → MomentLaws members words (later ++ End share m ∷ h) busy → Happened (Enter share m shape) h →
    ((n : ℕ) → Happened (Cancel n (OneShare share)) h → ⊥) → next_for (schedule members) shape share m h ≡ Some piece → ⊥
no_moment_after_an_early_end members share m shape piece words later h busy moment entered whole left = never_left_with_a_piece_left (schedule members) members share m shape piece later h entered whole left moment.laws

pub no_moment_after_a_cancellation_that_may_not_be : (members share m : ℕ) (words : List ℕ) (later h : List Event) (busy : Option BusySlot) → MomentLaws members words (later ++ Cancel m (OneShare share) ∷ h) busy →
    ((shape : Shape) → Happened (Enter share m shape) h → shape.end_kind ≡ Cancellable → ⊥) → ⊥
no_moment_after_a_cancellation_that_may_not_be members share m words later h busy moment other = never_cancelled_against_its_end_kind (schedule members) members share m later h other moment.laws

-- none with a share in two shapes
pub no_moment_with_a_share_in_two_shapes : (members share m n : ℕ) (one other : Shape) (words : List ℕ) (h : List Event) (busy : Option BusySlot) → MomentLaws members words h busy → Happened (Enter share m one) h → Happened (Enter share n other) h → (one ≡ other → ⊥) → ⊥
no_moment_with_a_share_in_two_shapes members share m n one other words h busy moment first second differ = never_met_in_two_shapes (schedule members) members share m n one other h first second differ moment.laws

-- none after a piece was handed on out of turn
pub no_moment_after_a_hand_on_out_of_turn : (members share m piece : ℕ) (words : List ℕ) (later h : List Event) (busy : Option BusySlot) → MomentLaws members words (later ++ HandOn share m piece ∷ h) busy → (piece ≡ turn share h → ⊥) → ⊥
no_moment_after_a_hand_on_out_of_turn members share m piece words later h busy moment other = never_handed_on_out_of_turn members share m piece later h other moment.ordered

-- a part began before one of an earlier iteration
pub no_moment_after_a_part_backwards : (members share m n iteration other : ℕ) (words : List ℕ) (later h : List Event) (busy : Option BusySlot) → MomentLaws members words (later ++ Part share m iteration ∷ h) busy → Happened (Part share n other) h → iteration ≤ other → ⊥
no_moment_after_a_part_backwards members share m n iteration other words later h busy moment began behind = never_part_backwards members share m n iteration other later h began behind moment.ordered

-- or a member took a piece of a static share that another owns
law_of_an_event : (Law : Event → List Event → Type 0) (event : Event) (later h : List Event) → Always Law (later ++ event ∷ h) → Law event h
law_of_an_event Law event [] h all = all.0
law_of_an_event Law event (first ∷ later) h all = law_of_an_event Law event later h all.1

pub no_moment_after_a_piece_of_another_owner : (members share m low high : ℕ) (shape : Shape) (words : List ℕ) (later h : List Event) (busy : Option BusySlot) → MomentLaws members words (later ++ Take share m low high ∷ h) busy → Happened (Enter share m shape) h → is_static shape.kind ≡ true →
    ((number : ℕ) → slice_get (pieces_of members shape) number ≡ Some (low, high) → number % members ≢ m) → ⊥
no_moment_after_a_piece_of_another_owner members share m low high shape words later h busy moment entered static other =
    let (number, is, own) = law_of_an_event (TakesItsOwn members) (Take share m low high) later h moment.own_pieces shape entered static in other number is own

-- Tickets

-- no share has more claims than tickets were given, or fewer
pub no_claim_without_a_ticket : (members i : ℕ) (shape : Shape) (words : List ℕ) (h : List Event) → TicketLaws members i shape words h → (length (claims_made i h) ≡ ticket_of (slice_index words (gate_at i)) → ⊥) → ⊥
no_claim_without_a_ticket members i shape words h laws other = other laws.all

-- no claim below the number of the gate is missing
pub no_ticket_of_no_claim : (members i ticket : ℕ) (shape : Shape) (words : List ℕ) (h : List Event) → TicketLaws members i shape words h → ticket < ticket_of (slice_index words (gate_at i)) → slice_get (claims_made i h) ticket ≡ None → ⊥
no_ticket_of_no_claim members i ticket shape words h laws below none = absent (claims_made i h) ticket (let all = laws.all in omega arith) none
  where
    absent : (claims : List (ℕ × Option Piece)) (n : ℕ) → n < length claims → slice_get claims n ≡ None → ⊥
    absent claims n lt none = let here = slice_get-get_or claims n (0, None) lt in none-some (get_or claims n (0, None)) (sym none ∙ here)

-- none is there at the number of the gate or above
pub no_claim_above_the_gate : (members i ticket : ℕ) (claim : ℕ × Option Piece) (shape : Shape) (words : List ℕ) (h : List Event) → TicketLaws members i shape words h → ticket_of (slice_index words (gate_at i)) ≤ ticket → slice_get (claims_made i h) ticket ≡ Some claim → ⊥
no_claim_above_the_gate members i ticket claim shape words h laws above there = let lt = slice_get_within (claims_made i h) ticket claim there in let all = laws.all in omega arith

-- no claim took another piece than that of its ticket
pub no_claim_of_another_piece : (members i ticket m : ℕ) (piece : Piece) (shape : Shape) (words : List ℕ) (h : List Event) → TicketLaws members i shape words h → slice_get (claims_made i h) ticket ≡ Some (m, Some piece) → (slice_get (pieces_of members shape) ticket ≡ Some piece → ⊥) → ⊥
no_claim_of_another_piece members i ticket m piece shape words h laws at other = other (sym (laws.each ticket (m, Some piece) at))

-- or took one while its ticket is not below the number of pieces
pub no_piece_of_a_ticket_past_the_pieces : (members i ticket m : ℕ) (piece : Piece) (shape : Shape) (words : List ℕ) (h : List Event) → TicketLaws members i shape words h → slice_get (claims_made i h) ticket ≡ Some (m, Some piece) → length (pieces_of members shape) ≤ ticket → ⊥
no_piece_of_a_ticket_past_the_pieces members i ticket m piece shape words h laws at past = none-some piece (sym (laws.each ticket (m, Some piece) at ∙ slice_get_past (pieces_of members shape) ticket past))

-- or learned that there is none while there is one of its number
pub no_end_by_a_ticket_of_a_piece : (members i ticket m : ℕ) (piece : Piece) (shape : Shape) (words : List ℕ) (h : List Event) → TicketLaws members i shape words h → slice_get (claims_made i h) ticket ≡ Some (m, None) → slice_get (pieces_of members shape) ticket ≡ Some piece → ⊥
no_end_by_a_ticket_of_a_piece members i ticket m piece shape words h laws at there = none-some piece (laws.each ticket (m, None) at ∙ there)

-- at every moment that is so of each share that is not static, and whose slot has it
pub no_moment_with_other_tickets : (members i : ℕ) (shape : Shape) (words : List ℕ) (h : List Event) (busy : Option BusySlot) → MomentLaws members words h busy → IsCurrent i shape h busy → is_static shape.kind ≡ false → (TicketLaws members i shape words h → ⊥) → ⊥
no_moment_with_other_tickets members i shape words h busy moment now queue other = other (moment.tickets i shape now queue)

-- Slots

-- at no moment tells a gate of more members that left its share than have, or of fewer
pub no_moment_with_another_count_of_left : (members i : ℕ) (shape : Shape) (words : List ℕ) (h : List Event) (busy : Option BusySlot) → MomentLaws members words h busy → IsCurrent i shape h busy → (left_of (slice_index words (gate_at i)) ≡ left_count members i h → ⊥) → ⊥
no_moment_with_another_count_of_left members i shape words h busy moment now other = other (moment.left i shape now)

-- none has the words of another shape than that in which a member entered the share
pub no_moment_with_words_of_another_shape : (members i m place : ℕ) (shape entered : Shape) (words : List ℕ) (h : List Event) (busy : Option BusySlot) → MomentLaws members words h busy → IsCurrent i shape h busy → Happened (Enter i m entered) h → is_bare_single entered ≡ false → place < 4 →
    (slice_index words (gate_at i + 1 + place) ≡ shape_word place entered → ⊥) → ⊥
no_moment_with_words_of_another_shape members i m place shape entered words h busy moment now there told within other = other (moment.shape i m place shape entered now there told within)

-- or the phase of a bare single, and a member entered another share there; or the other way round
pub no_moment_with_the_phase_of_another_shape : (members i m : ℕ) (shape entered : Shape) (words : List ℕ) (h : List Event) (busy : Option BusySlot) → MomentLaws members words h busy → IsCurrent i shape h busy → Happened (Enter i m entered) h →
    (phase_of (slice_index words (gate_at i)) ≡ phase_for entered → ⊥) → ⊥
no_moment_with_the_phase_of_another_shape members i m shape entered words h busy moment now there other = other (moment.phase i m shape entered now there)

-- none has another turn than the number of pieces that were handed on
pub no_moment_with_another_turn : (members i : ℕ) (shape : Shape) (words : List ℕ) (h : List Event) (busy : Option BusySlot) → MomentLaws members words h busy → IsCurrent i shape h busy → is_bare_single shape ≡ false → (slice_index words (gate_at i + 5) ≡ turn i h → ⊥) → ⊥
no_moment_with_another_turn members i shape words h busy moment now told other = other (moment.turns i shape now told)

-- none has a slot with two shares
pub no_moment_with_two_shares_in_a_slot : (members i j : ℕ) (shape other : Shape) (words : List ℕ) (h : List Event) (busy : Option BusySlot) → MomentLaws members words h busy → IsCurrent i shape h busy → IsCurrent j other h busy → i % 8 ≡ j % 8 → i ≢ j → ⊥
no_moment_with_two_shares_in_a_slot members i j shape other words h busy moment now then_now same differ = differ (moment.one i j shape other now then_now same)

-- none has a share that some member has not left, and that has lost its slot
pub no_moment_with_a_share_without_its_slot : (members i : ℕ) (shape : Shape) (words : List ℕ) (h : List Event) (busy : Option BusySlot) → MomentLaws members words h busy → shape_at i h ≡ Some shape → is_over members i h ≡ false → (IsCurrent i shape h busy → ⊥) → ⊥
no_moment_with_a_share_without_its_slot members i shape words h busy moment at stays lost = lost (moment.stays i shape at stays)

-- none has a share entered, or opened by a seat, while a member has not left the one eight before
pub no_moment_with_a_slot_opened_anew_too_early : (members i : ℕ) (shape : Shape) (words : List ℕ) (h : List Event) (busy : Option BusySlot) → MomentLaws members words h busy → shape_at (i + 8) h ≡ Some shape → is_over members i h ≡ false → ⊥
no_moment_with_a_slot_opened_anew_too_early members i shape words h busy moment at stays = not_both (is_over members i h) (moment.anew i shape at) stays

pub no_moment_with_a_slot_taken_too_early : (members i : ℕ) (words : List ℕ) (h : List Event) (busy : Option BusySlot) → MomentLaws members words h busy → is_busy busy (i + 8) ≡ true → is_over members i h ≡ false → ⊥
no_moment_with_a_slot_taken_too_early members i words h busy moment is stays = not_both (is_over members i h) (moment.taken i is) stays

-- none has a share that is not over eight or more before another that was entered, or that a seat opens
pub no_moment_with_shares_of_two_rounds : (members i j : ℕ) (one other : Shape) (words : List ℕ) (h : List Event) (busy : Option BusySlot) → MomentLaws members words h busy → shape_at i h ≡ Some one → is_over members i h ≡ false → shape_at j h ≡ Some other → i + 8 ≤ j → ⊥
no_moment_with_shares_of_two_rounds members i j one other words h busy moment at stays there far = let near = moment.span i j one other at stays there in omega arith

pub no_moment_with_an_opening_of_the_next_round : (members i j : ℕ) (one : Shape) (words : List ℕ) (h : List Event) (busy : Option BusySlot) → MomentLaws members words h busy → shape_at i h ≡ Some one → is_over members i h ≡ false → is_busy busy j ≡ true → i + 8 ≤ j → ⊥
no_moment_with_an_opening_of_the_next_round members i j one words h busy moment at stays is far = let near = moment.opening i j one at stays is in omega arith

-- What a moment tells

-- no moment is told of that breaks these laws, or of whose events a seat does not know its part
pub no_moment_told_against_the_laws : (size : TeamSize) (state : State Shape View) (told : IsLawful size state) → (MomentLaws size.members state.words told.events told.busy → ⊥) → ⊥
no_moment_told_against_the_laws size state told broken = broken told.laws

pub no_moment_told_of_unknown_events : (size : TeamSize) (state : State Shape View) (id m : ℕ) (v : View) (told : IsLawful size state) → get_elem? state.views id ≡ some v → stands_for v m ≡ true → (own_of m v.did ≡ own_of m told.events → ⊥) → ⊥
no_moment_told_of_unknown_events size state id m v told at stands unknown = unknown ((told.knows id v at).own m stands)

pub no_moment_told_unknown_to_the_only_seat : (size : TeamSize) (state : State Shape View) (id : ℕ) (v : View) (told : IsLawful size state) → get_elem? state.views id ≡ some v → v.alone ≡ true → (v.did ≡ told.events → ⊥) → ⊥
no_moment_told_unknown_to_the_only_seat size state id v told at alone unknown = unknown ((told.knows id v at).all alone)

-- Every moment, of every team: wherever the rule of the ring holds, the laws do

pub never_a_moment_without_its_laws : (size : TeamSize) (state : State Shape View) → IsKept size state → (IsLawful size state → ⊥) → ⊥
never_a_moment_without_its_laws size state kept lawless = lawless (every_moment_is_lawful size state kept)
