-- Which answers a call on sections, a single, an ordered part or a cancellation never gets, of any team, member, share, shape and list of events.
use Rattle.std.proofs.Common.{◌≡◌, ℕ, ℤ, suc, zero, ◌+◌, ◌<◌, ◌≤◌, Bool, true, false, List, [], ◌∷◌, ◌++◌, Option, Some, None, refl, ap, sym, ◌∙◌, arith}
use Rattle.std.specs.Prelude.{if◌then◌else◌, ◌&&◌, ◌||◌, not}
use Rattle.gomp_types.specs.declared.cancel.CancelKind.{CancelKind}
use Rattle.gomp_types.specs.declared.cancel.CancelKind.TheVariants.{Loop, Sections}
use Rattle.gomp_types.specs.declared.limits.TheConstants.{OPEN_SHARES}
use Rattle.gomp_types.specs.declared.loop_desc.EndKind.{EndKind}
use Rattle.gomp_types.specs.declared.loop_desc.LoopDesc.{LoopDesc}
use Rattle.gomp_types.specs.declared.refusal.Refusal.{Refusal}
use Rattle.gomp_types.specs.declared.refusal.Refusal.TheVariants.{OutsideShare, InOrdered, EndDiffers, NotDrained, Drained, NotOrdered, OrderedBackwards, NotInside, NotCancellable}
use Rattle.gomp_types.specs.declared.reply.Reply.{Reply}
use Rattle.gomp_types.specs.declared.reply.Reply.TheVariants.{Section, Executor, Copied, Finished, Wait, Cancelling, Refused}
use Rattle.gomp_events.specs.declared.seen.Seen.{Seen}
use Rattle.gomp_types.specs.declared.shape.Shape.{Shape}
use Rattle.gomp_events.specs.declared.event.Event.{Event}
use Rattle.gomp_events.specs.declared.event.Event.TheVariants.{End}
use Rattle.gomp_events.specs.Cancels.{names_cancelled, own_cancelled, may_be_cancelled}
use Rattle.gomp_types.specs.Compare.{shape_differs, end_differs}
use Rattle.gomp_types.specs.Deals.{schedule}
use Rattle.gomp_events.specs.Takes.{next_for}
use Rattle.gomp_events.specs.Events.{shares_entered, open_share, shape_at, in_kind, in_part, has_drained, last_piece, next_part, has_room, payload_at}
use Rattle.gomp_events.specs.Laws.{Happened}
use Rattle.gomp_types.specs.Least.{least, lesser}
use Rattle.gomp_events.specs.Ordered.{is_ordered, comes_next, has_turn}
use Rattle.gomp_types.specs.Pieces.{Piece, shape_of}
use Rattle.gomp_types.specs.Sections.{sections_shape}
use Rattle.gomp_types.specs.Singles.{single_shape}
use Rattle.gomp_events.specs.Seen.{seen_of}
use Rattle.gomp_types.specs.Shapes.{is_loop, is_sections, is_copy}
use Rattle.gomp_types.proofs.Booleans.{or_right}
use Rattle.gomp_shares.specs.declared.Opening.{Opening}
use Rattle.gomp_shares.specs.declared.Opening.TheVariants.{Entered, NotYet, Differs}
use Rattle.gomp_shares.specs.declared.calls.ShareCall.TheVariants.{Open, OpenSections, OpenSingle, Claim, Leave, Begin, EndPart, HandOn, Cancel as CancelShare, See as SeeCancelled}
use Rattle.gomp_shares.specs.declared.calls.ShareStep.{ShareStep}
use Rattle.gomp_shares.specs.declared.calls.ShareAnswer.{ShareAnswer}
use Rattle.gomp_shares.specs.declared.calls.ShareAnswer.TheVariants.{Opened, Claimed, Left, Turned, Ended, Cancelled, Saw, NotMade}
use Rattle.gomp_shares.specs.Calls.{MayOpen, Claims, own_turn}
use Rattle.gomp_shares.specs.Cancels.{cancel_place_tests, AnswersCancel}
use Rattle.gomp_shares.specs.OrderedParts.{BeginsPart, part_tests, AnswersPart, AnswersPartEnd, part_end_tests}
use Rattle.gomp_shares.specs.Runs as runs
use Rattle.gomp_shares.specs.Sections.{DealsSections, section_next_tests, AnswersSectionsNext, sections_end_tests, AnswersSectionsEnd}
use Rattle.gomp_shares.specs.Singles.{DealsSingle, DealsCopy, put_tests}
use Rattle.gomp_shares.specs.Starts.{is_drained, drained_tests}
use Rattle.gomp_shares.proofs.AnswerRefutations.{share_refused_alone, share_given_alone}
use Rattle.gomp_shares.proofs.OrWaits.{answered_if_may, waits_if_not}
use Rattle.gomp_shares.proofs.OrderedKeep.{pair_is}
use Rattle.gomp_shares.proofs.SharesKeep.{over_stands, room_over}

-- Sections

-- no member that is in no share is dealt a section
pub no_section_outside : (members m : ℕ) (reply : Reply) (h : List Event) → DealsSections members m None reply h → ⊥
no_section_outside members m reply h answer = answer

-- while a section is left, no answer but its number
pub no_section_but_the_next : (members m share k : ℕ) (shape : Shape) (reply : Reply) (h : List Event) → next_for (schedule members) shape share m h ≡ Some (k, suc k) → (reply ≡ Section (suc k) → ⊥) → DealsSections members m (Some (share, shape)) reply h → ⊥
no_section_but_the_next members m share k shape (Section zero) h next wrong answer = absurd (cc)
no_section_but_the_next members m share k shape (Section (suc j)) h next wrong answer =
    wrong (ap (λ (n : ℕ). Section (suc n)) (pair_is j (suc j) k (suc k) (sym answer ∙ next)).0)
no_section_but_the_next members m share k shape _ h next wrong answer = answer

-- once none is left, no answer but 0
pub no_section_when_none_is_left : (members m share : ℕ) (shape : Shape) (reply : Reply) (h : List Event) → next_for (schedule members) shape share m h ≡ None → (reply ≡ Section 0 → ⊥) → DealsSections members m (Some (share, shape)) reply h → ⊥
no_section_when_none_is_left members m share shape (Section zero) h next wrong answer = wrong refl
no_section_when_none_is_left members m share shape (Section (suc k)) h next wrong answer = absurd (cc)
no_section_when_none_is_left members m share shape _ h next wrong answer = answer

-- no next section outside of a sections construct
pub no_next_section_outside : (members m : ℕ) (reply : Reply) (h : List Event) → in_kind is_sections (open_share m h) ≡ false → (reply ≡ Refused OutsideShare → ⊥) → AnswersSectionsNext members m reply h → ⊥
no_next_section_outside members m reply h outside wrong answer =
    share_refused_alone (section_next_tests (seen_of m h)) (λ given. DealsSections members m (open_share m h) given h) OutsideShare reply (rw outside (by_other (has_drained m h))) wrong answer
  where
    by_other : (b : Bool) → lesser (Some OutsideShare) (if b then lesser (Some Drained) None else None) ≡ Some OutsideShare
    by_other true = refl
    by_other false = refl

-- or once more for a member that was answered that none is left
pub no_next_section_when_drained : (members m : ℕ) (reply : Reply) (h : List Event) → in_kind is_sections (open_share m h) ≡ true → has_drained m h ≡ true → (reply ≡ Refused Drained → ⊥) → AnswersSectionsNext members m reply h → ⊥
no_next_section_when_drained members m reply h sections drained wrong answer =
    share_refused_alone (section_next_tests (seen_of m h)) (λ given. DealsSections members m (open_share m h) given h) Drained reply (rw (sections, drained) refl) wrong answer

-- and no other call for it is refused, or answered but as its share says
pub no_other_answer_to_a_next_section : (members m : ℕ) (reply : Reply) (h : List Event) → in_kind is_sections (open_share m h) ≡ true → has_drained m h ≡ false → (DealsSections members m (open_share m h) reply h → ⊥) → AnswersSectionsNext members m reply h → ⊥
no_other_answer_to_a_next_section members m reply h sections more never answer =
    share_given_alone (section_next_tests (seen_of m h)) (λ given. DealsSections members m (open_share m h) given h) reply (rw (sections, more) refl) never answer

-- no end outside of a sections construct
pub no_sections_end_outside : (kind : EndKind) (m : ℕ) (reply : Reply) (h : List Event) → in_kind is_sections (open_share m h) ≡ false → (reply ≡ Refused OutsideShare → ⊥) → AnswersSectionsEnd kind m reply h → ⊥
no_sections_end_outside kind m reply h outside wrong answer =
    share_refused_alone (sections_end_tests kind (seen_of m h) ++ drained_tests m h) (λ given. given ≡ Finished) OutsideShare reply (rw outside (by_others (end_differs kind (open_share m h)) (not (is_drained m h)))) wrong answer
  where
    by_others : (b c : Bool) → lesser (Some OutsideShare) (if b then lesser (Some EndDiffers) (if c then lesser (Some NotDrained) None else None) else (if c then lesser (Some NotDrained) None else None)) ≡ Some OutsideShare
    by_others true true = refl
    by_others true false = refl
    by_others false true = refl
    by_others false false = refl

-- or by the call for another end kind
pub no_sections_end_by_another_call : (kind : EndKind) (m : ℕ) (reply : Reply) (h : List Event) → in_kind is_sections (open_share m h) ≡ true → end_differs kind (open_share m h) ≡ true → (reply ≡ Refused EndDiffers → ⊥) → AnswersSectionsEnd kind m reply h → ⊥
no_sections_end_by_another_call kind m reply h sections differs wrong answer =
    share_refused_alone (sections_end_tests kind (seen_of m h) ++ drained_tests m h) (λ given. given ≡ Finished) EndDiffers reply (rw (sections, differs) (by_other (not (is_drained m h)))) wrong answer
  where
    by_other : (c : Bool) → lesser (Some EndDiffers) (if c then lesser (Some NotDrained) None else None) ≡ Some EndDiffers
    by_other true = refl
    by_other false = refl

-- or before the member was answered that no section is left, unless the construct is cancelled
pub no_sections_end_with_sections_left : (kind : EndKind) (m : ℕ) (reply : Reply) (h : List Event) → in_kind is_sections (open_share m h) ≡ true → end_differs kind (open_share m h) ≡ false → has_drained m h ≡ false → own_cancelled m h ≡ false →
    (reply ≡ Refused NotDrained → ⊥) → AnswersSectionsEnd kind m reply h → ⊥
no_sections_end_with_sections_left kind m reply h sections same more uncancelled wrong answer =
    share_refused_alone (sections_end_tests kind (seen_of m h) ++ drained_tests m h) (λ given. given ≡ Finished) NotDrained reply (rw (sections, same, more, uncancelled) refl) wrong answer

-- and no other end but ends
pub no_other_answer_to_a_sections_end : (kind : EndKind) (m : ℕ) (reply : Reply) (h : List Event) → in_kind is_sections (open_share m h) ≡ true → end_differs kind (open_share m h) ≡ false → has_drained m h ≡ true → (reply ≡ Finished → ⊥) → AnswersSectionsEnd kind m reply h → ⊥
no_other_answer_to_a_sections_end kind m reply h sections same drained wrong answer =
    share_given_alone (sections_end_tests kind (seen_of m h) ++ drained_tests m h) (λ given. given ≡ Finished) reply (rw (sections, same, drained) refl) wrong answer

-- also of a cancelled construct
pub no_other_answer_to_a_cancelled_sections_end : (kind : EndKind) (m : ℕ) (reply : Reply) (h : List Event) → in_kind is_sections (open_share m h) ≡ true → end_differs kind (open_share m h) ≡ false → own_cancelled m h ≡ true → (reply ≡ Finished → ⊥) → AnswersSectionsEnd kind m reply h → ⊥
no_other_answer_to_a_cancelled_sections_end kind m reply h sections same cancelled wrong answer =
    share_given_alone (sections_end_tests kind (seen_of m h) ++ drained_tests m h) (λ given. given ≡ Finished) reply (rw (sections, same) (by_other (has_drained m h))) wrong answer
  where
    by_other : (b : Bool) → ◌≡◌ {A = Option Refusal} (if not (b || own_cancelled m h) then lesser (Some NotDrained) None else None) None
    by_other true = refl
    by_other false = rw cancelled refl

-- Singles

-- no member that finds the piece left is answered otherwise than that it executes the single
pub no_single_without_an_executor : (members m share : ℕ) (shape : Shape) (piece : Piece) (reply : Reply) (h : List Event) → next_for (schedule members) shape share m h ≡ Some piece → (reply ≡ Executor true → ⊥) → DealsSingle members m (Some (share, shape)) reply h → ⊥
no_single_without_an_executor members m share shape piece (Executor true) h next wrong answer = wrong refl
no_single_without_an_executor members m share shape piece (Executor false) h next wrong answer = absurd (cc)
no_single_without_an_executor members m share shape piece _ h next wrong answer = answer

-- no member that finds the piece taken is answered otherwise than that it does not execute it
pub no_second_executor : (members m share : ℕ) (shape : Shape) (reply : Reply) (h : List Event) → next_for (schedule members) shape share m h ≡ None → (reply ≡ Executor false → ⊥) → DealsSingle members m (Some (share, shape)) reply h → ⊥
no_second_executor members m share shape (Executor true) h next wrong answer = absurd (cc)
no_second_executor members m share shape (Executor false) h next wrong answer = wrong refl
no_second_executor members m share shape _ h next wrong answer = answer

pub no_single_outside : (members m : ℕ) (reply : Reply) (h : List Event) → DealsSingle members m None reply h → ⊥
no_single_outside members m reply h answer = answer

-- the same of a single with words
pub no_copy_without_an_executor : (members m share : ℕ) (shape : Shape) (piece : Piece) (reply : Reply) (h : List Event) → next_for (schedule members) shape share m h ≡ Some piece → (reply ≡ Executor true → ⊥) → DealsCopy members m (Some (share, shape)) reply h → ⊥
no_copy_without_an_executor members m share shape piece (Executor true) h next wrong answer = wrong refl
no_copy_without_an_executor members m share shape piece (Executor false) h next wrong answer = answer
no_copy_without_an_executor members m share shape piece (Copied words) h next wrong answer = absurd (let none = answer.0 in cc)
no_copy_without_an_executor members m share shape piece Wait h next wrong answer = absurd (let none = answer.0 in cc)
no_copy_without_an_executor members m share shape piece _ h next wrong answer = answer

-- no other member is given anything but the words that the executor put
pub no_words_but_those_put : (members m share : ℕ) (shape : Shape) (payload : List ℕ) (reply : Reply) (h : List Event) → next_for (schedule members) shape share m h ≡ None → payload_at share h ≡ Some payload → (reply ≡ Copied payload → ⊥) → DealsCopy members m (Some (share, shape)) reply h → ⊥
no_words_but_those_put members m share shape payload (Executor true) h next put wrong answer = absurd (cc)
no_words_but_those_put members m share shape payload (Executor false) h next put wrong answer = answer
no_words_but_those_put members m share shape payload (Copied words) h next put wrong answer =
    let same : Some words ≡ Some payload = sym answer.1 ∙ put in
    let one : words ≡ payload = cc in wrong (ap Copied one)
no_words_but_those_put members m share shape payload Wait h next put wrong answer = absurd (let none = answer.1 in cc)
no_words_but_those_put members m share shape payload _ h next put wrong answer = answer

-- and none goes on before it has
pub no_words_before_they_are_put : (members m share : ℕ) (shape : Shape) (reply : Reply) (h : List Event) → next_for (schedule members) shape share m h ≡ None → payload_at share h ≡ None → (reply ≡ Wait → ⊥) → DealsCopy members m (Some (share, shape)) reply h → ⊥
no_words_before_they_are_put members m share shape (Executor true) h next none wrong answer = absurd (cc)
no_words_before_they_are_put members m share shape (Executor false) h next none wrong answer = answer
no_words_before_they_are_put members m share shape (Copied words) h next none wrong answer = absurd (let some = answer.1 in cc)
no_words_before_they_are_put members m share shape Wait h next none wrong answer = wrong refl
no_words_before_they_are_put members m share shape _ h next none wrong answer = answer

pub no_copy_outside : (members m : ℕ) (reply : Reply) (h : List Event) → DealsCopy members m None reply h → ⊥
no_copy_outside members m reply h answer = answer

-- words are refused in a share that is no single with words
pub words_put_elsewhere_are_refused : (m : ℕ) (h : List Event) → in_kind is_copy (open_share m h) ≡ false → least (put_tests (seen_of m h)) ≡ Some NotInside
words_put_elsewhere_are_refused m h other = rw other refl

-- and of a member without its piece
pub words_put_without_the_piece_are_refused : (m : ℕ) (h : List Event) → last_piece m h ≡ None → least (put_tests (seen_of m h)) ≡ Some NotInside
words_put_without_the_piece_are_refused m h none = rw none (by_kind (in_kind is_copy (open_share m h)))
  where
    by_kind : (b : Bool) → ◌≡◌ {A = Option Refusal} (if not (b && false) then lesser (Some NotInside) None else None) (Some NotInside)
    by_kind true = refl
    by_kind false = refl

-- Ordered parts

-- no part begins before its turn
pub no_part_begun_before_its_turn : (members m share : ℕ) (shape : Shape) (reply : Reply) (h : List Event) → has_turn members (share, shape) m h ≡ false → (reply ≡ Wait → ⊥) → BeginsPart members m (Some (share, shape)) reply h → ⊥
no_part_begun_before_its_turn members m share shape reply h early wrong answer = wrong (waits_if_not (has_turn members (share, shape) m h) (λ given. given ≡ Finished) reply early answer)

-- nor waits once its turn is there
pub no_part_waits_with_the_turn : (members m share : ℕ) (shape : Shape) (reply : Reply) (h : List Event) → has_turn members (share, shape) m h ≡ true → (reply ≡ Finished → ⊥) → BeginsPart members m (Some (share, shape)) reply h → ⊥
no_part_waits_with_the_turn members m share shape reply h next wrong answer = wrong (answered_if_may (has_turn members (share, shape) m h) (λ given. given ≡ Finished) reply next answer)

pub no_part_begun_outside : (members m : ℕ) (reply : Reply) (h : List Event) → BeginsPart members m None reply h → ⊥
no_part_begun_outside members m reply h answer = answer

-- no part outside of a loop
pub no_part_outside_a_loop : (members m : ℕ) (value : ℤ) (reply : Reply) (h : List Event) → in_kind is_loop (open_share m h) ≡ false → (reply ≡ Refused OutsideShare → ⊥) → AnswersPart members value m reply h → ⊥
no_part_outside_a_loop members m value reply h outside wrong answer =
    share_refused_alone (part_tests value (seen_of m h)) (λ given. BeginsPart members m (open_share m h) given h) OutsideShare reply
    (rw outside (by_others (in_part m h) (not (is_ordered (open_share m h))) (not (comes_next (open_share m h) (last_piece m h) (next_part m h) value)))) wrong answer
  where
    by_others : (a b c : Bool) →
        lesser (Some OutsideShare) (if a then lesser (Some InOrdered) (if b then lesser (Some NotOrdered) (if c then lesser (Some OrderedBackwards) None else None) else (if c then lesser (Some OrderedBackwards) None else None))
        else (if b then lesser (Some NotOrdered) (if c then lesser (Some OrderedBackwards) None else None) else (if c then lesser (Some OrderedBackwards) None else None))) ≡ Some OutsideShare
    by_others true true true = refl
    by_others true true false = refl
    by_others true false true = refl
    by_others true false false = refl
    by_others false true true = refl
    by_others false true false = refl
    by_others false false true = refl
    by_others false false false = refl

-- inside another part
pub no_part_begun_inside_a_part : (members m : ℕ) (value : ℤ) (reply : Reply) (h : List Event) → in_kind is_loop (open_share m h) ≡ true → in_part m h ≡ true → (reply ≡ Refused InOrdered → ⊥) → AnswersPart members value m reply h → ⊥
no_part_begun_inside_a_part members m value reply h loop inside wrong answer =
    share_refused_alone (part_tests value (seen_of m h)) (λ given. BeginsPart members m (open_share m h) given h) InOrdered reply
    (rw (loop, inside) (by_others (not (is_ordered (open_share m h))) (not (comes_next (open_share m h) (last_piece m h) (next_part m h) value)))) wrong answer
  where
    by_others : (b c : Bool) → lesser (Some InOrdered) (if b then lesser (Some NotOrdered) (if c then lesser (Some OrderedBackwards) None else None) else (if c then lesser (Some OrderedBackwards) None else None)) ≡ Some InOrdered
    by_others true true = refl
    by_others true false = refl
    by_others false true = refl
    by_others false false = refl

-- in a loop that is not ordered
pub no_part_in_an_unordered_loop : (members m : ℕ) (value : ℤ) (reply : Reply) (h : List Event) → in_kind is_loop (open_share m h) ≡ true → in_part m h ≡ false → is_ordered (open_share m h) ≡ false → (reply ≡ Refused NotOrdered → ⊥) → AnswersPart members value m reply h → ⊥
no_part_in_an_unordered_loop members m value reply h loop apart unordered wrong answer =
    share_refused_alone (part_tests value (seen_of m h)) (λ given. BeginsPart members m (open_share m h) given h) NotOrdered reply (rw (loop, apart, unordered) (by_other (not (comes_next (open_share m h) (last_piece m h) (next_part m h) value)))) wrong answer
  where
    by_other : (c : Bool) → lesser (Some NotOrdered) (if c then lesser (Some OrderedBackwards) None else None) ≡ Some NotOrdered
    by_other true = refl
    by_other false = refl

-- or of a value that is not in the rest of the member's piece
pub no_part_of_another_value : (members m : ℕ) (value : ℤ) (reply : Reply) (h : List Event) → in_kind is_loop (open_share m h) ≡ true → in_part m h ≡ false → is_ordered (open_share m h) ≡ true → comes_next (open_share m h) (last_piece m h) (next_part m h) value ≡ false →
    (reply ≡ Refused OrderedBackwards → ⊥) → AnswersPart members value m reply h → ⊥
no_part_of_another_value members m value reply h loop apart ordered other wrong answer =
    share_refused_alone (part_tests value (seen_of m h)) (λ given. BeginsPart members m (open_share m h) given h) OrderedBackwards reply (rw (loop, apart, ordered, other) refl) wrong answer

-- and no other is refused, or answered but by the turn
pub no_other_answer_to_a_part : (members m : ℕ) (value : ℤ) (reply : Reply) (h : List Event) → in_kind is_loop (open_share m h) ≡ true → in_part m h ≡ false → is_ordered (open_share m h) ≡ true → comes_next (open_share m h) (last_piece m h) (next_part m h) value ≡ true →
    (BeginsPart members m (open_share m h) reply h → ⊥) → AnswersPart members value m reply h → ⊥
no_other_answer_to_a_part members m value reply h loop apart ordered next never answer =
    share_given_alone (part_tests value (seen_of m h)) (λ given. BeginsPart members m (open_share m h) given h) reply (rw (loop, apart, ordered, next) refl) never answer

-- no part ends that its member did not begin
pub no_part_end_outside_a_part : (m : ℕ) (reply : Reply) (h : List Event) → in_part m h ≡ false → (reply ≡ Refused NotInside → ⊥) → AnswersPartEnd m reply h → ⊥
no_part_end_outside_a_part m reply h outside wrong answer = share_refused_alone (part_end_tests (seen_of m h)) (λ given. given ≡ Finished) NotInside reply (rw outside refl) wrong answer

-- and the end of one never waits
pub no_wait_at_a_part_end : (m : ℕ) (reply : Reply) (h : List Event) → in_part m h ≡ true → (reply ≡ Finished → ⊥) → AnswersPartEnd m reply h → ⊥
no_wait_at_a_part_end m reply h inside wrong answer = share_given_alone (part_end_tests (seen_of m h)) (λ given. given ≡ Finished) reply (rw inside refl) wrong answer

-- Cancellations

-- a construct that names a loop is refused outside of one
pub naming_a_loop_outside_is_refused : (seen : Seen) → in_kind is_loop seen.current ≡ false → least (cancel_place_tests Loop seen) ≡ Some OutsideShare
naming_a_loop_outside_is_refused seen outside = rw outside (by_other (not (may_be_cancelled seen.current)))
  where
    by_other : (b : Bool) → lesser (Some OutsideShare) (if b then lesser (Some NotCancellable) None else None) ≡ Some OutsideShare
    by_other true = refl
    by_other false = refl

pub naming_sections_outside_is_refused : (seen : Seen) → in_kind is_sections seen.current ≡ false → least (cancel_place_tests Sections seen) ≡ Some OutsideShare
naming_sections_outside_is_refused seen outside = rw outside (by_other (not (may_be_cancelled seen.current)))
  where
    by_other : (b : Bool) → lesser (Some OutsideShare) (if b then lesser (Some NotCancellable) None else None) ≡ Some OutsideShare
    by_other true = refl
    by_other false = refl

-- and in one that may not be cancelled
pub naming_an_uncancellable_loop_is_refused : (seen : Seen) → in_kind is_loop seen.current ≡ true → may_be_cancelled seen.current ≡ false → least (cancel_place_tests Loop seen) ≡ Some NotCancellable
naming_an_uncancellable_loop_is_refused seen loop uncancellable = rw (loop, uncancellable) refl

pub naming_uncancellable_sections_is_refused : (seen : Seen) → in_kind is_sections seen.current ≡ true → may_be_cancelled seen.current ≡ false → least (cancel_place_tests Sections seen) ≡ Some NotCancellable
naming_uncancellable_sections_is_refused seen sections uncancellable = rw (sections, uncancellable) refl

-- no true clause cancels nothing, in a team that allows cancellation
pub no_clause_without_a_cancellation : (kind : CancelKind) (m : ℕ) (reply : Reply) (h : List Event) → (reply ≡ Cancelling true → ⊥) → AnswersCancel true kind true m reply h → ⊥
no_clause_without_a_cancellation kind m reply h wrong answer = wrong answer

-- no cancelled share is answered to be uncancelled
pub no_denial_of_a_cancellation : (kind : CancelKind) (clause : Bool) (m : ℕ) (reply : Reply) (h : List Event) → names_cancelled kind m h ≡ true → (reply ≡ Cancelling true → ⊥) → AnswersCancel true kind clause m reply h → ⊥
no_denial_of_a_cancellation kind clause m reply h cancelled wrong answer = wrong (answer ∙ ap Cancelling (or_right clause (names_cancelled kind m h) cancelled))

-- no false clause cancels
pub no_cancellation_by_a_false_clause : (kind : CancelKind) (allowed : Bool) (m : ℕ) (reply : Reply) (h : List Event) → names_cancelled kind m h ≡ false → (reply ≡ Cancelling false → ⊥) → AnswersCancel allowed kind false m reply h → ⊥
no_cancellation_by_a_false_clause kind true m reply h uncancelled wrong answer = wrong (answer ∙ ap Cancelling uncancelled)
no_cancellation_by_a_false_clause kind false m reply h uncancelled wrong answer = wrong answer

-- and none does in a team that allows no cancellation
pub no_cancellation_where_none_is_allowed : (kind : CancelKind) (clause : Bool) (m : ℕ) (reply : Reply) (h : List Event) → (reply ≡ Cancelling false → ⊥) → AnswersCancel false kind clause m reply h → ⊥
no_cancellation_where_none_is_allowed kind clause m reply h wrong answer = wrong answer

-- What the shares themselves answer

-- nobody enters a share of another shape
pub no_opening_of_another_shape : (members m : ℕ) (shape : Shape) (opening : Opening) (h : List Event) → shape_differs shape (shape_at (shares_entered m h) h) ≡ true → (opening ≡ Differs → ⊥) → MayOpen members m shape opening h → ⊥
no_opening_of_another_shape members m shape Entered h differs wrong answer = absurd (let same = answer.0 in cc)
no_opening_of_another_shape members m shape NotYet h differs wrong answer = absurd (let same = answer.0 in cc)
no_opening_of_another_shape members m shape Differs h differs wrong answer = wrong refl

-- or one for which there is no room yet
pub no_opening_without_room : (members m n old : ℕ) (shape : Shape) (opening : Opening) (h : List Event) → shape_differs shape (shape_at (shares_entered m h) h) ≡ false → shares_entered m h ≡ old + OPEN_SHARES → n < members → (Happened (End old n) h → ⊥) → (opening ≡ NotYet → ⊥) →
    MayOpen members m shape opening h → ⊥
no_opening_without_room members m n old shape Entered h same number member inside wrong answer = inside (over_stands members old h (room_over members (shares_entered m h) old h number answer.1) n member)
no_opening_without_room members m n old shape NotYet h same number member inside wrong answer = wrong refl
no_opening_without_room members m n old shape Differs h same number member inside wrong answer = absurd (cc)

-- and each other it enters
pub no_waiting_with_room : (members m : ℕ) (shape : Shape) (opening : Opening) (h : List Event) → shape_differs shape (shape_at (shares_entered m h) h) ≡ false → has_room members (shares_entered m h) h ≡ true → (opening ≡ Entered → ⊥) → MayOpen members m shape opening h → ⊥
no_waiting_with_room members m shape Entered h same room wrong answer = wrong refl
no_waiting_with_room members m shape NotYet h same room wrong answer = absurd (let full = answer.1 in cc)
no_waiting_with_room members m shape Differs h same room wrong answer = absurd (cc)

-- no claim outside of a share
pub no_claim_outside : (members m : ℕ) (answer : Option Piece) (h : List Event) → open_share m h ≡ None → Claims members m answer h → ⊥
no_claim_outside members m answer h outside claims = let inside = claims.there in absurd (cc)

-- of anything but the least piece that nobody took of those that are the member's to take
pub no_claim_but_of_the_next_piece : (members m : ℕ) (answer : Option Piece) (h : List Event) → ((share : ℕ) (shape : Shape) → open_share m h ≡ Some (share, shape) → answer ≡ next_for (schedule members) shape share m h → ⊥) → Claims members m answer h → ⊥
no_claim_but_of_the_next_piece members m answer h apart claims = apart claims.share.0 claims.share.1 claims.there claims.least

-- without an iteration
pub no_claim_without_iterations : (members m low high : ℕ) (h : List Event) → high ≤ low → Claims members m (Some (low, high)) h → ⊥
no_claim_without_iterations members m low high h empty claims = let some = claims.within.0 in omega (arith, empty, some)

-- or past the last iteration
pub no_claim_past_the_last_iteration : (members m low high : ℕ) (h : List Event) → ((share : ℕ) (shape : Shape) → open_share m h ≡ Some (share, shape) → shape.trips < high) → Claims members m (Some (low, high)) h → ⊥
no_claim_past_the_last_iteration members m low high h past claims = let beyond = past claims.share.0 claims.share.1 claims.there in let within = claims.within.1 in omega (arith, beyond, within)

-- Lists of calls

-- what may not be called is not made
pub no_call_made_that_may_not_be : (members : ℕ) (step : ShareStep) (answer : ShareAnswer) (h : List Event) → runs.is_made members step h ≡ false → (answer ≡ NotMade → ⊥) → runs.IsAnswer members step answer h → ⊥
no_call_made_that_may_not_be members step NotMade h never wrong is = wrong refl
no_call_made_that_may_not_be members step _ h never wrong is = absurd (let made = is.0 in cc)

-- what may be is made, and answered as its call says
pub no_call_left_out : (members : ℕ) (step : ShareStep) (answer : ShareAnswer) (h : List Event) → runs.is_made members step h ≡ true → (runs.Answers members step.member step.call answer h → ⊥) → runs.IsAnswer members step answer h → ⊥
no_call_left_out members step NotMade h made wrong is = absurd (cc)
no_call_left_out members step _ h made wrong is = wrong is.1

-- a start is answered by an opening of its shape alone
pub no_other_answer_to_an_open : (members m : ℕ) (loop : LoopDesc) (answer : ShareAnswer) (h : List Event) → ((opening : Opening) → answer ≡ Opened opening → MayOpen members m (shape_of loop) opening h → ⊥) → runs.Answers members m (Open loop) answer h → ⊥
no_other_answer_to_an_open members m loop (Opened opening) h wrong is = wrong opening refl is
no_other_answer_to_an_open members m loop _ h wrong is = is

pub no_other_answer_to_open_sections : (members m count : ℕ) (kind : EndKind) (answer : ShareAnswer) (h : List Event) → ((opening : Opening) → answer ≡ Opened opening → MayOpen members m (sections_shape count kind) opening h → ⊥) →
    runs.Answers members m (OpenSections count kind) answer h → ⊥
no_other_answer_to_open_sections members m count kind (Opened opening) h wrong is = wrong opening refl is
no_other_answer_to_open_sections members m count kind _ h wrong is = is

pub no_other_answer_to_an_open_single : (members m : ℕ) (copies : Bool) (answer : ShareAnswer) (h : List Event) → ((opening : Opening) → answer ≡ Opened opening → MayOpen members m (single_shape copies) opening h → ⊥) → runs.Answers members m (OpenSingle copies) answer h → ⊥
no_other_answer_to_an_open_single members m copies (Opened opening) h wrong is = wrong opening refl is
no_other_answer_to_an_open_single members m copies _ h wrong is = is

-- a claim by a piece or none
pub no_other_answer_to_a_claim : (members m : ℕ) (answer : ShareAnswer) (h : List Event) → ((piece : Option Piece) → answer ≡ Claimed piece → Claims members m piece h → ⊥) → runs.Answers members m Claim answer h → ⊥
no_other_answer_to_a_claim members m (Claimed piece) h wrong is = wrong piece refl is
no_other_answer_to_a_claim members m _ h wrong is = is

-- a part and a piece by whether the turn is the member's
pub no_other_answer_to_a_begin_of_a_part : (members m iteration : ℕ) (answer : ShareAnswer) (h : List Event) → (answer ≡ Turned (own_turn members m h) → ⊥) → runs.Answers members m (Begin iteration) answer h → ⊥
no_other_answer_to_a_begin_of_a_part members m iteration (Turned begun) h wrong is = wrong (ap Turned is)
no_other_answer_to_a_begin_of_a_part members m iteration _ h wrong is = is

pub no_other_answer_to_a_hand_on : (members m : ℕ) (answer : ShareAnswer) (h : List Event) → (answer ≡ Turned (own_turn members m h) → ⊥) → runs.Answers members m HandOn answer h → ⊥
no_other_answer_to_a_hand_on members m (Turned handed) h wrong is = wrong (ap Turned is)
no_other_answer_to_a_hand_on members m _ h wrong is = is

-- the others by that they are done, and a look by whether the share is cancelled
pub no_other_answer_to_a_leave : (members m : ℕ) (answer : ShareAnswer) (h : List Event) → (answer ≡ Left → ⊥) → runs.Answers members m Leave answer h → ⊥
no_other_answer_to_a_leave members m Left h wrong is = wrong refl
no_other_answer_to_a_leave members m _ h wrong is = is

pub no_other_answer_to_an_end_of_a_part : (members m : ℕ) (answer : ShareAnswer) (h : List Event) → (answer ≡ Ended → ⊥) → runs.Answers members m EndPart answer h → ⊥
no_other_answer_to_an_end_of_a_part members m Ended h wrong is = wrong refl
no_other_answer_to_an_end_of_a_part members m _ h wrong is = is

pub no_other_answer_to_a_cancel : (members m : ℕ) (answer : ShareAnswer) (h : List Event) → (answer ≡ Cancelled → ⊥) → runs.Answers members m CancelShare answer h → ⊥
no_other_answer_to_a_cancel members m Cancelled h wrong is = wrong refl
no_other_answer_to_a_cancel members m _ h wrong is = is

pub no_other_answer_to_a_look : (members m : ℕ) (answer : ShareAnswer) (h : List Event) → (answer ≡ Saw (own_cancelled m h) → ⊥) → runs.Answers members m SeeCancelled answer h → ⊥
no_other_answer_to_a_look members m (Saw cancelled) h wrong is = wrong (ap Saw is)
no_other_answer_to_a_look members m _ h wrong is = is

-- no call is left without an answer
pub no_call_without_an_answer : (members : ℕ) (step : ShareStep) (steps : List ShareStep) (h : List Event) → runs.AreAnswers members (step ∷ steps) [] h → ⊥
no_call_without_an_answer members step steps h are = are

-- or with that of another
pub no_answer_of_another_call : (members : ℕ) (step : ShareStep) (steps : List ShareStep) (answer : ShareAnswer) (answers : List ShareAnswer) (h : List Event) → (runs.IsAnswer members step answer h → ⊥) → runs.AreAnswers members (step ∷ steps) (answer ∷ answers) h → ⊥
no_answer_of_another_call members step steps answer answers h wrong are = wrong are.0

pub no_later_answer_of_another_call : (members : ℕ) (step : ShareStep) (steps : List ShareStep) (answer : ShareAnswer) (answers : List ShareAnswer) (h : List Event) → (runs.AreAnswers members steps answers (runs.events_answered members step answer h) → ⊥) →
    runs.AreAnswers members (step ∷ steps) (answer ∷ answers) h → ⊥
no_later_answer_of_another_call members step steps answer answers h wrong are = wrong are.1
