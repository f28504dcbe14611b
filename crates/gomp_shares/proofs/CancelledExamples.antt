-- Loops and sections that are cancelled: for each line of a definition, of the rule and of a law what it says, and what it alone refuses.
use Rattle.std.proofs.Common.{◌≡◌, ℕ, true, false, List, [], ◌∷◌, Some, None, Ok, Err, refl, ap, arith, rules, inl, inr, length}
use Rattle.std.specs.Prelude.{map}
use Rattle.gomp_types.specs.declared.cancel.CancelKind.TheVariants.{Parallel, Loop as LoopKind, Sections as SectionsKind, Taskgroup}
use Rattle.gomp_types.specs.declared.cancel.Scope.TheVariants.{Region, OneShare, OneGroup}
use Rattle.gomp_types.specs.declared.loop_desc.EndKind.TheVariants.{Wait as WaitEnd, Cancellable}
use Rattle.gomp_types.specs.declared.refusal.Refusal.TheVariants.{OutsideShare, InOrdered, EndDiffers, NotDrained, NotCancellable}
use Rattle.gomp_types.specs.declared.reply.Reply.TheVariants.{Finished, Passed, Cancelling, Refused}
use Rattle.gomp_events.specs.declared.event.Event.{Event}
use Rattle.gomp_events.specs.declared.event.Event.TheVariants.{Enter, Take, Drained, End, Cancel as CancelEvent, See as SeeEvent}
use Rattle.gomp_types.specs.Pieces.{shape_of}
use Rattle.gomp_types.specs.Sections.{sections_shape}
use Rattle.gomp_types.specs.Singles.{single_shape}
use Rattle.gomp_types.specs.Values.{IsShape}
use Rattle.gomp_types.specs.Deals.{schedule}
use Rattle.gomp_events.specs.Laws.{Happened}
use Rattle.gomp_types.proofs.Booleans.{share_is}
use Rattle.gomp_types.proofs.IterationValues.{shape_is}
use Rattle.gomp_shares.specs.declared.admission.Construct.TheVariants.{Loop, Sections}
use Rattle.gomp_shares.specs.declared.calls.ShareCall.TheVariants.{Cancel, See}
use Rattle.gomp_shares.specs.declared.calls.ShareAnswer.TheVariants.{Left, Cancelled, Saw}
use Rattle.gomp_shares.specs.Calls.{is_free_construct, in_construct, kind_in, CanLeave, CanCancel, CanSee, CanEnd, events_cancelled, events_seen, seen_if, IsNoShareEvent}
use Rattle.gomp_shares.specs.Cancels.{cancel_place_tests, CanName, AnswersCancel, share_cancelled_by}
use Rattle.gomp_shares.specs.Admission.{all_end_tests}
use Rattle.gomp_shares.specs.Starts.{is_drained, drained_tests, sees_at_end, leaves, left_at_once}
use Rattle.gomp_shares.specs.Serves.{Ends, ended_unless_refused}
use Rattle.gomp_shares.specs.Loops.{AnswersLoopEnd}
use Rattle.gomp_shares.specs.Sections.{AnswersSectionsEnd}
use Rattle.gomp_shares.specs.Only.{shares_only}
use Rattle.gomp_shares.specs.Runs.{may_make}
use Rattle.gomp_shares.specs.Rules.{ShareRule}
use Rattle.gomp_shares.specs.Laws.{LeavesNothing, WholeWhereOver, CancelsCancellable, LeavesCancelled}
use Rattle.gomp_shares.specs.Examples.{IsRun, IsWrong, asks, ten, ordered_two, events_of, told_none, sees, sees_outside, sees_loop, sees_single, sees_leaving, cancellable_ten, in_cancellable, loop_cancelled, loop_seen, sections_cancelled, left_cancelled}
use Rattle.gomp_shares.proofs.RunExamples.{claims_piece}

-- What a member sees, and may do then

-- a member is free to leave once it was told that nothing is left, or has seen that its share is cancelled
pub free_by_what_is_seen :
    map is_free_construct (sees_loop cancellable_ten false (Some (0, 3)) 0 false ∷ sees_loop cancellable_ten true None 0 false ∷ sees_leaving (sees_loop cancellable_ten false (Some (0, 3)) 0 false) ∷ []) ≡ false ∷ true ∷ true ∷ []
free_by_what_is_seen = refl

-- so it may leave
pub may_leave_a_cancelled : CanLeave 2 1 (sees_leaving (sees_loop cancellable_ten false (Some (0, 3)) 0 false))
may_leave_a_cancelled = record { member = omega arith; inside = refl; done = refl; apart = refl }

-- loops and sections, and no single, are constructs that may be ended by a call
pub constructs_with_ends : map in_construct (None ∷ Some (0, shape_of ten) ∷ Some (0, sections_shape 3 WaitEnd) ∷ Some (0, single_shape false) ∷ []) ≡ false ∷ true ∷ true ∷ false ∷ []
constructs_with_ends = refl

-- a cancellation names them by their kind
pub kinds_that_are_named : (kind_in (Some (0, shape_of ten)) ≡ LoopKind) × (kind_in (Some (0, sections_shape 3 WaitEnd)) ≡ SectionsKind)
kinds_that_are_named = (refl, refl)

-- a member may cancel a loop that may be cancelled
pub may_cancel_a_loop : CanCancel 2 1 (sees_loop cancellable_ten false (Some (0, 3)) 0 false)
may_cancel_a_loop = record { member = omega arith; cancellable = refl }

-- one who is no member cannot
pub stranger_cannot_cancel : CanCancel 2 2 (sees_loop cancellable_ten false (Some (0, 3)) 0 false) → ⊥
stranger_cannot_cancel can = absurd (let member = can.member in omega arith)

-- nor can a member in a loop with another end, or outside
pub cannot_cancel_another : (CanCancel 2 1 (sees_loop ten false (Some (0, 3)) 0 false) → ⊥) × (CanCancel 2 1 (sees_outside 0) → ⊥)
cannot_cancel_another = (λ can. absurd (let cancellable = can.cancellable in cc), λ can. absurd (let cancellable = can.cancellable in cc))

-- it cancels the share that it is in
pub second_is_cancelled :
    events_cancelled 1 (Enter 1 1 (shape_of cancellable_ten) ∷ Enter 0 0 (shape_of cancellable_ten) ∷ []) ≡ CancelEvent 1 (OneShare 1) ∷ Enter 1 1 (shape_of cancellable_ten) ∷ Enter 0 0 (shape_of cancellable_ten) ∷ []
second_is_cancelled = refl

-- a member in a loop may see that
pub may_see_a_loop : CanSee 2 1 (sees_loop cancellable_ten false (Some (0, 3)) 0 false)
may_see_a_loop = record { member = omega arith; inside = refl }

-- one who is no member cannot, nor can a member in a single
pub cannot_see_another : (CanSee 2 2 (sees_loop cancellable_ten false (Some (0, 3)) 0 false) → ⊥) × (CanSee 2 1 (sees_single false None) → ⊥)
cannot_see_another = (λ can. absurd (let member = can.member in omega arith), λ can. absurd (let inside = can.inside in cc))

-- it sees it by the kind of its share
pub seen_by_its_kind : (events_seen 1 loop_cancelled ≡ SeeEvent 1 LoopKind ∷ loop_cancelled) × (events_seen 0 sections_cancelled ≡ SeeEvent 0 SectionsKind ∷ sections_cancelled)
seen_by_its_kind = (refl, refl)

-- or does not
pub seen_or_not : (seen_if true 1 loop_cancelled ≡ events_seen 1 loop_cancelled) × (seen_if false 1 loop_cancelled ≡ loop_cancelled)
seen_or_not = (refl, refl)

-- a member in a loop may end it
pub may_end_a_loop : CanEnd 2 1 (sees_loop cancellable_ten false (Some (0, 3)) 0 false)
may_end_a_loop = record { member = omega arith; inside = refl; apart = refl }

-- one who is no member cannot, nor can a member in a single, or in an ordered part
pub cannot_end_another : (CanEnd 2 2 (sees_loop ten false None 0 false) → ⊥) × (CanEnd 2 1 (sees_single false None) → ⊥) × (CanEnd 2 1 (sees_loop ordered_two false (Some (0, 1)) 1 true) → ⊥)
cannot_end_another = (λ can. absurd (let member = can.member in omega arith), λ can. absurd (let inside = can.inside in cc), λ can. absurd (let apart = can.apart in cc))

-- Events

-- the shares see the cancellation of a share
pub share_cancellations_are_seen : (m i : ℕ) → (IsNoShareEvent (CancelEvent m (OneShare i)) → ⊥) × (IsNoShareEvent (SeeEvent m LoopKind) → ⊥) × (IsNoShareEvent (SeeEvent m SectionsKind) → ⊥)
share_cancellations_are_seen m i = (λ is. is, λ is. is, λ is. is)

-- and no other
pub other_cancellations_are_aside : (m q : ℕ) → IsNoShareEvent (CancelEvent m Region) × IsNoShareEvent (CancelEvent m (OneGroup q)) × IsNoShareEvent (SeeEvent m Parallel) × IsNoShareEvent (SeeEvent m Taskgroup)
other_cancellations_are_aside m q = (tt, tt, tt, tt)

-- so these stay among the events of the shares, and the others do not
pub only_share_cancellations : shares_only (SeeEvent 1 Parallel ∷ CancelEvent 0 Region ∷ SeeEvent 0 Taskgroup ∷ CancelEvent 0 (OneGroup 0) ∷ loop_seen) ≡ loop_seen
only_share_cancellations = refl

-- Ends

-- a loop is drained for a member that was told so, and for each if it is cancelled, but not if the region is
pub drained_or_not :
    (is_drained 0 in_cancellable ≡ false) × (is_drained 0 (Drained 0 0 ∷ in_cancellable) ≡ true) × (is_drained 1 (Drained 0 0 ∷ in_cancellable) ≡ false) × (is_drained 1 loop_cancelled ≡ true)
    × (is_drained 1 (CancelEvent 0 Region ∷ in_cancellable) ≡ false)
drained_or_not = (refl, refl, refl, refl, refl)

-- the test of that
pub tests_of_drained : (drained_tests 0 in_cancellable ≡ (true, NotDrained) ∷ []) × (drained_tests 1 loop_cancelled ≡ (false, NotDrained) ∷ [])
tests_of_drained = (refl, refl)

-- a member sees at the end that its construct is cancelled, unless it has seen that, or was told that nothing is left
pub seen_at_the_end :
    (sees_at_end 1 loop_seen ≡ SeeEvent 1 LoopKind ∷ []) × (sees_at_end 0 loop_seen ≡ []) × (sees_at_end 0 (Drained 0 0 ∷ loop_cancelled) ≡ []) × (sees_at_end 0 sections_cancelled ≡ SeeEvent 0 SectionsKind ∷ [])
    × (sees_at_end 0 in_cancellable ≡ [])
seen_at_the_end = (refl, refl, refl, refl, refl)

-- and then leaves it
pub left_at_the_end : (leaves 1 loop_seen ≡ End 0 1 ∷ SeeEvent 1 LoopKind ∷ []) × (leaves 0 loop_seen ≡ End 0 0 ∷ [])
left_at_the_end = (refl, refl)

-- if it is not refused
pub finished_or_refused : (left_at_once 1 Finished loop_seen ≡ End 0 1 ∷ SeeEvent 1 LoopKind ∷ loop_seen) × (left_at_once 1 (Refused NotDrained) loop_seen ≡ loop_seen)
finished_or_refused = (refl, refl)

-- all tests of an end
pub tests_of_both_ends :
    (all_end_tests Loop Cancellable 0 in_cancellable ≡ (false, OutsideShare) ∷ (false, InOrdered) ∷ (false, EndDiffers) ∷ (true, NotDrained) ∷ [])
    × (all_end_tests Loop WaitEnd 1 loop_cancelled ≡ (false, OutsideShare) ∷ (false, InOrdered) ∷ (true, EndDiffers) ∷ (false, NotDrained) ∷ [])
    × (all_end_tests Sections Cancellable 0 sections_cancelled ≡ (false, OutsideShare) ∷ (false, EndDiffers) ∷ (false, NotDrained) ∷ [])
tests_of_both_ends = (refl, refl, refl)

-- a cancelled loop may be ended with pieces left, also by a member that has not seen that it is cancelled
pub answers_end_of_cancelled : AnswersLoopEnd Cancellable 0 Finished loop_seen × AnswersLoopEnd Cancellable 1 Finished loop_seen
answers_end_of_cancelled = ((refl, refl), (refl, refl))

-- but by no other end call, and before it is cancelled by none
pub answers_no_other_end : (AnswersLoopEnd WaitEnd 0 Finished loop_seen → ⊥) × (AnswersLoopEnd Cancellable 0 Finished in_cancellable → ⊥) × AnswersLoopEnd Cancellable 0 (Refused NotDrained) in_cancellable
answers_no_other_end = (λ answer. absurd (let none = answer.0 in cc), λ answer. absurd (let none = answer.0 in cc), refl)

-- so it is with sections, whose end passes no barrier
pub answers_end_of_cancelled_sections : AnswersSectionsEnd Cancellable 0 Finished sections_cancelled × (AnswersSectionsEnd Cancellable 0 Passed sections_cancelled → ⊥)
answers_end_of_cancelled_sections = ((refl, refl), λ answer. absurd (let done = answer.1 in cc))

-- a member that is not refused has left
pub ended_or_refused : (ended_unless_refused {A = ℕ} (Ok 0) 1 loop_seen ≡ End 0 1 ∷ SeeEvent 1 LoopKind ∷ loop_seen) × (ended_unless_refused {A = ℕ} (Err NotDrained) 1 loop_seen ≡ loop_seen)
ended_or_refused = (refl, refl)

-- The end of a loop that has a part above the shares

-- shares that are their list of events, beside a number of which no event says anything
abbrev Counted : Type 0
Counted = ℕ × List Event

abbrev counted_for : Counted → List Event → Type 0
counted_for shares h = shares.1 ≡ h

-- shares that stand for nothing
abbrev counted_for_none : Counted → List Event → Type 0
counted_for_none shares h = ⊥

-- a member ends a cancelled loop
pub ends_done : Ends counted_for (0, loop_seen) (1, End 0 1 ∷ SeeEvent 1 LoopKind ∷ loop_seen) (Ok tt) (all_end_tests Loop Cancellable) 1
ends_done = record {
  known = (loop_seen, refl);
  answer = λ h is. rw (← is) refl;
  stands_for = λ h is. rw (← is) refl;
  kept = λ refusal is. absurd (cc);
}

-- the shares stand for some events
pub ends_unknown : Ends counted_for_none (0, []) (0, []) (Err NotDrained) (all_end_tests Loop Cancellable) 1 → ⊥
ends_unknown ended = ended.known.1

-- it does not end it if a test holds
pub ends_though_refused : Ends counted_for (0, in_cancellable) (0, End 0 0 ∷ SeeEvent 0 LoopKind ∷ in_cancellable) (Ok tt) (all_end_tests Loop Cancellable) 0 → ⊥
ends_though_refused ended = absurd (let done = ended.answer in_cancellable refl in cc)

-- nor is it refused if none holds
pub ends_not : Ends counted_for (0, loop_seen) (0, loop_seen) (Err NotDrained) (all_end_tests Loop Cancellable) 1 → ⊥
ends_not ended = absurd (let done = ended.answer loop_seen refl in cc)

-- one that is told so has left
pub ends_without_leaving : Ends counted_for (0, loop_seen) (0, loop_seen) (Ok tt) (all_end_tests Loop Cancellable) 1 → ⊥
ends_without_leaving ended = absurd (let after = ap (λ (h : List Event). length h) (ended.stands_for loop_seen refl) in omega arith)

-- and has seen that the loop is cancelled
pub ends_unseen : Ends counted_for (0, loop_seen) (0, End 0 1 ∷ loop_seen) (Ok tt) (all_end_tests Loop Cancellable) 1 → ⊥
ends_unseen ended = absurd (let after = ap (λ (h : List Event). length h) (ended.stands_for loop_seen refl) in omega arith)

-- a refusal changes nothing
pub ends_refused_anew : Ends counted_for (0, in_cancellable) (1, in_cancellable) (Err NotDrained) (all_end_tests Loop Cancellable) 0 → ⊥
ends_refused_anew ended = absurd (let same = ended.kept NotDrained refl in let number = ap (λ (shares : Counted). shares.0) same in omega arith)

-- Cancel constructs and cancellation points

-- the tests, in a loop and in sections
pub place_tests_of_a_cancel :
    (cancel_place_tests LoopKind (sees_loop cancellable_ten false None 0 false) ≡ (false, OutsideShare) ∷ (false, NotCancellable) ∷ [])
    × (cancel_place_tests LoopKind (sees_loop ten false None 0 false) ≡ (false, OutsideShare) ∷ (true, NotCancellable) ∷ [])
    × (cancel_place_tests LoopKind (sees 1 (Some (0, sections_shape 3 Cancellable)) false None 0 false) ≡ (true, OutsideShare) ∷ (false, NotCancellable) ∷ [])
    × (cancel_place_tests SectionsKind (sees 1 (Some (0, sections_shape 3 Cancellable)) false None 0 false) ≡ (false, OutsideShare) ∷ (false, NotCancellable) ∷ [])
    × (cancel_place_tests SectionsKind (sees_loop ten false None 0 false) ≡ (true, OutsideShare) ∷ (true, NotCancellable) ∷ [])
place_tests_of_a_cancel = (refl, refl, refl, refl, refl)

-- none of the region and of groups
pub no_place_tests : (cancel_place_tests Parallel (sees_outside 0) ≡ []) × (cancel_place_tests Taskgroup (sees_outside 0) ≡ [])
no_place_tests = (refl, refl)

-- a member names the loop that it is in
pub names_its_loop : CanName 2 1 LoopKind (sees_loop cancellable_ten false None 0 false)
names_its_loop = record { member = omega arith; share = refl; place = refl }

-- one who is no member cannot; nor does it name a share by another kind, or one that may not be cancelled
pub names_no_other :
    (CanName 2 2 LoopKind (sees_loop cancellable_ten false None 0 false) → ⊥) × (CanName 2 1 Parallel (sees_loop cancellable_ten false None 0 false) → ⊥)
    × (CanName 2 1 SectionsKind (sees_loop cancellable_ten false None 0 false) → ⊥) × (CanName 2 1 LoopKind (sees_loop ten false None 0 false) → ⊥)
names_no_other = (λ can. absurd (let member = can.member in omega arith), λ can. absurd (let share = can.share in cc), λ can. absurd (let place = can.place in cc), λ can. absurd (let place = can.place in cc))

-- a true clause cancels, if that is allowed; a false one tells of a cancellation
pub answers_a_cancel :
    AnswersCancel true LoopKind true 1 (Cancelling true) in_cancellable × AnswersCancel false LoopKind true 1 (Cancelling false) in_cancellable × AnswersCancel true LoopKind false 1 (Cancelling false) in_cancellable
    × AnswersCancel true LoopKind false 1 (Cancelling true) loop_cancelled
answers_a_cancel = (refl, refl, refl, refl)

-- who cancels has seen that
pub cancel_adds : share_cancelled_by LoopKind true 1 (Cancelling true) in_cancellable ≡ SeeEvent 1 LoopKind ∷ CancelEvent 1 (OneShare 0) ∷ in_cancellable
cancel_adds = refl

-- who is told of a cancellation has seen it; else nothing is added
pub point_adds : (share_cancelled_by LoopKind false 1 (Cancelling true) loop_cancelled ≡ SeeEvent 1 LoopKind ∷ loop_cancelled) × (share_cancelled_by LoopKind false 1 (Cancelling false) in_cancellable ≡ in_cancellable)
point_adds = (refl, refl)

-- Calls

-- which may be made
pub makes_a_cancel :
    map (λ seen. may_make seen Cancel) (sees_loop cancellable_ten false None 0 false ∷ sees_loop ten false None 0 false ∷ sees_outside 0 ∷ []) ≡ true ∷ false ∷ false ∷ []
makes_a_cancel = refl

pub makes_a_look : map (λ seen. may_make seen See) (sees_loop ten false None 0 false ∷ sees_single false None ∷ sees_outside 0 ∷ []) ≡ true ∷ false ∷ false ∷ []
makes_a_look = refl

-- a loop that is cancelled
pub cancellable_fits : IsShape (shape_of cancellable_ten)
cancellable_fits = shape_is cancellable_ten (search rules) (search rules) refl

pub run_left_cancelled : IsRun 2 left_cancelled
run_left_cancelled =
    ((refl, (refl, refl)), ((refl, (refl, refl)), ((refl, claims_piece 2 0 (0, shape_of cancellable_ten) _ _ refl cancellable_fits refl (omega arith, omega arith)), (refl, ((refl, refl), ((refl, tt), (refl, ((refl, refl), ((refl, tt), ((refl, claims_piece 2 1 (0, shape_of cancellable_ten) _ _ refl cancellable_fits refl (omega arith, omega arith)), ((refl, refl), ((refl, tt), (refl, (refl, tt))))))))))))))

pub events_of_the_cancelled : events_of 2 left_cancelled ≡
    End 0 1 ∷ SeeEvent 1 LoopKind ∷ Take 0 1 3 6 ∷ End 0 0 ∷ SeeEvent 0 LoopKind ∷ CancelEvent 0 (OneShare 0) ∷ Take 0 0 0 3 ∷ Enter 0 1 (shape_of cancellable_ten) ∷ Enter 0 0 (shape_of cancellable_ten) ∷ []
events_of_the_cancelled = refl

-- the answer to a question is whether the loop is cancelled, and a cancellation is answered by that
pub wrong_cancels : IsWrong 2 told_none (asks 1 See) (Saw true) × IsWrong 2 left_cancelled (asks 0 Cancel) Cancelled × IsWrong 2 told_none (asks 1 See) Cancelled × IsWrong 2 told_none (asks 1 See) Left
wrong_cancels = (λ answer. absurd (let same = answer.1 in cc), λ answer. absurd (let made = answer.0 in cc), λ answer. answer.1, λ answer. answer.1)

-- The rule

-- a member leaves a loop with pieces left once it has seen that the loop is cancelled
pub rule_leaves_seen : ShareRule (schedule 2) 2 (End 0 0) loop_seen
rule_leaves_seen = record { shape = shape_of cancellable_ten; inside = refl; done = inr refl; apart = refl }

-- and not before
pub rule_leaves_unseen : ShareRule (schedule 2) 2 (End 0 0) loop_cancelled → ⊥
rule_leaves_unseen rule = elim rule.done [
  | inl none ↦ absurd (let same = (share_is 0 0 (shape_of cancellable_ten) rule.shape rule.inside).1 in let is = rw (← same) at none in cc)
  | inr leaving ↦ absurd (cc)
]

-- nor if the other has
pub rule_leaves_for_another : ShareRule (schedule 2) 2 (End 0 1) loop_seen → ⊥
rule_leaves_for_another rule = elim rule.done [
  | inl none ↦ absurd (let same = (share_is 0 0 (shape_of cancellable_ten) rule.shape rule.inside).1 in let is = rw (← same) at none in cc)
  | inr leaving ↦ absurd (cc)
]

-- a member cancels the share that it is in
pub rule_cancels : ShareRule (schedule 2) 2 (CancelEvent 0 (OneShare 0)) in_cancellable
rule_cancels = record { shape = shape_of cancellable_ten; inside = refl; cancellable = refl }

-- a member sees that its loop is cancelled, and only then, and only the loop
pub rule_sees : ShareRule (schedule 2) 2 (SeeEvent 1 LoopKind) loop_cancelled × (ShareRule (schedule 2) 2 (SeeEvent 1 LoopKind) in_cancellable → ⊥) × (ShareRule (schedule 2) 2 (SeeEvent 1 SectionsKind) loop_cancelled → ⊥)
rule_sees = (refl, λ is. absurd (cc), λ is. absurd (cc))

-- a cancelled region is none of the share
pub rule_sees_no_region : ShareRule (schedule 2) 2 (SeeEvent 1 LoopKind) (CancelEvent 0 Region ∷ in_cancellable) → ⊥
rule_sees_no_region is = absurd (cc)

-- The laws

-- a member leaves a cancelled loop with a piece left
pub leaves_cancelled_early : LeavesNothing (schedule 2) (End 0 0) loop_cancelled
leaves_cancelled_early = λ shape stands whole. absurd (cc)

-- not if another share is cancelled, or the region
pub leaves_beside_the_cancel : (LeavesNothing (schedule 2) (End 0 0) (CancelEvent 1 (OneShare 1) ∷ in_cancellable) → ⊥) × (LeavesNothing (schedule 2) (End 0 0) (CancelEvent 1 Region ∷ in_cancellable) → ⊥)
leaves_beside_the_cancel = (
  (λ law. absurd (let none = law (shape_of cancellable_ten) (inr (inr (inr (inr (inl refl))))) refl in cc)),
  (λ law. absurd (let none = law (shape_of cancellable_ten) (inr (inr (inr (inr (inl refl))))) refl in cc)),
)

-- one member left a cancelled loop, and another loop with iterations left
abbrev left_the_next : List Event
left_the_next = End 1 0 ∷ Take 1 0 0 3 ∷ Enter 1 0 (shape_of cancellable_ten) ∷ End 0 0 ∷ SeeEvent 0 LoopKind ∷ CancelEvent 0 (OneShare 0) ∷ Enter 0 0 (shape_of cancellable_ten) ∷ []

-- which is not whole
pub whole_beside_the_cancel : WholeWhereOver 1 left_the_next → ⊥
whole_beside_the_cancel law = absurd (let last = law 1 0 (shape_of cancellable_ten) (inr (inr (inl refl))) (λ m lt. let first : 0 ≡ m = omega arith in inl (rw first refl)) refl 3 (omega arith) in omega arith)

-- nor if the region is cancelled later
pub whole_before_the_cancel : WholeWhereOver 1 (CancelEvent 0 Region ∷ left_the_next) → ⊥
whole_before_the_cancel law = absurd (let last = law 1 0 (shape_of cancellable_ten) (inr (inr (inr (inl refl)))) (λ m lt. let first : 0 ≡ m = omega arith in inr (inl (rw first refl))) refl 3 (omega arith) in omega arith)

-- a member in a loop cancels it
pub cancels_its_loop : CancelsCancellable (CancelEvent 0 (OneShare 0)) in_cancellable
cancels_its_loop = (shape_of cancellable_ten, inr (inr (inr (inl refl))), never_left, refl)
  where
    never_left : Happened (End 0 0) in_cancellable → ⊥
    never_left (inl e) = absurd (cc)
    never_left (inr (inl e)) = absurd (cc)
    never_left (inr (inr (inl e))) = absurd (cc)
    never_left (inr (inr (inr (inl e)))) = absurd (cc)
    never_left (inr (inr (inr (inr never)))) = never

-- who leaves a loop early leaves one that some member cancelled
pub leaves_what_is_cancelled : LeavesCancelled (schedule 2) (End 0 1) loop_cancelled
leaves_what_is_cancelled = λ shape stands some. (0, inl refl)
