-- A list of calls on a team's work-shares, with their answers: the events that they give. (own)
use Rattle.std.specs.Prelude.{ℕ, ◌≡◌, ◌&&◌, nat_lt, not, is_some, is_none, Bool, true, false, List, [], ◌∷◌, Some}
use Rattle.gomp_events.specs.declared.event.Event.{Event}
use Rattle.gomp_types.specs.Tests.{Test, first_holding}
use Rattle.gomp_types.specs.Iterations.{loop_tests}
use Rattle.gomp_types.specs.Pieces.{shape_of}
use Rattle.gomp_types.specs.Sections.{sections_shape, sections_tests}
use Rattle.gomp_types.specs.Singles.{single_shape}
use Rattle.gomp_events.specs.Ordered.{is_ordered, is_in_rest}
use Rattle.gomp_events.specs.declared.seen.Seen.{Seen}
use Rattle.gomp_shares.specs.declared.calls.ShareCall.{ShareCall}
use Rattle.gomp_shares.specs.declared.calls.ShareCall.TheVariants.{Open, OpenSections, OpenSingle, Claim, Leave, Begin, EndPart, HandOn, Cancel, See}
use Rattle.gomp_shares.specs.declared.calls.ShareStep.{ShareStep}
use Rattle.gomp_shares.specs.declared.calls.ShareAnswer.{ShareAnswer}
use Rattle.gomp_shares.specs.declared.calls.ShareAnswer.TheVariants.{Opened, Claimed, Left, Turned, Ended, Cancelled, Saw, NotMade}
use Rattle.gomp_events.specs.Cancels.{may_be_cancelled, own_cancelled}
use Rattle.gomp_events.specs.Seen.{seen_of}
use Rattle.gomp_shares.specs.Calls.{most_shares, is_free_construct, in_construct, events_cancelled, seen_if, MayOpen, events_opened, Claims, events_claimed, events_left, own_turn, part_begun, part_ended, piece_handed}

-- whether a member that sees this of its place may open its next share, if these are the tests of the construct by itself
abbrev pub may_open : Seen → List Test → Bool
may_open seen tests = is_none seen.current && nat_lt seen.entered most_shares && is_none (first_holding tests)

-- whether it may make the call
abbrev pub may_make : Seen → ShareCall → Bool
may_make seen (Open loop) = may_open seen (loop_tests loop)
may_make seen (OpenSections count end_kind) = may_open seen (sections_tests count)
may_make seen (OpenSingle copies) = may_open seen []
may_make seen Claim = is_some seen.current && not seen.drained && not seen.in_part
may_make seen Leave = is_some seen.current && is_free_construct seen && not seen.in_part
may_make seen (Begin iteration) = is_ordered seen.current && not seen.in_part && is_in_rest seen.piece seen.next_part (Some iteration)
may_make seen EndPart = seen.in_part
may_make seen HandOn = is_ordered seen.current && not seen.in_part
may_make seen Cancel = may_be_cancelled seen.current
may_make seen See = in_construct seen.current

-- a call is made exactly if its member is in the team and may make it
abbrev pub is_made : ℕ → ShareStep → List Event → Bool
is_made members step h = nat_lt step.member members && may_make (seen_of step.member h) step.call

-- the answer to a call that is made
abbrev pub Answers : ℕ → ℕ → ShareCall → ShareAnswer → List Event → Type 0
Answers members m (Open loop) (Opened opening) h = MayOpen members m (shape_of loop) opening h
Answers members m (OpenSections count end_kind) (Opened opening) h = MayOpen members m (sections_shape count end_kind) opening h
Answers members m (OpenSingle copies) (Opened opening) h = MayOpen members m (single_shape copies) opening h
Answers members m Claim (Claimed piece) h = Claims members m piece h
Answers members m Leave Left h = Unit {0}
Answers members m (Begin iteration) (Turned begun) h = begun ≡ own_turn members m h
Answers members m EndPart Ended h = Unit {0}
Answers members m HandOn (Turned handed) h = handed ≡ own_turn members m h
Answers members m Cancel Cancelled h = Unit {0}
Answers members m See (Saw cancelled) h = cancelled ≡ own_cancelled m h
Answers members m _ _ h = ⊥

-- the answer to a step: that of its call if it is made, else that it is not made
abbrev pub IsAnswer : ℕ → ShareStep → ShareAnswer → List Event → Type 0
IsAnswer members step NotMade h = is_made members step h ≡ false
IsAnswer members step answer h = (is_made members step h ≡ true) × Answers members step.member step.call answer h

-- the events after a call and its answer
abbrev pub answered_call : ℕ → ℕ → ShareAnswer → ShareCall → List Event → List Event
answered_call members m NotMade call h = h
answered_call members m (Opened opening) (Open loop) h = events_opened m (shape_of loop) opening h
answered_call members m (Opened opening) (OpenSections count end_kind) h = events_opened m (sections_shape count end_kind) opening h
answered_call members m (Opened opening) (OpenSingle copies) h = events_opened m (single_shape copies) opening h
answered_call members m (Claimed piece) call h = events_claimed m piece h
answered_call members m Left call h = events_left m h
answered_call members m (Turned begun) (Begin iteration) h = part_begun m iteration begun h
answered_call members m (Turned handed) HandOn h = piece_handed members m handed h
answered_call members m Ended call h = part_ended m h
answered_call members m Cancelled call h = events_cancelled m h
answered_call members m (Saw cancelled) call h = seen_if cancelled m h
answered_call members m _ _ h = h

-- the events after a step and its answer
abbrev pub events_answered : ℕ → ShareStep → ShareAnswer → List Event → List Event
events_answered members step answer h = answered_call members step.member answer step.call h

-- the events after these calls and answers, in order
abbrev pub events_of_run : ℕ → List ShareStep → List ShareAnswer → List Event → List Event
events_of_run members [] answers h = h
events_of_run members (step ∷ steps) [] h = h
events_of_run members (step ∷ steps) (answer ∷ answers) h = events_of_run members steps answers (events_answered members step answer h)

-- each answer is that of its call, after those before it
abbrev pub AreAnswers : ℕ → List ShareStep → List ShareAnswer → List Event → Type 0
AreAnswers members [] answers h = Unit {0}
AreAnswers members (step ∷ steps) [] h = ⊥
AreAnswers members (step ∷ steps) (answer ∷ answers) h = IsAnswer members step answer h × AreAnswers members steps answers (events_answered members step answer h)
