-- A list of calls, one by one.
use Rattle.std.proofs.Common.{◌≡◌, ℕ, ◌<◌, true, false, List, [], ◌∷◌, ◌++◌, length, Some, None, Err, refl, arith}
use Rattle.std.specs.Prelude.{Option, ◌&&◌, ◌^◌, nat_lt, not, is_none, is_some, is_ok}
use Rattle.std.proofs.lemmas.Bool.Decides.{nat_tests}
use Rattle.gomp_types.specs.declared.loop_desc.LoopDesc.{LoopDesc}
use Rattle.gomp_types.specs.Shapes.{is_loop}
use Rattle.gomp_events.specs.Ordered.{is_ordered, is_in_rest}
use Rattle.gomp_types.specs.declared.refusal.Refusal.{Refusal}
use Rattle.gomp_types.specs.declared.shape.Shape.{Shape}
use Rattle.gomp_types.specs.Values.{IsShape}
use Rattle.gomp_events.specs.declared.event.Event.{Event}
use Rattle.gomp_types.specs.Tests.{first_holding, outcome}
use Rattle.gomp_types.specs.Iterations.{loop_tests}
use Rattle.gomp_types.proofs.Booleans.{and_left, and_right, and_false, false_of_not}
use Rattle.gomp_types.proofs.TestRows.{outcome_refused}
use Rattle.gomp_events.specs.declared.seen.Seen.{Seen}
use Rattle.gomp_shares.specs.declared.calls.ShareCall.TheVariants.{Open, Claim, Leave, Begin, HandOn}
use Rattle.gomp_shares.specs.declared.calls.ShareStep.{ShareStep}
use Rattle.gomp_shares.specs.declared.calls.ShareAnswer.{ShareAnswer}
use Rattle.gomp_shares.specs.Calls.{CanOpen, CanClaim, CanLeave, CanBeginPart, CanHandOn, is_free_construct}
use Rattle.gomp_events.specs.Seen.{seen_of}
use Rattle.gomp_shares.specs.Runs.{may_make, is_made, IsAnswer, events_answered, events_of_run, AreAnswers}

-- a loop is fine if none of its tests holds
pub outcome_is_ok : {A : Type 0} (first : Option Refusal) (value : A) → is_ok (outcome first value) ≡ is_none first
outcome_is_ok None value = refl
outcome_is_ok (Some refusal) value = refl

is_none_is_none : {A : Type 0} (own : Option A) → is_none own ≡ true → own ≡ None
is_none_is_none None e = refl
is_none_is_none (Some x) e = absurd (cc)

pub loop_fine : (seen : Seen) (loop : LoopDesc) → may_make seen (Open loop) ≡ true → first_holding (loop_tests loop) ≡ None
loop_fine seen loop e = is_none_is_none (first_holding (loop_tests loop)) (and_right _ (is_none (first_holding (loop_tests loop))) e)

-- if a loop may be opened, its member is outside and has entered few shares
pub opens_loop : (seen : Seen) (loop : LoopDesc) → may_make seen (Open loop) ≡ true → (is_none seen.current && nat_lt seen.entered (2 ^ 48)) ≡ true
opens_loop seen loop e = and_left _ (is_none (first_holding (loop_tests loop))) e

pub can_open : (members m : ℕ) (shape : Shape) (seen : Seen) → m < members → IsShape shape → (shape.ordered ≡ true → is_loop shape.kind ≡ true) → (is_none seen.current && nat_lt seen.entered (2 ^ 48)) ≡ true → CanOpen members m shape seen
can_open members m shape seen lt valid ordered may =
    let few = and_right (is_none seen.current) (nat_lt seen.entered (2 ^ 48)) may in
    record {
      member = lt;
      valid = valid;
      ordered = ordered;
      outside = outside_is seen.current (and_left (is_none seen.current) (nat_lt seen.entered (2 ^ 48)) may);
      few = grind (arith, nat_tests, few);
    }
  where
    outside_is : {A : Type 0} (own : Option A) → is_none own ≡ true → is_some own ≡ false
    outside_is None e = refl
    outside_is (Some x) e = absurd (cc)

pub open_fits : {A : Type 0} (seen : Seen) (loop : LoopDesc) (value : A) (refusal : Refusal) → may_make seen (Open loop) ≡ true → outcome (first_holding (loop_tests loop)) value ≡ Err refusal → ⊥
open_fits seen loop value refusal e is =
    let holds = outcome_refused (first_holding (loop_tests loop)) value refusal is in let fails = loop_fine seen loop e in cc

-- what was tested of what the member sees is so of the events
pub call_is_made : (members : ℕ) (step : ShareStep) (seen : Seen) (h : List Event) → seen ≡ seen_of step.member h → step.member < members → may_make seen step.call ≡ true → is_made members step h ≡ true
call_is_made members step seen h e lt may =
    let team : nat_lt step.member members ≡ true = grind (arith, nat_tests) in
    rw team (rw e at may)

pub not_made : (members : ℕ) (step : ShareStep) (seen : Seen) (h : List Event) → seen ≡ seen_of step.member h → may_make seen step.call ≡ false → is_made members step h ≡ false
not_made members step seen h e may = and_false (nat_lt step.member members) (may_make (seen_of step.member h) step.call) (rw e at may)

-- one more call
pub events_after_more : (members : ℕ) (steps : List ShareStep) (answers : List ShareAnswer) (step : ShareStep) (answer : ShareAnswer) (h : List Event) → length answers ≡ length steps →
    events_of_run members (steps ++ step ∷ []) (answers ++ answer ∷ []) h ≡ events_answered members step answer (events_of_run members steps answers h)
events_after_more members [] [] step answer h e = refl
events_after_more members [] (a ∷ answers) step answer h e = absurd (omega arith)
events_after_more members (s ∷ steps) [] step answer h e = absurd (omega arith)
events_after_more members (s ∷ steps) (a ∷ answers) step answer h e = events_after_more members steps answers step answer (events_answered members s a h) (omega arith)

pub are_answers_more : (members : ℕ) (steps : List ShareStep) (answers : List ShareAnswer) (step : ShareStep) (answer : ShareAnswer) (h : List Event) → length answers ≡ length steps →
    AreAnswers members steps answers h → IsAnswer members step answer (events_of_run members steps answers h) → AreAnswers members (steps ++ step ∷ []) (answers ++ answer ∷ []) h
are_answers_more members [] [] step answer h e are is = (is, tt)
are_answers_more members [] (a ∷ answers) step answer h e are is = absurd (omega arith)
are_answers_more members (s ∷ steps) [] step answer h e are is = absurd (omega arith)
are_answers_more members (s ∷ steps) (a ∷ answers) step answer h e are is = (are.0, are_answers_more members steps answers step answer (events_answered members s a h) (omega arith) are.1 is)

-- What a call asks, if it may be made

pub can_claim : (members m : ℕ) (seen : Seen) → m < members → may_make seen Claim ≡ true → CanClaim members m seen
can_claim members m seen lt may =
    let both = and_left (is_some seen.current && not seen.drained) (not seen.in_part) may in
    record {
      member = lt;
      inside = and_left (is_some seen.current) (not seen.drained) both;
      more = false_of_not seen.drained (and_right (is_some seen.current) (not seen.drained) both);
      apart = false_of_not seen.in_part (and_right (is_some seen.current && not seen.drained) (not seen.in_part) may);
    }

pub can_leave : (members m : ℕ) (seen : Seen) → m < members → may_make seen Leave ≡ true → CanLeave members m seen
can_leave members m seen lt may =
    let both = and_left (is_some seen.current && is_free_construct seen) (not seen.in_part) may in
    record {
      member = lt;
      inside = and_left (is_some seen.current) (is_free_construct seen) both;
      done = and_right (is_some seen.current) (is_free_construct seen) both;
      apart = false_of_not seen.in_part (and_right (is_some seen.current && is_free_construct seen) (not seen.in_part) may);
    }

pub can_begin : (members m iteration : ℕ) (seen : Seen) → m < members → may_make seen (Begin iteration) ≡ true → CanBeginPart members m iteration seen
can_begin members m iteration seen lt may =
    let both = and_left (is_ordered seen.current && not seen.in_part) (is_in_rest seen.piece seen.next_part (Some iteration)) may in
    record {
      member = lt;
      ordered = and_left (is_ordered seen.current) (not seen.in_part) both;
      apart = false_of_not seen.in_part (and_right (is_ordered seen.current) (not seen.in_part) both);
      rest = and_right (is_ordered seen.current && not seen.in_part) (is_in_rest seen.piece seen.next_part (Some iteration)) may;
    }

pub can_hand : (members m : ℕ) (seen : Seen) → m < members → may_make seen HandOn ≡ true → CanHandOn members m seen
can_hand members m seen lt may = record {
  member = lt;
  ordered = and_left (is_ordered seen.current) (not seen.in_part) may;
  apart = false_of_not seen.in_part (and_right (is_ordered seen.current) (not seen.in_part) may);
}
