-- Each layer's refusal is the least of its tests, and the least of these is the step's.
use Rattle.std.proofs.Common.{◌≡◌, ◌≤◌, ℕ, Bool, true, false, List, ◌∷◌, Option, Some, None, refl, ap, sym, ◌∙◌}
use Rattle.std.specs.Prelude.{nat_le, is_some, Result, Ok, Err, IfOk}
use Rattle.gomp_types.specs.declared.call.Call.{Call}
use Rattle.gomp_types.specs.declared.call.Call.TheVariants.{Resume, Stop}
use Rattle.gomp_types.specs.declared.call.Step.{Step}
use Rattle.gomp_events.specs.declared.event.Event.{Event}
use Rattle.gomp_types.specs.declared.refusal.Clash.{Clash}
use Rattle.gomp_types.specs.declared.refusal.Refusal.{Refusal}
use Rattle.gomp_types.specs.declared.refusal.Refusal.TheVariants.{BadMember, Ended, Broken, Waiting}
use Rattle.gomp_types.specs.RefusalTexts.{number_of}
use Rattle.gomp_events.specs.Events.{has_left_region, clash_of}
use Rattle.gomp_events.specs.Breaks.{broken_tests}
use Rattle.gomp_types.specs.Least.{lesser, least}
use Rattle.gomp_model.specs.Past.{Past}
use Rattle.gomp_model.specs.Row.{leaving_tests, place_tests, board_tests, book_tests, row_tests}
use Rattle.gomp_types.specs.Resumes.{is_resume}
use Rattle.gomp_model.specs.Team.{row_at, member_tests, wait_tests, refusal_of}
use Rattle.gomp_laws.proofs.Layers.{step_layers, row_layers}
use Rattle.gomp_types.proofs.LeastTests.{lesser_assoc}
use Rattle.gomp_events.proofs.TestReadings.{up_to_is}
use Rattle.gomp_dispatch.proofs.Refused.{up_to, beginning, least_up, least_before}

-- no number is less than that of a bad member
low_number : (refusal : Refusal) → nat_le 1 (number_of refusal) ≡ true
low_number BadMember = refl
low_number _ = refl

bad_least : (other : Option Refusal) → lesser (Some BadMember) other ≡ Some BadMember
bad_least None = refl
bad_least (Some refusal) = rw (low_number refusal) refl

bad_first : (bad left : Bool) (clash : Option Clash) (rest : Option Refusal) → bad ≡ true → lesser (least ((bad, BadMember) ∷ (left, Ended) ∷ broken_tests clash)) rest ≡ Some BadMember
bad_first bad left clash rest e = rw e (ap (λ (x : Option Refusal). lesser x rest) (bad_least (least ((left, Ended) ∷ broken_tests clash))) ∙ bad_least rest)

pub bad_member : (p : Past) (step : Step) → p.terms.members ≤ step.member → Some BadMember ≡ refusal_of p step
bad_member p step le =
    sym (step_layers p step ∙ bad_first (nat_le p.terms.members step.member) (has_left_region step.member p.events) (clash_of p.events) _ (up_to_is p.terms.members step.member le))

pub ended_least : (members m : ℕ) (h : List Event) → nat_le members m ≡ false → has_left_region m h ≡ true → Some Ended ≡ least (member_tests members m h)
ended_least members m h small gone = rw (small, gone) (by_clash (clash_of h))
  where
    by_clash : (clash : Option Clash) → Some Ended ≡ lesser (Some Ended) (least (broken_tests clash))
    by_clash None = refl
    by_clash (Some clash) = refl

pub broken_least : (members m : ℕ) (h : List Event) (clash : Clash) → nat_le members m ≡ false → has_left_region m h ≡ false → clash_of h ≡ Some clash → Some (Broken clash) ≡ least (member_tests members m h)
broken_least members m h clash small stays broken = rw (small, stays, broken) refl

pub member_whole : (members m : ℕ) (h : List Event) → nat_le members m ≡ false → has_left_region m h ≡ false → clash_of h ≡ None → None ≡ least (member_tests members m h)
member_whole members m h small stays whole = rw (small, stays, whole) refl

pub wait_shuts : (call : Call) (waiting : Option Call) → (call ≡ Resume → ⊥) → (call ≡ Stop → ⊥) → is_some waiting ≡ true → Some Waiting ≡ least (wait_tests call waiting)
wait_shuts Resume waiting other goes e = absurd (other refl)
wait_shuts Stop waiting other goes e = absurd (goes refl)
wait_shuts _ waiting other goes e = rw e refl

pub wait_none : (call : Call) (waiting : Option Call) → is_some waiting ≡ false → None ≡ least (wait_tests call waiting)
wait_none Resume waiting e = refl
wait_none Stop waiting e = refl
wait_none _ waiting e = rw e refl

-- what refuses a member, whatever it calls, comes before its wait
up_to_broken : (bad left : Bool) (clash : Option Clash) → up_to 4 ((bad, BadMember) ∷ (left, Ended) ∷ broken_tests clash) ≡ true
up_to_broken bad left None = refl
up_to_broken bad left (Some clash) = refl

wait_begins : (call : Call) (waiting : Option Call) → beginning 4 (wait_tests call waiting) ≡ true
wait_begins Resume waiting = refl
wait_begins Stop waiting = refl
wait_begins _ waiting = refl

pub member_before_wait : (members m : ℕ) (h : List Event) (call : Call) (waiting : Option Call) (found : Option Refusal) (refusal : Refusal) → found ≡ least (member_tests members m h) → found ≡ Some refusal →
    Some refusal ≡ lesser (least (member_tests members m h)) (least (wait_tests call waiting))
member_before_wait members m h call waiting found refusal is some =
    let here : least (member_tests members m h) ≡ Some refusal = sym is ∙ some in
    let low = least_up 4 (member_tests members m h) refusal (up_to_broken (nat_le members m) (has_left_region m h) (clash_of h)) here in
    sym (ap (λ (x : Option Refusal). lesser x (least (wait_tests call waiting))) here ∙ least_before 4 refusal (wait_tests call waiting) low (wait_begins call waiting))

pub wait_alone : (members m : ℕ) (h : List Event) (wait found : Option Refusal) → found ≡ least (member_tests members m h) → found ≡ None → wait ≡ lesser (least (member_tests members m h)) wait
wait_alone members m h wait found is none =
    let here : least (member_tests members m h) ≡ None = sym is ∙ none in
    rw here refl

-- the refusals of the team, of what a member leaves, of its place, of its tasks and of the book together
pub step_refused : (p : Past) (step : Step) (team leaving place tasks book : Option Refusal) → team ≡ lesser (least (member_tests p.terms.members step.member p.events)) (least (wait_tests step.call (p.waits step.member).open_call)) →
    leaving ≡ least (leaving_tests (is_resume step.call) (row_at p step) step.member p) → place ≡ least (place_tests (is_resume step.call) (row_at p step) step.member p) → tasks ≡ least (board_tests (is_resume step.call) (row_at p step) step.member p) →
    book ≡ least (book_tests (is_resume step.call) (row_at p step) step.member p) → lesser team (lesser (lesser (lesser leaving place) tasks) book) ≡ refusal_of p step
step_refused p step team leaving place tasks book one zero two three four =
    let row : lesser (lesser (lesser leaving place) tasks) book ≡ least (row_tests (is_resume step.call) (row_at p step) step.member p) =
    sym (lesser_assoc (lesser leaving place) tasks book) ∙ sym (lesser_assoc leaving place (lesser tasks book)) ∙ (rw (zero, two, three, four) (sym (row_layers (is_resume step.call) (row_at p step) step.member p))) in
    rw (one, row) (sym (lesser_assoc (least (member_tests p.terms.members step.member p.events)) (least (wait_tests step.call (p.waits step.member).open_call)) (least (row_tests (is_resume step.call) (row_at p step) step.member p))))
    ∙ sym (step_layers p step)

-- what a call was admitted to stays so if nothing else refuses it
pub still_admitted : {A : Type 0} (P : A → Type 0) (own all : Result A Refusal) → IfOk all (λ found. own ≡ Ok found) → IfOk own P → IfOk all P
still_admitted P own (Ok found) same may = rw same at may
still_admitted P own (Err refusal) same may = tt
