-- A member one of whose calls has arrived at a barrier waits there, and no other member does.
use Rattle.std.proofs.Common.{◌≡◌, ℕ, Bool, true, false, List, [], ◌∷◌, ◌++◌, Option, Some, None, refl, sym, ◌∙◌, subst, inl, inr}
use Rattle.std.specs.Prelude.{◌==◌, ◌&&◌, ◌||◌, is_some}
use Rattle.std.proofs.lemmas.Bool.{cases_Bool}
use Rattle.gomp_types.specs.declared.call.Call.{Call}
use Rattle.gomp_types.specs.declared.call.Call.TheVariants.{Resume, Stop}
use Rattle.gomp_types.specs.declared.call.Step.{Step}
use Rattle.gomp_types.specs.declared.reply.Reply.{Reply}
use Rattle.gomp_types.specs.declared.reply.Reply.TheVariants.{Passed, Cancelled, Wait, Run, TaskDone, Stopped, Refused}
use Rattle.gomp_types.specs.declared.refusal.Refusal.TheVariants.{Mismatch}
use Rattle.gomp_events.specs.declared.event.Event.{Event}
use Rattle.gomp_events.specs.Events.{at_barrier}
use Rattle.gomp_events.specs.Tasks.{task_stack, in_task}
use Rattle.gomp_types.proofs.Booleans.{is_equal, or_right}
use Rattle.gomp_types.proofs.LeastTests.{AllFail}
use Rattle.gomp_locks.proofs.NamesKeep.{no_task_outside}
use Rattle.gomp_model.specs.Past.{Terms, Waits, Past}
use Rattle.gomp_model.specs.Row.{Row, begun_past, row_tests, events_after, goes_on}
use Rattle.gomp_model.specs.Calls.{row_of}
use Rattle.gomp_types.specs.Resumes.{call_meant, is_resume}
use Rattle.gomp_events.proofs.TasksKeep.{or_without}
use Rattle.gomp_model.specs.Team.{Record, row_at, wait_tests, refusal_of, MayAnswer, open_first, waits_after, past_after, past_of, Caused}
use Rattle.gomp_board.specs.Ops.{awaits_barrier}
use Rattle.gomp_model.proofs.ReplyEvents.{again_none}
use Rattle.gomp_laws.proofs.Sound.{outside_of_tasks, IsSound}
use Rattle.gomp_laws.proofs.Calls.{row_is_sound}
use Rattle.gomp_laws.proofs.Places.{barriers_other, barriers_own}
use Rattle.gomp_laws.proofs.Waiting.{has_arrived, some_arrived, covers_none, none_arrived}
use Rattle.gomp_laws.proofs.Known.{Known, known_of, unrefused_step_passes, unrefused_step_is_admitted}

-- whether a call of the member that is not answered whole has arrived
abbrev pub arrived_of : Waits → Bool
arrived_of waits = has_arrived waits.open_call || some_arrived waits.beneath

-- then the member waits at a barrier
abbrev pub IsThere : ℕ → Waits → List Event → Type 0
IsThere k waits h = arrived_of waits ≡ true → at_barrier k h ≡ true

-- An arrival

-- a call that arrives waits there once it has begun, if it goes on
begun_there : (call : Call) (repeated : Bool) (m : ℕ) (p : Past) (reply : Reply) → is_some (row_of call).arrives ≡ true → goes_on reply ≡ true → (row_of call).may_reply m (begun_past repeated (row_of call) m p) reply → (repeated ≡ true → at_barrier m p.events ≡ true) →
    at_barrier m (begun_past repeated (row_of call) m p).events ≡ true
begun_there call true m p reply arrives goes may there = rw (again_none ((row_of call).begins m p)) (there refl)
begun_there call false m p reply arrives goes may there = (row_is_sound call).arrives_there arrives m p reply may goes

-- and stays there while it waits, or while a task is executed there
stays_there : (call : Call) (repeated : Bool) (m : ℕ) (p : Past) (reply : Reply) → is_some (row_of call).arrives ≡ true → goes_on reply ≡ true → (row_of call).may_reply m (begun_past repeated (row_of call) m p) reply →
    at_barrier m (begun_past repeated (row_of call) m p).events ≡ true → at_barrier m (events_after repeated (row_of call) m p reply) ≡ true
stays_there call repeated m p Wait arrives goes may there = rw ((row_is_sound call).waits_quietly arrives m (begun_past repeated (row_of call) m p)) there
stays_there call repeated m p (Run task code arg own) arrives goes may there =
    let q = begun_past repeated (row_of call) m p in
    let runs = (row_is_sound call).runs m q task code arg own may in
    subst (λ (events : List Event). at_barrier m (events ++ q.events) ≡ true) (sym runs.5) there
stays_there call repeated m p _ arrives goes may there = absurd (cc)

-- One step

-- a call that is repeated is the one that waits
repeats_open : (m : ℕ) (p : Past) (call : Call) (waiting : Option Call) → AllFail (row_tests (is_resume call) (row_of (call_meant call waiting)) m p) → is_resume call ≡ true → is_some (row_of (call_meant call waiting)).arrives ≡ true → has_arrived waiting ≡ true
repeats_open m p Resume None fail repeated arrives = absurd (let shut = fail.0 in cc)
repeats_open m p Resume (Some call) fail repeated arrives = arrives
repeats_open m p _ waiting fail repeated arrives = absurd (cc)

-- a call that arrives has none beneath
pub none_under : (p : Past) (step : Step) → refusal_of p step ≡ None → Known p → is_some (row_at p step).arrives ≡ true → (p.waits step.member).beneath ≡ []
none_under p step none known arrives =
    let m = step.member in
    let sound = row_is_sound (call_meant step.call (p.waits m).open_call) in
    let outside : in_task m p.events ≡ false = outside_of_tasks (unrefused_step_is_admitted p step none known) arrives (λ fail. sound.outside arrives m p fail) in
    covers_none m (p.waits m).beneath (task_stack m p.events) p.events (known.each m).covers (no_task_outside m p.events outside)

quiet_meant : (waiting : Option Call) (call : Call) → is_some (row_of (call_meant call waiting)).arrives ≡ false → has_arrived (Some (call_meant call waiting)) ≡ false
quiet_meant waiting call silent = silent

first_arrived : (calls : List Call) → arrived_of (open_first calls) ≡ some_arrived calls
first_arrived [] = refl
first_arrived (call ∷ calls) = refl

-- after a call that does not arrive no more of its member's have arrived
no_more_arrived : (call : Call) (waits : Waits) (reply : Reply) → is_some (row_of (call_meant call waits.open_call)).arrives ≡ false → arrived_of (waits_after reply call waits) ≡ true → arrived_of waits ≡ true
no_more_arrived call waits (Refused refusal) silent arrived = arrived
no_more_arrived call waits Wait silent arrived = or_right (has_arrived waits.open_call) (some_arrived waits.beneath) (or_without (is_some (row_of (call_meant call waits.open_call)).arrives) (some_arrived waits.beneath) arrived silent)
no_more_arrived call waits (Run task code arg false) silent arrived = or_right (has_arrived waits.open_call) (some_arrived waits.beneath) (or_without (is_some (row_of (call_meant call waits.open_call)).arrives) (some_arrived waits.beneath) arrived silent)
no_more_arrived call waits (TaskDone task true) silent arrived = or_right (has_arrived waits.open_call) (some_arrived waits.beneath) (sym (first_arrived waits.beneath) ∙ arrived)
no_more_arrived call waits _ silent arrived = or_right (has_arrived waits.open_call) (some_arrived waits.beneath) arrived

-- after a reply that closes it none has
none_after_close : (p : Past) (step : Step) (reply : Reply) → refusal_of p step ≡ None → Known p → is_some (row_at p step).arrives ≡ true → waits_after reply step.call (p.waits step.member) ≡ record (p.waits step.member) { open_call = None } →
    arrived_of (waits_after reply step.call (p.waits step.member)) ≡ false
none_after_close p step reply none known arrives closed = rw closed (none_arrived (p.waits step.member).beneath (none_under p step none known arrives))

answer_there : (p : Past) (step : Step) (reply : Reply) → refusal_of p step ≡ None → (row_at p step).may_reply step.member (begun_past (is_resume step.call) (row_at p step) step.member p) reply → Known p → IsThere step.member (p.waits step.member) p.events →
    IsThere step.member (waits_after reply step.call (p.waits step.member)) (events_after (is_resume step.call) (row_at p step) step.member p reply)
answer_there p step reply none may known there = elim (cases_Bool (is_some (row_at p step).arrives)) [
  | inl arrives ↦ elim (sound.tells arrives m (begun_past repeated row m p) reply may) [
    | inl passes ↦ λ arrived. absurd (let never : true ≡ false = sym (subst (λ (r : Reply). arrived_of (waits_after r step.call (p.waits m)) ≡ true) passes arrived) ∙ none_after_close p step Passed none known arrives refl in cc)
    | inr (inl goes) ↦ λ arrived. stays_there meant repeated m p reply arrives goes may (begun_there meant repeated m p reply arrives goes may (λ again. there (open_arrived again arrives)))
    | inr (inr cut) ↦ λ arrived. absurd (let never : true ≡ false = sym (subst (λ (r : Reply). arrived_of (waits_after r step.call (p.waits m)) ≡ true) cut arrived) ∙ none_after_close p step Cancelled none known arrives refl in cc)
  ]
  | inr silent ↦ λ arrived. (barriers_own row sound repeated m p reply silent).waiting ∙ there (no_more_arrived step.call (p.waits m) reply silent arrived)
]
  where
    m : ℕ
    m = step.member

    meant : Call
    meant = call_meant step.call (p.waits step.member).open_call

    row : Row
    row = row_of meant

    repeated : Bool
    repeated = is_resume step.call

    sound : IsSound row
    sound = row_is_sound meant

    open_arrived : is_resume step.call ≡ true → is_some (row_at p step).arrives ≡ true → arrived_of (p.waits step.member) ≡ true
    open_arrived again arrives = rw (repeats_open m p step.call (p.waits m).open_call (unrefused_step_passes p step none).row again arrives) refl

own_there : (p : Past) (step : Step) (reply : Reply) → MayAnswer p step reply → Known p → IsThere step.member (p.waits step.member) p.events → IsThere step.member (waits_after reply step.call (p.waits step.member)) (past_after p step reply).events
own_there p step (Refused Mismatch) may known there = there
own_there p step (Refused _) may known there = there
own_there p step reply may known there = answer_there p step reply may.0 may.1 known there

step_there : (p : Past) (step : Step) (reply : Reply) (k : ℕ) → MayAnswer p step reply → Known p → ((m : ℕ) → IsThere m (p.waits m) p.events) → IsThere k ((past_after p step reply).waits k) (past_after p step reply).events
step_there p step reply k may known there = elim (cases_Bool (step.member == k)) [
  | inl same ↦ rw same (subst (λ (m : ℕ). IsThere m (waits_after reply step.call (p.waits m)) (past_after p step reply).events) (is_equal step.member k same) (own_there p step reply may known (there step.member)))
  | inr other ↦ rw other (λ arrived. (barriers_other (row_at p step) (row_is_sound (call_meant step.call (p.waits step.member).open_call)) (is_resume step.call) k step.member p reply other).waiting ∙ there k arrived)
]

-- whatever was asked, a member one of whose calls has arrived waits at a barrier
pub arrived_waits_there : (terms : Terms) (run : Record) → Caused terms run → (k : ℕ) → IsThere k ((past_of terms run).waits k) (past_of terms run).events
arrived_waits_there terms [] caused k = λ arrived. absurd (cc)
arrived_waits_there terms (pair ∷ earlier) caused k = step_there (past_of terms earlier) pair.0 pair.1 k caused.0 (known_of terms earlier caused.1) (arrived_waits_there terms earlier caused.1)

-- A call that no test refuses

-- no call that waits has arrived, unless it is repeated, or the member stops the team
pub open_is_away : (m : ℕ) (p : Past) (call : Call) (waiting : Option Call) → AllFail (wait_tests call waiting) → ((row_of (call_meant call waiting)).may_reply m p Stopped → ⊥) → (is_resume call && is_some (row_of (call_meant call waiting)).arrives) ≡ false → has_arrived waiting ≡ false
open_is_away m p Stop waiting fail goes not_again = absurd (goes refl)
open_is_away m p Resume None fail goes not_again = refl
open_is_away m p Resume (Some call) fail goes not_again = not_again
open_is_away m p _ None fail goes not_again = refl
open_is_away m p _ (Some other) fail goes not_again = absurd (let shut = fail.0 in cc)

both_true : (a b : Bool) → (a && b) ≡ true → (a ≡ true) × (b ≡ true)
both_true true true e = (refl, refl)
both_true true false e = absurd (cc)
both_true false b e = absurd (cc)

-- a member that repeats a call which arrived waits there
pub awaits_if_repeated : (p : Past) (step : Step) → refusal_of p step ≡ None → Known p → IsThere step.member (p.waits step.member) p.events → (is_resume step.call && is_some (row_at p step).arrives) ≡ true → awaits_barrier step.member p.events ≡ true
awaits_if_repeated p step none known there both =
    let m = step.member in
    let two = both_true (is_resume step.call) (is_some (row_at p step).arrives) both in
    let outside : in_task m p.events ≡ false = outside_of_tasks (unrefused_step_is_admitted p step none known) two.1 (λ fail. (row_is_sound (call_meant step.call (p.waits m).open_call)).outside two.1 m p fail) in
    let waits = there (rw (repeats_open m p step.call (p.waits m).open_call (unrefused_step_passes p step none).row two.0 two.1) refl) in
    rw (outside, waits) refl
