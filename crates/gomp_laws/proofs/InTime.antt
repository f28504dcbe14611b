-- If each reply has its cause, nothing happens in a team that is broken, nor does a member do anything once it has passed the region's end.
use Rattle.std.proofs.Common.{◌≡◌, ℕ, ◌<◌, ◌≤◌, arith, Bool, true, false, List, [], ◌∷◌, ◌++◌, Option, Some, None, refl, inl, inr}
use Rattle.std.specs.Prelude.{nat_le, ◌⊎◌}
use Rattle.gomp_types.specs.declared.call.Step.{Step}
use Rattle.gomp_types.specs.declared.refusal.Clash.{Clash}
use Rattle.gomp_types.specs.declared.refusal.Refusal.TheVariants.{BadMember, Ended, Broken, Mismatch}
use Rattle.gomp_types.specs.declared.refusal.Refusal.{Refusal}
use Rattle.gomp_types.specs.RefusalTexts.{number_of}
use Rattle.gomp_types.specs.declared.reply.Reply.{Reply}
use Rattle.gomp_types.specs.declared.reply.Reply.TheVariants.{Refused}
use Rattle.gomp_events.specs.declared.event.Event.{Event}
use Rattle.gomp_events.specs.declared.event.Event.TheVariants.{Arrive, Put, Pass, Create, Hold, Free, Start, Done, Cancel, Discard, See, Break}
use Rattle.gomp_types.specs.Tests.{Test}
use Rattle.gomp_events.specs.Events.{has_left_region, clash_of}
use Rattle.gomp_events.specs.Laws.{Always}
use Rattle.gomp_events.specs.Breaks.{broken_tests}
use Rattle.gomp_types.specs.Least.{lesser, least}
use Rattle.gomp_model.specs.Past.{Terms, Past}
use Rattle.gomp_model.specs.Row.{begun_past, row_tests}
use Rattle.gomp_types.specs.Resumes.{call_meant, is_resume}
use Rattle.gomp_model.specs.Team.{Record, row_at, wait_tests, refusal_of, MayAnswer, past_after, past_of, events, Caused}
use Rattle.gomp_laws.proofs.Sound.{IsLast, AreGiven, gives_of, Gives}
use Rattle.gomp_laws.proofs.CallsKeep.{OwnKeeps, own_keeps, since_keeps}
use Rattle.gomp_types.proofs.LeastTests.{some_stays, lesser_low}
use Rattle.gomp_laws.proofs.Calls.{row_is_sound}
use Rattle.gomp_laws.proofs.Unbroken.{InTime}

-- the events of a call, so far
abbrev SoFar : ℕ → List Event → Type 0
SoFar m h = (clash_of h ≡ None) × (has_left_region m h ≡ false) × Always InTime h

stays_so_far : (can : Gives) (m : ℕ) → OwnKeeps can m (SoFar m)
stays_so_far can m (Pass barrier n) h own so = absurd own
stays_so_far can m (Hold key n task) h own so = absurd own
stays_so_far can m (Free key n task) h own so = absurd own
stays_so_far can m (Start task n) h own so = absurd own
stays_so_far can m (Done task n) h own so = absurd own
stays_so_far can m (Break n place) h own so = absurd own
stays_so_far can m (Arrive barrier n tag) h own so = (so.0, so.1, ((so.0, rw own.0 so.1), so.2))
stays_so_far can m (Create task n parent desc) h own so = (so.0, so.1, ((so.0, rw own.0 so.1), so.2))
stays_so_far can m (Put share n payload) h own so = (so.0, so.1, ((so.0, rw own.0 so.1), so.2))
stays_so_far can m (Cancel n scope) h own so = (so.0, so.1, ((so.0, rw own.0 so.1), so.2))
stays_so_far can m (Discard task n) h own so = (so.0, so.1, ((so.0, rw own.0 so.1), so.2))
stays_so_far can m (See n kind) h own so = (so.0, so.1, ((so.0, rw own.0 so.1), so.2))
stays_so_far can m _ h own so = (so.0, so.1, ((so.0, rw own so.1), so.2))

last_in_time : (can : Gives) (m : ℕ) (reply : Reply) (event : Event) (h : List Event) → IsLast can m reply event → SoFar m h → InTime event h
last_in_time can m reply (Pass barrier n) h own so = (so.0, rw own.0 so.1)
last_in_time can m reply (Hold key n task) h own so = (so.0, rw own.0 so.1)
last_in_time can m reply (Free key n task) h own so = (so.0, rw own.0 so.1)
last_in_time can m reply (Start task n) h own so = (so.0, rw own.0 so.1)
last_in_time can m reply (Done task n) h own so = (so.0, rw own.0 so.1)
last_in_time can m reply (Break n place) h own so = (so.0, rw own.0 so.1)
last_in_time can m reply (Arrive barrier n tag) h own so = (so.0, rw own.0 so.1)
last_in_time can m reply (Create task n parent desc) h own so = (so.0, rw own.0 so.1)
last_in_time can m reply (Put share n payload) h own so = (so.0, rw own.0 so.1)
last_in_time can m reply (Cancel n scope) h own so = (so.0, rw own.0 so.1)
last_in_time can m reply (Discard task n) h own so = (so.0, rw own.0 so.1)
last_in_time can m reply (See n kind) h own so = (so.0, rw own.0 so.1)
last_in_time can m reply _ h own so = (so.0, rw own so.1)

given_in_time : (can : Gives) (m : ℕ) (reply : Reply) (events h : List Event) → AreGiven can m reply events → SoFar m h → Always InTime (events ++ h)
given_in_time can m reply [] h own so = so.2
given_in_time can m reply (event ∷ events) h own so =
    let before = own_keeps can m (SoFar m) events h (stays_so_far can m) own.1 so in
    (last_in_time can m reply event (events ++ h) own.0 before, before.2)

-- what the tests of a step show of its team, if it is answered, or breaks the team
mismatch_last : (one : Refusal) (other : Option Refusal) → number_of one < 35 → (lesser (Some one) other ≡ None) ⊎ (lesser (Some one) other ≡ Some Mismatch) → ⊥
mismatch_last one other low (inl e) = some_stays one other e
mismatch_last one other low (inr e) = let above : 35 ≤ number_of one = lesser_low one Mismatch other e in omega arith

in_region : (bad left : Bool) (clash : Option Clash) (more : List Test) →
    (least ((bad, BadMember) ∷ (left, Ended) ∷ broken_tests clash ++ more) ≡ None) ⊎ (least ((bad, BadMember) ∷ (left, Ended) ∷ broken_tests clash ++ more) ≡ Some Mismatch) → (clash ≡ None) × (left ≡ false)
in_region true left clash more e = absurd (mismatch_last BadMember (least ((left, Ended) ∷ broken_tests clash ++ more)) (omega arith) e)
in_region false true clash more e = absurd (mismatch_last Ended (least (broken_tests clash ++ more)) (omega arith) e)
in_region false false (Some clash) more e = absurd (mismatch_last (Broken clash) (least more) (omega arith) e)
in_region false false None more e = (refl, refl)

abbrev Goes : Past → Step → Type 0
Goes p step = (clash_of p.events ≡ None) × (has_left_region step.member p.events ≡ false)

step_goes : (p : Past) (step : Step) → (refusal_of p step ≡ None) ⊎ (refusal_of p step ≡ Some Mismatch) → Goes p step
step_goes p step e =
    in_region (nat_le p.terms.members step.member) (has_left_region step.member p.events) (clash_of p.events)
    (wait_tests step.call (p.waits step.member).open_call ++ row_tests (is_resume step.call) (row_at p step) step.member p) e

-- one more step
answer_in_time : (p : Past) (step : Step) (reply : Reply) → MayAnswer p step reply → Always InTime p.events → Always InTime (past_after p step reply).events
answer_in_time p step (Refused Mismatch) may all = (step_goes p step (inr may), all)
answer_in_time p step (Refused _) may all = all
answer_in_time p step reply may all =
    let go = step_goes p step (inl may.0) in
    let row = row_at p step in
    let repeated = is_resume step.call in
    let s = row_is_sound (call_meant step.call (p.waits step.member).open_call) in
    let q = begun_past repeated row step.member p in
    given_in_time (gives_of row) step.member reply (row.gives step.member q reply) q.events (s.gives_own step.member q reply)
    (since_keeps row s repeated step.member p (SoFar step.member) (stays_so_far (gives_of row) step.member) (go.0, go.1, all))

pub in_time_holds : (terms : Terms) (run : Record) → Caused terms run → Always InTime (events terms run)
in_time_holds terms [] caused = tt
in_time_holds terms (pair ∷ earlier) caused = answer_in_time (past_of terms earlier) pair.0 pair.1 caused.0 (in_time_holds terms earlier caused.1)
