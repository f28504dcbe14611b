-- What is known of every team whose replies have their causes, whatever the calls are: it keeps the rule of a team, and a call that waits stands as it stood.
use Rattle.std.proofs.Common.{◌≡◌, ℕ, ◌+◌, ◌<◌, Bool, true, false, List, [], ◌∷◌, ◌++◌, Option, Some, None, refl, sym, ap, ◌∙◌, subst, arith, inl, inr}
use Rattle.std.specs.Prelude.{if◌then◌else◌, ◌==◌, ◌&&◌, ◌||◌, not, nat_le, is_some, ◌⊎◌}
use Rattle.std.proofs.lemmas.Bool.Decides.{nat_tests}
use Rattle.std.proofs.lemmas.Bool.{cases_Bool}
use Rattle.gomp_types.specs.declared.call.Call.{Call}
use Rattle.gomp_types.specs.declared.call.Call.TheVariants.{Resume, Stop}
use Rattle.gomp_types.specs.declared.call.Step.{Step}
use Rattle.gomp_types.specs.declared.limits.Limits.{Limits}
use Rattle.gomp_types.specs.declared.refusal.Refusal.TheVariants.{Mismatch}
use Rattle.gomp_types.specs.declared.reply.Reply.{Reply}
use Rattle.gomp_types.specs.declared.reply.Reply.TheVariants.{Passed, Cancelled, Wait, Run, TaskDone, Refused}
use Rattle.gomp_events.specs.declared.event.Event.{Event}
use Rattle.gomp_events.specs.declared.event.Event.TheVariants.{Arrive, Put, Pass, Start, Done, Break}
use Rattle.gomp_types.specs.declared.task.Task.TheVariants.{Explicit}
use Rattle.gomp_events.specs.Events.{barriers_passed, arrival, at_barrier, clash_of}
use Rattle.gomp_events.specs.Laws.{Always}
use Rattle.gomp_events.specs.Tasks.{innermost_task, task_stack, executed_task, in_task, after_first, is_undeferred}
use Rattle.gomp_laws.specs.Rules.{TeamRule}
use Rattle.gomp_events.specs.Seen.{seen_of}
use Rattle.gomp_events.specs.Cancels.{leaves_region}
use Rattle.gomp_types.proofs.Booleans.{is_equal, same_number, and_left, and_right, false_of_not, not_both, none_of_either}
use Rattle.gomp_types.proofs.LeastTests.{AllFail, all_fail, fail_first, fail_later}
use Rattle.gomp_laws.proofs.WordsToCome.{WordsToCome, PutsNone, still_to_come}
use Rattle.gomp_locks.proofs.NamesKeep.{no_task_outside}
use Rattle.gomp_model.specs.Past.{Terms, Past}
use Rattle.gomp_model.specs.Row.{Row, begun_past, row_tests, events_after, goes_on}
use Rattle.gomp_model.specs.Calls.{stop_row, row_of}
use Rattle.gomp_types.specs.Resumes.{call_meant, is_resume}
use Rattle.gomp_events.proofs.BreakReadings.{team_unbroken}
use Rattle.gomp_model.specs.Team.{Record, row_at, member_tests, wait_tests, refusal_of, MayAnswer, waits_after, past_after, before_all, past_of, events, Caused}
use Rattle.gomp_model.specs.Admits.{in_place}
use Rattle.gomp_model.proofs.Admitted.{by_place_fails, by_task_fails, unrefused_is_admitted, unrefused_repeat_is_admitted}
use Rattle.gomp_model.proofs.ReplyEvents.{again_none, once_first}
use Rattle.gomp_laws.proofs.Sound.{is_run, is_end, Lasts, HasCreated, acts_away, IsAdmittedMember, outside_of_tasks, IsSound, Gives, gives_of, IsLast}
use Rattle.gomp_laws.proofs.CallsKeep.{step_keeps}
use Rattle.gomp_laws.proofs.Calls.{row_is_sound, call_has_created}
use Rattle.gomp_laws.proofs.CoversKeep.{covers_other, created_other, covers_begun, covers_own, quiet_covers, covers_started, covers_ended}
use Rattle.gomp_laws.proofs.Places.{seen_other, SameBarriers, barriers_other, barriers_own, was_whole, leaves_other, was_staying, stack_own, stack_begun, lasts_other, lasts_own}
use Rattle.gomp_laws.proofs.Waiting.{Pending, WaitLasts, WaitCreated, IsMadeIn, Covers, has_arrived, some_arrived, IsAway, Fresh, WaitKnown, covers_none, none_arrived, pending_same, lasts_at_break, created_at_break, started_stack, ended_stack, wait_opens_again, ended_undeferred_covers}

-- the rule holds, what the calls that wait rely on does, and words are still to come
pub record Known (p : Past) : Type 0 where
  pub rule : Always (TeamRule p.terms.members) p.events
  pub each : (k : ℕ) → WaitKnown p.terms.limits k (p.waits k) p.events
  pub words : WordsToCome p.events

none_beneath : (k : ℕ) (p : Past) → Known p → in_task k p.events ≡ false → (p.waits k).beneath ≡ []
none_beneath k p known outside = covers_none k (p.waits k).beneath (task_stack k p.events) p.events (known.each k).covers (no_task_outside k p.events outside)

-- What the tests of a step have shown

pending_meant : (limits : Limits) (m : ℕ) (call : Call) (waiting : Option Call) (h : List Event) → is_resume call ≡ true → Pending limits m waiting h →
    (row_of (call_meant call waiting)).stays ≡ true → AllFail ((row_of (call_meant call waiting)).by_place limits (seen_of m h))
pending_meant limits m Resume None h repeated pending stays = absurd (cc)
pending_meant limits m Resume (Some call) h repeated pending stays = pending stays
pending_meant limits m _ waiting h repeated pending stays = absurd (cc)

lasting_meant : (m : ℕ) (call : Call) (waiting : Option Call) (p : Past) → is_resume call ≡ true → AllFail (row_tests (is_resume call) (row_of (call_meant call waiting)) m p) → WaitLasts m waiting p.events → Lasts (row_of (call_meant call waiting)) m p.events
lasting_meant m Resume None p repeated fail lasting = absurd (let never = fail.0 in cc)
lasting_meant m Resume (Some call) p repeated fail lasting = lasting
lasting_meant m _ waiting p repeated fail lasting = absurd (cc)

made_meant : (m : ℕ) (call : Call) (waiting : Option Call) (p : Past) → is_resume call ≡ true → WaitCreated m waiting p.events → HasCreated (row_of (call_meant call waiting)) (executed_task m p.events) p.events
made_meant m Resume None p repeated created = λ desc is. absurd (cc)
made_meant m Resume (Some call) p repeated created = created
made_meant m _ waiting p repeated created = absurd (cc)

-- a call that is made while no wait is open
first_meant : (call : Call) (waiting : Option Call) → is_resume call ≡ false → AllFail (wait_tests call waiting) → is_some (row_of (call_meant call waiting)).arrives ≡ true → has_arrived waiting ≡ false
first_meant Resume waiting once fail arrives = absurd (cc)
first_meant Stop waiting once fail arrives = absurd (cc)
first_meant _ None once fail arrives = refl
first_meant _ (Some other) once fail arrives = absurd (let shut = fail.0 in cc)

-- a call that creates, holds or frees something is none that has arrived, nor is one open then
away_meant : (call : Call) (waiting : Option Call) → AllFail (wait_tests call waiting) → acts_away (row_of (call_meant call waiting)) ≡ true → has_arrived waiting ≡ false
away_meant Stop waiting fail acts = absurd (cc)
away_meant Resume None fail acts = refl
away_meant Resume (Some call) fail acts = false_of_not (is_some (row_of call).arrives) (and_left (not (is_some (row_of call).arrives)) (is_some (row_of call).creates || is_some (row_of call).holds) acts)
away_meant _ None fail acts = refl
away_meant _ (Some other) fail acts = absurd (let shut = fail.0 in cc)

-- a call that is answered while a wait is open repeats it, or stops the team
pub repeats_or_stops : (call : Call) (waiting : Option Call) → AllFail (wait_tests call waiting) → is_some (row_of (call_meant call waiting)).arrives ≡ false → (call ≡ Stop) ⊎ (has_arrived waiting ≡ false)
repeats_or_stops Stop waiting fail silent = inl refl
repeats_or_stops Resume None fail silent = inr refl
repeats_or_stops Resume (Some call) fail silent = inr silent
repeats_or_stops _ None fail silent = inr refl
repeats_or_stops _ (Some other) fail silent = absurd (let shut = fail.0 in cc)

-- what the waits of a step's member show of its call
record WaitShows (row : Row) (repeated : Bool) (m : ℕ) (p : Past) : Type 0 where
  pending : repeated ≡ true → row.stays ≡ true → AllFail (row.by_place p.terms.limits (seen_of m p.events))
  lasting : repeated ≡ true → Lasts row m p.events
  made : repeated ≡ true → HasCreated row (executed_task m p.events) p.events
  first : repeated ≡ false → is_some row.arrives ≡ true → leaves_region m p.events ≡ false → in_task m p.events ≡ false → arrival (barriers_passed m p.events) m p.events ≡ None
  away : acts_away row ≡ true → leaves_region m p.events ≡ false → in_task m p.events ≡ false → at_barrier m p.events ≡ false

admitted_by : (row : Row) → IsSound row → (repeated : Bool) (m : ℕ) (p : Past) → m < p.terms.members → AllFail (row_tests repeated row m p) → WaitShows row repeated m p → WordsToCome p.events → IsAdmittedMember row repeated m p
admitted_by row sound true m p lt fail waits words =
    let lasts = waits.lasting refl in record {
      admitted = unrefused_repeat_is_admitted row m p fail lasts.2 (waits.pending refl) (λ key holds. (lasts.1 key holds).0);
      member = lt;
      outside = λ again. lasts.0;
      inside = λ again key holds. (lasts.1 key holds).1;
      made = waits.made;
      first = λ e. absurd (cc);
      away = waits.away;
      words = words;
    }
admitted_by row sound false m p lt fail waits words =
    let admitted = unrefused_is_admitted row m p fail in record {
      admitted = admitted;
      member = lt;
      outside = λ e. absurd (cc);
      inside = λ e. absurd (cc);
      made = λ e. absurd (cc);
      first = λ e arrives stays. waits.first refl arrives stays (sound.outside arrives m p (by_task_fails admitted.parts refl));
      away = waits.away;
      words = words;
    }

is_member : (members m : ℕ) → nat_le members m ≡ false → m < members
is_member members m e = grind (arith, nat_tests)

-- the parts of a step's tests
pub record Passes (p : Past) (step : Step) : Type 0 where
  pub member : AllFail (member_tests p.terms.members step.member p.events)
  pub wait : AllFail (wait_tests step.call (p.waits step.member).open_call)
  pub row : AllFail (row_tests (is_resume step.call) (row_at p step) step.member p)

pub unrefused_step_passes : (p : Past) (step : Step) → refusal_of p step ≡ None → Passes p step
unrefused_step_passes p step fine =
    let first = member_tests p.terms.members step.member p.events in
    let wait = wait_tests step.call (p.waits step.member).open_call in
    let row = row_tests (is_resume step.call) (row_at p step) step.member p in
    let all = all_fail (first ++ (wait ++ row)) fine in
    let later = fail_later first (wait ++ row) all in
    record { member = fail_first first (wait ++ row) all; wait = fail_first wait row later; row = fail_later wait row later }

-- a member in its implicit task none of whose calls has arrived waits at no barrier, unless it leaves the region
away_outside : (m : ℕ) (p : Past) → clash_of p.events ≡ None → Known p → leaves_region m p.events ≡ false → has_arrived (p.waits m).open_call ≡ false → in_task m p.events ≡ false → IsAway m p.events
away_outside m p whole known stays quiet outside = (known.each m).fresh whole stays quiet (none_arrived (p.waits m).beneath (none_beneath m p known outside))

-- so its member's call is admitted
pub unrefused_step_is_admitted : (p : Past) (step : Step) → refusal_of p step ≡ None → Known p → IsAdmittedMember (row_at p step) (is_resume step.call) step.member p
unrefused_step_is_admitted p step fine known =
    let all = unrefused_step_passes p step fine in
    let waiting = (p.waits step.member).open_call in
    let whole = team_unbroken (clash_of p.events) all.member.1.1 in
    let old = known.each step.member in
    admitted_by (row_at p step) (row_is_sound (call_meant step.call waiting)) (is_resume step.call) step.member p (is_member p.terms.members step.member all.member.0) all.row
    (record {
      pending = λ repeated. pending_meant p.terms.limits step.member step.call waiting p.events repeated old.pending;
      lasting = λ repeated. lasting_meant step.member step.call waiting p repeated all.row old.lasting;
      made = λ repeated. made_meant step.member step.call waiting p repeated old.created;
      first = λ once arrives stays outside. (away_outside step.member p whole known stays (first_meant step.call waiting once all.wait arrives) outside).0;
      away = λ acts stays outside. (away_outside step.member p whole known stays (away_meant step.call waiting all.wait acts) outside).1;
    })
    known.words

-- The rule

since_rule : (row : Row) → IsSound row → (repeated : Bool) (m : ℕ) (p : Past) → IsAdmittedMember row repeated m p → Always (TeamRule p.terms.members) p.events → Always (TeamRule p.terms.members) (begun_past repeated row m p).events
since_rule row sound true m p ready all = rw (again_none (row.begins m p)) all
since_rule row sound false m p ready all = rw (once_first (row.begins m p)) (sound.begins_keep m p ready all)

-- a call that has begun keeps the rule
pub begun_rule : (p : Past) (step : Step) → refusal_of p step ≡ None → Known p → Always (TeamRule p.terms.members) (begun_past (is_resume step.call) (row_at p step) step.member p).events
begun_rule p step fine known = since_rule (row_at p step) (row_is_sound (call_meant step.call (p.waits step.member).open_call)) (is_resume step.call) step.member p (unrefused_step_is_admitted p step fine known) known.rule

answer_rule : (p : Past) (step : Step) (reply : Reply) → MayAnswer p step reply → Known p → Always (TeamRule p.terms.members) (past_after p step reply).events
answer_rule p step (Refused Mismatch) may known = (tt, known.rule)
answer_rule p step (Refused _) may known = known.rule
answer_rule p step reply may known =
    (row_is_sound (call_meant step.call (p.waits step.member).open_call)).gives_keep (is_resume step.call) step.member p reply (unrefused_step_is_admitted p step may.0 known) may.1 (begun_rule p step may.0 known)

-- What stays known while a wait is open

still_there : (row : Row) → IsSound row → row.stays ≡ true → (repeated : Bool) (m : ℕ) (p : Past) → events_after repeated row m p Wait ≡ p.events
still_there row sound stays repeated m p = rw ((sound.still stays m (begun_past repeated row m p)).1, (sound.still stays m p).0) refl

shown_first : (row : Row) (repeated : Bool) → row.stays ≡ true → in_place row.stays repeated ≡ true
shown_first row repeated e = rw e refl

-- of a call that is to wait
pending_waiting : (row : Row) → IsSound row → (repeated : Bool) (m : ℕ) (p : Past) → IsAdmittedMember row repeated m p → row.stays ≡ true → AllFail (row.by_place p.terms.limits (seen_of m (events_after repeated row m p Wait)))
pending_waiting row sound repeated m p ready stays =
    subst (λ (h : List Event). AllFail (row.by_place p.terms.limits (seen_of m h))) (sym (still_there row sound stays repeated m p)) (by_place_fails ready.admitted.parts (shown_first row repeated stays) (sound.placed stays m p.events))

wait_lasts_other : (row : Row) → IsSound row → (repeated : Bool) (members k m : ℕ) (p : Past) (reply : Reply) (waiting : Option Call) → (m == k) ≡ false → Always (TeamRule members) (events_after repeated row m p reply) → WaitLasts k waiting p.events →
    WaitLasts k waiting (events_after repeated row m p reply)
wait_lasts_other row sound repeated members k m p reply None e rules lasting = tt
wait_lasts_other row sound repeated members k m p reply (Some call) e rules lasting = lasts_other row sound repeated members k m p reply (row_of call) e rules lasting

-- Arrivals

-- a member that arrived is not ahead of its number
none_ahead : (members m g : ℕ) (h : List Event) → Always (TeamRule members) h → barriers_passed m h < g → arrival g m h ≡ None
none_ahead members m g [] all lt = refl
none_ahead members m g (Arrive barrier member tag ∷ earlier) all lt =
    elim (cases_Bool (barrier == g && member == m)) [
      | inl e ↦ absurd (
          let number = is_equal barrier g (and_left (barrier == g) (member == m) e) in
          let who = is_equal member m (and_right (barrier == g) (member == m) e) in
          let own : barrier ≡ barriers_passed m earlier = rw (← who) all.0.arrives.number in
          omega arith)
      | inr e ↦ rw e (none_ahead members m g earlier all.1 lt)
    ]
none_ahead members m g (Pass barrier member ∷ earlier) all lt =
    elim (cases_Bool (member == m)) [
      | inl e ↦ none_ahead members m g earlier all.1 (let more : barriers_passed m earlier + 1 < g = rw e at lt in omega arith)
      | inr e ↦ none_ahead members m g earlier all.1 (rw e at lt)
    ]
none_ahead members m g (_ ∷ earlier) all lt = none_ahead members m g earlier all.1 lt

stays_away : (m : ℕ) (h now : List Event) → SameBarriers m h now → IsAway m h → IsAway m now
stays_away m h now same away = (rw same.number (same.arrivals (barriers_passed m h) ∙ away.0), same.waiting ∙ away.1)

-- a stop breaks the team
stop_breaks : (repeated : Bool) (m : ℕ) (p : Past) (reply : Reply) → stop_row.may_reply m (begun_past repeated stop_row m p) reply → clash_of (events_after repeated stop_row m p reply) ≡ None → ⊥
stop_breaks repeated m p reply may whole = let broken = (rw may at whole) in cc

pub never_stopped : (p : Past) (call : Call) (waiting : Option Call) (m : ℕ) (reply : Reply) → call ≡ Stop → (row_of (call_meant call waiting)).may_reply m (begun_past (is_resume call) (row_of (call_meant call waiting)) m p) reply →
    clash_of (events_after (is_resume call) (row_of (call_meant call waiting)) m p reply) ≡ None → ⊥
never_stopped p call waiting m reply stop =
    subst (λ (c : Call). (row_of (call_meant c waiting)).may_reply m (begun_past (is_resume c) (row_of (call_meant c waiting)) m p) reply → clash_of (events_after (is_resume c) (row_of (call_meant c waiting)) m p reply) ≡ None → ⊥)
    (sym stop) (stop_breaks false m p reply)

-- a member that waited at no barrier does so after a call that does not arrive
not_there : (p : Past) (step : Step) (reply : Reply) → refusal_of p step ≡ None → (row_at p step).may_reply step.member (begun_past (is_resume step.call) (row_at p step) step.member p) reply → Known p → is_some (row_at p step).arrives ≡ false →
    some_arrived (p.waits step.member).beneath ≡ false → clash_of (past_after p step reply).events ≡ None → leaves_region step.member (past_after p step reply).events ≡ false → IsAway step.member (past_after p step reply).events
not_there p step reply fine may known silent under whole stays =
    let row = row_at p step in
    let waiting = (p.waits step.member).open_call in
    let s = row_is_sound (call_meant step.call waiting) in
    elim (repeats_or_stops step.call waiting (unrefused_step_passes p step fine).wait silent) [
      | inl stop ↦ absurd (never_stopped p step.call waiting step.member reply stop may whole)
      | inr quiet ↦ stays_away step.member p.events (past_after p step reply).events (barriers_own row s (is_resume step.call) step.member p reply silent)
          ((known.each step.member).fresh (was_whole row s (is_resume step.call) step.member p reply whole) (was_staying row s (is_resume step.call) step.member p reply stays) quiet under)
    ]

passes_one : (same : Bool) → same ≡ true → (n : ℕ) → (if same then n + 1 else n) ≡ n + 1
passes_one true e n = refl
passes_one false e n = absurd (cc)

pass_moves_on : (members m : ℕ) (h : List Event) → Always (TeamRule members) h → IsAway m (Pass (barriers_passed m h) m ∷ h)
pass_moves_on members m h all =
    let next : barriers_passed m (Pass (barriers_passed m h) m ∷ h) ≡ barriers_passed m h + 1 = passes_one (m == m) (same_number m) (barriers_passed m h) in
    (subst (λ (g : ℕ). arrival g m h ≡ None) (sym next) (none_ahead members m (barriers_passed m h + 1) h all (omega arith)), rw (same_number m) refl)

passed_there : (p : Past) (step : Step) → refusal_of p step ≡ None → Known p → is_some (row_at p step).arrives ≡ true → IsAway step.member (past_after p step Passed).events
passed_there p step fine known arrives =
    let q = begun_past (is_resume step.call) (row_at p step) step.member p in
    let one = (row_is_sound (call_meant step.call (p.waits step.member).open_call)).one_pass arrives step.member q in
    rw one (pass_moves_on p.terms.members step.member q.events (begun_rule p step fine known))

-- a member that is answered that the region is cancelled leaves it
cut_leaves : (p : Past) (step : Step) → (row_at p step).may_reply step.member (begun_past (is_resume step.call) (row_at p step) step.member p) Cancelled → leaves_region step.member (past_after p step Cancelled).events ≡ true
cut_leaves p step may =
    let q = begun_past (is_resume step.call) (row_at p step) step.member p in
    rw ((row_is_sound (call_meant step.call (p.waits step.member).open_call)).cancelled step.member q may).1 (rw (same_number step.member) refl)

-- a call that arrives is answered by no other reply, if its member does not leave the region then
never_so : (p : Past) (step : Step) (reply : Reply) {P : Type 0} → is_some (row_at p step).arrives ≡ true → (row_at p step).may_reply step.member (begun_past (is_resume step.call) (row_at p step) step.member p) reply →
    leaves_region step.member (past_after p step reply).events ≡ false → (reply ≡ Passed → ⊥) → goes_on reply ≡ false → P
never_so p step reply arrives may stays passes waits =
    let q = begun_past (is_resume step.call) (row_at p step) step.member p in
    elim ((row_is_sound (call_meant step.call (p.waits step.member).open_call)).tells arrives step.member q reply may) [
      | inl e ↦ absurd (passes e)
      | inr (inl e) ↦ absurd (let both = sym e ∙ waits in cc)
      | inr (inr e) ↦
          let cut = cut_leaves p step (subst (λ (r : Reply). (row_at p step).may_reply step.member q r) e may) in
          let off : leaves_region step.member (past_after p step Cancelled).events ≡ false = subst (λ (r : Reply). leaves_region step.member (past_after p step r).events ≡ false) e stays in
          absurd (not_both (leaves_region step.member (past_after p step Cancelled).events) cut off)
    ]

-- Tasks

-- a call that runs a task adds it to its member's
run_stack : (row : Row) → IsSound row → (repeated : Bool) (m : ℕ) (p : Past) (task code arg : ℕ) (own : Bool) → row.may_reply m (begun_past repeated row m p) (Run task code arg own) →
    task_stack m (events_after repeated row m p (Run task code arg own)) ≡ task ∷ task_stack m p.events
run_stack row sound repeated m p task code arg own may =
    let q = begun_past repeated row m p in
    ap (λ (events : List Event). task_stack m (events ++ q.events)) (sound.runs m q task code arg own may).5
    ∙ started_stack m task q.events ∙ ap (λ (tasks : List ℕ). task ∷ tasks) (stack_begun row sound repeated m p)

-- and one that ends a task takes off the innermost
end_stack : (row : Row) → IsSound row → (repeated : Bool) (m : ℕ) (p : Past) (task : ℕ) (waiting : Bool) → row.may_reply m (begun_past repeated row m p) (TaskDone task waiting) →
    task_stack m (events_after repeated row m p (TaskDone task waiting)) ≡ after_first (task_stack m p.events)
end_stack row sound repeated m p task waiting may =
    let q = begun_past repeated row m p in
    ap (λ (events : List Event). task_stack m (events ++ q.events)) (sound.ends m q task waiting may).3
    ∙ ended_stack m task q.events ∙ ap after_first (stack_begun row sound repeated m p)

-- which it was
pub ended_task : (row : Row) → IsSound row → (repeated : Bool) (m : ℕ) (p : Past) (task : ℕ) (waiting : Bool) → row.may_reply m (begun_past repeated row m p) (TaskDone task waiting) → executed_task m p.events ≡ Explicit task
ended_task row sound repeated m p task waiting may =
    ap (innermost_task m) (sym (stack_begun row sound repeated m p)) ∙ (sound.ends m (begun_past repeated row m p) task waiting may).2

-- what is beneath the task that a call runs

-- the events after it
pub run_events : (row : Row) → IsSound row → (repeated : Bool) (m : ℕ) (p : Past) (task code arg : ℕ) (own : Bool) → row.may_reply m (begun_past repeated row m p) (Run task code arg own) →
    events_after repeated row m p (Run task code arg own) ≡ Start task m ∷ (begun_past repeated row m p).events
run_events row sound repeated m p task code arg own may =
    let q = begun_past repeated row m p in ap (λ (events : List Event). events ++ q.events) (sound.runs m q task code arg own may).5

pub end_events : (row : Row) → IsSound row → (repeated : Bool) (m : ℕ) (p : Past) (task : ℕ) (waiting : Bool) → row.may_reply m (begun_past repeated row m p) (TaskDone task waiting) →
    events_after repeated row m p (TaskDone task waiting) ≡ Done task m ∷ (begun_past repeated row m p).events
end_events row sound repeated m p task waiting may =
    let q = begun_past repeated row m p in ap (λ (events : List Event). events ++ q.events) (sound.ends m q task waiting may).3

-- a task that is started at a wait covers the call that waits
covers_with_call : (members m task : ℕ) (h : List Event) (call : Call) (calls : List Call) → Always (TeamRule members) (Start task m ∷ h) → is_undeferred task h ≡ false → IsMadeIn m call (task_stack m h) (Start task m ∷ h) →
    Covers m calls (task_stack m h) h → Covers m (call ∷ calls) (task_stack m (Start task m ∷ h)) (Start task m ∷ h)
covers_with_call members m task h call calls rules deferred made covers = rw (same_number m) (inr (deferred, (made, covers_started members m task h calls rules covers)))

-- and one that is the call's own covers none
covers_without : (members m task : ℕ) (h : List Event) (calls : List Call) → Always (TeamRule members) (Start task m ∷ h) → is_undeferred task h ≡ true →
    Covers m calls (task_stack m h) h → Covers m calls (task_stack m (Start task m ∷ h)) (Start task m ∷ h)
covers_without members m task h calls rules held covers = rw (same_number m) (inl (held, covers_started members m task h calls rules covers))

-- The waits after a step

-- of its member, if the wait is closed
known_when_closed : (p : Past) (step : Step) (reply : Reply) → is_run reply ≡ false → is_end reply ≡ false → Known p → Always (TeamRule p.terms.members) (past_after p step reply).events →
    Fresh step.member (record { open_call = None; beneath = (p.waits step.member).beneath }) (past_after p step reply).events →
    WaitKnown p.terms.limits step.member (record { open_call = None; beneath = (p.waits step.member).beneath }) (past_after p step reply).events
known_when_closed p step reply run end known rule fresh = record {
  pending = tt;
  lasting = tt;
  created = tt;
  covers = covers_own (row_at p step) (row_is_sound (call_meant step.call (p.waits step.member).open_call)) (is_resume step.call) p.terms.members step.member p reply (p.waits step.member).beneath run end rule (known.each step.member).covers;
  beneath = (known.each step.member).beneath;
  fresh = fresh;
}

-- if it waits
known_at_wait : (p : Past) (step : Step) → MayAnswer p step Wait → Known p → Always (TeamRule p.terms.members) (past_after p step Wait).events →
    WaitKnown p.terms.limits step.member (waits_after Wait step.call (p.waits step.member)) (past_after p step Wait).events
known_at_wait p step may known rule =
    let row = row_at p step in
    let repeated = is_resume step.call in
    let m = step.member in
    let call = call_meant step.call (p.waits m).open_call in
    let s = row_is_sound call in
    let now = (past_after p step Wait).events in
    let ready = unrefused_step_is_admitted p step may.0 known in record {
      pending = pending_waiting row s repeated m p ready;
      lasting = lasts_own row s repeated m p (s.lasts repeated m p ready known.rule may.1);
      created = subst (λ (tasks : List ℕ). HasCreated row (innermost_task m tasks) now) (sym (stack_own row s repeated m p Wait refl refl)) (call_has_created call repeated m p Wait ready may.1 refl);
      covers = covers_own row s repeated p.terms.members m p Wait (p.waits m).beneath refl refl rule (known.each m).covers;
      beneath = (known.each m).beneath;
      fresh = λ whole stays quiet under. not_there p step Wait may.0 may.1 known quiet under whole stays;
    }

-- if it executes a task
known_at_run : (p : Past) (step : Step) (task code arg : ℕ) → MayAnswer p step (Run task code arg false) → Known p → Always (TeamRule p.terms.members) (past_after p step (Run task code arg false)).events →
    WaitKnown p.terms.limits step.member (waits_after (Run task code arg false) step.call (p.waits step.member)) (past_after p step (Run task code arg false)).events
known_at_run p step task code arg may known rule =
    let row = row_at p step in
    let repeated = is_resume step.call in
    let m = step.member in
    let q = begun_past repeated row m p in
    let call = call_meant step.call (p.waits m).open_call in
    let s = row_is_sound call in
    let run = s.runs m q task code arg false may.1 in
    let ready = unrefused_step_is_admitted p step may.0 known in
    let now = (past_after p step (Run task code arg false)).events in
    let given : now ≡ Start task m ∷ q.events = run_events row s repeated m p task code arg false may.1 in
    let rules : Always (TeamRule p.terms.members) (Start task m ∷ q.events) = subst (λ (h : List Event). Always (TeamRule p.terms.members) h) given rule in
    let stack : task_stack m q.events ≡ task_stack m p.events = stack_begun row s repeated m p in
    let made : HasCreated row (executed_task m p.events) (Start task m ∷ q.events) =
    subst (λ (h : List Event). HasCreated row (executed_task m p.events) h) given (call_has_created call repeated m p (Run task code arg false) ready may.1 refl) in
    let is_made : IsMadeIn m call (task_stack m q.events) (Start task m ∷ q.events) = record {
      outside = λ arrives. stack ∙ no_task_outside m p.events (outside_of_tasks ready arrives (s.outside arrives m p));
      created = subst (λ (tasks : List ℕ). HasCreated row (innermost_task m tasks) (Start task m ∷ q.events)) (sym stack) made;
    } in
    let old = covers_begun row s repeated p.terms.members m p (p.waits m).beneath rules.1 (known.each m).covers in record {
      pending = tt;
      lasting = tt;
      created = tt;
      covers = subst (λ (h : List Event). Covers m (call ∷ (p.waits m).beneath) (task_stack m h) h) (sym given) (covers_with_call p.terms.members m task q.events call (p.waits m).beneath rules run.2 is_made old);
      beneath = (
        record {
          moves = run.0;
          holds = run.1;
          outside = λ arrives. none_beneath m p known (outside_of_tasks ready arrives (s.outside arrives m p));
          goes_on = (q, Run task code arg false, refl, may.1);
        },
        (known.each m).beneath,
      );
      fresh = λ whole stays quiet under.
          let none = none_of_either (is_some row.arrives) (some_arrived (p.waits m).beneath) under in
          not_there p step (Run task code arg false) may.0 may.1 known none.0 none.1 whole stays;
    }

-- if that is the call's own, its wait is closed, and nothing is beneath the task
known_at_own : (p : Past) (step : Step) (task code arg : ℕ) → MayAnswer p step (Run task code arg true) → Known p → Always (TeamRule p.terms.members) (past_after p step (Run task code arg true)).events →
    WaitKnown p.terms.limits step.member (waits_after (Run task code arg true) step.call (p.waits step.member)) (past_after p step (Run task code arg true)).events
known_at_own p step task code arg may known rule =
    let row = row_at p step in
    let repeated = is_resume step.call in
    let m = step.member in
    let q = begun_past repeated row m p in
    let s = row_is_sound (call_meant step.call (p.waits m).open_call) in
    let run = s.runs m q task code arg true may.1 in
    let now = (past_after p step (Run task code arg true)).events in
    let given : now ≡ Start task m ∷ q.events = run_events row s repeated m p task code arg true may.1 in
    let rules : Always (TeamRule p.terms.members) (Start task m ∷ q.events) = subst (λ (h : List Event). Always (TeamRule p.terms.members) h) given rule in
    let old = covers_begun row s repeated p.terms.members m p (p.waits m).beneath rules.1 (known.each m).covers in record {
      pending = tt;
      lasting = tt;
      created = tt;
      covers = subst (λ (h : List Event). Covers m (p.waits m).beneath (task_stack m h) h) (sym given) (covers_without p.terms.members m task q.events (p.waits m).beneath rules run.2 old);
      beneath = (known.each m).beneath;
      fresh = λ whole stays quiet under. not_there p step (Run task code arg true) may.0 may.1 known (run.6 refl).0 under whole stays;
    }

-- if it has ended one
pub not_undeferred : (held : Bool) → true ≡ not held → held ≡ false
not_undeferred true e = absurd (cc)
not_undeferred false e = refl

is_held : (held : Bool) → false ≡ not held → held ≡ true
is_held true e = refl
is_held false e = absurd (cc)

-- what covered the member's tasks before covers them still
covered_at_end : (p : Past) (step : Step) (task : ℕ) (waiting : Bool) → MayAnswer p step (TaskDone task waiting) → Known p → Always (TeamRule p.terms.members) (past_after p step (TaskDone task waiting)).events →
    Covers step.member (p.waits step.member).beneath (task_stack step.member p.events) (past_after p step (TaskDone task waiting)).events
covered_at_end p step task waiting may known rule =
    let row = row_at p step in
    let repeated = is_resume step.call in
    let m = step.member in
    let q = begun_past repeated row m p in
    let s = row_is_sound (call_meant step.call (p.waits m).open_call) in
    let calls = (p.waits m).beneath in
    let given : (past_after p step (TaskDone task waiting)).events ≡ Done task m ∷ q.events = end_events row s repeated m p task waiting may.1 in
    let rules : Always (TeamRule p.terms.members) (Done task m ∷ q.events) = subst (λ (h : List Event). Always (TeamRule p.terms.members) h) given rule in
    let old = covers_ended p.terms.members m task q.events calls rules (covers_begun row s repeated p.terms.members m p calls rules.1 (known.each m).covers) in
    subst (λ (h : List Event). Covers m calls (task_stack m p.events) h) (sym given) (subst (λ (tasks : List ℕ). Covers m calls tasks (Done task m ∷ q.events)) (stack_begun row s repeated m p) old)

-- the reply to the end of a task says whether the task is undeferred
end_says_if_undeferred : (p : Past) (step : Step) (task : ℕ) (waiting : Bool) → MayAnswer p step (TaskDone task waiting) → waiting ≡ not (is_undeferred task (past_after p step (TaskDone task waiting)).events)
end_says_if_undeferred p step task waiting may =
    let row = row_at p step in
    let repeated = is_resume step.call in
    let m = step.member in
    let s = row_is_sound (call_meant step.call (p.waits m).open_call) in
    subst (λ (h : List Event). waiting ≡ not (is_undeferred task h)) (sym (end_events row s repeated m p task waiting may.1)) (s.ends m (begun_past repeated row m p) task waiting may.1).1

known_at_end : (p : Past) (step : Step) (task : ℕ) → MayAnswer p step (TaskDone task true) → Known p → Always (TeamRule p.terms.members) (past_after p step (TaskDone task true)).events →
    WaitKnown p.terms.limits step.member (waits_after (TaskDone task true) step.call (p.waits step.member)) (past_after p step (TaskDone task true)).events
known_at_end p step task may known rule =
    let row = row_at p step in
    let repeated = is_resume step.call in
    let m = step.member in
    let s = row_is_sound (call_meant step.call (p.waits m).open_call) in
    let now = (past_after p step (TaskDone task true)).events in
    wait_opens_again p.terms.limits m task now (p.waits m).beneath (task_stack m p.events) (ended_task row s repeated m p task true may.1)
    (not_undeferred (is_undeferred task now) (end_says_if_undeferred p step task true may)) (covered_at_end p step task true may known rule) (known.each m).beneath (end_stack row s repeated m p task true may.1)
    (λ whole stays under. not_there p step (TaskDone task true) may.0 may.1 known (s.ends m (begun_past repeated row m p) task true may.1).0 under whole stays)

-- and if that was undeferred, no wait opens again
known_at_own_end : (p : Past) (step : Step) (task : ℕ) → MayAnswer p step (TaskDone task false) → Known p → Always (TeamRule p.terms.members) (past_after p step (TaskDone task false)).events →
    WaitKnown p.terms.limits step.member (waits_after (TaskDone task false) step.call (p.waits step.member)) (past_after p step (TaskDone task false)).events
known_at_own_end p step task may known rule =
    let row = row_at p step in
    let repeated = is_resume step.call in
    let m = step.member in
    let s = row_is_sound (call_meant step.call (p.waits m).open_call) in
    let now = (past_after p step (TaskDone task false)).events in
    let calls = (p.waits m).beneath in record {
      pending = tt;
      lasting = tt;
      created = tt;
      covers = subst (λ (tasks : List ℕ). Covers m calls tasks now) (sym (end_stack row s repeated m p task false may.1))
          (ended_undeferred_covers m task now calls (task_stack m p.events) (ended_task row s repeated m p task false may.1) (is_held (is_undeferred task now) (end_says_if_undeferred p step task false may)) (covered_at_end p step task false may known rule));
      beneath = (known.each m).beneath;
      fresh = λ whole stays quiet under. not_there p step (TaskDone task false) may.0 may.1 known (s.ends m (begun_past repeated row m p) task false may.1).0 under whole stays;
    }

answer_known : (p : Past) (step : Step) (reply : Reply) → MayAnswer p step reply → Known p → Always (TeamRule p.terms.members) (past_after p step reply).events →
    WaitKnown p.terms.limits step.member (waits_after reply step.call (p.waits step.member)) (past_after p step reply).events
answer_known p step (Refused Mismatch) may known rule =
    let old = known.each step.member in
    let place = (row_at p step).place step.member p.events in record {
      pending = pending_same p.terms.limits step.member (p.waits step.member).open_call p.events (past_after p step (Refused Mismatch)).events refl old.pending;
      lasting = lasts_at_break step.member step.member place (p.waits step.member).open_call p.events old.lasting;
      created = created_at_break step.member step.member place (p.waits step.member).open_call p.events old.created;
      covers = quiet_covers p.terms.members step.member (Break step.member place) p.events (p.waits step.member).beneath rule (λ task. tt) old.covers;
      beneath = old.beneath;
      fresh = λ whole stays quiet under. absurd (cc);
    }
answer_known p step (Refused _) may known rule = known.each step.member
answer_known p step Wait may known rule = known_at_wait p step may known rule
answer_known p step (Run task code arg false) may known rule = known_at_run p step task code arg may known rule
answer_known p step (Run task code arg true) may known rule = known_at_own p step task code arg may known rule
answer_known p step (TaskDone task true) may known rule = known_at_end p step task may known rule
answer_known p step (TaskDone task false) may known rule = known_at_own_end p step task may known rule
answer_known p step Passed may known rule =
    known_when_closed p step Passed refl refl known rule (λ whole stays quiet under.
    elim (cases_Bool (is_some (row_at p step).arrives)) [
      | inl arrives ↦ passed_there p step may.0 known arrives
      | inr silent ↦ not_there p step Passed may.0 may.1 known silent under whole stays
    ])
answer_known p step reply may known rule =
    known_when_closed p step reply refl refl known rule (λ whole stays quiet under.
    elim (cases_Bool (is_some (row_at p step).arrives)) [
      | inl arrives ↦ never_so p step reply arrives may.1 stays (λ e. cc) refl
      | inr silent ↦ not_there p step reply may.0 may.1 known silent under whole stays
    ])

-- of another member
other_known : (p : Past) (step : Step) (reply : Reply) (k : ℕ) → (step.member == k) ≡ false → Always (TeamRule p.terms.members) (past_after p step reply).events → Known p → WaitKnown p.terms.limits k (p.waits k) (past_after p step reply).events
other_known p step reply k e rule known =
    let row = row_at p step in
    let repeated = is_resume step.call in
    let s = row_is_sound (call_meant step.call (p.waits step.member).open_call) in
    let now = (past_after p step reply).events in
    let old = known.each k in record {
      pending = pending_same p.terms.limits k (p.waits k).open_call p.events now (seen_other row s repeated k step.member p reply e) old.pending;
      lasting = wait_lasts_other row s repeated p.terms.members k step.member p reply (p.waits k).open_call e rule old.lasting;
      created = created_other row s repeated p.terms.members k step.member p reply (p.waits k).open_call e rule old.created;
      covers = covers_other row s repeated p.terms.members k step.member p reply (p.waits k).beneath e rule old.covers;
      beneath = old.beneath;
      fresh = λ whole stays quiet under. stays_away k p.events now (barriers_other row s repeated k step.member p reply e) (old.fresh (was_whole row s repeated step.member p reply whole) (sym (leaves_other row s repeated k step.member p reply e) ∙ stays) quiet under);
    }

-- of each
waits_known : (p : Past) (step : Step) (reply : Reply) (k : ℕ) → MayAnswer p step reply → Known p → Always (TeamRule p.terms.members) (past_after p step reply).events → WaitKnown p.terms.limits k ((past_after p step reply).waits k) (past_after p step reply).events
waits_known p step reply k may known rule =
    elim (cases_Bool (step.member == k)) [
      | inl e ↦ rw e (subst (λ (x : ℕ). WaitKnown p.terms.limits x (waits_after reply step.call (p.waits x)) (past_after p step reply).events) (is_equal step.member k e) (answer_known p step reply may known rule))
      | inr e ↦ rw e (other_known p step reply k e rule known)
    ]

-- The words of singles

puts_none : (can : Gives) (m : ℕ) (reply : Reply) (event : Event) → can.puts ≡ false → IsLast can m reply event → PutsNone event
puts_none can m reply (Put share n payload) none by = absurd (let some = by.1 in cc)
puts_none can m reply _ none by = tt

words_kept_by_row : (members : ℕ) (row : Row) → IsSound row → (repeated : Bool) (m : ℕ) (p : Past) (reply : Reply) → row.puts ≡ false → Always (TeamRule members) (events_after repeated row m p reply) → WordsToCome p.events → WordsToCome (events_after repeated row m p reply)
words_kept_by_row members row sound repeated m p reply none rules words =
    step_keeps row sound repeated m p reply (λ now. Always (TeamRule members) now → WordsToCome now)
    (λ event now by kept rules. still_to_come members event now (puts_none (gives_of row) m reply event none by) rules.0 rules.1 (kept rules.1)) (λ rules. words) rules

answer_words : (p : Past) (step : Step) (reply : Reply) → MayAnswer p step reply → Known p → Always (TeamRule p.terms.members) (past_after p step reply).events → WordsToCome (past_after p step reply).events
answer_words p step (Refused Mismatch) may known rule = λ k i own at single piece. known.words k i own at single piece
answer_words p step (Refused _) may known rule = known.words
answer_words p step reply may known rule =
    let row = row_at p step in
    let s = row_is_sound (call_meant step.call (p.waits step.member).open_call) in
    elim (cases_Bool row.puts) [
      | inl puts ↦ s.words_keep puts (is_resume step.call) step.member p reply (unrefused_step_is_admitted p step may.0 known) may.1 known.rule
      | inr none ↦ words_kept_by_row p.terms.members row s (is_resume step.call) step.member p reply none rule known.words
    ]

-- one more step
pub known_after : (p : Past) (step : Step) (reply : Reply) → MayAnswer p step reply → Known p → Known (past_after p step reply)
known_after p step reply may known =
    let rule = answer_rule p step reply may known in
    record { rule = rule; each = λ k. waits_known p step reply k may known rule; words = answer_words p step reply may known rule }

-- of a new team
pub known_first : (terms : Terms) → Known (before_all terms)
known_first terms = record {
  rule = tt;
  each = λ k. record { pending = tt; lasting = tt; created = tt; covers = refl; beneath = tt; fresh = λ whole stays quiet under. (refl, refl) };
  words = λ k i shape at single piece. absurd (cc);
}

-- and of each record whose replies have their causes
pub known_of : (terms : Terms) (run : Record) → Caused terms run → Known (past_of terms run)
known_of terms [] caused = known_first terms
known_of terms (pair ∷ earlier) caused = known_after (past_of terms earlier) pair.0 pair.1 caused.0 (known_of terms earlier caused.1)

-- a team's terms stay
pub same_terms : (terms : Terms) (run : Record) → (past_of terms run).terms ≡ (before_all terms).terms
same_terms terms [] = refl
same_terms terms (pair ∷ earlier) = same_terms terms earlier

-- So the rule holds of every record whose replies have their causes.
pub rule_holds : (terms : Terms) (run : Record) → Caused terms run → Always (TeamRule terms.members) (events terms run)
rule_holds terms run caused = subst (λ (t : Terms). Always (TeamRule t.members) (events terms run)) (same_terms terms run) (known_of terms run caused).rule
