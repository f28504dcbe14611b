-- What the tests of a step forbid, and what a step leaves as it was, of any member, past, call and reply.
use Rattle.std.proofs.Common.{◌≡◌, ◌≤◌, ◌+◌, ℕ, Bool, true, false, List, [], ◌∷◌, ◌++◌, Option, Some, None, refl, ap, sym, subst, ◌∙◌, arith, inl, inr}
use Rattle.std.specs.Prelude.{◌≢◌, ◌&&◌, ◌||◌, ◌==◌, is_none, is_some, not, nat_le, nat_lt, if◌then◌else◌}
use Rattle.std.proofs.lemmas.Bool.{cases_Bool}
use Rattle.std.proofs.lemmas.Bool.Decides.{nat_tests}
use Rattle.gomp_types.specs.declared.call.Call.{Call}
use Rattle.gomp_types.specs.declared.call.Call.TheVariants.{SectionsStart, CriticalStart, TaskCreate, Point, Resume, Stop}
use Rattle.gomp_types.specs.declared.call.Step.{Step}
use Rattle.gomp_types.specs.declared.cancel.CancelKind.{CancelKind}
use Rattle.gomp_events.specs.declared.event.Event.{Event}
use Rattle.gomp_events.specs.declared.event.Event.TheVariants.{Break, Hold}
use Rattle.gomp_types.specs.declared.key.Key.{Key}
use Rattle.gomp_types.specs.declared.key.Key.TheVariants.{Critical}
use Rattle.gomp_types.specs.declared.lock.LockKind.{LockKind}
use Rattle.gomp_types.specs.declared.loop_desc.EndKind.TheVariants.{Nowait}
use Rattle.gomp_types.specs.declared.refusal.Clash.{Clash}
use Rattle.gomp_types.specs.declared.refusal.Refusal.{Refusal}
use Rattle.gomp_types.specs.declared.refusal.Refusal.TheVariants.{BadMember, Ended, Broken, Waiting, Mismatch, NoMemory}
use Rattle.gomp_types.specs.declared.reply.Reply.{Reply}
use Rattle.gomp_types.specs.declared.reply.Reply.TheVariants.{Passed, Wait, Run, TaskDone, Refused}
use Rattle.gomp_types.specs.declared.task.Task.{Task}
use Rattle.gomp_types.specs.declared.task.TaskDesc.{TaskDesc}
use Rattle.gomp_events.specs.Cancels.{is_leaving, leaves_region, leaves_share, leaves_task}
use Rattle.gomp_events.specs.CancelCalls.{creates_covered}
use Rattle.gomp_events.specs.Events.{has_left_region, clash_of}
use Rattle.gomp_events.specs.declared.seen.Seen.{Seen}
use Rattle.gomp_events.specs.Laws.{Happened}
use Rattle.gomp_types.specs.Least.{least}
use Rattle.gomp_types.specs.Limits.{capped_limits}
use Rattle.gomp_events.specs.Seen.{seen_of}
use Rattle.gomp_events.specs.TaskCalls.{first_room, unless_given_up}
use Rattle.gomp_events.specs.Breaks.{broken_tests}
use Rattle.gomp_types.specs.Tests.{Test}
use Rattle.gomp_types.proofs.Booleans.{and_left, and_right, not_both, other_number, same_number}
use Rattle.gomp_types.proofs.LeastTests.{AllFail, all_fail, fail_first, fail_later}
use Rattle.gomp_locks.specs.Holders.{same_key}
use Rattle.gomp_locks.proofs.HoldsKeep.{one_key}
use Rattle.gomp_locks.proofs.OwnerLemmas.{same_name}
use Rattle.gomp_model.specs.Past.{Past, Terms, Waits, no_waits}
use Rattle.gomp_model.specs.Row.{Row, asks_memory, asked_tests, begun_past, board_tests, book_tests, drain_tests, given_after, locks_after, place_tests, room_after, row_tests, unless_repeated, MayGive, MayGoOn, goes_on, past_given}
use Rattle.gomp_model.specs.Arrivals.{ends_its_own}
use Rattle.gomp_model.specs.Calls.{row_of}
use Rattle.gomp_model.specs.CriticalNames.{was_name_held}
use Rattle.gomp_types.specs.Resumes.{call_meant, is_resume}
use Rattle.gomp_types.proofs.ResumeReadings.{first_call_is_meant}
use Rattle.gomp_model.specs.Team.{row_at, wait_tests, tests_of, refusal_of, MayAnswer, MayRefuse, open_first, past_after, waits_after, past_of, Caused, ChoosesTask, OneReply, Record, record_after, SomeReply}

-- Tests

-- a reply that is no refusal
abbrev pub IsGiven : Reply → Type 0
IsGiven (Refused refusal) = ⊥
IsGiven _ = Unit {0}

-- a step by this member that makes this call
abbrev pub made_by : ℕ → Call → Step
made_by m call = record { member = m; call = call }

-- to a step that is answered no test holds
pub answered_without_a_test : (p : Past) (step : Step) (reply : Reply) → IsGiven reply → MayAnswer p step reply → AllFail (tests_of p step)
answered_without_a_test p step (Refused refusal) given may = absurd given
answered_without_a_test p step _ given may = all_fail (tests_of p step) may.0

-- an answer to one who is no member
pub never_answers_a_stranger : (p : Past) (step : Step) (reply : Reply) → IsGiven reply → p.terms.members ≤ step.member → MayAnswer p step reply → ⊥
never_answers_a_stranger p step reply given outside may =
    let low = (answered_without_a_test p step reply given may).0 in
    let high : nat_le p.terms.members step.member ≡ true = grind (arith, nat_tests, outside) in
    not_both (nat_le p.terms.members step.member) high low

-- to one that has passed the region's end
pub never_answers_after_the_end : (p : Past) (step : Step) (reply : Reply) → IsGiven reply → has_left_region step.member p.events ≡ true → MayAnswer p step reply → ⊥
never_answers_after_the_end p step reply given left may = not_both (has_left_region step.member p.events) left (answered_without_a_test p step reply given may).1.0

-- in a broken team
broken_holds : (clash : Clash) (found : Option Clash) (more : List Test) → found ≡ Some clash → AllFail (broken_tests found ++ more) → ⊥
broken_holds clash None more is fails = absurd (cc)
broken_holds clash (Some other) more is fails = not_both true refl fails.0

pub never_answers_in_a_broken_team : (p : Past) (step : Step) (reply : Reply) (clash : Clash) → IsGiven reply → clash_of p.events ≡ Some clash → MayAnswer p step reply → ⊥
never_answers_in_a_broken_team p step reply clash given broken may = broken_holds clash (clash_of p.events) _ broken (answered_without_a_test p step reply given may).1.1

-- what the tests behind the member's are
rest_fails : (p : Past) (step : Step) (reply : Reply) → IsGiven reply → MayAnswer p step reply →
    AllFail (wait_tests step.call (p.waits step.member).open_call ++ row_tests (is_resume step.call) (row_at p step) step.member p)
rest_fails p step reply given may = fail_later (broken_tests (clash_of p.events)) _ (answered_without_a_test p step reply given may).1.1

-- another call of a member that waits
waits_for_none : (call waiting : Call) (more : List Test) → is_resume call ≡ false → call ≢ Stop → AllFail (wait_tests call (Some waiting) ++ more) → ⊥
waits_for_none Resume waiting more once differ fails = absurd (cc)
waits_for_none Stop waiting more once differ fails = differ refl
waits_for_none _ waiting more once differ fails = not_both true refl fails.0

pub never_answers_beside_a_wait : (p : Past) (m : ℕ) (call waiting : Call) (reply : Reply) → IsGiven reply → (p.waits m).open_call ≡ Some waiting → is_resume call ≡ false → call ≢ Stop → MayAnswer p (made_by m call) reply → ⊥
never_answers_beside_a_wait p m call waiting reply given waits once differ may =
    waits_for_none call waiting _ once differ (subst (λ (open' : Option Call). AllFail (wait_tests call open' ++ row_tests (is_resume call) (row_of (call_meant call open')) m p)) waits (rest_fails p (made_by m call) reply given may))

-- a resume and a stop are not tested for that
pub resume_and_stop_go_beside_a_wait : (waiting : Option Call) → (wait_tests Resume waiting ≡ []) × (wait_tests Stop waiting ≡ [])
resume_and_stop_go_beside_a_wait waiting = (refl, refl)

-- every other call is tested for that, and for nothing else
pub other_call_is_tested_for_a_wait : (call : Call) (waiting : Option Call) → is_resume call ≡ false → call ≢ Stop → wait_tests call waiting ≡ (is_some waiting, Waiting) ∷ []
other_call_is_tested_for_a_wait Resume waiting once differ = absurd (cc)
other_call_is_tested_for_a_wait Stop waiting once differ = absurd (differ refl)
other_call_is_tested_for_a_wait _ waiting once differ = refl

-- a step in a team that is not broken is tested for its member, the region's end, the wait and its call alone
pub step_is_tested_for_no_more : (p : Past) (step : Step) → clash_of p.events ≡ None →
    tests_of p step ≡ (nat_le p.terms.members step.member, BadMember) ∷ (has_left_region step.member p.events, Ended)
    ∷ (wait_tests step.call (p.waits step.member).open_call ++ row_tests (is_resume step.call) (row_at p step) step.member p)
step_is_tested_for_no_more p step whole = rw whole refl

-- and in one that is broken for how that broke, too
pub step_in_a_broken_team_is_tested_for_its_clash : (p : Past) (step : Step) (clash : Clash) → clash_of p.events ≡ Some clash →
    tests_of p step ≡ (nat_le p.terms.members step.member, BadMember) ∷ (has_left_region step.member p.events, Ended) ∷ (true, Broken clash)
    ∷ (wait_tests step.call (p.waits step.member).open_call ++ row_tests (is_resume step.call) (row_at p step) step.member p)
step_in_a_broken_team_is_tested_for_its_clash p step clash broken = rw broken refl

-- the tests of a call that is made for the first time
call_fails : (p : Past) (m : ℕ) (call : Call) (reply : Reply) → IsGiven reply → is_resume call ≡ false → MayAnswer p (made_by m call) reply → AllFail (row_tests false (row_of call) m p)
call_fails p m call reply given once may =
    let rest = fail_later (wait_tests call (p.waits m).open_call) _ (rest_fails p (made_by m call) reply given may) in
    subst (λ (c : Call). AllFail (row_tests false (row_of c) m p)) (first_call_is_meant call (p.waits m).open_call once) (subst (λ (again : Bool). AllFail (row_tests again (row_of (call_meant call (p.waits m).open_call)) m p)) once rest)

-- a call that a member which leaves may not make
pub never_answers_a_leaving_member : (p : Past) (m : ℕ) (call : Call) (reply : Reply) → IsGiven reply → is_resume call ≡ false → is_leaving m p.events ≡ true → (row_of call).lets_leave m p.events ≡ false → MayAnswer p (made_by m call) reply → ⊥
never_answers_a_leaving_member p m call reply given once leaving bound may =
    let test : (is_leaving m p.events && not ((row_of call).lets_leave m p.events)) ≡ true = rw (leaving, bound) refl in
    not_both (is_leaving m p.events && not ((row_of call).lets_leave m p.events)) test (call_fails p m call reply given once may).0

-- what its place, its construct, tasks and room, names and locks test of a call that is answered fails: so it is refused if one of these holds
pub place_tests_fail : (p : Past) (m : ℕ) (call : Call) (reply : Reply) → IsGiven reply → is_resume call ≡ false → MayAnswer p (made_by m call) reply →
    AllFail (unless_given_up ((row_of call).gives_up m p.events) ((row_of call).by_place p.terms.limits (seen_of m p.events)))
place_tests_fail p m call reply given once may = fail_first _ _ (fail_first (place_tests false (row_of call) m p) _ (call_fails p m call reply given once may).1)

pub drain_tests_fail : (p : Past) (m : ℕ) (call : Call) (reply : Reply) → IsGiven reply → is_resume call ≡ false → MayAnswer p (made_by m call) reply → AllFail (drain_tests (row_of call).drains m p.events)
drain_tests_fail p m call reply given once may =
    fail_first _ _ (fail_later (unless_given_up ((row_of call).gives_up m p.events) ((row_of call).by_place p.terms.limits (seen_of m p.events))) _ (fail_first (place_tests false (row_of call) m p) _ (call_fails p m call reply given once may).1))

pub comparison_fails : (p : Past) (m : ℕ) (call : Call) (reply : Reply) → IsGiven reply → is_resume call ≡ false → MayAnswer p (made_by m call) reply → AllFail ((row_of call).compared false m p)
comparison_fails p m call reply given once may =
    fail_later (drain_tests (row_of call).drains m p.events) _
    (fail_later (unless_given_up ((row_of call).gives_up m p.events) ((row_of call).by_place p.terms.limits (seen_of m p.events))) _ (fail_first (place_tests false (row_of call) m p) _ (call_fails p m call reply given once may).1))

after_place : (p : Past) (m : ℕ) (call : Call) (reply : Reply) → IsGiven reply → is_resume call ≡ false → MayAnswer p (made_by m call) reply → AllFail (board_tests false (row_of call) m p ++ book_tests false (row_of call) m p)
after_place p m call reply given once may = fail_later (place_tests false (row_of call) m p) _ (call_fails p m call reply given once may).1

pub task_tests_fail : (p : Past) (m : ℕ) (call : Call) (reply : Reply) → IsGiven reply → is_resume call ≡ false → MayAnswer p (made_by m call) reply → AllFail ((row_of call).by_task m p)
task_tests_fail p m call reply given once may = fail_first _ _ (fail_first (board_tests false (row_of call) m p) _ (after_place p m call reply given once may))

pub room_tests_fail : (p : Past) (m : ℕ) (call : Call) (reply : Reply) → IsGiven reply → is_resume call ≡ false → MayAnswer p (made_by m call) reply → AllFail (asked_tests ((row_of call).drops m p) (row_of call) p)
room_tests_fail p m call reply given once may = fail_later ((row_of call).by_task m p) _ (fail_first (board_tests false (row_of call) m p) _ (after_place p m call reply given once may))

pub team_tests_fail : (p : Past) (m : ℕ) (call : Call) (reply : Reply) → IsGiven reply → is_resume call ≡ false → MayAnswer p (made_by m call) reply → AllFail ((row_of call).by_team m p)
team_tests_fail p m call reply given once may = fail_first _ _ (fail_later (board_tests false (row_of call) m p) _ (after_place p m call reply given once may))

pub missing_tests_fail : (p : Past) (m : ℕ) (call : Call) (reply : Reply) → IsGiven reply → is_resume call ≡ false → MayAnswer p (made_by m call) reply → AllFail ((row_of call).missing m p)
missing_tests_fail p m call reply given once may = fail_later ((row_of call).by_team m p) _ (fail_later (board_tests false (row_of call) m p) _ (after_place p m call reply given once may))

-- Causes

-- a call that is made, once it has begun, and one that is repeated, which begins no second time, are answered by their row's cause alone
given_cause : (p : Past) (step : Step) (reply : Reply) → IsGiven reply → MayAnswer p step reply → (row_at p step).may_reply step.member (begun_past (is_resume step.call) (row_at p step) step.member p) reply
given_cause p step (Refused refusal) given may = absurd given
given_cause p step _ given may = may.1

pub made_call_has_its_cause : (p : Past) (m : ℕ) (call : Call) (reply : Reply) → IsGiven reply → is_resume call ≡ false → MayAnswer p (made_by m call) reply → (row_of call).may_reply m (begun_past false (row_of call) m p) reply
made_call_has_its_cause p m call reply given once may =
    subst (λ (c : Call). (row_of c).may_reply m (begun_past false (row_of c) m p) reply) (first_call_is_meant call (p.waits m).open_call once)
    (subst (λ (again : Bool). (row_at p (made_by m call)).may_reply m (begun_past again (row_at p (made_by m call)) m p) reply) once (given_cause p (made_by m call) reply given may))

pub repeated_call_has_its_cause : (p : Past) (m : ℕ) (call : Call) (reply : Reply) → IsGiven reply → (p.waits m).open_call ≡ Some call → MayAnswer p (made_by m Resume) reply → (row_of call).may_reply m (begun_past true (row_of call) m p) reply
repeated_call_has_its_cause p m call reply given waits may =
    subst (λ (open' : Option Call). (row_of (call_meant Resume open')).may_reply m (begun_past true (row_of (call_meant Resume open')) m p) reply) waits (given_cause p (made_by m Resume) reply given may)

-- and no test holds of those that a repeated call makes again
pub repeated_tests_fail : (p : Past) (m : ℕ) (call : Call) (reply : Reply) → IsGiven reply → (p.waits m).open_call ≡ Some call → MayAnswer p (made_by m Resume) reply → AllFail (row_tests true (row_of call) m p)
repeated_tests_fail p m call reply given waits may =
    subst (λ (open' : Option Call). AllFail (row_tests true (row_of (call_meant Resume open')) m p)) waits (rest_fails p (made_by m Resume) reply given may)

-- a call begins with its row's events, a repeated one with none, and neither changes anything else
pub made_call_begins : (row : Row) (m : ℕ) (p : Past) → begun_past false row m p ≡ record p { events = row.begins m p ++ p.events }
made_call_begins row m p = by_events (row.begins m p)
  where
    by_events : (events : List Event) → ◌≡◌ {A = Past} (record p { events = unless_repeated events false ++ p.events }) (record p { events = events ++ p.events })
    by_events [] = refl
    by_events (event ∷ events) = refl

pub repeated_call_begins_nothing : (row : Row) (m : ℕ) (p : Past) → begun_past true row m p ≡ p
repeated_call_begins_nothing row m p = by_events (row.begins m p)
  where
    by_events : (events : List Event) → ◌≡◌ {A = Past} (record p { events = unless_repeated events true ++ p.events }) p
    by_events [] = refl
    by_events (event ∷ events) = refl

-- a member ends the share that it leaves, by the end of that, if it leaves nothing else
pub member_ends_its_own : (tests : Seen → List Test) (m : ℕ) (h : List Event) → ends_its_own tests m h ≡ true → (leaves_share m h ≡ true) × (not (leaves_region m h || leaves_task m h) ≡ true) × (is_none (least (tests (seen_of m h))) ≡ true)
member_ends_its_own tests m h ends =
    let both = and_left (leaves_share m h && not (leaves_region m h || leaves_task m h)) (is_none (least (tests (seen_of m h)))) ends in
    (and_left (leaves_share m h) (not (leaves_region m h || leaves_task m h)) both, and_right (leaves_share m h) (not (leaves_region m h || leaves_task m h)) both, and_right (leaves_share m h && not (leaves_region m h || leaves_task m h)) (is_none (least (tests (seen_of m h)))) ends)

pub share_left_is_ended : (tests : Seen → List Test) (m : ℕ) (h : List Event) → leaves_share m h ≡ true → leaves_region m h ≡ false → leaves_task m h ≡ false → least (tests (seen_of m h)) ≡ None → ends_its_own tests m h ≡ true
share_left_is_ended tests m h leaves stays goes none = rw (none, leaves, stays, goes) refl

-- Refusals

-- a refusal of which no test holds, or which is not the first, but want of memory
pub never_refused_without_its_test : (p : Past) (step : Step) (refusal : Refusal) → refusal ≢ NoMemory → refusal_of p step ≢ Some refusal → MayAnswer p step (Refused refusal) → ⊥
never_refused_without_its_test p step refusal other differ may = by_refusal refusal other differ may
  where
    by_refusal : (refusal : Refusal) → refusal ≢ NoMemory → refusal_of p step ≢ Some refusal → MayRefuse (refusal_of p step) refusal (asks_memory (row_of step.call) step.member p) → ⊥
    by_refusal NoMemory other differ may = other refl
    by_refusal _ other differ may = differ may

-- and the test that holds first is an answer, as is want of memory where none holds and the call takes some
pub memory_may_be_wanting : (p : Past) (step : Step) → refusal_of p step ≡ None → asks_memory (row_of step.call) step.member p ≡ true → MayAnswer p step (Refused NoMemory)
memory_may_be_wanting p step none asks = (none, asks)

-- want of memory beside a test that holds
pub never_wants_memory_beside_a_test : (p : Past) (step : Step) (refusal : Refusal) → refusal_of p step ≡ Some refusal → MayAnswer p step (Refused NoMemory) → ⊥
never_wants_memory_beside_a_test p step refusal holds may = absurd (let never : Some refusal ≡ None = sym holds ∙ may.0 in cc)

-- of a call that takes none: one that asks for no room and makes neither a name nor a lock, or is dropped
pub never_wants_memory_untaken : (p : Past) (step : Step) → asks_memory (row_of step.call) step.member p ≡ false → MayAnswer p step (Refused NoMemory) → ⊥
never_wants_memory_untaken p step none may = absurd (let asks : asks_memory (row_of step.call) step.member p ≡ true = may.1 in not_both _ asks none)

-- whatever was asked for before
pub nothing_asks_memory_without_room : (row : Row) (m : ℕ) (p : Past) → row.makes m p ≡ false → row.room ≡ 0 → asks_memory row m p ≡ false
nothing_asks_memory_without_room row m p makes none = rw (makes, none) refl

pub nothing_asks_memory_once_dropped : (row : Row) (m : ℕ) (p : Past) → row.makes m p ≡ false → row.drops m p ≡ true → asks_memory row m p ≡ false
nothing_asks_memory_once_dropped row m p makes drops = rw (makes, drops) (none_asked (nat_lt 0 row.room))
  where
    none_asked : (some : Bool) → (some && false) ≡ false
    none_asked true = refl
    none_asked false = refl

-- a name is started once some task has held it, whoever that was, and stays started
pub held_name_is_started : (name : List ℕ) (m : ℕ) (task : Task) (h : List Event) → was_name_held name (Hold (Critical name) m task ∷ h) ≡ true
held_name_is_started name m task h = rw (same_name name) refl

pub started_name_stays_started : (name : List ℕ) (event : Event) (h : List Event) → was_name_held name h ≡ true → was_name_held name (event ∷ h) ≡ true
started_name_stays_started name (Hold key m task) h known = rw known (either_way (same_key key (Critical name)))
  where
    either_way : (same : Bool) → (same || true) ≡ true
    either_way true = refl
    either_way false = refl
started_name_stays_started name _ h known = known

-- and no name is that nobody has held
pub never_started_unheld : (name : List ℕ) (h : List Event) → ((m : ℕ) (task : Task) → Happened (Hold (Critical name) m task) h → ⊥) → was_name_held name h ≡ false
never_started_unheld name [] unheld = refl
never_started_unheld name (Hold key m task ∷ h) unheld = elim (cases_Bool (same_key key (Critical name))) [
  | inl same ↦ absurd (unheld m task (inl (ap (λ (one : Key). Hold one m task) (one_key key (Critical name) same))))
  | inr other ↦ rw other (never_started_unheld name h (λ k asker there. unheld k asker (inr there)))
]
never_started_unheld name (_ ∷ h) unheld = never_started_unheld name h (λ k asker there. unheld k asker (inr there))

pub never_wants_memory_for_a_known_name : (p : Past) (m : ℕ) (name : List ℕ) → was_name_held name p.events ≡ true → MayAnswer p (made_by m (CriticalStart name)) (Refused NoMemory) → ⊥
never_wants_memory_for_a_known_name p m name known may = never_wants_memory_untaken p (made_by m (CriticalStart name)) (rw known refl) may

pub never_wants_memory_for_a_dropped_task : (p : Past) (m : ℕ) (desc : TaskDesc) → creates_covered m p.events ≡ true → MayAnswer p (made_by m (TaskCreate desc)) (Refused NoMemory) → ⊥
never_wants_memory_for_a_dropped_task p m desc covered may = never_wants_memory_untaken p (made_by m (TaskCreate desc)) (rw covered refl) may

pub never_wants_memory_without_a_barrier : (p : Past) (m count : ℕ) → MayAnswer p (made_by m (SectionsStart count Nowait)) (Refused NoMemory) → ⊥
never_wants_memory_without_a_barrier p m count may = never_wants_memory_untaken p (made_by m (SectionsStart count Nowait)) refl may

pub never_wants_memory_at_a_resume : (p : Past) (m : ℕ) → MayAnswer p (made_by m Resume) (Refused NoMemory) → ⊥
never_wants_memory_at_a_resume p m may = never_wants_memory_untaken p (made_by m Resume) refl may

pub never_wants_memory_at_a_point : (p : Past) (m : ℕ) (kind : CancelKind) → MayAnswer p (made_by m (Point kind)) (Refused NoMemory) → ⊥
never_wants_memory_at_a_point p m kind may = never_wants_memory_untaken p (made_by m (Point kind)) refl may

-- What a step leaves

-- another member waits as it did
pub others_wait_as_before : (p : Past) (step : Step) (reply : Reply) (k : ℕ) → step.member ≢ k → (past_after p step reply).waits k ≡ p.waits k
others_wait_as_before p step reply k other = rw (other_number step.member k other) refl

-- its own wait: a refusal leaves it, Wait opens it, every other answer but a task to run, or the end of one, closes it
pub refused_as_before : (p : Past) (step : Step) (refusal : Refusal) (k : ℕ) → (past_after p step (Refused refusal)).waits k ≡ p.waits k
refused_as_before p step refusal k = by_member (step.member == k)
  where
    by_member : (own : Bool) → (if own then p.waits k else p.waits k) ≡ p.waits k
    by_member true = refl
    by_member false = refl

pub wait_is_opened : (p : Past) (step : Step) → ((past_after p step Wait).waits step.member).open_call ≡ Some (call_meant step.call (p.waits step.member).open_call)
wait_is_opened p step = rw (same_number step.member) refl

pub pass_closes_the_wait : (p : Past) (step : Step) → ((past_after p step Passed).waits step.member).open_call ≡ None
pass_closes_the_wait p step = rw (same_number step.member) refl

pub run_puts_its_call_beneath : (p : Past) (step : Step) (task code arg : ℕ) →
    (past_after p step (Run task code arg false)).waits step.member ≡ record { open_call = None; beneath = call_meant step.call (p.waits step.member).open_call ∷ (p.waits step.member).beneath }
run_puts_its_call_beneath p step task code arg = rw (same_number step.member) refl

pub end_opens_the_call_beneath : (p : Past) (step : Step) (task : ℕ) → (past_after p step (TaskDone task true)).waits step.member ≡ open_first (p.waits step.member).beneath
end_opens_the_call_beneath p step task = rw (same_number step.member) refl

pub first_call_waits_again : (call : Call) (calls : List Call) → (open_first [] ≡ no_waits) × (open_first (call ∷ calls) ≡ record { open_call = Some call; beneath = calls })
first_call_waits_again call calls = (refl, refl)

-- a task that its own creator runs at once, and its end, leave the calls beneath, and close the wait
pub own_run_puts_nothing_beneath : (p : Past) (step : Step) (task code arg : ℕ) → (past_after p step (Run task code arg true)).waits step.member ≡ record (p.waits step.member) { open_call = None }
own_run_puts_nothing_beneath p step task code arg = rw (same_number step.member) refl

pub own_end_opens_nothing : (p : Past) (step : Step) (task : ℕ) → (past_after p step (TaskDone task false)).waits step.member ≡ record (p.waits step.member) { open_call = None }
own_end_opens_nothing p step task = rw (same_number step.member) refl

-- and so does every other reply
pub every_other_reply_closes_the_wait : (call : Call) (waits : Waits) (reply : Reply) → reply ≢ Wait → IsGiven reply → ((task code arg : ℕ) → reply ≢ Run task code arg false) → ((task : ℕ) → reply ≢ TaskDone task true)
    → waits_after reply call waits ≡ record waits { open_call = None }
every_other_reply_closes_the_wait call waits Wait other given runs ends = absurd (other refl)
every_other_reply_closes_the_wait call waits (Refused refusal) other given runs ends = absurd given
every_other_reply_closes_the_wait call waits (Run task code arg false) other given runs ends = absurd (runs task code arg refl)
every_other_reply_closes_the_wait call waits (TaskDone task true) other given runs ends = absurd (ends task refl)
every_other_reply_closes_the_wait call waits (Run task code arg true) other given runs ends = refl
every_other_reply_closes_the_wait call waits (TaskDone task false) other given runs ends = refl
every_other_reply_closes_the_wait call waits _ other given runs ends = refl

-- a reply that is no refusal gives its row's events, has a call that is made keep its room if it keeps any, and a repeated one take no more, and changes the locks as its row says
pub answered_step_gives_its_events : (p : Past) (step : Step) (reply : Reply) → IsGiven reply → (past_after p step reply).events ≡ given_after (row_at p step) (is_resume step.call) step.member p reply
answered_step_gives_its_events p step (Refused refusal) given = absurd given
answered_step_gives_its_events p step _ given = refl

pub answered_step_has_its_room : (p : Past) (step : Step) (reply : Reply) → (past_after p step reply).room ≡ room_after (is_resume step.call) (row_at p step) reply p.room
answered_step_has_its_room p step reply = refl

pub answered_step_has_its_locks : (p : Past) (step : Step) (reply : Reply) → (past_after p step reply).locks ≡ locks_after (row_at p step) reply p.locks
answered_step_has_its_locks p step reply = refl

pub made_call_keeps_its_room : (row : Row) (reply : Reply) (room : ℕ) → IsGiven reply → row.keeps_room reply ≡ true → room_after false row reply room ≡ room + row.room
made_call_keeps_its_room row (Refused refusal) room given keeps = absurd given
made_call_keeps_its_room row reply room given keeps = by_reply reply given keeps
  where
    by_reply : (reply : Reply) → IsGiven reply → row.keeps_room reply ≡ true → room_after false row reply room ≡ room + row.room
    by_reply (Refused refusal) given keeps = absurd given
    by_reply _ given keeps = rw keeps refl

pub repeated_call_asks_for_no_room : (row : Row) (reply : Reply) (room : ℕ) → room_after true row reply room ≡ room
repeated_call_asks_for_no_room row (Refused refusal) room = refl
repeated_call_asks_for_no_room row _ room = refl

pub answered_step_changes_its_locks : (row : Row) (reply : Reply) (locks : List (Option LockKind)) → IsGiven reply → locks_after row reply locks ≡ row.locks reply locks
answered_step_changes_its_locks row (Refused refusal) locks given = absurd given
answered_step_changes_its_locks row _ locks given = refl

pub dropped_call_keeps_no_room : (row : Row) (reply : Reply) (room : ℕ) → row.keeps_room reply ≡ false → room_after false row reply room ≡ room
dropped_call_keeps_no_room row (Refused refusal) room gives = refl
dropped_call_keeps_no_room row _ room gives = rw gives refl

-- what a call and its reply leave of a past: nothing but that, and a refusal leaves all
pub refusal_leaves_the_past : (row : Row) (repeated : Bool) (m : ℕ) (p : Past) (refusal : Refusal) → past_given row repeated m p (Refused refusal) ≡ p
refusal_leaves_the_past row repeated m p refusal = refl

pub reply_leaves_its_past : (row : Row) (repeated : Bool) (m : ℕ) (p : Past) (reply : Reply) → IsGiven reply →
    past_given row repeated m p reply ≡ record p { events = given_after row repeated m p reply; room = room_after repeated row reply p.room; locks = locks_after row reply p.locks }
reply_leaves_its_past row repeated m p (Refused refusal) given = absurd given
reply_leaves_its_past row repeated m p _ given = refl

-- want of memory by the row alone, every other reply by what the row says of replies
pub never_given_without_asking : (row : Row) (repeated : Bool) (m : ℕ) (p : Past) → asks_memory row m p ≡ false → MayGive row repeated m p (Refused NoMemory) → ⊥
never_given_without_asking row repeated m p none asks = not_both (asks_memory row m p) asks none

pub given_by_its_row : (row : Row) (repeated : Bool) (m : ℕ) (p : Past) (reply : Reply) → reply ≢ Refused NoMemory → MayGive row repeated m p reply → row.may_reply m (begun_past repeated row m p) reply
given_by_its_row row repeated m p (Refused NoMemory) other may = absurd (other refl)
given_by_its_row row repeated m p _ other may = may

-- after a wait a call goes on, and after a task that was run, after no other reply
pub goes_on_after_a_wait : goes_on Wait ≡ true
goes_on_after_a_wait = refl

pub goes_on_after_a_run : (task code arg : ℕ) (own : Bool) → goes_on (Run task code arg own) ≡ true
goes_on_after_a_run task code arg own = refl

pub never_goes_on_otherwise : (reply : Reply) → reply ≢ Wait → ((task code arg : ℕ) (own : Bool) → reply ≢ Run task code arg own) → goes_on reply ≡ false
never_goes_on_otherwise Wait other runs = absurd (other refl)
never_goes_on_otherwise (Run task code arg own) other runs = absurd (runs task code arg own refl)
never_goes_on_otherwise _ other runs = refl

pub goes_on_by_a_reply : (row : Row) (m : ℕ) → MayGoOn row m → (q : Past) × (reply : Reply) × (goes_on reply ≡ true) × row.may_reply m q reply
goes_on_by_a_reply row m after = after

-- a mismatch breaks the team, by this member, where its construct differs
pub mismatch_breaks_the_team : (p : Past) (step : Step) → (past_after p step (Refused Mismatch)).events ≡ Break step.member ((row_at p step).place step.member p.events) ∷ p.events
mismatch_breaks_the_team p step = refl

-- a refusal but a mismatch gives no event, asks for no room, makes and destroys no lock
pub refused_step_gives_nothing : (p : Past) (step : Step) (refusal : Refusal) → refusal ≢ Mismatch → (past_after p step (Refused refusal)).events ≡ p.events
refused_step_gives_nothing p step Mismatch other = absurd (other refl)
refused_step_gives_nothing p step _ other = refl

pub refused_step_asks_for_no_room : (p : Past) (step : Step) (refusal : Refusal) → (past_after p step (Refused refusal)).room ≡ p.room
refused_step_asks_for_no_room p step refusal = refl

pub refused_step_keeps_the_locks : (p : Past) (step : Step) (refusal : Refusal) → (past_after p step (Refused refusal)).locks ≡ p.locks
refused_step_keeps_the_locks p step refusal = refl

-- nothing changes what the team was made with
pub terms_stay_as_made : (p : Past) (step : Step) (reply : Reply) → (past_after p step reply).terms ≡ p.terms
terms_stay_as_made p step reply = refl

-- One reply

-- two replies are one only if they are the same, run two tasks, or one of them is want of memory
pub one_reply_of_two_runs : (task code arg other other_code other_arg : ℕ) → task ≢ other → OneReply (Run task code arg false) (Run other other_code other_arg false)
one_reply_of_two_runs task code arg other other_code other_arg differ = inr (inl differ)

pub never_two_jobs_of_a_task : (task code arg other_code other_arg : ℕ) → ChoosesTask (Run task code arg false) (Run task other_code other_arg false) → ⊥
never_two_jobs_of_a_task task code arg other_code other_arg chooses = chooses refl

pub never_chooses_but_runs : (one other : Reply) → ((task code arg : ℕ) → one ≢ Run task code arg false) → ChoosesTask one other → ⊥
never_chooses_but_runs (Run task code arg false) other differ chooses = differ task code arg refl
never_chooses_but_runs (Run task code arg true) other differ chooses = chooses
never_chooses_but_runs _ other differ chooses = absurd (chooses)

pub never_chooses_beside_another_reply : (one other : Reply) → ((task code arg : ℕ) → other ≢ Run task code arg false) → ChoosesTask one other → ⊥
never_chooses_beside_another_reply (Run task code arg false) (Run other other_code other_arg false) differ chooses = differ other other_code other_arg refl
never_chooses_beside_another_reply (Run task code arg false) (Run other other_code other_arg true) differ chooses = chooses
never_chooses_beside_another_reply (Run task code arg true) other differ chooses = chooses
never_chooses_beside_another_reply _ _ differ chooses = absurd (chooses)

pub never_two_replies_alike : (one other : Reply) → one ≢ other → (ChoosesTask one other → ⊥) → one ≢ Refused NoMemory → other ≢ Refused NoMemory → OneReply one other → ⊥
never_two_replies_alike one other differ chooses lacks also_lacks (inl same) = differ same
never_two_replies_alike one other differ chooses lacks also_lacks (inr (inl runs)) = chooses runs
never_two_replies_alike one other differ chooses lacks also_lacks (inr (inr (inl lack))) = lacks lack
never_two_replies_alike one other differ chooses lacks also_lacks (inr (inr (inr lack))) = also_lacks lack

-- some reply to a step is an answer other than want of memory
pub some_reply_is_an_answer : (p : Past) (step : Step) → (some : SomeReply p step) → (some.0 ≢ Refused NoMemory) × MayAnswer p step some.0
some_reply_is_an_answer p step some = (some.1, some.2)

-- a record has its causes only if its newest reply has, and the record before it
pub caused_in_each_step : (terms : Terms) (pair : Step × Reply) (earlier : Record) → Caused terms (pair ∷ earlier) → MayAnswer (past_of terms earlier) pair.0 pair.1 × Caused terms earlier
caused_in_each_step terms pair earlier caused = caused

-- a new team has no events, no waits and no locks, room for the end of its region, and no limit above the standard one; each step is made after those before it
pub new_team_has_nothing : (terms : Terms) → past_of terms [] ≡ record { terms = record terms { limits = capped_limits terms.limits }; events = []; waits = λ m. no_waits; room = first_room terms.members; locks = [] }
new_team_has_nothing terms = refl

pub each_step_is_made_after_the_others : (terms : Terms) (pair : Step × Reply) (earlier : Record) → past_of terms (pair ∷ earlier) ≡ past_after (past_of terms earlier) pair.0 pair.1
each_step_is_made_after_the_others terms pair earlier = refl

-- a record has each step with its own reply, the newest first, behind whatever was before, and nothing else
pub each_step_is_recorded : (step : Step) (steps : List Step) (reply : Reply) (replies : List Reply) (before : Record) → record_after (step ∷ steps) (reply ∷ replies) before ≡ record_after steps replies ((step, reply) ∷ before)
each_step_is_recorded step steps reply replies before = refl

pub nothing_is_recorded_without_a_step : (replies : List Reply) (before : Record) → record_after [] replies before ≡ before
nothing_is_recorded_without_a_step replies before = refl

pub nothing_is_recorded_without_a_reply : (step : Step) (steps : List Step) (before : Record) → record_after (step ∷ steps) [] before ≡ before
nothing_is_recorded_without_a_reply step steps before = refl

-- behind a step its member waits as its reply has it
pub member_waits_as_its_reply_has_it : (p : Past) (step : Step) (reply : Reply) → (past_after p step reply).waits step.member ≡ waits_after reply step.call (p.waits step.member)
member_waits_as_its_reply_has_it p step reply = rw (same_number step.member) refl
