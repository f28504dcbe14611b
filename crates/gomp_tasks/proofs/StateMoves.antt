-- What the events say of the state of a task: which one it is, and which comes after it.
use Rattle.std.proofs.Common.{◌≡◌, ℕ, Bool, true, false, List, [], ◌∷◌, Option, Some, None, ◌++◌, refl, ap, ◌∙◌, subst, arith, suc, inl, inr}
use Rattle.std.specs.Prelude.{◌||◌, ◌==◌, not}
use Rattle.std.proofs.lemmas.Bool.{cases_Bool}
use Rattle.gomp_events.specs.declared.event.Event.{Event}
use Rattle.gomp_events.specs.declared.event.Event.TheVariants as events
use Rattle.gomp_events.specs.Tasks.{tasks_created, is_created, has_started, task_runner, is_complete}
use Rattle.gomp_events.specs.Depends.{waits_for, is_free}
use Rattle.gomp_events.specs.Laws.{Always, Happened}
use Rattle.gomp_events.specs.TaskRules.{TaskRule}
use Rattle.gomp_events.specs.TaskLaws.{IsCreated, IsTaskDone}
use Rattle.gomp_types.proofs.Booleans.{or_tells, or_right, other_number, same_number, is_equal, not_both, every_tells, every_by}
use Rattle.gomp_events.proofs.OpenTasks.{created_high}
use Rattle.gomp_events.proofs.Suspended.{unstarted_is_fresh, startable_is_fresh, startable_is_free, runner_has_started, unstarted_has_no_runner, created_stays, current_open, one_runner}
use Rattle.gomp_events.proofs.TaskEvents.{complete_is_done, gone_is_complete, done_is_complete, open_is_not_done, start_happened, runner_happened, was_created, created_happened}
use Rattle.gomp_events.proofs.GoalReadings.{always_of_earlier}
use Rattle.gomp_events.proofs.TasksKeep.{named_is_created}
use Rattle.gomp_tasks.specs.declared.rows.TaskState.{TaskState}
use Rattle.gomp_tasks.specs.declared.rows.TaskState.TheVariants as states
use Rattle.gomp_tasks.specs.Rows.{IsState, Follows}
use Rattle.gomp_tasks.specs.States.{State, IsUnstarted, InState, MovesTo, Precedes, kept_state}

-- a task that was not started has no runner
pub nobody_runs : (t : ℕ) (h : List Event) → has_started t h ≡ false → task_runner t h ≡ None
nobody_runs t h off = by (task_runner t h) refl
  where
    by : (found : Option ℕ) → task_runner t h ≡ found → task_runner t h ≡ None
    by None e = e
    by (Some m) e = absurd (unstarted_has_no_runner t m h off e)

-- What stays

-- what was started stays so, and what is complete
pub started_later : (t : ℕ) (event : Event) (h : List Event) → has_started t h ≡ true → has_started t (event ∷ h) ≡ true
started_later t (events.Start task m) h on = or_right (task == t) (has_started t h) on
started_later t _ h on = on

pub complete_later : (t : ℕ) (event : Event) (h : List Event) → is_complete t h ≡ true → is_complete t (event ∷ h) ≡ true
complete_later t (events.Done task m) h over = or_right (task == t) (is_complete t h) over
complete_later t (events.Discard task m) h over = or_right (task == t) (is_complete t h) over
complete_later t _ h over = over

-- a task that is complete and was not started never is
pub never_started : (members t : ℕ) (event : Event) (h : List Event) → TaskRule members event h → has_started t h ≡ false → is_complete t h ≡ true → has_started t (event ∷ h) ≡ false
never_started members t (events.Start task m) h rule off over = rw (other_number task t (λ same. let open' = (startable_is_fresh m task h rule.may).2 in not_both (is_complete t h) over (rw same at open'))) off
never_started members t _ h rule off over = off

-- the member that started a task is the one that runs it
pub runner_later : (members t m : ℕ) (event : Event) (h : List Event) → TaskRule members event h → task_runner t h ≡ Some m → task_runner t (event ∷ h) ≡ Some m
runner_later members t m (events.Start task n) h rule by = rw (other_number task t (λ same. let off = (startable_is_fresh n task h rule.may).1 in not_both (has_started t h) (runner_has_started t m h by) (rw same at off))) by
runner_later members t m _ h rule by = by

-- no event both starts and completes a task
pub not_at_once : (t : ℕ) (event : Event) (h : List Event) → has_started t h ≡ false → is_complete t h ≡ false → has_started t (event ∷ h) ≡ true → is_complete t (event ∷ h) ≡ true → ⊥
not_at_once t (events.Start task m) h off open' on over = not_both (is_complete t h) over open'
not_at_once t _ h off open' on over = not_both (has_started t h) on off

-- What a row keeps

pub state_follows : (members t : ℕ) (old new : TaskState) (event : Event) (h : List Event) → TaskRule members event h → IsState t old h → IsState t new (event ∷ h) → Follows old new
state_follows members t states.Unstarted states.Unstarted event h rule before after = tt
state_follows members t states.Unstarted (states.Running n) event h rule before after = tt
state_follows members t states.Unstarted (states.Done n) event h rule before after = not_at_once t event h before.started before.complete after.started after.complete
state_follows members t states.Unstarted states.Discarded event h rule before after = tt
state_follows members t (states.Running m) states.Unstarted event h rule before after = not_both (has_started t (event ∷ h)) (started_later t event h before.started) after.started
state_follows members t (states.Running m) (states.Running n) event h rule before after = one_runner t m n (event ∷ h) (runner_later members t m event h rule before.runner) after.runner
state_follows members t (states.Running m) (states.Done n) event h rule before after = one_runner t m n (event ∷ h) (runner_later members t m event h rule before.runner) after.runner
state_follows members t (states.Running m) states.Discarded event h rule before after = not_both (has_started t (event ∷ h)) (started_later t event h before.started) after.started
state_follows members t (states.Done m) states.Unstarted event h rule before after = not_both (has_started t (event ∷ h)) (started_later t event h before.started) after.started
state_follows members t (states.Done m) (states.Running n) event h rule before after = not_both (is_complete t (event ∷ h)) (complete_later t event h before.complete) after.complete
state_follows members t (states.Done m) (states.Done n) event h rule before after = one_runner t m n (event ∷ h) (runner_later members t m event h rule before.runner) after.runner
state_follows members t (states.Done m) states.Discarded event h rule before after = not_both (has_started t (event ∷ h)) (started_later t event h before.started) after.started
state_follows members t states.Discarded states.Unstarted event h rule before after = not_both (is_complete t (event ∷ h)) (complete_later t event h before.complete) after.complete
state_follows members t states.Discarded (states.Running n) event h rule before after = not_both (is_complete t (event ∷ h)) (complete_later t event h before.complete) after.complete
state_follows members t states.Discarded (states.Done n) event h rule before after = not_both (has_started t (event ∷ h)) after.started (never_started members t event h rule before.started before.complete)
state_follows members t states.Discarded states.Discarded event h rule before after = tt

-- two kept states of one task are one
pub same_kept : (t : ℕ) (one other : TaskState) (h : List Event) → IsState t one h → IsState t other h → one ≡ other
same_kept t states.Unstarted states.Unstarted h a b = refl
same_kept t states.Unstarted (states.Running n) h a b = absurd (not_both (has_started t h) b.started a.started)
same_kept t states.Unstarted (states.Done n) h a b = absurd (not_both (has_started t h) b.started a.started)
same_kept t states.Unstarted states.Discarded h a b = absurd (not_both (is_complete t h) b.complete a.complete)
same_kept t (states.Running m) states.Unstarted h a b = absurd (not_both (has_started t h) a.started b.started)
same_kept t (states.Running m) (states.Running n) h a b = ap states.Running (one_runner t m n h a.runner b.runner)
same_kept t (states.Running m) (states.Done n) h a b = absurd (not_both (is_complete t h) b.complete a.complete)
same_kept t (states.Running m) states.Discarded h a b = absurd (not_both (has_started t h) a.started b.started)
same_kept t (states.Done m) states.Unstarted h a b = absurd (not_both (has_started t h) a.started b.started)
same_kept t (states.Done m) (states.Running n) h a b = absurd (not_both (is_complete t h) a.complete b.complete)
same_kept t (states.Done m) (states.Done n) h a b = ap states.Done (one_runner t m n h a.runner b.runner)
same_kept t (states.Done m) states.Discarded h a b = absurd (not_both (has_started t h) a.started b.started)
same_kept t states.Discarded states.Unstarted h a b = absurd (not_both (is_complete t h) a.complete b.complete)
same_kept t states.Discarded (states.Running n) h a b = absurd (not_both (has_started t h) b.started a.started)
same_kept t states.Discarded (states.Done n) h a b = absurd (not_both (has_started t h) b.started a.started)
same_kept t states.Discarded states.Discarded h a b = refl

-- What happened

pub false_of_never : (b : Bool) → (b ≡ true → ⊥) → b ≡ false
false_of_never true never = absurd (never refl)
false_of_never false never = refl

-- a task that was discarded was never started
gone_never_started : (members t m : ℕ) (h : List Event) → Always (TaskRule members) h → Happened (events.Discard t m) h → has_started t h ≡ false
gone_never_started members t m [] all gone = absurd gone
gone_never_started members t m (events.Discard task n ∷ earlier) all (inl e) =
    let here : task ≡ t = cc in subst (λ (x : ℕ). has_started x earlier ≡ false) here (unstarted_is_fresh task earlier all.0.unstarted).1
gone_never_started members t m (events.Discard task n ∷ earlier) all (inr gone) = gone_never_started members t m earlier all.1 gone
gone_never_started members t m (event ∷ earlier) all (inl e) = absurd (cc)
gone_never_started members t m (event ∷ earlier) all (inr gone) =
    never_started members t event earlier all.0 (gone_never_started members t m earlier all.1 gone) (gone_is_complete t m earlier gone)

-- the member that started a task is its runner
pub started_by_runner : (members t m : ℕ) (h : List Event) → Always (TaskRule members) h → Happened (events.Start t m) h → task_runner t h ≡ Some m
started_by_runner members t m [] all start = absurd start
started_by_runner members t m (events.Start task n ∷ earlier) all (inl e) =
    let here : task ≡ t = cc in let who : n ≡ m = cc in rw (here, same_number t) (ap Some who)
started_by_runner members t m (events.Start task n ∷ earlier) all (inr start) = runner_later members t m (events.Start task n) earlier all.0 (started_by_runner members t m earlier all.1 start)
started_by_runner members t m (_ ∷ earlier) all (inl e) = absurd (cc)
started_by_runner members t m (_ ∷ earlier) all (inr start) = started_by_runner members t m earlier all.1 start

-- and so is the one that ended it
pub ended_by_runner : (members t m : ℕ) (h : List Event) → Always (TaskRule members) h → Happened (events.Done t m) h → task_runner t h ≡ Some m
ended_by_runner members t m [] all done = absurd done
ended_by_runner members t m (events.Done task n ∷ earlier) all (inl e) =
    let here : task ≡ t = cc in let who : n ≡ m = cc in
    subst (λ (x : ℕ). task_runner x earlier ≡ Some m) here ((current_open members n task earlier all.1 all.0.current).2 ∙ ap Some who)
ended_by_runner members t m (events.Done task n ∷ earlier) all (inr done) = ended_by_runner members t m earlier all.1 done
ended_by_runner members t m (event ∷ earlier) all (inl e) = absurd (cc)
ended_by_runner members t m (event ∷ earlier) all (inr done) = runner_later members t m event earlier all.0 (ended_by_runner members t m earlier all.1 done)

-- a task that has started was started by some member
start_by_some : (t : ℕ) (h : List Event) → has_started t h ≡ true → (m : ℕ) × Happened (events.Start t m) h
start_by_some t [] on = absurd (cc)
start_by_some t (events.Start task m ∷ earlier) on = elim (or_tells (task == t) (has_started t earlier) on) [
  | inl same ↦ (m, inl (let here = is_equal task t same in rw here refl))
  | inr before ↦ let was = start_by_some t earlier before in (was.0, inr was.1)
]
start_by_some t (_ ∷ earlier) on = let was = start_by_some t earlier on in (was.0, inr was.1)

-- what a row keeps of a task that nobody has started
unstarted_is_kept : (t : ℕ) (h : List Event) → IsUnstarted t h → IsState t states.Unstarted h
unstarted_is_kept t h is =
    let off : has_started t h ≡ false = false_of_never (has_started t h) (λ on. let start = start_by_some t h on in is.unstarted start.0 start.1) in
    record { started = off; complete = false_of_never (is_complete t h) (λ over. is.incomplete (complete_is_done t h over)); runner = nobody_runs t h off }

-- what a row keeps of a state
pub state_is_kept : (members t : ℕ) (state : State) (h : List Event) → Always (TaskRule members) h → InState t state h → IsState t (kept_state state) h
state_is_kept members t State.Held h all is = unstarted_is_kept t h is.0
state_is_kept members t State.Ready h all is = unstarted_is_kept t h is.0
state_is_kept members t (State.Running m) h all is = record {
  started = start_happened t m h is.0;
  complete = false_of_never (is_complete t h) (λ over. is.1 (complete_is_done t h over));
  runner = started_by_runner members t m h all is.0;
}
state_is_kept members t (State.Done m) h all is = record { started = start_happened t m h is.0; complete = done_is_complete t m h is.1; runner = started_by_runner members t m h all is.0 }
state_is_kept members t State.Discarded h all is =
    let off = gone_never_started members t is.0 h all is.1 in
    record { started = off; complete = gone_is_complete t is.0 h is.1; runner = nobody_runs t h off }

-- A task that was created

-- one that has started was created, and one that is complete
started_has_number : (members t : ℕ) (h : List Event) → Always (TaskRule members) h → has_started t h ≡ true → is_created t h ≡ true
started_has_number members t [] all on = absurd (cc)
started_has_number members t (events.Start task m ∷ earlier) all on = elim (or_tells (task == t) (has_started t earlier) on) [
  | inl same ↦ subst (λ (x : ℕ). is_created x earlier ≡ true) (is_equal task t same) (startable_is_fresh m task earlier all.0.may).0
  | inr before ↦ started_has_number members t earlier all.1 before
]
started_has_number members t (events.Create task m p desc ∷ earlier) all on = created_stays t earlier (started_has_number members t earlier all.1 on)
started_has_number members t (_ ∷ earlier) all on = started_has_number members t earlier all.1 on

gone_has_number : (members t m : ℕ) (h : List Event) → Always (TaskRule members) h → Happened (events.Discard t m) h → is_created t h ≡ true
gone_has_number members t m [] all gone = absurd gone
gone_has_number members t m (events.Discard task n ∷ earlier) all (inl e) =
    let here : task ≡ t = cc in subst (λ (x : ℕ). is_created x earlier ≡ true) here (unstarted_is_fresh task earlier all.0.unstarted).0
gone_has_number members t m (events.Discard task n ∷ earlier) all (inr gone) = gone_has_number members t m earlier all.1 gone
gone_has_number members t m (events.Create task n p desc ∷ earlier) all (inl e) = absurd (cc)
gone_has_number members t m (events.Create task n p desc ∷ earlier) all (inr gone) = created_stays t earlier (gone_has_number members t m earlier all.1 gone)
gone_has_number members t m (_ ∷ earlier) all (inl e) = absurd (cc)
gone_has_number members t m (_ ∷ earlier) all (inr gone) = gone_has_number members t m earlier all.1 gone

-- so a task that has a state was created
pub state_is_created : (members t : ℕ) (state : State) (h : List Event) → Always (TaskRule members) h → InState t state h → IsCreated t h
state_is_created members t State.Held h all is = is.0.created
state_is_created members t State.Ready h all is = is.0.created
state_is_created members t (State.Running m) h all is = created_happened members t h all (started_has_number members t h all (start_happened t m h is.0))
state_is_created members t (State.Done m) h all is = created_happened members t h all (started_has_number members t h all (start_happened t m h is.0))
state_is_created members t State.Discarded h all is = created_happened members t h all (gone_has_number members t is.0 h all is.1)

-- and the other way round
done_state : (members t : ℕ) (h : List Event) → Always (TaskRule members) h → IsTaskDone t h → (state : State) × InState t state h
done_state members t h all (m, inl done) = (State.Done m, (runner_happened t m h (ended_by_runner members t m h all done), done))
done_state members t h all (m, inr gone) = (State.Discarded, (m, gone))

unstarted_state : (t : ℕ) (h : List Event) → IsUnstarted t h → (state : State) × InState t state h
unstarted_state t h is = elim (cases_Bool (is_free t h)) [
  | inl free ↦ (State.Ready, (is, free))
  | inr held ↦ (State.Held, (is, held))
]

pub created_has_state : (members t : ℕ) (h : List Event) → Always (TaskRule members) h → IsCreated t h → (state : State) × InState t state h
created_has_state members t h all made = elim (cases_Bool (is_complete t h)) [
  | inl over ↦ done_state members t h all (complete_is_done t h over)
  | inr open' ↦ elim (cases_Bool (has_started t h)) [
    | inl on ↦ let start = start_by_some t h on in (State.Running start.0, (start.1, open_is_not_done t h open'))
    | inr off ↦ unstarted_state t h (record { created = made; unstarted = λ m start. not_both (has_started t h) (start_happened t m h start) off; incomplete = open_is_not_done t h open' })
  ]
]

-- two states of one task are one
pub same_state : (members t : ℕ) (one other : State) (h : List Event) → Always (TaskRule members) h → InState t one h → InState t other h → one ≡ other
same_state members t one other h all a b = by one other a b (same_kept t (kept_state one) (kept_state other) h (state_is_kept members t one h all a) (state_is_kept members t other h all b))
  where
    by : (one other : State) → InState t one h → InState t other h → kept_state one ≡ kept_state other → one ≡ other
    by State.Held State.Held a b e = refl
    by State.Held State.Ready a b e = absurd (not_both (is_free t h) b.1 a.1)
    by State.Ready State.Held a b e = absurd (not_both (is_free t h) a.1 b.1)
    by State.Ready State.Ready a b e = refl
    by (State.Running m) (State.Running n) a b e = let same : m ≡ n = cc in ap State.Running same
    by (State.Done m) (State.Done n) a b e = let same : m ≡ n = cc in ap State.Done same
    by State.Discarded State.Discarded a b e = refl
    by _ _ a b e = absurd (cc)

-- A task that is ready stays so until it is started or discarded

-- so no task waits for the next one
next_not_named : (members t : ℕ) (h : List Event) → Always (TaskRule members) h → waits_for t (suc (tasks_created h)) h ≡ false
next_not_named members t h all = false_of_never (waits_for t (suc (tasks_created h)) h) (λ waits.
    let high = created_high (suc (tasks_created h)) h (named_is_created members t (suc (tasks_created h)) h all waits) in omega (arith, high))

still_met : (waits done over : Bool) → (not waits || over) ≡ true → (not waits || (done || over)) ≡ true
still_met true done over e = or_right done over e
still_met false done over e = refl

pub free_later : (members t : ℕ) (event : Event) (h : List Event) → Always (TaskRule members) (event ∷ h) → is_created t h ≡ true → is_free t h ≡ true → is_free t (event ∷ h) ≡ true
free_later members t (events.Done task m) h all made free =
    every_by (tasks_created h) (λ k. not (waits_for t (suc k) h) || (task == suc k || is_complete (suc k) h)) (λ k lt.
    still_met (waits_for t (suc k) h) (task == suc k) (is_complete (suc k) h) (every_tells (tasks_created h) (λ j. not (waits_for t (suc j) h) || is_complete (suc j) h) k free lt))
free_later members t (events.Discard task m) h all made free =
    every_by (tasks_created h) (λ k. not (waits_for t (suc k) h) || (task == suc k || is_complete (suc k) h)) (λ k lt.
    still_met (waits_for t (suc k) h) (task == suc k) (is_complete (suc k) h) (every_tells (tasks_created h) (λ j. not (waits_for t (suc j) h) || is_complete (suc j) h) k free lt))
free_later members t (events.Create task m p desc) h all made free =
    let high = created_high t h made in let number = all.0.number in
    let other : (task == t) ≡ false = other_number task t (λ same. omega (arith, same, high, number)) in
    rw (other, next_not_named members t h all.1) free
free_later members t _ h all made free = free

-- a task that is held is not started
held_not_started : (members t m : ℕ) (event : Event) (h : List Event) → TaskRule members event h → InState t State.Held h → Happened (events.Start t m) (event ∷ h) → ⊥
held_not_started members t m event h rule is (inl e) = not_both (is_free t h) (startable_is_free m t h (subst (λ (x : Event). TaskRule members x h) e rule).may) is.1
held_not_started members t m event h rule is (inr start) = is.0.unstarted m start

-- What comes after

-- all moves but two follow from what a row keeps
moves_by_row : (old new : State) → Follows (kept_state old) (kept_state new) → (old ≡ State.Ready → new ≡ State.Held → ⊥) → ((m : ℕ) → old ≡ State.Held → new ≡ State.Running m → ⊥) → MovesTo old new
moves_by_row State.Ready State.Held follows back ahead = back refl refl
moves_by_row State.Held (State.Running m) follows back ahead = ahead m refl refl
moves_by_row (State.Running m) State.Held follows back ahead = follows
moves_by_row (State.Done m) State.Held follows back ahead = follows
moves_by_row State.Discarded State.Held follows back ahead = follows
moves_by_row old new follows back ahead = follows

ready_not_held : (members t : ℕ) (event : Event) (h : List Event) → Always (TaskRule members) (event ∷ h) → InState t State.Ready h → InState t State.Held (event ∷ h) → ⊥
ready_not_held members t event h all before after =
    not_both (is_free t (event ∷ h)) (free_later members t event h all (was_created members t h all.1 before.0.created) before.1) after.1

pub state_moves : (members t : ℕ) (old new : State) (event : Event) (h : List Event) → Always (TaskRule members) (event ∷ h) → InState t old h → InState t new (event ∷ h) → MovesTo old new
state_moves members t old new event h all before after =
    let follows = state_follows members t (kept_state old) (kept_state new) event h all.0 (state_is_kept members t old h all.1 before) (state_is_kept members t new (event ∷ h) all after) in
    moves_by_row old new follows
    (λ was is. ready_not_held members t event h all (subst (λ (state : State). InState t state h) was before) (subst (λ (state : State). InState t state (event ∷ h)) is after))
    (λ m was is.
    let start : InState t (State.Running m) (event ∷ h) = subst (λ (state : State). InState t state (event ∷ h)) is after in
    held_not_started members t m event h all.0 (subst (λ (state : State). InState t state h) was before) start.0)

-- a state comes before itself
precedes_itself : (state : State) → Precedes state state
precedes_itself State.Held = tt
precedes_itself State.Ready = tt
precedes_itself (State.Running m) = refl
precedes_itself (State.Done m) = refl
precedes_itself State.Discarded = tt

-- and before those that come after the next one
precedes_next : (old now new : State) → Precedes old now → MovesTo now new → Precedes old new
precedes_next State.Held now new a b = tt
precedes_next State.Ready State.Held new a b = absurd a
precedes_next State.Ready now State.Held a b = absurd b
precedes_next State.Ready now new a b = tt
precedes_next (State.Running m) (State.Running n) (State.Running k) a b = a ∙ b
precedes_next (State.Running m) (State.Running n) (State.Done k) a b = a ∙ b
precedes_next (State.Running m) (State.Running n) new a b = absurd b
precedes_next (State.Running m) (State.Done n) (State.Done k) a b = a ∙ b
precedes_next (State.Running m) (State.Done n) new a b = absurd b
precedes_next (State.Running m) now new a b = absurd a
precedes_next (State.Done m) (State.Done n) (State.Done k) a b = a ∙ b
precedes_next (State.Done m) (State.Done n) new a b = absurd b
precedes_next (State.Done m) now new a b = absurd a
precedes_next State.Discarded State.Discarded State.Discarded a b = tt
precedes_next State.Discarded State.Discarded new a b = absurd b
precedes_next State.Discarded now new a b = absurd a

-- a task that was created stays so
created_in_longer : (t : ℕ) (later h : List Event) → IsCreated t h → IsCreated t (later ++ h)
created_in_longer t [] h made = made
created_in_longer t (event ∷ later) h made = let was = created_in_longer t later h made in (was.0, was.1, was.2, inr was.3)

pub state_precedes : (members t : ℕ) (old new : State) (later h : List Event) → Always (TaskRule members) (later ++ h) → InState t old h → InState t new (later ++ h) → Precedes old new
state_precedes members t old new [] h all before after = subst (λ (state : State). Precedes old state) (same_state members t old new h all before after) (precedes_itself old)
state_precedes members t old new (event ∷ later) h all before after =
    let made = state_is_created members t old h (always_of_earlier members later h all.1) before in
    let now = created_has_state members t (later ++ h) all.1 (created_in_longer t later h made) in
    precedes_next old now.0 new (state_precedes members t old now.0 later h all.1 before now.1) (state_moves members t now.0 new event (later ++ h) all now.1 after)
