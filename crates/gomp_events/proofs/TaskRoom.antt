-- Each task has three events, and no more: those that have not happened yet are as many as its state says. The discard of a task stands for its start and its end.
use Rattle.std.proofs.Common.{◌≡◌, ℕ, ◌+◌, ◌*◌, ◌<◌, ◌≤◌, true, false, List, [], ◌∷◌, refl, sym, arith, suc, inl, inr}
use Rattle.std.specs.Prelude.{◌&&◌, ◌||◌, ◌==◌, not}
use Rattle.std.proofs.lemmas.Bool.Decides.{eqb_tells}
use Rattle.gomp_types.specs.declared.task.Task.{Task}
use Rattle.gomp_types.specs.declared.task.TaskDesc.{TaskDesc}
use Rattle.gomp_events.specs.declared.event.Event.{Event}
use Rattle.gomp_events.specs.declared.event.Event.TheVariants.{Create, Start, Done, Discard}
use Rattle.gomp_events.specs.Tasks.{tasks_created, has_started, is_complete, how_many, open_tasks}
use Rattle.gomp_events.specs.Laws.{Always}
use Rattle.gomp_events.specs.TaskRules.{TaskRule}
use Rattle.gomp_types.proofs.Booleans.{same_number, other_number}
use Rattle.gomp_events.proofs.OpenTasks.{how_many_same, one_less, open_done, open_discard, created_low, created_high}
use Rattle.gomp_events.proofs.Suspended.{unstarted_is_fresh, startable_is_fresh, runner_has_started, current_open}

-- a task that was not created is neither started nor complete
pub uncreated_not_started : (members : ℕ) (h : List Event) → Always (TaskRule members) h → (t : ℕ) → tasks_created h < t → (has_started t h ≡ false) × (is_complete t h ≡ false)
uncreated_not_started members [] all t lt = (refl, refl)
uncreated_not_started members (Start task m ∷ earlier) all t lt =
    let was = uncreated_not_started members earlier all.1 t lt in
    let high = created_high task earlier (startable_is_fresh m task earlier all.0.may).0 in
    let other : (task == t) ≡ false = other_number task t (λ same. omega (arith, high, lt, same)) in
    (rw other was.0, was.1)
uncreated_not_started members (Done task m ∷ earlier) all t lt =
    let was = uncreated_not_started members earlier all.1 t lt in
    let high = created_high task earlier (current_open members m task earlier all.1 all.0.current).0 in
    let other : (task == t) ≡ false = other_number task t (λ same. omega (arith, high, lt, same)) in
    (was.0, rw other was.1)
uncreated_not_started members (Discard task m ∷ earlier) all t lt =
    let was = uncreated_not_started members earlier all.1 t lt in
    let high = created_high task earlier (unstarted_is_fresh task earlier all.0.unstarted).0 in
    let other : (task == t) ≡ false = other_number task t (λ same. omega (arith, high, lt, same)) in
    (was.0, rw other was.1)
uncreated_not_started members (Create task m p desc ∷ earlier) all t lt = uncreated_not_started members earlier all.1 t (omega (arith, lt))
uncreated_not_started members (_ ∷ earlier) all t lt = uncreated_not_started members earlier all.1 t lt

-- how many tasks are not complete
abbrev pub open_all : List Event → ℕ
open_all h = open_tasks (λ t. true) h

-- and how many of them were not started
abbrev pub unstarted : List Event → ℕ
unstarted h = how_many (tasks_created h) (λ t. not (has_started t h) && not (is_complete t h))

-- how many events are of tasks, where a discard counts as two
abbrev pub task_events : List Event → ℕ
task_events [] = 0
task_events (Create task m p desc ∷ earlier) = suc (task_events earlier)
task_events (Start task m ∷ earlier) = suc (task_events earlier)
task_events (Done task m ∷ earlier) = suc (task_events earlier)
task_events (Discard task m ∷ earlier) = suc (suc (task_events earlier))
task_events (_ ∷ earlier) = task_events earlier

-- a new task is open, and not started
open_new : (task m : ℕ) (p : Task) (desc : TaskDesc) (h : List Event) → is_complete (suc (tasks_created h)) h ≡ false → open_all (Create task m p desc ∷ h) ≡ open_all h + 1
open_new task m p desc h incomplete = rw incomplete refl

unstarted_new : (task m : ℕ) (p : Task) (desc : TaskDesc) (h : List Event) → has_started (suc (tasks_created h)) h ≡ false → is_complete (suc (tasks_created h)) h ≡ false → unstarted (Create task m p desc ∷ h) ≡ unstarted h + 1
unstarted_new task m p desc h off incomplete = rw (off, incomplete) refl

-- a start makes one that was not started less, an end none
unstarted_start : (task m : ℕ) (h : List Event) → 0 < task → task ≤ tasks_created h → has_started task h ≡ false → is_complete task h ≡ false → unstarted h ≡ unstarted (Start task m ∷ h) + 1
unstarted_start task m h low high off incomplete =
    one_less (tasks_created h) task (λ u. not (has_started u h) && not (is_complete u h)) (λ u. not (task == u || has_started u h) && not (is_complete u h)) low high
    (rw (off, incomplete) refl) (rw (same_number task) refl) (λ u differ. rw (other_number task u (λ e. differ (sym e))) refl)

-- a discard makes one less
unstarted_discard : (task m : ℕ) (h : List Event) → 0 < task → task ≤ tasks_created h → has_started task h ≡ false → is_complete task h ≡ false → unstarted h ≡ unstarted (Discard task m ∷ h) + 1
unstarted_discard task m h low high off incomplete =
    one_less (tasks_created h) task (λ u. not (has_started u h) && not (is_complete u h)) (λ u. not (has_started u h) && not (task == u || is_complete u h)) low high
    (rw (off, incomplete) refl) (rw (off, same_number task) refl) (λ u differ. rw (other_number task u (λ e. differ (sym e))) refl)

unstarted_done : (task m : ℕ) (h : List Event) → has_started task h ≡ true → unstarted h ≡ unstarted (Done task m ∷ h)
unstarted_done task m h on =
    how_many_same (tasks_created h) (λ u. not (has_started u h) && not (is_complete u h)) (λ u. not (has_started u h) && not (task == u || is_complete u h)) (λ u low high.
    elim (eqb_tells task u) [
      | inl e ↦ let there : has_started u h ≡ true = rw (← e.1) on in both u there
      | inr e ↦ rw e.0 refl
    ])
  where
    both : (u : ℕ) → has_started u h ≡ true → (not (has_started u h) && not (is_complete u h)) ≡ (not (has_started u h) && not (task == u || is_complete u h))
    both u there = rw there refl

-- of each task's three events two are to come while it was not started, and one while it runs
pub three_events_a_task : (members : ℕ) (h : List Event) → Always (TaskRule members) h → task_events h + open_all h + unstarted h ≡ 3 * tasks_created h
three_events_a_task members [] all = refl
three_events_a_task members (Create task m p desc ∷ earlier) all =
    let was = three_events_a_task members earlier all.1 in
    let new = uncreated_not_started members earlier all.1 (suc (tasks_created earlier)) (omega arith) in
    let more = open_new task m p desc earlier new.1 in
    let off = unstarted_new task m p desc earlier new.0 new.1 in
    omega (arith, was, more, off)
three_events_a_task members (Start task m ∷ earlier) all =
    let was = three_events_a_task members earlier all.1 in
    let is = startable_is_fresh m task earlier all.0.may in
    let off = unstarted_start task m earlier (created_low task earlier is.0) (created_high task earlier is.0) is.1 is.2 in
    omega (arith, was, off)
three_events_a_task members (Done task m ∷ earlier) all =
    let was = three_events_a_task members earlier all.1 in
    let is = current_open members m task earlier all.1 all.0.current in
    let more = open_done (λ t. true) task m earlier is.0 refl is.1 in
    let off = unstarted_done task m earlier (runner_has_started task m earlier is.2) in
    omega (arith, was, more, off)
three_events_a_task members (Discard task m ∷ earlier) all =
    let was = three_events_a_task members earlier all.1 in
    let is = unstarted_is_fresh task earlier all.0.unstarted in
    let more = open_discard (λ t. true) task m earlier is.0 refl is.2 in
    let off = unstarted_discard task m earlier (created_low task earlier is.0) (created_high task earlier is.0) is.1 is.2 in
    omega (arith, was, more, off)
three_events_a_task members (_ ∷ earlier) all = three_events_a_task members earlier all.1
