-- Which tasks a member may start: of the ready ones those that it may run; and of undeferred ones its own.
use Rattle.std.proofs.Common.{◌≡◌, ℕ, ◌<◌, ◌≤◌, Bool, true, false, List, [], ◌∷◌, refl, ◌∙◌, sym, arith, suc, inl, inr, length}
use Rattle.std.specs.Prelude.{◌&&◌, ◌==◌, nat_lt, nat_le, not}
use Rattle.std.proofs.lemmas.Bool.{cases_Bool}
use Rattle.std.proofs.lemmas.Bool.Decides.{nat_tests}
use Rattle.gomp_types.specs.declared.depend.Dep.{Dep}
use Rattle.gomp_types.specs.declared.task.Task.{Task}
use Rattle.gomp_events.specs.declared.event.Event.{Event}
use Rattle.gomp_events.specs.declared.event.Event.TheVariants.{Create}
use Rattle.gomp_events.specs.Laws.{Always}
use Rattle.gomp_events.specs.Tasks.{contains, same_task, tasks_created, executed_task, is_child, newest_child, all_complete, is_created, is_undeferred}
use Rattle.gomp_events.specs.Cancels.{is_covered}
use Rattle.gomp_events.specs.Depends.{child_waits, is_free}
use Rattle.gomp_events.specs.Goals.{is_unstarted, is_startable, some_startable, may_descend, may_start, children_complete, taskwait_met}
use Rattle.gomp_events.specs.TaskRules.{TaskRule, MayStart}
use Rattle.gomp_types.proofs.Booleans.{and_left, and_right, and_false, other_number, or_right, or_tells, same_number, is_equal, every_by, not_both}
use Rattle.gomp_events.proofs.OpenTasks.{created_low}
use Rattle.gomp_events.proofs.Suspended.{unstarted_is_fresh, startable_is_fresh, startable_is_free, created_stays}
use Rattle.gomp_events.proofs.OwnTasks.{child_of_current_is_own}
use Rattle.gomp_events.proofs.TasksKeep.{newest_is_created}
use Rattle.gomp_tasks.specs.Calls.{may_run}
use Rattle.gomp_depend.specs.Stands.{IsOpen}
use Rattle.gomp_ready.specs.Ready.{with_task}
use Rattle.gomp_ready.proofs.Laws.{contains_with_task, taken_was_there}
use Rattle.gomp_scheduler.specs.ReadyTasks.{is_listed, was_discarded}
use Rattle.gomp_scheduler.specs.Schedulers.{SchedulerView, Stands, AreSealed, scheduler_members}
use Rattle.gomp_scheduler.specs.Startable.{MayStartOwn}
use Rattle.gomp_scheduler.proofs.ReadyKeeps.{listed_tells, discarded_tells}

-- A task that nobody has started

-- is open
pub unstarted_is_open : (t : ℕ) (h : List Event) → is_unstarted t h ≡ true → IsOpen t h
unstarted_is_open t h un = let fresh = unstarted_is_fresh t h un in record { created = fresh.0; incomplete = fresh.2 }

-- what it takes to start one: it may be run, and is free
pub run_and_free : (m t : ℕ) (h : List Event) → AreSealed h → (may_run m t h && is_free t h) ≡ may_start m t h
run_and_free m t h sealed = swap (is_unstarted t h) (may_descend m t h) (is_free t h) (is_covered t h) (sealed t)
  where
    swap : (a b c d : Bool) → (a ≡ true → d ≡ false) → ((a && b) && c) ≡ ((a && (c && not d)) && b)
    swap true true true d never = rw (never refl) refl
    swap true true false d never = refl
    swap true false c d never = sym (and_false (c && not d) false refl)
    swap false b c d never = refl

-- Ready tasks

-- the member may start one at a wait if it may run it
pub ready_startable : (s : SchedulerView) (m t : ℕ) (h : List Event) → Stands s h → AreSealed h → contains t s.ready.ids ≡ true → may_run m t h ≡ true → is_startable m t h ≡ true
ready_startable s m t h st sealed there runs = elim (or_tells (is_listed t h) (was_discarded t h) (st.ready.ready t there)) [
  | inl is ↦ let tells = listed_tells t h is in let may : may_start m t h ≡ true = sym (run_and_free m t h sealed) ∙ rw (runs, tells.free) refl in rw (tells.deferred, may) refl
  | inr over ↦ absurd (not_both _ (discarded_tells t h over).0 (unstarted_is_fresh t h (and_left (is_unstarted t h) (may_descend m t h) runs)).2)
]

-- so if it took one that it may run
pub taken_startable : (s : SchedulerView) (m t : ℕ) (left : List ℕ) (h : List Event) → Stands s h → AreSealed h → s.ready.ids ≡ with_task t left → true ≡ may_run m t h → is_startable m t h ≡ true
taken_startable s m t left h st sealed taken runs = ready_startable s m t h st sealed (taken_was_there s.ready.ids left t taken) (sym runs)

-- each that is left was there too
pub left_was_there : (before after : List ℕ) (t u : ℕ) → before ≡ with_task t after → contains u after ≡ true → contains u before ≡ true
left_was_there before after t u taken there = rw (taken, contains_with_task t u after) (or_right (t == u) (contains u after) there)

-- and it may run each that it may start, which is among them
startable_runs : (m t : ℕ) (h : List Event) → AreSealed h → is_startable m t h ≡ true → may_run m t h ≡ true
startable_runs m t h sealed is = and_left (may_run m t h) (is_free t h) (run_and_free m t h sealed ∙ and_right (not (is_undeferred t h)) (may_start m t h) is)

startable_is_listed : (m t : ℕ) (h : List Event) → is_startable m t h ≡ true → is_listed t h ≡ true
startable_is_listed m t h is =
    let may = and_right (not (is_undeferred t h)) (may_start m t h) is in
    let fresh = startable_is_fresh m t h may in
    let free = startable_is_free m t h may in
    let deferred = and_left (not (is_undeferred t h)) (may_start m t h) is in
    rw (fresh.0, fresh.1, fresh.2, deferred, free) refl

-- so if it may run none of the ready ones, it may start no task
pub nothing_startable : (s : SchedulerView) (m : ℕ) (h : List Event) → Stands s h → AreSealed h → ((t : ℕ) → contains t s.ready.ids ≡ true → may_run m t h ≡ false) → some_startable m h ≡ false
nothing_startable s m h st sealed none = rw (every_by (tasks_created h) (λ k. not (is_startable m (suc k) h)) (λ k lt. rw (each (suc k)) refl)) refl
  where
    each : (t : ℕ) → is_startable m t h ≡ false
    each t = elim (cases_Bool (is_startable m t h)) [
      | inr not_it ↦ not_it
      | inl is ↦ absurd (not_both (may_run m t h) (startable_runs m t h sealed is) (none t (st.ready.listed t (startable_is_listed m t h is))))
    ]

-- the rule lets the member start it
pub ready_rule : (s : SchedulerView) (m t : ℕ) (h : List Event) → m < scheduler_members s → is_startable m t h ≡ true → MayStart (scheduler_members s) t m h
ready_rule s m t h low is =
    let deferred = and_left (not (is_undeferred t h)) (may_start m t h) is in
    record { member = low; may = and_right (not (is_undeferred t h)) (may_start m t h) is; own = λ undeferred. absurd (let both : not (is_undeferred t h) ≡ false = rw undeferred refl in not_both (not (is_undeferred t h)) deferred both) }

-- An undeferred task

number_in_range : (t n : ℕ) → 0 < t → t ≤ n → (nat_lt 0 t && nat_le t n) ≡ true
number_in_range t n low high = grind (arith, nat_tests, low, high)

-- was created
undeferred_is_created : (members t : ℕ) (h : List Event) → Always (TaskRule members) h → is_undeferred t h ≡ true → is_created t h ≡ true
undeferred_is_created members t [] all is = absurd (cc)
undeferred_is_created members t (Create task m parent desc ∷ earlier) all is = elim (cases_Bool (task == t)) [
  | inl same ↦ let number = all.0.number in let e = is_equal task t same in number_in_range t (suc (tasks_created earlier)) (omega (arith, number, e)) (omega (arith, number, e))
  | inr other ↦ created_stays t earlier (undeferred_is_created members t earlier all.1 (rw other at is))
]
undeferred_is_created members t (_ ∷ earlier) all is = undeferred_is_created members t earlier all.1 is

-- the newest child of a task is its child
newest_child_is_child : (members : ℕ) (p : Task) (t : ℕ) (h : List Event) → Always (TaskRule members) h → 0 < t → t ≡ newest_child p h → is_child p t h ≡ true
newest_child_is_child members p t [] all low e = absurd (omega (arith, low, e))
newest_child_is_child members p t (Create task m parent desc ∷ earlier) all low e =
    let number = all.0.number in
    elim (cases_Bool (same_task parent p)) [
      | inl here ↦ let same : task ≡ t = sym (rw here at e) in rw (← same, same_number task) here
      | inr other ↦
          let old : t ≡ newest_child p earlier = rw other at e in
          let high = newest_is_created members p earlier all.1 in
          let away : (task == t) ≡ false = other_number task t (λ same. omega (arith, number, old, high, same)) in
          rw away (newest_child_is_child members p t earlier all.1 low old)
    ]
newest_child_is_child members p t (_ ∷ earlier) all low e = newest_child_is_child members p t earlier all.1 low e

-- if it is undeferred and may be started, the member that executes its parent may start it
own_rule : (n m t : ℕ) (h : List Event) → Always (TaskRule n) h → m < n → t ≡ newest_child (executed_task m h) h → is_undeferred t h ≡ true → may_start m t h ≡ true → MayStart n t m h
own_rule n m t h all low newest undeferred may =
    let created = undeferred_is_created n t h all undeferred in
    record { member = low; may = may; own = λ is. child_of_current_is_own n m t h all ∙ newest_child_is_child n (executed_task m h) t h all (created_low t h created) newest }

pub own_may_start : (s : SchedulerView) (m t : ℕ) (h : List Event) → Stands s h → m < scheduler_members s → t ≡ newest_child (executed_task m h) h → is_undeferred t h ≡ true → may_start m t h ≡ true → MayStartOwn m t s h
own_may_start s m t h st low newest undeferred may = record { rule = own_rule (scheduler_members s) m t h st.tasks.rule low newest undeferred may; undeferred = undeferred }

pub not_run : (m t : ℕ) (h : List Event) → AreSealed h → may_run m t h ≡ false → false ≡ may_start m t h
not_run m t h sealed fails = rw fails at (run_and_free m t h sealed)

pub run_then_free : (m t : ℕ) (free : Bool) (h : List Event) → AreSealed h → may_run m t h ≡ true → free ≡ is_free t h → free ≡ may_start m t h
run_then_free m t free h sealed runs e = e ∙ rw runs at (run_and_free m t h sealed)

pub run_is_open : (m t : ℕ) (h : List Event) → may_run m t h ≡ true → IsOpen t h
run_is_open m t h runs = unstarted_is_open t h (and_left (is_unstarted t h) (may_descend m t h) runs)

-- What a taskwait waits for

pub met_without : (p : Task) (items : List Dep) (h : List Event) → (length items == 0) ≡ true → children_complete p h ≡ taskwait_met p items h
met_without p [] h e = refl
met_without p (item ∷ items) h e = absurd (let none = is_equal (length (item ∷ items)) 0 e in omega (arith, none))

pub met_with : (p : Task) (items : List Dep) (h : List Event) → (length items == 0) ≡ false → all_complete (λ t. child_waits p items t h) h ≡ taskwait_met p items h
met_with p [] h e = absurd (cc)
met_with p (item ∷ items) h e = refl

-- What is discarded

pub started_is_not_discarded : (task : ℕ) (h : List Event) → is_unstarted task h ≡ false → false ≡ (is_unstarted task h && is_covered task h)
started_is_not_discarded task h started = rw started refl

pub then_covered : (task : ℕ) (covered : Bool) (h : List Event) → is_unstarted task h ≡ true → covered ≡ is_covered task h → covered ≡ (is_unstarted task h && is_covered task h)
then_covered task covered h un is = rw un is
