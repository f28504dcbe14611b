-- Tasks and groups that keep their rule keep their laws.
use Rattle.std.proofs.Common.{◌≡◌, ℕ, Bool, true, false, List, [], ◌∷◌, refl, ◌∙◌, sym, arith, inl, inr, ◌≤◌}
use Rattle.std.specs.Prelude.{◌&&◌, ◌||◌, ◌==◌, nat_le}
use Rattle.std.proofs.lemmas.Bool.{cases_Bool}
use Rattle.std.proofs.lemmas.Bool.Decides.{nat_tests}
use Rattle.gomp_types.specs.declared.task.Task.{Task}
use Rattle.gomp_types.specs.declared.task.Task.TheVariants.{Implicit, Explicit}
use Rattle.gomp_types.specs.declared.task.TaskDesc.{TaskDesc}
use Rattle.gomp_types.specs.declared.depend.Dep.{Dep}
use Rattle.gomp_events.specs.declared.event.Event.{Event}
use Rattle.gomp_events.specs.declared.event.Event.TheVariants.{Create, Start, Done, Discard, GroupEnd, Waited, Pass}
use Rattle.gomp_types.specs.Members.{every_member}
use Rattle.gomp_events.specs.Events.{all_arrived, at_barrier, at_region_end}
use Rattle.gomp_events.specs.Tasks.{is_created, task_stack, executed_task, has_started, is_complete, all_complete, epoch, same_task, is_child, is_created_by, is_ancestor, tasks_created, newest_child}
use Rattle.gomp_types.specs.DependItems.{items_wait}
use Rattle.gomp_events.specs.Depends.{task_items, child_waits, waits_for}
use Rattle.gomp_events.specs.Groups.{in_group}
use Rattle.gomp_events.specs.Goals.{bound_complete, region_met, is_ready, each_of, may_descend}
use Rattle.gomp_events.specs.Laws.{Always, Happened}
use Rattle.gomp_events.specs.Arrivals.{ArrivalRule}
use Rattle.gomp_events.specs.TaskRules.{TaskRule}
use Rattle.gomp_events.specs.Cancels.{is_cancelled}
use Rattle.gomp_events.specs.TaskLaws.{CreatesOnce, CreatesInItsOwn, StartsOnce, StartsAfterNamed, StartsItsOwn, StartsDescendant, EndsItsOwn, StartsUncovered, CreatesUncovered, DiscardsUnstarted, WaitsForTasks, OpensOnce, EndsItsGroup, PassesAfterTasks, EndsAfterTasks, TaskLaws}
use Rattle.gomp_types.proofs.Booleans.{and_left, and_right, is_equal, not_both}
use Rattle.gomp_events.proofs.Always.{always_so, both_so}
use Rattle.gomp_events.proofs.ArrivalsKeep.{passed_met, passed_cancelled, passed_region}
use Rattle.gomp_events.proofs.OpenTasks.{created_high, complete_at}
use Rattle.gomp_events.proofs.Suspended.{unstarted_is_fresh, startable_is_fresh, startable_is_free, startable_is_uncovered, current_open, created_stays}
use Rattle.gomp_events.proofs.GroupsKeep.{same_is_one, opens_once, ends_its_group}
use Rattle.gomp_events.proofs.TaskEvents.{complete_is_done, done_is_complete, done_or_gone, open_unless_done, start_happened, runner_happened, newest_created, was_created, created_happened}
use Rattle.gomp_events.proofs.TaskStacks.{each_tells, running_in_stack, stack_descends, innermost_descends}
use Rattle.gomp_events.proofs.LaterTasks.{creates_later}

-- Creation and start

creates_once : (members : ℕ) (event : Event) (h : List Event) → TaskRule members event h → Always (TaskRule members) h → CreatesOnce event h
creates_once members (Create t m parent desc) h rule all = λ made.
    let high = created_high t h (was_created members t h all made) in let number = rule.number in absurd (omega (arith, high, number))
creates_once members _ h rule all = tt

creates_in_its_own : (members : ℕ) (event : Event) (h : List Event) → TaskRule members event h → Always (TaskRule members) h → CreatesInItsOwn event h
creates_in_its_own members (Create t m parent desc) h rule all = rule.current
creates_in_its_own members _ h rule all = tt

starts_once : (members : ℕ) (event : Event) (h : List Event) → TaskRule members event h → Always (TaskRule members) h → StartsOnce event h
starts_once members (Start t m) h rule all =
    let is = startable_is_fresh m t h rule.may in (
      created_happened members t h all is.0,
      (λ n start. not_both (has_started t h) (start_happened t n h start) is.1),
      (λ done. not_both (is_complete t h) (done_or_gone t h done) is.2),
    )
starts_once members _ h rule all = tt

-- a child was created
pub child_is_created : (members : ℕ) (p : Task) (t : ℕ) (h : List Event) → Always (TaskRule members) h → is_child p t h ≡ true → is_created t h ≡ true
child_is_created members p t [] all e = absurd (cc)
child_is_created members p t (Create task m parent desc ∷ earlier) all e = elim (cases_Bool (task == t)) [
  | inl same ↦ newest_created t earlier (let here = is_equal task t same in sym here ∙ all.0.number)
  | inr other ↦ created_stays t earlier (child_is_created members p t earlier all.1 (rw other at e))
]
child_is_created members p t (_ ∷ earlier) all e = child_is_created members p t earlier all.1 e

-- a task for which a child with these items waits was created
awaited_is_created : (members : ℕ) (p : Task) (items : List Dep) (t : ℕ) (h : List Event) → Always (TaskRule members) h → child_waits p items t h ≡ true → is_created t h ≡ true
awaited_is_created members p items t h all e = child_is_created members p t h all (and_left (is_child p t h) (items_wait items (task_items t h)) e)

-- and so was one for which a task waits
pub named_is_created : (members t q : ℕ) (h : List Event) → Always (TaskRule members) h → waits_for t q h ≡ true → is_created q h ≡ true
named_is_created members t q [] all e = absurd (cc)
named_is_created members t q (Create task m parent desc ∷ earlier) all e = elim (cases_Bool (task == t)) [
  | inl here ↦ created_stays q earlier (awaited_is_created members parent desc.deps q earlier all.1 (rw here at e))
  | inr other ↦ created_stays q earlier (named_is_created members t q earlier all.1 (rw other at e))
]
named_is_created members t q (_ ∷ earlier) all e = named_is_created members t q earlier all.1 e

starts_after_named : (members : ℕ) (event : Event) (h : List Event) → TaskRule members event h → Always (TaskRule members) h → StartsAfterNamed event h
starts_after_named members (Start t m) h rule all = λ q waits.
    complete_is_done q h (complete_at (λ u. waits_for t u h) h q (startable_is_free m t h rule.may) (named_is_created members t q h all waits) waits)
starts_after_named members _ h rule all = tt

-- the creation of a task by this member in this one happened
own_creation : (m : ℕ) (p : Task) (t : ℕ) (h : List Event) → is_created_by m p t h ≡ true → (desc : TaskDesc) × Happened (Create t m p desc) h
own_creation m p t [] e = absurd (cc)
own_creation m p t (Create task member parent desc ∷ earlier) e = elim (cases_Bool (task == t)) [
  | inl same ↦
      let by : (member == m && same_task parent p) ≡ true = rw same at e in
      let here = is_equal task t same in
      let who = is_equal member m (and_left (member == m) (same_task parent p) by) in
      let own = same_is_one parent p (and_right (member == m) (same_task parent p) by) in
      (desc, inl (rw (here, who, own) refl))
  | inr other ↦ let was = own_creation m p t earlier (rw other at e) in (was.0, inr was.1)
]
own_creation m p t (_ ∷ earlier) e = let was = own_creation m p t earlier e in (was.0, inr was.1)

starts_its_own : (members : ℕ) (event : Event) (h : List Event) → TaskRule members event h → Always (TaskRule members) h → StartsItsOwn event h
starts_its_own members (Start t m) h rule all = λ undeferred. own_creation m (executed_task m h) t h (rule.own undeferred)
starts_its_own members _ h rule all = tt

pub or_without : (b c : Bool) → (b || c) ≡ true → b ≡ false → c ≡ true
or_without true c e away = absurd (cc)
or_without false c e away = e

starts_descendant : (members : ℕ) (event : Event) (h : List Event) → TaskRule members event h → Always (TaskRule members) h → StartsDescendant event h
starts_descendant members (Start t m) h rule all =
    let down = and_right (is_ready t h) (may_descend m t h) rule.may in
    let each = and_left (each_of (λ s. is_ancestor (Explicit s) t h) (task_stack m h)) (at_barrier m h || is_ancestor (Implicit m) t h) down in
    let own = and_right (each_of (λ s. is_ancestor (Explicit s) t h) (task_stack m h)) (at_barrier m h || is_ancestor (Implicit m) t h) down in (
      (λ s start never. each_tells (λ u. is_ancestor (Explicit u) t h) (task_stack m h) s each (running_in_stack members s m h all start (open_unless_done s h never))),
      (λ away. or_without (at_barrier m h) (is_ancestor (Implicit m) t h) own away),
    )
starts_descendant members _ h rule all = tt

ends_its_own : (members : ℕ) (event : Event) (h : List Event) → TaskRule members event h → Always (TaskRule members) h → EndsItsOwn event h
ends_its_own members (Done t m) h rule all =
    let is = current_open members m t h all rule.current in (
      runner_happened t m h is.2,
      (λ n done. not_both (is_complete t h) (done_is_complete t n h done) is.1),
      (λ s start never. innermost_descends (λ a u. is_ancestor (Explicit a) u h) m t s (task_stack m h) rule.current (stack_descends members m h all) (running_in_stack members s m h all start (open_unless_done s h never))),
    )
ends_its_own members _ h rule all = tt

-- Cancellation

starts_uncovered : (members : ℕ) (event : Event) (h : List Event) → TaskRule members event h → Always (TaskRule members) h → StartsUncovered event h
starts_uncovered members (Start t m) h rule all = startable_is_uncovered m t h rule.may
starts_uncovered members _ h rule all = tt

creates_uncovered : (members : ℕ) (event : Event) (h : List Event) → TaskRule members event h → Always (TaskRule members) h → CreatesUncovered event h
creates_uncovered members (Create t m p desc) h rule all = rule.uncovered
creates_uncovered members _ h rule all = tt

discards_unstarted : (members : ℕ) (event : Event) (h : List Event) → TaskRule members event h → Always (TaskRule members) h → DiscardsUnstarted event h
discards_unstarted members (Discard t m) h rule all =
    let is = unstarted_is_fresh t h rule.unstarted in (
      rule.covered,
      created_happened members t h all is.0,
      (λ n start. not_both (has_started t h) (start_happened t n h start) is.1),
      (λ done. not_both (is_complete t h) (done_or_gone t h done) is.2),
    )
discards_unstarted members _ h rule all = tt

-- Waits

-- a task in a group was created
grouped_is_created : (members q t : ℕ) (h : List Event) → Always (TaskRule members) h → in_group q t h ≡ true → is_created t h ≡ true
grouped_is_created members q t [] all e = absurd (cc)
grouped_is_created members q t (Create task m (Implicit x) desc ∷ earlier) all e = elim (cases_Bool (task == t)) [
  | inl same ↦ newest_created t earlier (let here = is_equal task t same in sym here ∙ all.0.number)
  | inr other ↦ created_stays t earlier (grouped_is_created members q t earlier all.1 (rw other at e))
]
grouped_is_created members q t (Create task m (Explicit p) desc ∷ earlier) all e = elim (cases_Bool (task == t)) [
  | inl same ↦ newest_created t earlier (let here = is_equal task t same in sym here ∙ all.0.number)
  | inr other ↦ created_stays t earlier (grouped_is_created members q t earlier all.1 (rw other at e))
]
grouped_is_created members q t (_ ∷ earlier) all e = grouped_is_created members q t earlier all.1 e

waits_for_tasks : (members : ℕ) (event : Event) (h : List Event) → TaskRule members event h → Always (TaskRule members) h → WaitsForTasks event h
waits_for_tasks members (Waited m []) h rule all = λ t is.
    complete_is_done t h (complete_at (λ u. is_child (executed_task m h) u h) h t rule.complete (child_is_created members (executed_task m h) t h all is) is)
waits_for_tasks members (Waited m (item ∷ items)) h rule all = λ t waits.
    complete_is_done t h (complete_at (λ u. child_waits (executed_task m h) (item ∷ items) u h) h t rule.complete (awaited_is_created members (executed_task m h) (item ∷ items) t h all waits) waits)
waits_for_tasks members (GroupEnd q m) h rule all = λ t is.
    complete_is_done t h (complete_at (λ u. in_group q u h) h t rule.complete (grouped_is_created members q t h all is) is)
waits_for_tasks members _ h rule all = tt

-- Barriers

passes_after_tasks : (members : ℕ) (event : Event) (h : List Event) → ArrivalRule members event h → Always (TaskRule members) h → PassesAfterTasks event h
passes_after_tasks members (Pass barrier m) h rule all = λ t made early. elim (cases_Bool (is_cancelled h)) [
  | inl cancelled ↦
      let met = and_right (at_region_end m h) (region_met members h) (passed_cancelled members barrier m h rule cancelled) in
      let every = and_right (every_member members (λ x. at_region_end x h)) (all_complete (λ u. true) h) met in
      complete_is_done t h (complete_at (λ u. true) h t every (was_created members t h all made) refl)
  | inr whole ↦
      let bound = and_right (all_arrived members barrier h) (bound_complete barrier h) (passed_met members barrier m h whole rule) in
      let within : nat_le (epoch t h) barrier ≡ true = grind (arith, nat_tests, early) in
      complete_is_done t h (complete_at (λ u. nat_le (epoch u h) barrier) h t bound (was_created members t h all made) within)
]
passes_after_tasks members _ h rule all = tt

ends_after_tasks : (members : ℕ) (event : Event) (h : List Event) → ArrivalRule members event h → Always (TaskRule members) h → EndsAfterTasks event h
ends_after_tasks members (Pass barrier m) h rule all = λ at t made.
    let every = and_right (every_member members (λ x. at_region_end x h)) (all_complete (λ u. true) h) (passed_region members barrier m h rule at) in
    complete_is_done t h (complete_at (λ u. true) h t every (was_created members t h all made) refl)
ends_after_tasks members _ h rule all = tt

-- the laws of tasks and groups, from their rule and that of the arrivals
pub tasks_keep : (members : ℕ) (h : List Event) → Always (ArrivalRule members) h → Always (TaskRule members) h → TaskLaws h
tasks_keep members h arrivals tasks =
    record {
      created_once = always_so (TaskRule members) CreatesOnce (creates_once members) h tasks;
      created_in = always_so (TaskRule members) CreatesInItsOwn (creates_in_its_own members) h tasks;
      started_once = always_so (TaskRule members) StartsOnce (starts_once members) h tasks;
      after_named = always_so (TaskRule members) StartsAfterNamed (starts_after_named members) h tasks;
      own = always_so (TaskRule members) StartsItsOwn (starts_its_own members) h tasks;
      descendants = always_so (TaskRule members) StartsDescendant (starts_descendant members) h tasks;
      ended_once = always_so (TaskRule members) EndsItsOwn (ends_its_own members) h tasks;
      started_uncovered = always_so (TaskRule members) StartsUncovered (starts_uncovered members) h tasks;
      created_uncovered = always_so (TaskRule members) CreatesUncovered (creates_uncovered members) h tasks;
      discarded = always_so (TaskRule members) DiscardsUnstarted (discards_unstarted members) h tasks;
      waits = always_so (TaskRule members) WaitsForTasks (waits_for_tasks members) h tasks;
      opened_once = always_so (TaskRule members) OpensOnce (opens_once members) h tasks;
      groups_ended = always_so (TaskRule members) EndsItsGroup (ends_its_group members) h tasks;
      passes = both_so (ArrivalRule members) (TaskRule members) PassesAfterTasks (passes_after_tasks members) h arrivals tasks;
      later = creates_later members h arrivals tasks;
      region = both_so (ArrivalRule members) (TaskRule members) EndsAfterTasks (ends_after_tasks members) h arrivals tasks;
    }

-- the newest child of a task was created
pub newest_is_created : (members : ℕ) (p : Task) (h : List Event) → Always (TaskRule members) h → newest_child p h ≤ tasks_created h
newest_is_created members p [] all = omega arith
newest_is_created members p (Create task m parent desc ∷ earlier) all =
    let number = all.0.number in let before = newest_is_created members p earlier all.1 in
    elim (cases_Bool (same_task parent p)) [
      | inl here ↦ rw here (omega (arith, number))
      | inr other ↦ rw other (omega (arith, before))
    ]
newest_is_created members p (_ ∷ earlier) all = newest_is_created members p earlier all.1
