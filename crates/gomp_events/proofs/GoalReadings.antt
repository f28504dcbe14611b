-- When each goal is met and which tasks may be started, by what happened: of any member, task, group, barrier and list of events, so that no goal may ask for more than it says.
use Rattle.std.proofs.Common.{◌≡◌, ℕ, ◌<◌, ◌≤◌, Bool, true, false, List, [], ◌∷◌, ◌++◌, Some, refl, sym, subst, ap, ◌∙◌, arith, suc, zero, inl, inr, ◌⊎◌}
use Rattle.std.specs.Prelude.{◌&&◌, ◌||◌, ◌==◌, nat_le, nat_lt, not, if◌then◌else◌, is_some}
use Rattle.std.proofs.lemmas.Bool.{cases_Bool}
use Rattle.std.proofs.lemmas.Bool.Decides.{nat_tests}
use Rattle.std.proofs.lemmas.List.{append-nil}
use Rattle.gomp_types.specs.declared.task.Task.{Task}
use Rattle.gomp_types.specs.declared.task.Task.TheVariants.{Implicit, Explicit}
use Rattle.gomp_types.specs.declared.task.TaskDesc.{TaskDesc}
use Rattle.gomp_types.specs.declared.depend.Dep.{Dep}
use Rattle.gomp_types.specs.declared.cancel.Scope.TheVariants.{Region, OneGroup}
use Rattle.gomp_events.specs.declared.event.Arrival.TheVariants.{RegionEnd}
use Rattle.gomp_events.specs.declared.event.Tag.{Tag}
use Rattle.gomp_events.specs.declared.event.Event.{Event}
use Rattle.gomp_events.specs.declared.event.Event.TheVariants.{Create, Start, Arrive, Pass, Cancel}
use Rattle.gomp_types.specs.Members.{every_member}
use Rattle.gomp_events.specs.Events.{barriers_passed, arrival, all_arrived, at_barrier, is_region_end, at_region_end, has_left_region}
use Rattle.gomp_events.specs.Tasks.{same_task, contains, tasks_created, is_created, every_task, task_stack, innermost_task, executed_task, has_started, is_complete, all_complete, is_child, is_ancestor, epoch, becomes_undeferred, is_undeferred}
use Rattle.gomp_types.specs.DependItems.{items_wait}
use Rattle.gomp_events.specs.Depends.{task_items, child_waits, waits_for, is_free, taskwait_waits}
use Rattle.gomp_events.specs.Groups.{open_groups, groups_around, in_group, group_complete}
use Rattle.gomp_events.specs.Cancels.{was_cancelled, is_cancelled, some_cancelled, groups_within, is_covered, would_be_covered}
use Rattle.gomp_events.specs.Goals.{bound_complete, barrier_met, region_met, may_pass, children_complete, taskwait_met, is_unstarted, is_ready, each_of, may_descend, may_start, is_startable, some_startable}
use Rattle.gomp_events.specs.TaskCalls.{last_complete}
use Rattle.gomp_events.specs.Laws.{Always, Happened}
use Rattle.gomp_events.specs.TaskRules.{TaskRule}
use Rattle.gomp_events.specs.TaskLaws.{IsCreated, IsTaskDone}
use Rattle.gomp_types.proofs.Booleans.{and_left, and_right, false_of_not, or_left, or_right, not_both, same_number, is_equal, every_by, every_tells, not_false, or_false, or_tells, some_of}
use Rattle.gomp_events.proofs.ArrivalsKeep.{tagged_only_if_arrived}
use Rattle.gomp_events.proofs.OpenTasks.{created_low, created_high, complete_at}
use Rattle.gomp_events.proofs.LaterTasks.{not_new}
use Rattle.gomp_events.proofs.GroupsKeep.{same_is_one, one_is_same}
use Rattle.gomp_events.proofs.Suspended.{tasks_stacked, startable_is_fresh}
use Rattle.gomp_events.proofs.TaskEvents.{complete_is_done, done_or_gone, open_is_not_done, open_unless_done, runner_happened, newest_created, was_created, created_happened}
use Rattle.gomp_events.proofs.TaskRoom.{uncreated_not_started}
use Rattle.gomp_events.proofs.TaskStacks.{stack_descends, innermost_descends}
use Rattle.gomp_events.proofs.Refutations.{NobodyCancelled, NeverAtTheEnd, happened_anywhere, cancelled_by_any, cancelled_by_none, ends_the_region, at_the_end_once_arrived, at_the_end_never_arrived}

pub and_both : (a b : Bool) → a ≡ true → b ≡ true → (a && b) ≡ true
and_both true true one other = refl
and_both false b one other = absurd (cc)
and_both true false one other = absurd (cc)

-- All tasks

-- each number from 1 to that of the last task is one of a task that was created
pub created_by_number : (t : ℕ) (h : List Event) → 0 < t → t ≤ tasks_created h → is_created t h ≡ true
created_by_number t h low high =
    let some : nat_lt 0 t ≡ true = grind (arith, nat_tests, low) in
    let few : nat_le t (tasks_created h) ≡ true = grind (arith, nat_tests, high) in
    rw (some, few) refl

-- what holds of each task that was created holds of every one
pub every_task_once_each : (test : ℕ → Bool) (h : List Event) → ((t : ℕ) → is_created t h ≡ true → test t ≡ true) → every_task test h ≡ true
every_task_once_each test h each = every_by (tasks_created h) (λ k. test (suc k)) (λ k lt. each (suc k) (created_by_number (suc k) h (omega arith) (omega arith)))

-- and the other way round
pub each_of_every_task : (test : ℕ → Bool) (t : ℕ) (h : List Event) → every_task test h ≡ true → is_created t h ≡ true → test t ≡ true
each_of_every_task test t h every made = by t (created_low t h made) (created_high t h made)
  where
    by : (u : ℕ) → 0 < u → u ≤ tasks_created h → test u ≡ true
    by zero low high = absurd (omega arith)
    by (suc k) low high = every_tells (tasks_created h) (λ j. test (suc j)) k every (omega arith)

failing_among : (n : ℕ) (test : ℕ → Bool) → every_member n (λ k. test (suc k)) ≡ false → (t : ℕ) × (0 < t) × (t ≤ n) × (test t ≡ false)
failing_among zero test some = absurd (cc)
failing_among (suc n) test some = elim (cases_Bool (test (suc n))) [
  | inl is ↦ let found = failing_among n test (rw is at some) in let low = found.1 in let high = found.2 in (found.0, low, omega (arith, high), found.3)
  | inr isnt ↦ (suc n, omega arith, omega arith, isnt)
]

-- and if it does not hold of every one there is one of which it does not
pub one_task_fails : (test : ℕ → Bool) (h : List Event) → every_task test h ≡ false → (t : ℕ) × (is_created t h ≡ true) × (test t ≡ false)
one_task_fails test h some = let found = failing_among (tasks_created h) test some in (found.0, created_by_number found.0 h found.1 found.2, found.3)

-- a task is not started if nobody started it
pub unstarted_by_all : (t : ℕ) (h : List Event) → ((m : ℕ) → Happened (Start t m) h → ⊥) → has_started t h ≡ false
unstarted_by_all t [] never = refl
unstarted_by_all t (Start task member ∷ earlier) never = elim (cases_Bool (task == t)) [
  | inl same ↦ absurd (never member (inl (let here = is_equal task t same in rw here refl)))
  | inr other ↦ rw other (unstarted_by_all t earlier (λ m was. never m (inr was)))
]
unstarted_by_all t (_ ∷ earlier) never = unstarted_by_all t earlier (λ m was. never m (inr was))

-- all tasks of a kind are complete once each of that kind is done
pub complete_once_each_done : (members : ℕ) (test : ℕ → Bool) (h : List Event) → Always (TaskRule members) h → ((t : ℕ) → IsCreated t h → test t ≡ true → IsTaskDone t h) → all_complete test h ≡ true
complete_once_each_done members test h all each = every_task_once_each (λ t. not (test t) || is_complete t h) h (λ t made.
    elim (cases_Bool (test t)) [
      | inl is ↦ or_right (not (test t)) (is_complete t h) (done_or_gone t h (each t (created_happened members t h all made) is))
      | inr isnt ↦ rw isnt refl
    ])

-- and only then
pub complete_only_if_each_done : (members t : ℕ) (test : ℕ → Bool) (h : List Event) → Always (TaskRule members) h → all_complete test h ≡ true → IsCreated t h → test t ≡ true → IsTaskDone t h
complete_only_if_each_done members t test h all met made is = complete_is_done t h (complete_at test h t met (was_created members t h all made) is)

-- Waits for tasks

-- a child was created in its parent, with its items
pub child_was_created : (p : Task) (t : ℕ) (h : List Event) → is_child p t h ≡ true → (m : ℕ) × (desc : TaskDesc) × Happened (Create t m p desc) h × (task_items t h ≡ desc.deps)
child_was_created p t [] e = absurd (cc)
child_was_created p t (Create task member parent desc ∷ earlier) e = elim (cases_Bool (task == t)) [
  | inl same ↦
      let own = same_is_one parent p (rw same at e) in
      let here = is_equal task t same in
      (member, desc, inl (rw (here, own) refl), rw same refl)
  | inr other ↦ let was = child_was_created p t earlier (rw other at e) in (was.0, was.1, inr was.2, rw other was.3)
]
child_was_created p t (_ ∷ earlier) e = let was = child_was_created p t earlier e in (was.0, was.1, inr was.2, was.3)

-- and a task that was created in this one is its child, whatever happened since
pub created_is_a_child : (members t m : ℕ) (p : Task) (desc : TaskDesc) (h : List Event) → Always (TaskRule members) h → Happened (Create t m p desc) h → (is_child p t h ≡ true) × (task_items t h ≡ desc.deps)
created_is_a_child members t m p desc [] all made = absurd made
created_is_a_child members t m p desc (Create task member parent other ∷ earlier) all (inl e) =
    let here : task ≡ t = cc in
    let own : parent ≡ p = cc in
    let asked : other ≡ desc = cc in
    (rw (here, own, same_number t) (one_is_same p), rw (here, asked, same_number t) refl)
created_is_a_child members t m p desc (Create task member parent other ∷ earlier) all (inr made) =
    let was = created_is_a_child members t m p desc earlier all.1 made in
    let old = not_new t task earlier (was_created members t earlier all.1 (m, p, desc, made)) all.0.number in
    (rw old was.0, rw old was.1)
created_is_a_child members t m p desc (_ ∷ earlier) all (inl e) = absurd (cc)
created_is_a_child members t m p desc (_ ∷ earlier) all (inr made) = created_is_a_child members t m p desc earlier all.1 made

-- a task's children are complete once each that was created in it is done
pub children_complete_once_done : (members : ℕ) (p : Task) (h : List Event) → Always (TaskRule members) h → ((t m : ℕ) (desc : TaskDesc) → Happened (Create t m p desc) h → IsTaskDone t h) → children_complete p h ≡ true
children_complete_once_done members p h all each =
    complete_once_each_done members (λ t. is_child p t h) h all (λ t made child. let was = child_was_created p t h child in each t was.0 was.1 was.2)

-- and only then
pub children_complete_only_if_done : (members t m : ℕ) (p : Task) (desc : TaskDesc) (h : List Event) → Always (TaskRule members) h → children_complete p h ≡ true → Happened (Create t m p desc) h → IsTaskDone t h
children_complete_only_if_done members t m p desc h all met made =
    complete_only_if_each_done members t (λ u. is_child p u h) h all met (m, p, desc, made) (created_is_a_child members t m p desc h all made).0

-- a taskwait without items is met once they are
pub taskwait_met_once_children_done : (members : ℕ) (p : Task) (h : List Event) → Always (TaskRule members) h → ((t m : ℕ) (desc : TaskDesc) → Happened (Create t m p desc) h → IsTaskDone t h) → taskwait_met p [] h ≡ true
taskwait_met_once_children_done members p h all each =
    complete_once_each_done members (λ t. taskwait_waits p [] t h) h all (λ t made child. let was = child_was_created p t h child in each t was.0 was.1 was.2)

-- and one with items once each child is done that has an item on which one of them depends
pub taskwait_met_once_named_done :
    (members : ℕ) (p : Task) (item : Dep) (items : List Dep) (h : List Event) → Always (TaskRule members) h →
    ((t m : ℕ) (desc : TaskDesc) → Happened (Create t m p desc) h → items_wait (item ∷ items) desc.deps ≡ true → IsTaskDone t h) → taskwait_met p (item ∷ items) h ≡ true
taskwait_met_once_named_done members p item items h all each =
    complete_once_each_done members (λ t. taskwait_waits p (item ∷ items) t h) h all (λ t made waits.
    let was = child_was_created p t h (and_left (is_child p t h) (items_wait (item ∷ items) (task_items t h)) waits) in
    let depend = and_right (is_child p t h) (items_wait (item ∷ items) (task_items t h)) waits in
    each t was.0 was.1 was.2 (subst (λ (old : List Dep). items_wait (item ∷ items) old ≡ true) was.3 depend))

-- and only then
pub taskwait_met_only_if_children_done : (members t m : ℕ) (p : Task) (desc : TaskDesc) (h : List Event) → Always (TaskRule members) h → taskwait_met p [] h ≡ true → Happened (Create t m p desc) h → IsTaskDone t h
taskwait_met_only_if_children_done members t m p desc h all met made =
    complete_only_if_each_done members t (λ u. taskwait_waits p [] u h) h all met (m, p, desc, made) (created_is_a_child members t m p desc h all made).0

pub taskwait_met_only_if_named_done :
    (members t m : ℕ) (p : Task) (desc : TaskDesc) (item : Dep) (items : List Dep) (h : List Event) → Always (TaskRule members) h →
    taskwait_met p (item ∷ items) h ≡ true → Happened (Create t m p desc) h → items_wait (item ∷ items) desc.deps ≡ true → IsTaskDone t h
taskwait_met_only_if_named_done members t m p desc item items h all met made depend =
    let own = created_is_a_child members t m p desc h all made in
    let named : items_wait (item ∷ items) (task_items t h) ≡ true = subst (λ (old : List Dep). items_wait (item ∷ items) old ≡ true) (sym own.1) depend in
    complete_only_if_each_done members t (λ u. taskwait_waits p (item ∷ items) u h) h all met (m, p, desc, made) (and_both (is_child p t h) (items_wait (item ∷ items) (task_items t h)) own.0 named)

-- a group is complete once each task in it is done
pub group_complete_once_done : (members q : ℕ) (h : List Event) → Always (TaskRule members) h → ((t : ℕ) → IsCreated t h → in_group q t h ≡ true → IsTaskDone t h) → group_complete q h ≡ true
group_complete_once_done members q h all each = complete_once_each_done members (λ t. in_group q t h) h all each

-- and only then
pub group_complete_only_if_done : (members q t : ℕ) (h : List Event) → Always (TaskRule members) h → group_complete q h ≡ true → IsCreated t h → in_group q t h ≡ true → IsTaskDone t h
group_complete_only_if_done members q t h all met made there = complete_only_if_each_done members t (λ u. in_group q u h) h all met made there

-- the end of a task's last open group waits for that group
pub last_group_complete_once_done : (members q : ℕ) (outer : List ℕ) (h : List Event) → Always (TaskRule members) h → ((t : ℕ) → IsCreated t h → in_group q t h ≡ true → IsTaskDone t h) → last_complete (q ∷ outer) h ≡ true
last_group_complete_once_done members q outer h all each = group_complete_once_done members q h all each

pub last_group_complete_only_if_done : (members q t : ℕ) (outer : List ℕ) (h : List Event) → Always (TaskRule members) h → last_complete (q ∷ outer) h ≡ true → IsCreated t h → in_group q t h ≡ true → IsTaskDone t h
last_group_complete_only_if_done members q t outer h all met made there = group_complete_only_if_done members q t h all met made there

-- Tasks that wait for others

-- what a task waits for it has waited for since its creation
pub waits_since_created : (t q : ℕ) (h : List Event) → waits_for t q h ≡ true → (later : List Event) × (earlier : List Event) × (m : ℕ) × (p : Task) × (desc : TaskDesc) × (h ≡ later ++ Create t m p desc ∷ earlier) × (child_waits p desc.deps q earlier ≡ true)
waits_since_created t q [] e = absurd (cc)
waits_since_created t q (Create task member parent desc ∷ earlier) e = elim (cases_Bool (task == t)) [
  | inl same ↦ let here = is_equal task t same in ([], earlier, member, parent, desc, rw here refl, rw same at e)
  | inr other ↦ let was = waits_since_created t q earlier (rw other at e) in (Create task member parent desc ∷ was.0, was.1, was.2, was.3, was.4, rw (← was.5) refl, was.6)
]
waits_since_created t q (event ∷ earlier) e = let was = waits_since_created t q earlier e in (event ∷ was.0, was.1, was.2, was.3, was.4, rw (← was.5) refl, was.6)

-- and it waits for that ever since, whatever happened
pub waits_ever_since : (members t q m : ℕ) (p : Task) (desc : TaskDesc) (later earlier : List Event) → Always (TaskRule members) (later ++ Create t m p desc ∷ earlier) → child_waits p desc.deps q earlier ≡ true → waits_for t q (later ++ Create t m p desc ∷ earlier) ≡ true
waits_ever_since members t q m p desc [] earlier all waits = rw (same_number t) waits
waits_ever_since members t q m p desc (Create u n r other ∷ later) earlier all waits =
    let old = not_new t u (later ++ Create t m p desc ∷ earlier) (was_created members t (later ++ Create t m p desc ∷ earlier) all.1 (m, p, desc, happened_anywhere (Create t m p desc) later earlier)) all.0.number in
    rw old (waits_ever_since members t q m p desc later earlier all.1 waits)
waits_ever_since members t q m p desc (_ ∷ later) earlier all waits = waits_ever_since members t q m p desc later earlier all.1 waits

-- a task is free once each earlier child of its parent is done that has an item on which one of its own depends
pub free_once_named_done :
    (members t : ℕ) (h : List Event) → Always (TaskRule members) h →
    ((later earlier : List Event) (q m n : ℕ) (p : Task) (desc other : TaskDesc) →
    h ≡ later ++ Create t m p desc ∷ earlier → Happened (Create q n p other) earlier → items_wait desc.deps other.deps ≡ true → IsTaskDone q h) →
    is_free t h ≡ true
free_once_named_done members t h all each = complete_once_each_done members (λ q. waits_for t q h) h all (λ q made waits.
    let from = waits_since_created t q h waits in
    let own = child_was_created from.3 q from.1 (and_left (is_child from.3 q from.1) (items_wait from.4.deps (task_items q from.1)) from.6) in
    let depend = and_right (is_child from.3 q from.1) (items_wait from.4.deps (task_items q from.1)) from.6 in
    each from.0 from.1 q from.2 own.0 from.3 from.4 own.1 from.5 own.2 (subst (λ (old : List Dep). items_wait from.4.deps old ≡ true) own.3 depend))

pub always_of_earlier : (members : ℕ) (later h : List Event) → Always (TaskRule members) (later ++ h) → Always (TaskRule members) h
always_of_earlier members [] h all = all
always_of_earlier members (event ∷ later) h all = always_of_earlier members later h all.1

happened_before : (event : Event) (later h : List Event) → Happened event h → Happened event (later ++ h)
happened_before event [] h was = was
happened_before event (other ∷ later) h was = inr (happened_before event later h was)

-- and only then
pub free_only_if_named_done :
    (members t q m n : ℕ) (p : Task) (desc other : TaskDesc) (later earlier : List Event) → Always (TaskRule members) (later ++ Create t m p desc ∷ earlier) →
    Happened (Create q n p other) earlier → items_wait desc.deps other.deps ≡ true → is_free t (later ++ Create t m p desc ∷ earlier) ≡ true → IsTaskDone q (later ++ Create t m p desc ∷ earlier)
free_only_if_named_done members t q m n p desc other later earlier all made depend free =
    let before = always_of_earlier members later (Create t m p desc ∷ earlier) all in
    let own = created_is_a_child members q n p other earlier before.1 made in
    let waits = waits_ever_since members t q m p desc later earlier all (rw (own.0, own.1) depend) in
    complete_only_if_each_done members q (λ u. waits_for t u (later ++ Create t m p desc ∷ earlier)) (later ++ Create t m p desc ∷ earlier) all free
    (n, p, other, happened_before (Create q n p other) later (Create t m p desc ∷ earlier) (inr made)) waits

-- one that is not free waits for one that is not complete
pub waits_if_not_free : (t : ℕ) (h : List Event) → is_free t h ≡ false → (q : ℕ) × (waits_for t q h ≡ true) × (is_complete q h ≡ false)
waits_if_not_free t h held =
    let found = one_task_fails (λ q. not (waits_for t q h) || is_complete q h) h held in
    (found.0, by (waits_for t found.0 h) (is_complete found.0 h) found.2, or_false (not (waits_for t found.0 h)) (is_complete found.0 h) found.2)
  where
    by : (waits over : Bool) → (not waits || over) ≡ false → waits ≡ true
    by true over e = refl
    by false over e = absurd (cc)

nothing_waits : (items old : List Dep) → items ≡ [] → items_wait items old ≡ true → ⊥
nothing_waits [] old none depend = cc
nothing_waits (item ∷ items) old none depend = cc

-- so a task without items is free
pub free_without_items :
    (members t m : ℕ) (p : Task) (desc : TaskDesc) (h : List Event) → Always (TaskRule members) h → Happened (Create t m p desc) h → desc.deps ≡ [] → is_free t h ≡ true
free_without_items members t m p desc h all made none = free_once_named_done members t h all (λ later earlier q n o r asked other e named depend.
    let again : Happened (Create t n r asked) h = subst (λ (x : List Event). Happened (Create t n r asked) x) (sym e) (happened_anywhere (Create t n r asked) later earlier) in
    let same : asked.deps ≡ desc.deps = sym (created_is_a_child members t n r asked h all again).1 ∙ (created_is_a_child members t m p desc h all made).1 in
    absurd (nothing_waits asked.deps other.deps (same ∙ none) depend))

-- Barriers

-- a member has a tag at a barrier once it has arrived there
pub tagged_once_arrived : (g m : ℕ) (tag : Tag) (h : List Event) → Happened (Arrive g m tag) h → is_some (arrival g m h) ≡ true
tagged_once_arrived g m tag [] never = absurd never
tagged_once_arrived g m tag (Arrive barrier member other ∷ earlier) (inl e) = let at : barrier ≡ g = cc in let who : member ≡ m = cc in rw (at, who, same_number g, same_number m) refl
tagged_once_arrived g m tag (Arrive barrier member other ∷ earlier) (inr was) = elim (cases_Bool (barrier == g && member == m)) [
  | inl here ↦ rw here refl
  | inr away ↦ rw away (tagged_once_arrived g m tag earlier was)
]
tagged_once_arrived g m tag (_ ∷ earlier) (inl e) = absurd (cc)
tagged_once_arrived g m tag (_ ∷ earlier) (inr was) = tagged_once_arrived g m tag earlier was

-- of several arrivals at one barrier it is that of the last
pub tagged_by_the_last : (g m : ℕ) (tag : Tag) (later earlier : List Event) → ((other : Tag) → Happened (Arrive g m other) later → ⊥) → arrival g m (later ++ Arrive g m tag ∷ earlier) ≡ Some tag
tagged_by_the_last g m tag [] earlier none = rw (same_number g, same_number m) refl
tagged_by_the_last g m tag (Arrive barrier member other ∷ later) earlier none = elim (cases_Bool (barrier == g && member == m)) [
  | inl here ↦
      let at = is_equal barrier g (and_left (barrier == g) (member == m) here) in
      let who = is_equal member m (and_right (barrier == g) (member == m) here) in
      absurd (none other (inl (rw (at, who) refl)))
  | inr away ↦ rw away (tagged_by_the_last g m tag later earlier (λ same was. none same (inr was)))
]
tagged_by_the_last g m tag (_ ∷ later) earlier none = tagged_by_the_last g m tag later earlier (λ same was. none same (inr was))

-- all have arrived at a barrier once each member of the team has, however many
pub all_arrived_once_each_has : (members barrier : ℕ) (h : List Event) → ((x : ℕ) → x < members → (tag : Tag) × Happened (Arrive barrier x tag) h) → all_arrived members barrier h ≡ true
all_arrived_once_each_has members barrier h each =
    every_by members (λ x. is_some (arrival barrier x h)) (λ x within. let was = each x within in tagged_once_arrived barrier x was.0 h was.1)

-- and only then
pub all_arrived_only_if_each_has : (members barrier x : ℕ) (h : List Event) → all_arrived members barrier h ≡ true → x < members → (tag : Tag) × Happened (Arrive barrier x tag) h
all_arrived_only_if_each_has members barrier x h all within =
    let found = some_of (arrival barrier x h) (every_tells members (λ m. is_some (arrival barrier m h)) x all within) in (found.0, tagged_only_if_arrived barrier x found.0 h found.1)

-- the tasks bound to a barrier are complete once each is done that is bound to it or to an earlier one
pub bound_complete_once_done : (members barrier : ℕ) (h : List Event) → Always (TaskRule members) h → ((t : ℕ) → IsCreated t h → epoch t h ≤ barrier → IsTaskDone t h) → bound_complete barrier h ≡ true
bound_complete_once_done members barrier h all each =
    complete_once_each_done members (λ t. nat_le (epoch t h) barrier) h all (λ t made is. each t made (grind (arith, nat_tests, is)))

-- and only then
pub bound_complete_only_if_done : (members barrier t : ℕ) (h : List Event) → Always (TaskRule members) h → bound_complete barrier h ≡ true → IsCreated t h → epoch t h ≤ barrier → IsTaskDone t h
bound_complete_only_if_done members barrier t h all met made early =
    complete_only_if_each_done members t (λ u. nat_le (epoch u h) barrier) h all met made (grind (arith, nat_tests, early))

-- a barrier is met once all have arrived and these tasks are done
pub barrier_met_once_all_done :
    (members barrier : ℕ) (h : List Event) → Always (TaskRule members) h → ((x : ℕ) → x < members → (tag : Tag) × Happened (Arrive barrier x tag) h) →
    ((t : ℕ) → IsCreated t h → epoch t h ≤ barrier → IsTaskDone t h) → barrier_met members barrier h ≡ true
barrier_met_once_all_done members barrier h all arrived done =
    and_both (all_arrived members barrier h) (bound_complete barrier h) (all_arrived_once_each_has members barrier h arrived) (bound_complete_once_done members barrier h all done)

-- the member arrived at the region's end
abbrev pub ArrivedAtTheEnd : ℕ → List Event → Type 0
ArrivedAtTheEnd m h = (barrier : ℕ) × (tag : Tag) × (tag.kind ≡ RegionEnd) × Happened (Arrive barrier m tag) h

at_the_end : (m : ℕ) (h : List Event) → ArrivedAtTheEnd m h → at_region_end m h ≡ true
at_the_end m h was = at_the_end_once_arrived was.0 m was.1 h was.2 was.3

-- a member is at the region's end only if it arrived there
pub at_the_end_only_if_arrived : (m : ℕ) (h : List Event) → at_region_end m h ≡ true → ArrivedAtTheEnd m h
at_the_end_only_if_arrived m [] e = absurd (cc)
at_the_end_only_if_arrived m (Arrive g member tag ∷ earlier) e = elim (or_tells (member == m && is_region_end tag.kind) (at_region_end m earlier) e) [
  | inl is ↦
      let who = is_equal member m (and_left (member == m) (is_region_end tag.kind) is) in
      (g, tag, ends_the_region tag.kind (and_right (member == m) (is_region_end tag.kind) is), inl (rw who refl))
  | inr before ↦ let was = at_the_end_only_if_arrived m earlier before in (was.0, was.1, was.2, inr was.3)
]
at_the_end_only_if_arrived m (_ ∷ earlier) e = let was = at_the_end_only_if_arrived m earlier e in (was.0, was.1, was.2, inr was.3)

-- the region may end once each member has arrived at its end and each task is done, whatever it is bound to
pub region_met_once_all_done : (members : ℕ) (h : List Event) → Always (TaskRule members) h → ((x : ℕ) → x < members → ArrivedAtTheEnd x h) → ((t : ℕ) → IsCreated t h → IsTaskDone t h) → region_met members h ≡ true
region_met_once_all_done members h all arrived done =
    and_both (every_member members (λ m. at_region_end m h)) (all_complete (λ t. true) h)
    (every_by members (λ m. at_region_end m h) (λ x within. at_the_end x h (arrived x within)))
    (complete_once_each_done members (λ t. true) h all (λ t made is. done t made))

-- and only then
pub region_met_only_if_all_at_the_end : (members x : ℕ) (h : List Event) → region_met members h ≡ true → x < members → ArrivedAtTheEnd x h
region_met_only_if_all_at_the_end members x h met within =
    at_the_end_only_if_arrived x h (every_tells members (λ m. at_region_end m h) x (and_left (every_member members (λ m. at_region_end m h)) (all_complete (λ t. true) h) met) within)

pub region_met_only_if_all_done : (members t : ℕ) (h : List Event) → Always (TaskRule members) h → region_met members h ≡ true → IsCreated t h → IsTaskDone t h
region_met_only_if_all_done members t h all met made =
    complete_only_if_each_done members t (λ u. true) h all (and_right (every_member members (λ m. at_region_end m h)) (all_complete (λ u. true) h) met) made refl

-- the member passed no barrier once it had arrived at the region's end
abbrev pub NeverLeft : ℕ → List Event → Type 0
NeverLeft m h = (barrier : ℕ) (later earlier : List Event) → h ≡ later ++ Pass barrier m ∷ earlier → ArrivedAtTheEnd m earlier → ⊥

-- such a member has not left the region
pub not_left_unless_passed : (m : ℕ) (h : List Event) → NeverLeft m h → has_left_region m h ≡ false
not_left_unless_passed m [] never = refl
not_left_unless_passed m (Pass barrier member ∷ earlier) never = elim (cases_Bool (member == m && at_region_end m earlier)) [
  | inl both ↦
      let who = is_equal member m (and_left (member == m) (at_region_end m earlier) both) in
      absurd (never barrier [] earlier (rw who refl) (at_the_end_only_if_arrived m earlier (and_right (member == m) (at_region_end m earlier) both)))
  | inr other ↦ rw other (not_left_unless_passed m earlier (λ g later before e. never g (Pass barrier member ∷ later) before (ap (λ (x : List Event). Pass barrier member ∷ x) e)))
]
not_left_unless_passed m (event ∷ earlier) never = not_left_unless_passed m earlier (λ g later before e. never g (event ∷ later) before (ap (λ (x : List Event). event ∷ x) e))

-- one that passed the region's end has left the region for good, whatever the number of that barrier
pub left_once_passed : (barrier m : ℕ) (later earlier : List Event) → ArrivedAtTheEnd m earlier → has_left_region m (later ++ Pass barrier m ∷ earlier) ≡ true
left_once_passed barrier m [] earlier at = rw (at_the_end m earlier at, same_number m) refl
left_once_passed barrier m (Pass g n ∷ later) earlier at = or_right (n == m && at_region_end m (later ++ Pass barrier m ∷ earlier)) _ (left_once_passed barrier m later earlier at)
left_once_passed barrier m (_ ∷ later) earlier at = left_once_passed barrier m later earlier at

passes_uncancelled : (cancelled met ends left over : Bool) → cancelled ≡ false → met ≡ true → (ends ≡ true → over ≡ true) → (if ends then over && (if cancelled then not left else met) else not cancelled && met) ≡ true
passes_uncancelled true met ends left over whole is may = absurd (cc)
passes_uncancelled false false ends left over whole is may = absurd (cc)
passes_uncancelled false true false left over whole is may = refl
passes_uncancelled false true true left true whole is may = refl
passes_uncancelled false true true left false whole is may = absurd (let over = may refl in cc)

passes_cancelled : (cancelled met ends left over : Bool) → cancelled ≡ true → ends ≡ true → left ≡ false → over ≡ true → (if ends then over && (if cancelled then not left else met) else not cancelled && met) ≡ true
passes_cancelled true met true false true is at stays all = refl
passes_cancelled false met ends left over is at stays all = absurd (cc)
passes_cancelled true met false left over is at stays all = absurd (cc)
passes_cancelled true met true true over is at stays all = absurd (cc)
passes_cancelled true met true false false is at stays all = absurd (cc)

-- a member may pass its next barrier once all members have arrived there and the tasks are done that are bound to it or to an earlier one
pub passes_once_all_done :
    (members m : ℕ) (h : List Event) → Always (TaskRule members) h → NobodyCancelled Region h → NeverAtTheEnd m h →
    ((x : ℕ) → x < members → (tag : Tag) × Happened (Arrive (barriers_passed m h) x tag) h) →
    ((t : ℕ) → IsCreated t h → epoch t h ≤ barriers_passed m h → IsTaskDone t h) → may_pass members m h ≡ true
passes_once_all_done members m h all whole away arrived done =
    passes_uncancelled (is_cancelled h) (barrier_met members (barriers_passed m h) h) (at_region_end m h) (has_left_region m h) (region_met members h) (cancelled_by_none Region h whole)
    (barrier_met_once_all_done members (barriers_passed m h) h all arrived done) (λ at. absurd (not_both (at_region_end m h) at (at_the_end_never_arrived m h away)))

-- the region's end it may pass once all have arrived there and every task is done
pub passes_the_end_once_all_done :
    (members m : ℕ) (h : List Event) → Always (TaskRule members) h → NobodyCancelled Region h →
    ((x : ℕ) → x < members → (tag : Tag) × (tag.kind ≡ RegionEnd) × Happened (Arrive (barriers_passed m h) x tag) h) → ((t : ℕ) → IsCreated t h → IsTaskDone t h) → may_pass members m h ≡ true
passes_the_end_once_all_done members m h all whole arrived done =
    passes_uncancelled (is_cancelled h) (barrier_met members (barriers_passed m h) h) (at_region_end m h) (has_left_region m h) (region_met members h) (cancelled_by_none Region h whole)
    (barrier_met_once_all_done members (barriers_passed m h) h all (λ x within. let was = arrived x within in (was.0, was.2)) (λ t made early. done t made))
    (λ at. region_met_once_all_done members h all (λ x within. let was = arrived x within in (barriers_passed m h, was.0, was.1, was.2)) done)

-- and a cancelled region's if it has not left that: whatever others passed, and at whatever barriers they arrived
pub leaves_cancelled_once_all_done :
    (members m n : ℕ) (h : List Event) → Always (TaskRule members) h → Happened (Cancel n Region) h → ArrivedAtTheEnd m h → NeverLeft m h →
    ((x : ℕ) → x < members → ArrivedAtTheEnd x h) → ((t : ℕ) → IsCreated t h → IsTaskDone t h) → may_pass members m h ≡ true
leaves_cancelled_once_all_done members m n h all cancelled at stays arrived done =
    passes_cancelled (is_cancelled h) (barrier_met members (barriers_passed m h) h) (at_region_end m h) (has_left_region m h) (region_met members h) (cancelled_by_any Region n h cancelled)
    (at_the_end m h at) (not_left_unless_passed m h stays) (region_met_once_all_done members h all arrived done)

met_uncancelled : (cancelled met ends left over : Bool) → cancelled ≡ false → (if ends then over && (if cancelled then not left else met) else not cancelled && met) ≡ true → (met ≡ true) × (ends ≡ true → over ≡ true)
met_uncancelled true met ends left over whole may = absurd (cc)
met_uncancelled false false true left true whole may = absurd (cc)
met_uncancelled false false true left false whole may = absurd (cc)
met_uncancelled false false false left over whole may = absurd (cc)
met_uncancelled false true false left over whole may = (refl, λ at. absurd (cc))
met_uncancelled false true true left true whole may = (refl, λ at. refl)
met_uncancelled false true true left false whole may = absurd (cc)

met_cancelled : (cancelled met ends left over : Bool) → cancelled ≡ true → (if ends then over && (if cancelled then not left else met) else not cancelled && met) ≡ true → (ends ≡ true) × (left ≡ false) × (over ≡ true)
met_cancelled false met ends left over is may = absurd (cc)
met_cancelled true met false left over is may = absurd (cc)
met_cancelled true met true true true is may = absurd (cc)
met_cancelled true met true left false is may = absurd (cc)
met_cancelled true met true false true is may = (refl, refl, refl)

-- it passes a barrier only once that is met, the region's end only once that is met too, and a cancelled region's end only once
pub passes_only_what_is_met :
    (members m : ℕ) (h : List Event) → NobodyCancelled Region h → may_pass members m h ≡ true → (barrier_met members (barriers_passed m h) h ≡ true) × (at_region_end m h ≡ true → region_met members h ≡ true)
passes_only_what_is_met members m h whole may =
    met_uncancelled (is_cancelled h) (barrier_met members (barriers_passed m h) h) (at_region_end m h) (has_left_region m h) (region_met members h) (cancelled_by_none Region h whole) may

pub leaves_cancelled_only_once_met :
    (members m n : ℕ) (h : List Event) → Happened (Cancel n Region) h → may_pass members m h ≡ true → (at_region_end m h ≡ true) × (has_left_region m h ≡ false) × (region_met members h ≡ true)
leaves_cancelled_only_once_met members m n h cancelled may =
    met_cancelled (is_cancelled h) (barrier_met members (barriers_passed m h) h) (at_region_end m h) (has_left_region m h) (region_met members h) (cancelled_by_any Region n h cancelled) may

-- Tasks that may be started

-- a task that was created is unstarted if nobody has started it and it is not done
pub unstarted_once_created : (members t : ℕ) (h : List Event) → Always (TaskRule members) h → IsCreated t h → ((m : ℕ) → Happened (Start t m) h → ⊥) → (IsTaskDone t h → ⊥) → is_unstarted t h ≡ true
unstarted_once_created members t h all made never undone = rw (was_created members t h all made, unstarted_by_all t h never, open_unless_done t h undone) refl

each_once : (test : ℕ → Bool) (ts : List ℕ) → ((s : ℕ) → contains s ts ≡ true → test s ≡ true) → each_of test ts ≡ true
each_once test [] each = refl
each_once test (t ∷ ts) each =
    and_both (test t) (each_of test ts) (each t (or_left (t == t) (contains t ts) (same_number t))) (each_once test ts (λ s there. each s (or_right (t == s) (contains s ts) there)))

at_or_below : (at below : Bool) → (at ≡ true) ⊎ (below ≡ true) → (at || below) ≡ true
at_or_below at below (inl is) = or_left at below is
at_or_below at below (inr is) = or_right at below is

-- a task lies below all that a member executes if it descends from each task that the member has started and that is not done, and the member waits at a barrier or its implicit task is an ancestor too
pub descends_once_from_each :
    (members m t : ℕ) (h : List Event) → Always (TaskRule members) h → ((s : ℕ) → Happened (Start s m) h → (IsTaskDone s h → ⊥) → is_ancestor (Explicit s) t h ≡ true) →
    (at_barrier m h ≡ true) ⊎ (is_ancestor (Implicit m) t h ≡ true) → may_descend m t h ≡ true
descends_once_from_each members m t h all each below =
    and_both (each_of (λ s. is_ancestor (Explicit s) t h) (task_stack m h)) (at_barrier m h || is_ancestor (Implicit m) t h)
    (each_once (λ s. is_ancestor (Explicit s) t h) (task_stack m h) (λ s there.
    let is = ((tasks_stacked members h all) m).1 s there in each s (runner_happened s m h is.2) (open_is_not_done s h is.1)))
    (at_or_below (at_barrier m h) (is_ancestor (Implicit m) t h) below)

may_once : (t m : ℕ) (h : List Event) → is_unstarted t h ≡ true → is_free t h ≡ true → is_covered t h ≡ false → may_descend m t h ≡ true → may_start m t h ≡ true
may_once t m h new free whole down =
    and_both (is_ready t h) (may_descend m t h) (and_both (is_unstarted t h) (is_free t h && not (is_covered t h)) new (and_both (is_free t h) (not (is_covered t h)) free (rw whole refl))) down

-- a member may start a task that nobody has started, that is not done and waits for no other, that no cancellation reaches, and that lies so
pub starts_once_ready :
    (members m t : ℕ) (h : List Event) → Always (TaskRule members) h → IsCreated t h → ((n : ℕ) → Happened (Start t n) h → ⊥) → (IsTaskDone t h → ⊥) → is_free t h ≡ true → is_covered t h ≡ false →
    ((s : ℕ) → Happened (Start s m) h → (IsTaskDone s h → ⊥) → is_ancestor (Explicit s) t h ≡ true) → (at_barrier m h ≡ true) ⊎ (is_ancestor (Implicit m) t h ≡ true) → may_start m t h ≡ true
starts_once_ready members m t h all made never undone free whole each below =
    may_once t m h (unstarted_once_created members t h all made never undone) free whole (descends_once_from_each members m t h all each below)

-- at a wait it may start it if it is deferred
pub startable_once_deferred : (m t : ℕ) (h : List Event) → is_undeferred t h ≡ false → may_start m t h ≡ true → is_startable m t h ≡ true
startable_once_deferred m t h deferred may = and_both (not (is_undeferred t h)) (may_start m t h) (rw deferred refl) may

-- and no undeferred one
pub undeferred_never_startable : (m t : ℕ) (h : List Event) → is_undeferred t h ≡ true → is_startable m t h ≡ false
undeferred_never_startable m t h undeferred = rw undeferred refl

-- there is some task that it may start if there is one, whatever its number
pub some_startable_once_one_is : (m t : ℕ) (h : List Event) → is_startable m t h ≡ true → some_startable m h ≡ true
some_startable_once_one_is m t h is = elim (cases_Bool (every_task (λ u. not (is_startable m u h)) h)) [
  | inl none ↦
      let may = and_right (not (is_undeferred t h)) (may_start m t h) is in
      let stays : not (is_startable m t h) ≡ true = each_of_every_task (λ u. not (is_startable m u h)) t h none (startable_is_fresh m t h may).0 in
      absurd (not_both (is_startable m t h) is (false_of_not (is_startable m t h) stays))
  | inr some ↦ rw some refl
]

-- and only then
pub some_startable_only_if_one_is : (m : ℕ) (h : List Event) → some_startable m h ≡ true → (t : ℕ) × (is_startable m t h ≡ true)
some_startable_only_if_one_is m h some =
    let found = one_task_fails (λ t. not (is_startable m t h)) h (false_of_not (every_task (λ t. not (is_startable m t h)) h) some) in
    (found.0, not_false (is_startable m found.0 h) found.2)

-- A task that was created last

-- a task's creation cancels nothing
cancelled_as_before : (qs : List ℕ) (t m : ℕ) (p : Task) (desc : TaskDesc) (h : List Event) → some_cancelled qs (Create t m p desc ∷ h) ≡ some_cancelled qs h
cancelled_as_before [] t m p desc h = refl
cancelled_as_before (q ∷ qs) t m p desc h = ap (λ (b : Bool). was_cancelled (OneGroup q) h || b) (cancelled_as_before qs t m p desc h)

-- a task is in the groups that were open in its parent and around that
pub groups_since_created : (t m : ℕ) (p : Task) (desc : TaskDesc) (h : List Event) → groups_around t (Create t m p desc ∷ h) ≡ groups_within p h
groups_since_created t m (Implicit x) desc h = rw (same_number t) (sym (append-nil (open_groups (Implicit x) h)))
groups_since_created t m (Explicit p) desc h = rw (same_number t) refl

-- a task is reached once it is created just if it would be
pub covered_as_it_would_be : (t m : ℕ) (p : Task) (desc : TaskDesc) (h : List Event) → is_covered t (Create t m p desc ∷ h) ≡ would_be_covered p h
covered_as_it_would_be t m p desc h =
    ap (λ (b : Bool). is_cancelled h || b) (ap (λ (qs : List ℕ). some_cancelled qs (Create t m p desc ∷ h)) (groups_since_created t m p desc h) ∙ cancelled_as_before (groups_within p h) t m p desc h)

below_the_executed : (members t m s : ℕ) (p : Task) (desc : TaskDesc) (h : List Event) → Always (TaskRule members) h → p ≡ executed_task m h → contains s (task_stack m h) ≡ true → is_ancestor (Explicit s) t (Create t m p desc ∷ h) ≡ true
below_the_executed members t m s (Implicit x) desc h all current there = absurd (nothing_below (task_stack m h) (sym current) there)
  where
    nothing_below : (ts : List ℕ) → innermost_task m ts ≡ Implicit x → contains s ts ≡ true → ⊥
    nothing_below [] e has = cc
    nothing_below (u ∷ us) e has = cc
below_the_executed members t m s (Explicit k) desc h all current there = elim (innermost_descends (λ a u. is_ancestor (Explicit a) u h) m k s (task_stack m h) (sym current) (stack_descends members m h all) there) [
  | inl same ↦ rw (same_number t, same, same_number k) refl
  | inr above ↦ rw (same_number t) (or_right (same_task (Explicit k) (Explicit s)) (is_ancestor (Explicit s) k h) above)
]

-- a deferred task without items may be started at a wait by the member that created it, as soon as it is created, if the member waits at a barrier or its implicit task is an ancestor
pub newest_is_startable :
    (members t m : ℕ) (p : Task) (desc : TaskDesc) (h : List Event) → Always (TaskRule members) (Create t m p desc ∷ h) → becomes_undeferred desc p h ≡ false → desc.deps ≡ [] →
    (at_barrier m h ≡ true) ⊎ (is_ancestor (Implicit m) t (Create t m p desc ∷ h) ≡ true) → is_startable m t (Create t m p desc ∷ h) ≡ true
newest_is_startable members t m p desc h all deferred none below =
    let number = all.0.number in
    let new = uncreated_not_started members h all.1 t (omega (arith, number)) in
    let made : is_created t (Create t m p desc ∷ h) ≡ true = newest_created t h number in
    let unstarted : is_unstarted t (Create t m p desc ∷ h) ≡ true = and_both _ _ made (rw (new.0, new.1) refl) in
    let free = free_without_items members t m p desc (Create t m p desc ∷ h) all (inl refl) none in
    let whole : is_covered t (Create t m p desc ∷ h) ≡ false = covered_as_it_would_be t m p desc h ∙ all.0.uncovered in
    let down : may_descend m t (Create t m p desc ∷ h) ≡ true =
    and_both (each_of (λ s. is_ancestor (Explicit s) t (Create t m p desc ∷ h)) (task_stack m h)) (at_barrier m h || is_ancestor (Implicit m) t (Create t m p desc ∷ h))
    (each_once (λ s. is_ancestor (Explicit s) t (Create t m p desc ∷ h)) (task_stack m h) (λ s there. below_the_executed members t m s p desc h all.1 all.0.current there))
    (at_or_below (at_barrier m h) (is_ancestor (Implicit m) t (Create t m p desc ∷ h)) below) in
    startable_once_deferred m t (Create t m p desc ∷ h) (rw (same_number t) deferred) (may_once t m (Create t m p desc ∷ h) unstarted free whole down)

-- so in its implicit task always
pub newest_of_implicit_is_startable :
    (members t m x : ℕ) (desc : TaskDesc) (h : List Event) → Always (TaskRule members) (Create t m (Implicit x) desc ∷ h) → desc.undeferred ≡ false → desc.deps ≡ [] → is_startable m t (Create t m (Implicit x) desc ∷ h) ≡ true
newest_of_implicit_is_startable members t m x desc h all deferred none =
    let own = own_implicit (task_stack m h) (sym all.0.current) in
    newest_is_startable members t m (Implicit x) desc h all (rw deferred refl) none (inr (rw (same_number t, own, same_number m) refl))
  where
    own_implicit : (ts : List ℕ) → innermost_task m ts ≡ Implicit x → x ≡ m
    own_implicit [] e = cc
    own_implicit (u ∷ us) e = absurd (cc)

-- one that is startable may be started
pub startable_may_start : (m t : ℕ) (h : List Event) → is_startable m t h ≡ true → may_start m t h ≡ true
startable_may_start m t h may = and_right (not (is_undeferred t h)) (may_start m t h) may
