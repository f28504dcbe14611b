-- What each event changes of what a list says of tasks, groups and barriers, for any member, task and list; no other event changes it.
use Rattle.std.proofs.Common.{◌≡◌, ◌≢◌, ℕ, ◌+◌, Bool, true, false, List, [], ◌∷◌, ◌++◌, Some, None, refl, ap, inl, inr, arith, suc, zero}
use Rattle.std.specs.Prelude.{◌==◌, ◌&&◌}
use Rattle.std.specs.List.{list_any}
use Rattle.std.proofs.lemmas.Bool.{cases_Bool}
use Rattle.gomp_types.specs.declared.task.Task.{Task}
use Rattle.gomp_types.specs.declared.task.Task.TheVariants.{Implicit, Explicit}
use Rattle.gomp_types.specs.declared.task.TaskDesc.{TaskDesc}
use Rattle.gomp_types.specs.declared.depend.Dep.{Dep}
use Rattle.gomp_events.specs.declared.event.Tag.{Tag}
use Rattle.gomp_events.specs.declared.event.Event.{Event}
use Rattle.gomp_events.specs.declared.event.Event.TheVariants.{Create, Start, Done, Group, GroupEnd, Arrive, Pass, Cancel, Enter, End, See}
use Rattle.gomp_types.specs.declared.cancel.CancelKind.{CancelKind}
use Rattle.gomp_types.specs.declared.cancel.CancelKind.TheVariants.{Parallel, Loop, Sections, Taskgroup}
use Rattle.gomp_types.specs.declared.cancel.Scope.TheVariants.{Region, OneGroup}
use Rattle.gomp_types.specs.declared.shape.Shape.{Shape}
use Rattle.gomp_events.specs.Events.{barriers_passed, at_barrier, at_region_end}
use Rattle.gomp_events.specs.Tasks.{same_task, contains, tasks_created, after_first, task_stack, executed_task, is_child, is_ancestor, is_created_by, newest_child, task_desc, task_runner, is_odd, epoch_of_child, epoch, is_final, is_undeferred, task_depth}
use Rattle.gomp_types.specs.DependItems.{kind_waits, item_waits, items_wait}
use Rattle.gomp_events.specs.Depends.{task_items, waits_for, child_waits}
use Rattle.gomp_events.specs.Groups.{groups_opened, open_groups, groups_around, in_group}
use Rattle.gomp_events.specs.Cancels.{groups_within, is_covered, would_be_covered, same_cancel, leaves_region, leaves_share, leaves_task, some_cancelled}
use Rattle.gomp_events.specs.Goals.{is_own}
use Rattle.gomp_events.specs.TaskCalls.{HasJob}
use Rattle.gomp_events.specs.Laws.{Happened}
use Rattle.gomp_types.proofs.Booleans.{or_right, or_left, same_number, other_number, is_equal}
use Rattle.gomp_events.proofs.GroupsKeep.{same_is_one, one_is_same}
use Rattle.gomp_events.proofs.Refutations.{contained_first, contained_later, cancelled_by_none, none_reached}

tasks_differ : (a b : Task) → a ≢ b → same_task a b ≡ false
tasks_differ a b differ = elim (cases_Bool (same_task a b)) [ inl same ↦ absurd (differ (same_is_one a b same)) | inr e ↦ e ]

-- The task that a member executes

-- a member that has started nothing executes its implicit task
pub nothing_started_nothing_stacked : (m : ℕ) (h : List Event) → ((t : ℕ) → Happened (Start t m) h → ⊥) → task_stack m h ≡ []
nothing_started_nothing_stacked m [] never = refl
nothing_started_nothing_stacked m (Start task member ∷ earlier) never = elim (cases_Bool (member == m)) [
  | inl who ↦ absurd (never task (inl (ap (Start task) (is_equal member m who))))
  | inr other ↦ rw other (nothing_started_nothing_stacked m earlier (λ t was. never t (inr was)))
]
nothing_started_nothing_stacked m (Done task member ∷ earlier) never =
    let none = nothing_started_nothing_stacked m earlier (λ t was. never t (inr was)) in
    elim (cases_Bool (member == m)) [ inl who ↦ rw (who, none) refl | inr other ↦ rw (other, none) refl ]
nothing_started_nothing_stacked m (_ ∷ earlier) never = nothing_started_nothing_stacked m earlier (λ t was. never t (inr was))

pub implicit_while_nothing_started : (m : ℕ) (h : List Event) → ((t : ℕ) → Happened (Start t m) h → ⊥) → executed_task m h ≡ Implicit m
implicit_while_nothing_started m h never = rw (nothing_started_nothing_stacked m h never) refl

-- once it has started a task it executes that one
pub executes_what_it_started : (t m : ℕ) (h : List Event) → executed_task m (Start t m ∷ h) ≡ Explicit t
executes_what_it_started t m h = rw (same_number m) refl

-- and once it has ended it, the one before
pub resumes_what_it_left : (t u m : ℕ) (h : List Event) → executed_task m (Done t m ∷ Start u m ∷ h) ≡ executed_task m h
resumes_what_it_left t u m h = rw (same_number m) refl

-- each end of its own takes one away, the innermost
pub end_takes_the_innermost : (t m : ℕ) (h : List Event) → task_stack m (Done t m ∷ h) ≡ after_first (task_stack m h)
end_takes_the_innermost t m h = rw (same_number m) refl

-- what others start and end changes nothing of it
pub starts_of_others_stack_nothing : (t m n : ℕ) (h : List Event) → n ≢ m → task_stack m (Start t n ∷ h) ≡ task_stack m h
starts_of_others_stack_nothing t m n h differ = rw (other_number n m differ) refl

pub ends_of_others_take_nothing : (t m n : ℕ) (h : List Event) → n ≢ m → task_stack m (Done t n ∷ h) ≡ task_stack m h
ends_of_others_take_nothing t m n h differ = rw (other_number n m differ) refl

-- nor does any other event
pub stack_stays_otherwise : (m : ℕ) (event : Event) (h : List Event) → ((t n : ℕ) → event ≢ Start t n) → ((t n : ℕ) → event ≢ Done t n) → task_stack m (event ∷ h) ≡ task_stack m h
stack_stays_otherwise m (Start t n) h starts ends = absurd (starts t n refl)
stack_stays_otherwise m (Done t n) h starts ends = absurd (ends t n refl)
stack_stays_otherwise m _ h starts ends = refl

-- What the creation of a task says of it

-- a task is a child of the one in which it was created
pub child_of_its_parent : (t m : ℕ) (p : Task) (desc : TaskDesc) (h : List Event) → is_child p t (Create t m p desc ∷ h) ≡ true
child_of_its_parent t m p desc h = rw (same_number t, one_is_same p) refl

-- and of no other
pub child_of_no_other : (t m : ℕ) (p r : Task) (desc : TaskDesc) (h : List Event) → p ≢ r → is_child r t (Create t m p desc ∷ h) ≡ false
child_of_no_other t m p r desc h differ = rw (same_number t, tasks_differ p r differ) refl

-- its parent is its ancestor
pub parent_is_ancestor : (t m : ℕ) (p : Task) (desc : TaskDesc) (h : List Event) → is_ancestor p t (Create t m p desc ∷ h) ≡ true
parent_is_ancestor t m p desc h = rw (same_number t, one_is_same p) refl

-- and so are the ancestors of its parent
pub ancestor_of_its_parent : (a : Task) (t m p : ℕ) (desc : TaskDesc) (h : List Event) → is_ancestor a p h ≡ true → is_ancestor a t (Create t m (Explicit p) desc ∷ h) ≡ true
ancestor_of_its_parent a t m p desc h above = rw (same_number t, above) (or_right (same_task (Explicit p) a) true refl)

-- and no others
pub ancestor_by_no_other_way : (a : Task) (t m p : ℕ) (desc : TaskDesc) (h : List Event) → Explicit p ≢ a → is_ancestor a p h ≡ false → is_ancestor a t (Create t m (Explicit p) desc ∷ h) ≡ false
ancestor_by_no_other_way a t m p desc h differ apart = rw (same_number t, tasks_differ (Explicit p) a differ, apart) refl

pub implicit_parent_alone : (a : Task) (t m x : ℕ) (desc : TaskDesc) (h : List Event) → Implicit x ≢ a → is_ancestor a t (Create t m (Implicit x) desc ∷ h) ≡ false
implicit_parent_alone a t m x desc h differ = rw (same_number t, tasks_differ (Implicit x) a differ) refl

-- what was asked for is what its creation says
pub asked_at_its_creation : (t m : ℕ) (p : Task) (desc : TaskDesc) (h : List Event) → task_desc t (Create t m p desc ∷ h) ≡ Some desc
asked_at_its_creation t m p desc h = rw (same_number t) refl

pub asked_at_no_other_creation : (t u m : ℕ) (p : Task) (desc : TaskDesc) (h : List Event) → u ≢ t → task_desc t (Create u m p desc ∷ h) ≡ task_desc t h
asked_at_no_other_creation t u m p desc h differ = rw (other_number u t differ) refl

-- the member that starts it runs it
pub run_by_its_starter : (t m : ℕ) (h : List Event) → task_runner t (Start t m ∷ h) ≡ Some m
run_by_its_starter t m h = rw (same_number t) refl

pub run_by_no_other_start : (t u m : ℕ) (h : List Event) → u ≢ t → task_runner t (Start u m ∷ h) ≡ task_runner t h
run_by_no_other_start t u m h differ = rw (other_number u t differ) refl

-- a member created the task that it created in this one, and no other did
pub created_by_its_member : (t m : ℕ) (p : Task) (desc : TaskDesc) (h : List Event) → is_created_by m p t (Create t m p desc ∷ h) ≡ true
created_by_its_member t m p desc h = rw (same_number t, same_number m, one_is_same p) refl

pub created_by_no_other : (t m n : ℕ) (p r : Task) (desc : TaskDesc) (h : List Event) → n ≢ m → is_created_by m p t (Create t n r desc ∷ h) ≡ false
created_by_no_other t m n p r desc h differ = rw (same_number t, other_number n m differ) refl

-- so it is the member's own while that executes the task in which it created it
pub own_while_in_its_parent : (t m : ℕ) (desc : TaskDesc) (h : List Event) → is_own m t (Create t m (executed_task m h) desc ∷ h) ≡ true
own_while_in_its_parent t m desc h = rw (same_number t, same_number m, one_is_same (executed_task m h)) refl

-- and the newest child of its parent
pub newest_once_created : (t m : ℕ) (p : Task) (desc : TaskDesc) (h : List Event) → newest_child p (Create t m p desc ∷ h) ≡ t
newest_once_created t m p desc h = rw (one_is_same p) refl

pub newest_of_no_other : (t m : ℕ) (p r : Task) (desc : TaskDesc) (h : List Event) → p ≢ r → newest_child r (Create t m p desc ∷ h) ≡ newest_child r h
newest_of_no_other t m p r desc h differ = rw (tasks_differ p r differ) refl

-- a task is final by its clause
pub final_by_its_clause : (t m : ℕ) (p : Task) (desc : TaskDesc) (h : List Event) → desc.final_task ≡ true → is_final t (Create t m p desc ∷ h) ≡ true
final_by_its_clause t m p desc h clause = rw (same_number t, clause) refl

-- or by its parent
pub final_by_its_parent : (t m p : ℕ) (desc : TaskDesc) (h : List Event) → is_final p h ≡ true → is_final t (Create t m (Explicit p) desc ∷ h) ≡ true
final_by_its_parent t m p desc h above = rw (same_number t, above) (or_right desc.final_task true refl)

-- and for no other reason
pub final_for_no_other_reason : (t m p : ℕ) (desc : TaskDesc) (h : List Event) → desc.final_task ≡ false → is_final p h ≡ false → is_final t (Create t m (Explicit p) desc ∷ h) ≡ false
final_for_no_other_reason t m p desc h clause above = rw (same_number t, clause, above) refl

pub final_in_no_implicit_task : (t m x : ℕ) (desc : TaskDesc) (h : List Event) → desc.final_task ≡ false → is_final t (Create t m (Implicit x) desc ∷ h) ≡ false
final_in_no_implicit_task t m x desc h clause = rw (same_number t, clause) refl

-- a task is undeferred by its clause, in whatever task it is created
pub undeferred_by_its_clause : (t m : ℕ) (p : Task) (desc : TaskDesc) (h : List Event) → desc.undeferred ≡ true → is_undeferred t (Create t m p desc ∷ h) ≡ true
undeferred_by_its_clause t m p desc h clause = rw (same_number t, clause) refl

-- or because its parent is final
pub undeferred_in_a_final_task : (t m p : ℕ) (desc : TaskDesc) (h : List Event) → is_final p h ≡ true → is_undeferred t (Create t m (Explicit p) desc ∷ h) ≡ true
undeferred_in_a_final_task t m p desc h above = rw (same_number t, above) (or_right desc.undeferred true refl)

-- and else is deferred
pub deferred_without_a_clause : (t m p : ℕ) (desc : TaskDesc) (h : List Event) → desc.undeferred ≡ false → is_final p h ≡ false → is_undeferred t (Create t m (Explicit p) desc ∷ h) ≡ false
deferred_without_a_clause t m p desc h clause above = rw (same_number t, clause, above) refl

pub deferred_in_an_implicit_task : (t m x : ℕ) (desc : TaskDesc) (h : List Event) → desc.undeferred ≡ false → is_undeferred t (Create t m (Implicit x) desc ∷ h) ≡ false
deferred_in_an_implicit_task t m x desc h clause = rw (same_number t, clause) refl

-- a task is bound to the next barrier of the member in whose implicit task it is created, whoever creates it
pub bound_to_the_next_barrier : (t m x : ℕ) (desc : TaskDesc) (h : List Event) → epoch t (Create t m (Implicit x) desc ∷ h) ≡ barriers_passed x h
bound_to_the_next_barrier t m x desc h = rw (same_number t) refl

-- and else to the barrier of its parent
pub bound_with_its_parent : (t m p : ℕ) (desc : TaskDesc) (h : List Event) → epoch t (Create t m (Explicit p) desc ∷ h) ≡ epoch p h
bound_with_its_parent t m p desc h = rw (same_number t) refl

-- no other event changes what the newest child is
pub newest_stays_otherwise : (p : Task) (event : Event) (h : List Event) → ((u m : ℕ) (r : Task) (desc : TaskDesc) → event ≢ Create u m r desc) → newest_child p (event ∷ h) ≡ newest_child p h
newest_stays_otherwise p (Create u m r desc) h none = absurd (none u m r desc refl)
newest_stays_otherwise p _ h none = refl

-- a task is bound to the barrier to which a child created there now would be
pub bound_as_a_child_would_be : (t m : ℕ) (p : Task) (desc : TaskDesc) (h : List Event) → epoch t (Create t m p desc ∷ h) ≡ epoch_of_child p h
bound_as_a_child_would_be t m (Implicit x) desc h = rw (same_number t) refl
bound_as_a_child_would_be t m (Explicit p) desc h = rw (same_number t) refl

-- the double of a number is not odd, and one more is, however large
pub double_is_not_odd : (k n : ℕ) → n ≡ k + k → is_odd n ≡ false
double_is_not_odd k zero e = refl
double_is_not_odd k (suc zero) e = absurd (omega (arith, e))
double_is_not_odd zero (suc (suc n)) e = absurd (omega (arith, e))
double_is_not_odd (suc k) (suc (suc n)) e = rw (double_is_not_odd k n (omega (arith, e))) refl

pub one_more_is_odd : (k n : ℕ) → n ≡ k + k → is_odd (suc n) ≡ true
one_more_is_odd k n e = rw (double_is_not_odd k n e) refl

-- Dependences

any_within : (test : Dep → Bool) (first later : List Dep) (item : Dep) → test item ≡ true → list_any test (first ++ item ∷ later) ≡ true
any_within test [] later item is = or_left (test item) (list_any test later) is
any_within test (other ∷ first) later item is = or_right (test other) (list_any test (first ++ item ∷ later)) (any_within test first later item is)

-- two items on one address depend by their kinds, whatever the address
pub dependent_on_one_address : (new old : Dep) → new.addr ≡ old.addr → kind_waits new.kind old.kind ≡ true → item_waits new old ≡ true
dependent_on_one_address new old same kinds = rw (same, same_number old.addr, kinds) refl

-- and on two addresses do not
pub independent_on_two_addresses : (new old : Dep) → new.addr ≢ old.addr → item_waits new old ≡ false
independent_on_two_addresses new old differ = rw (other_number new.addr old.addr differ) refl

-- clauses depend by any of their items
pub dependent_by_any_items :
    (first later front back : List Dep) (new old : Dep) → item_waits new old ≡ true → items_wait (first ++ new ∷ later) (front ++ old ∷ back) ≡ true
dependent_by_any_items first later front back new old depend =
    any_within (λ item. list_any (item_waits item) (front ++ old ∷ back)) first later new (any_within (item_waits new) front back old depend)

all_without : (test : Dep → Bool) (items : List Dep) → ((first later : List Dep) (item : Dep) → items ≡ first ++ item ∷ later → test item ≡ false) → list_any test items ≡ false
all_without test [] none = refl
all_without test (item ∷ items) none = rw (none [] items item refl) (all_without test items (λ first later other e. none (item ∷ first) later other (ap (λ (row : List Dep). item ∷ row) e)))

-- and by nothing else, however many items they have and whatever their addresses
pub independent_without_clash :
    (new old : List Dep) →
    ((first later front back : List Dep) (one other : Dep) → new ≡ first ++ one ∷ later → old ≡ front ++ other ∷ back → item_waits one other ≡ false) → items_wait new old ≡ false
independent_without_clash new old none =
    all_without (λ item. list_any (item_waits item) old) new (λ first later one e. all_without (item_waits one) old (λ front back other is. none first later front back one other e is))

-- a child with some items waits for a child of its parent if the items depend
pub child_waits_by_its_items : (p : Task) (items : List Dep) (t : ℕ) (h : List Event) → is_child p t h ≡ true → items_wait items (task_items t h) ≡ true → child_waits p items t h ≡ true
child_waits_by_its_items p items t h child depend = rw (child, depend) refl

-- a task waits for each earlier one of the same parent on which one of its items depends
pub waits_for_a_named_sibling :
    (t q m : ℕ) (p : Task) (desc : TaskDesc) (h : List Event) → is_child p q h ≡ true → items_wait desc.deps (task_items q h) ≡ true → waits_for t q (Create t m p desc ∷ h) ≡ true
waits_for_a_named_sibling t q m p desc h child depend = rw (same_number t, child, depend) refl

-- for no other child
pub waits_for_no_unnamed_sibling : (t q m : ℕ) (p : Task) (desc : TaskDesc) (h : List Event) → items_wait desc.deps (task_items q h) ≡ false → waits_for t q (Create t m p desc ∷ h) ≡ false
waits_for_no_unnamed_sibling t q m p desc h independent = elim (cases_Bool (is_child p q h)) [
  | inl child ↦ rw (same_number t, child, independent) refl
  | inr other ↦ rw (same_number t, other) refl
]

-- and for no task of another parent
pub waits_for_no_task_elsewhere : (t q m : ℕ) (p : Task) (desc : TaskDesc) (h : List Event) → is_child p q h ≡ false → waits_for t q (Create t m p desc ∷ h) ≡ false
waits_for_no_task_elsewhere t q m p desc h other = rw (same_number t, other) refl

-- the items are those of its creation
pub items_of_its_creation : (t m : ℕ) (p : Task) (desc : TaskDesc) (h : List Event) → task_items t (Create t m p desc ∷ h) ≡ desc.deps
items_of_its_creation t m p desc h = rw (same_number t) refl

-- Groups

-- a group is open in the task that its member executes, from its opening
pub group_opens_in_its_task : (q m : ℕ) (h : List Event) → open_groups (executed_task m h) (Group q m ∷ h) ≡ q ∷ open_groups (executed_task m h) h
group_opens_in_its_task q m h = rw (one_is_same (executed_task m h)) refl

-- to its end, which takes the last one
pub group_end_takes_the_last : (q m : ℕ) (h : List Event) → open_groups (executed_task m h) (GroupEnd q m ∷ h) ≡ after_first (open_groups (executed_task m h) h)
group_end_takes_the_last q m h = rw (one_is_same (executed_task m h)) refl

-- and in no other task
pub group_opens_in_no_other : (q m : ℕ) (p : Task) (h : List Event) → executed_task m h ≢ p → open_groups p (Group q m ∷ h) ≡ open_groups p h
group_opens_in_no_other q m p h differ = rw (tasks_differ (executed_task m h) p differ) refl

pub group_ends_in_no_other : (q m : ℕ) (p : Task) (h : List Event) → executed_task m h ≢ p → open_groups p (GroupEnd q m ∷ h) ≡ open_groups p h
group_ends_in_no_other q m p h differ = rw (tasks_differ (executed_task m h) p differ) refl

-- no other event opens a group or ends one
pub groups_stay_otherwise : (p : Task) (event : Event) (h : List Event) → ((q n : ℕ) → event ≢ Group q n) → ((q n : ℕ) → event ≢ GroupEnd q n) → open_groups p (event ∷ h) ≡ open_groups p h
groups_stay_otherwise p (Group q n) h opens ends = absurd (opens q n refl)
groups_stay_otherwise p (GroupEnd q n) h opens ends = absurd (ends q n refl)
groups_stay_otherwise p _ h opens ends = refl

-- a task is in each group that is open in its parent when it is created
pub grouped_by_its_parent : (q t m : ℕ) (p : Task) (desc : TaskDesc) (h : List Event) → contains q (open_groups p h) ≡ true → in_group q t (Create t m p desc ∷ h) ≡ true
grouped_by_its_parent q t m (Implicit x) desc h there = rw (same_number t) there
grouped_by_its_parent q t m (Explicit p) desc h there = rw (same_number t) (contained_first q (open_groups (Explicit p) h) (groups_around p h) there)

-- and in those that its parent is in
pub grouped_with_its_parent : (q t m p : ℕ) (desc : TaskDesc) (h : List Event) → in_group q p h ≡ true → in_group q t (Create t m (Explicit p) desc ∷ h) ≡ true
grouped_with_its_parent q t m p desc h there = rw (same_number t) (contained_later q (open_groups (Explicit p) h) (groups_around p h) there)

-- and in no others
pub grouped_by_no_other_way : (q t m p : ℕ) (desc : TaskDesc) (h : List Event) → contains q (open_groups (Explicit p) h) ≡ false → in_group q p h ≡ false → in_group q t (Create t m (Explicit p) desc ∷ h) ≡ false
grouped_by_no_other_way q t m p desc h first later = rw (same_number t) (in_neither q (open_groups (Explicit p) h) (groups_around p h) first later)
  where
    in_neither : (x : ℕ) (xs ys : List ℕ) → contains x xs ≡ false → contains x ys ≡ false → contains x (xs ++ ys) ≡ false
    in_neither x [] ys away apart = apart
    in_neither x (y ∷ xs) ys away apart = elim (cases_Bool (y == x)) [
      | inl here ↦ let found : true ≡ false = rw here at away in absurd (cc)
      | inr other ↦ rw other (in_neither x xs ys (rw other at away) apart)
    ]

-- What a task is to do

-- a task is to do what was asked for
pub does_what_was_asked : (desc : TaskDesc) → HasJob (Some desc) desc.code desc.arg
does_what_was_asked desc = (refl, refl)

-- and nothing else: no other code, and no other argument
pub never_another_code : (desc : TaskDesc) (code arg : ℕ) → desc.code ≢ code → HasJob (Some desc) code arg → ⊥
never_another_code desc code arg differ job = differ job.0

pub never_another_argument : (desc : TaskDesc) (code arg : ℕ) → desc.arg ≢ arg → HasJob (Some desc) code arg → ⊥
never_another_argument desc code arg differ job = differ job.1

-- what is no task has nothing to do
pub never_without_a_task : (code arg : ℕ) → HasJob None code arg → ⊥
never_without_a_task code arg job = job

-- What stays

-- of a task that is created with another number, and by no other event, nothing changes that its own creation says
abbrev SaysTheSame : ℕ → List Event → List Event → Type 0
SaysTheSame t later h =
    ((p : Task) → is_child p t later ≡ is_child p t h)
    × ((a : Task) → is_ancestor a t later ≡ is_ancestor a t h)
    × (is_final t later ≡ is_final t h)
    × (is_undeferred t later ≡ is_undeferred t h)
    × (epoch t later ≡ epoch t h)
    × (task_depth t later ≡ task_depth t h)
    × (task_items t later ≡ task_items t h)
    × ((q : ℕ) → waits_for t q later ≡ waits_for t q h)
    × (groups_around t later ≡ groups_around t h)
    × (task_desc t later ≡ task_desc t h)
    × ((m : ℕ) (p : Task) → is_created_by m p t later ≡ is_created_by m p t h)

another_says_nothing : (t u m : ℕ) (p : Task) (desc : TaskDesc) (h : List Event) → (u == t) ≡ false → SaysTheSame t (Create u m p desc ∷ h) h
another_says_nothing t u m (Implicit x) desc h other =
    ((λ r. rw other refl), (λ a. rw other refl), rw other refl, rw other refl, rw other refl, rw other refl, rw other refl, (λ q. rw other refl), rw other refl, rw other refl, (λ n r. rw other refl))
another_says_nothing t u m (Explicit p) desc h other =
    ((λ r. rw other refl), (λ a. rw other refl), rw other refl, rw other refl, rw other refl, rw other refl, rw other refl, (λ q. rw other refl), rw other refl, rw other refl, (λ n r. rw other refl))

pub creation_of_another_says_nothing : (t u m : ℕ) (p : Task) (desc : TaskDesc) (h : List Event) → u ≢ t → SaysTheSame t (Create u m p desc ∷ h) h
creation_of_another_says_nothing t u m p desc h differ = another_says_nothing t u m p desc h (other_number u t differ)

pub no_other_event_says_anything : (t : ℕ) (event : Event) (h : List Event) → ((u m : ℕ) (p : Task) (desc : TaskDesc) → event ≢ Create u m p desc) → SaysTheSame t (event ∷ h) h
no_other_event_says_anything t (Create u m p desc) h none = absurd (none u m p desc refl)
no_other_event_says_anything t _ h none = ((λ r. refl), (λ a. refl), refl, refl, refl, refl, refl, (λ q. refl), refl, refl, (λ n r. refl))

-- Barriers

-- a member waits at a barrier from its arrival
pub waits_once_arrived : (barrier m : ℕ) (tag : Tag) (h : List Event) → at_barrier m (Arrive barrier m tag ∷ h) ≡ true
waits_once_arrived barrier m tag h = rw (same_number m) refl

-- until it passes
pub waits_no_more_once_passed : (barrier m : ℕ) (h : List Event) → at_barrier m (Pass barrier m ∷ h) ≡ false
waits_no_more_once_passed barrier m h = rw (same_number m) refl

-- whatever others do
pub arrivals_of_others_move_nobody : (barrier m n : ℕ) (tag : Tag) (h : List Event) → n ≢ m → at_barrier m (Arrive barrier n tag ∷ h) ≡ at_barrier m h
arrivals_of_others_move_nobody barrier m n tag h differ = rw (other_number n m differ) refl

pub passes_of_others_move_nobody : (barrier m n : ℕ) (h : List Event) → n ≢ m → at_barrier m (Pass barrier n ∷ h) ≡ at_barrier m h
passes_of_others_move_nobody barrier m n h differ = rw (other_number n m differ) refl

-- and without an arrival it waits at none
pub no_wait_without_arrival : (m : ℕ) (h : List Event) → ((barrier : ℕ) (tag : Tag) → Happened (Arrive barrier m tag) h → ⊥) → at_barrier m h ≡ false
no_wait_without_arrival m [] never = refl
no_wait_without_arrival m (Arrive g n tag ∷ earlier) never = elim (cases_Bool (n == m)) [
  | inl who ↦ absurd (never g tag (inl (let here = is_equal n m who in rw here refl)))
  | inr other ↦ rw other (no_wait_without_arrival m earlier (λ barrier same was. never barrier same (inr was)))
]
no_wait_without_arrival m (Pass g n ∷ earlier) never = elim (cases_Bool (n == m)) [
  | inl who ↦ rw who refl
  | inr other ↦ rw other (no_wait_without_arrival m earlier (λ barrier tag was. never barrier tag (inr was)))
]
no_wait_without_arrival m (_ ∷ earlier) never = no_wait_without_arrival m earlier (λ barrier tag was. never barrier tag (inr was))

-- a member begins with no barrier passed
pub nothing_passed_at_first : (m : ℕ) → barriers_passed m [] ≡ 0
nothing_passed_at_first m = refl

-- a member has passed one barrier more with each pass of its own
pub pass_counts_its_own : (barrier m : ℕ) (h : List Event) → barriers_passed m (Pass barrier m ∷ h) ≡ barriers_passed m h + 1
pass_counts_its_own barrier m h = rw (same_number m) refl

pub pass_counts_for_no_other : (barrier m n : ℕ) (h : List Event) → n ≢ m → barriers_passed m (Pass barrier n ∷ h) ≡ barriers_passed m h
pass_counts_for_no_other barrier m n h differ = rw (other_number n m differ) refl

-- no other event moves a member among the barriers
pub barriers_stay_otherwise :
    (m : ℕ) (event : Event) (h : List Event) → ((g n : ℕ) (tag : Tag) → event ≢ Arrive g n tag) → ((g n : ℕ) → event ≢ Pass g n) →
    (at_barrier m (event ∷ h) ≡ at_barrier m h) × (at_region_end m (event ∷ h) ≡ at_region_end m h) × (barriers_passed m (event ∷ h) ≡ barriers_passed m h)
barriers_stay_otherwise m (Arrive g n tag) h arrives passes = absurd (arrives g n tag refl)
barriers_stay_otherwise m (Pass g n) h arrives passes = absurd (passes g n refl)
barriers_stay_otherwise m _ h arrives passes = (refl, refl, refl)

-- Cancellation

-- while nobody cancelled the region or a group, no task is reached
pub nothing_covered_uncancelled :
    (t : ℕ) (h : List Event) → ((n : ℕ) → Happened (Cancel n Region) h → ⊥) → ((q n : ℕ) → Happened (Cancel n (OneGroup q)) h → ⊥) → is_covered t h ≡ false
nothing_covered_uncancelled t h whole none = rw (cancelled_by_none Region h whole) (none_reached (groups_around t h) h none)

pub nothing_would_be_covered_uncancelled :
    (p : Task) (h : List Event) → ((n : ℕ) → Happened (Cancel n Region) h → ⊥) → ((q n : ℕ) → Happened (Cancel n (OneGroup q)) h → ⊥) → would_be_covered p h ≡ false
nothing_would_be_covered_uncancelled p h whole none = rw (cancelled_by_none Region h whole) (none_reached (groups_within p h) h none)

-- and none that lies in no group that somebody cancelled
pub covered_by_no_other_group :
    (t : ℕ) (h : List Event) → ((n : ℕ) → Happened (Cancel n Region) h → ⊥) → ((q : ℕ) → in_group q t h ≡ true → (n : ℕ) → Happened (Cancel n (OneGroup q)) h → ⊥) → is_covered t h ≡ false
covered_by_no_other_group t h whole none = rw (cancelled_by_none Region h whole) (each_uncancelled (groups_around t h) none)
  where
    each_uncancelled : (qs : List ℕ) → ((q : ℕ) → contains q qs ≡ true → (n : ℕ) → Happened (Cancel n (OneGroup q)) h → ⊥) → some_cancelled qs h ≡ false
    each_uncancelled [] never = refl
    each_uncancelled (q ∷ qs) never =
        rw (cancelled_by_none (OneGroup q) h (never q (or_left (q == q) (contains q qs) (same_number q)))) (each_uncancelled qs (λ x there. never x (or_right (q == x) (contains x qs) there)))

-- Members that leave

-- a member that has seen the region cancelled leaves it for good
pub leaves_the_region_seen : (m : ℕ) (h : List Event) → Happened (See m Parallel) h → leaves_region m h ≡ true
leaves_the_region_seen m [] never = absurd never
leaves_the_region_seen m (See n kind ∷ earlier) (inl e) = let who : n ≡ m = cc in let named : kind ≡ Parallel = cc in rw (who, named, same_number m) refl
leaves_the_region_seen m (See n kind ∷ earlier) (inr was) = or_right (n == m && same_cancel kind Parallel) (leaves_region m earlier) (leaves_the_region_seen m earlier was)
leaves_the_region_seen m (_ ∷ earlier) (inl e) = absurd (cc)
leaves_the_region_seen m (_ ∷ earlier) (inr was) = leaves_the_region_seen m earlier was

-- and one that has seen its share or its task cancelled leaves that
pub leaves_the_loop_seen : (m : ℕ) (h : List Event) → leaves_share m (See m Loop ∷ h) ≡ true
leaves_the_loop_seen m h = rw (same_number m) refl

pub leaves_the_sections_seen : (m : ℕ) (h : List Event) → leaves_share m (See m Sections ∷ h) ≡ true
leaves_the_sections_seen m h = rw (same_number m) refl

pub leaves_the_task_seen : (m : ℕ) (h : List Event) → leaves_task m (See m Taskgroup ∷ h) ≡ true
leaves_the_task_seen m h = rw (same_number m) refl

-- until it has left it, or is in another
pub leaves_no_share_anew : (i j m : ℕ) (shape : Shape) (h : List Event) → (leaves_share m (End i m ∷ h) ≡ false) × (leaves_share m (Enter j m shape ∷ h) ≡ false)
leaves_no_share_anew i j m shape h = (rw (same_number m) refl, rw (same_number m) refl)

pub leaves_no_task_anew : (t u m : ℕ) (h : List Event) → (leaves_task m (Done t m ∷ h) ≡ false) × (leaves_task m (Start u m ∷ h) ≡ false)
leaves_no_task_anew t u m h = (rw (same_number m) refl, rw (same_number m) refl)

-- a member that has seen nothing leaves nothing
pub leaves_nothing_unseen : (m : ℕ) (h : List Event) → ((kind : CancelKind) → Happened (See m kind) h → ⊥) → (leaves_region m h ≡ false) × (leaves_share m h ≡ false) × (leaves_task m h ≡ false)
leaves_nothing_unseen m [] never = (refl, refl, refl)
leaves_nothing_unseen m (See n kind ∷ earlier) never = elim (cases_Bool (n == m)) [
  | inl who ↦ absurd (never kind (inl (let same = is_equal n m who in rw same refl)))
  | inr other ↦ let rest = leaves_nothing_unseen m earlier (λ k was. never k (inr was)) in (rw other rest.0, rw other rest.1, rw other rest.2)
]
leaves_nothing_unseen m (Enter i n shape ∷ earlier) never =
    let rest = leaves_nothing_unseen m earlier (λ k was. never k (inr was)) in
    elim (cases_Bool (n == m)) [ inl who ↦ (rest.0, rw who refl, rest.2) | inr other ↦ (rest.0, rw other rest.1, rest.2) ]
leaves_nothing_unseen m (End i n ∷ earlier) never =
    let rest = leaves_nothing_unseen m earlier (λ k was. never k (inr was)) in
    elim (cases_Bool (n == m)) [ inl who ↦ (rest.0, rw who refl, rest.2) | inr other ↦ (rest.0, rw other rest.1, rest.2) ]
leaves_nothing_unseen m (Start t n ∷ earlier) never =
    let rest = leaves_nothing_unseen m earlier (λ k was. never k (inr was)) in
    elim (cases_Bool (n == m)) [ inl who ↦ (rest.0, rest.1, rw who refl) | inr other ↦ (rest.0, rest.1, rw other rest.2) ]
leaves_nothing_unseen m (Done t n ∷ earlier) never =
    let rest = leaves_nothing_unseen m earlier (λ k was. never k (inr was)) in
    elim (cases_Bool (n == m)) [ inl who ↦ (rest.0, rest.1, rw who refl) | inr other ↦ (rest.0, rest.1, rw other rest.2) ]
leaves_nothing_unseen m (_ ∷ earlier) never = leaves_nothing_unseen m earlier (λ k was. never k (inr was))

-- the creation of a task and the opening of a group are counted, and nothing else
pub tasks_counted_by_their_creation : (event : Event) (h : List Event) → ((t m : ℕ) (p : Task) (desc : TaskDesc) → event ≢ Create t m p desc) → tasks_created (event ∷ h) ≡ tasks_created h
tasks_counted_by_their_creation (Create t m p desc) h other = absurd (other t m p desc refl)
tasks_counted_by_their_creation _ h other = refl

pub groups_counted_by_their_opening : (event : Event) (h : List Event) → ((q m : ℕ) → event ≢ Group q m) → groups_opened (event ∷ h) ≡ groups_opened h
groups_counted_by_their_opening (Group q m) h other = absurd (other q m refl)
groups_counted_by_their_opening _ h other = refl
