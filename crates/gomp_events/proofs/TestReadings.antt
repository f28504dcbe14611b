-- Which refusal the tests of a call give, and when none: of any limits, items, member and list of events, so that no test may hold of more or fewer.
use Rattle.std.proofs.Common.{◌≡◌, ℕ, ◌+◌, ◌<◌, ◌≤◌, Bool, true, false, List, [], ◌∷◌, Some, None, refl, sym, ◌∙◌, arith, suc, zero, length}
use Rattle.std.specs.Prelude.{◌*◌, nat_le, nat_lt}
use Rattle.std.proofs.lemmas.Bool.Decides.{nat_tests}
use Rattle.gomp_types.specs.declared.cancel.CancelKind.TheVariants.{Parallel, Loop, Sections, Taskgroup}
use Rattle.gomp_types.specs.declared.depend.Dep.{Dep}
use Rattle.gomp_types.specs.declared.limits.TheConstants.{MAX_TASK_DEPTH, MAX_DEPENDS}
use Rattle.gomp_types.specs.declared.limits.Limits.{Limits}
use Rattle.gomp_types.specs.declared.refusal.Refusal.TheVariants.{InsideTask, NotInTask, NoGroup, GroupOpen, TooDeep, TooManyTasks, TooManyDepends, TraceFull}
use Rattle.gomp_types.specs.declared.task.Task.TheVariants.{Implicit, Explicit}
use Rattle.gomp_events.specs.declared.event.Event.{Event}
use Rattle.gomp_events.specs.Tasks.{tasks_created, executed_task, depth_of}
use Rattle.gomp_events.specs.Groups.{open_groups, groups_around}
use Rattle.gomp_types.specs.Least.{least}
use Rattle.gomp_events.specs.TaskCalls.{outside_tasks_tests, group_open_tests, items_tests, create_tests, end_task_tests, end_region_tests, end_group_tests, room_tests, first_room}
use Rattle.gomp_events.specs.declared.room.TheConstants.{TASK_ROOM, GROUP_ROOM, ARRIVAL_ROOM, PAYLOAD_ROOM, CANCEL_ROOM}
use Rattle.gomp_events.specs.CancelCalls.{cancel_tests}
use Rattle.gomp_types.proofs.LeastTests.{first_is_least}

pub below_is : (a b : ℕ) → a < b → nat_lt a b ≡ true
below_is a b lt = grind (arith, nat_tests, lt)

below_isnt : (a b : ℕ) → b ≤ a → nat_lt a b ≡ false
below_isnt a b le = grind (arith, nat_tests, le)

pub up_to_is : (a b : ℕ) → a ≤ b → nat_le a b ≡ true
up_to_is a b le = grind (arith, nat_tests, le)

up_to_isnt : (a b : ℕ) → b < a → nat_le a b ≡ false
up_to_isnt a b lt = grind (arith, nat_tests, lt)

-- Items

-- a clause with more items than it may have is refused, and none with fewer or as many
pub too_many_items_refused : (items : List Dep) → MAX_DEPENDS < length items → least (items_tests items) ≡ Some TooManyDepends
too_many_items_refused items many = rw (below_is MAX_DEPENDS (length items) many) refl

pub few_items_not_refused : (items : List Dep) → length items ≤ MAX_DEPENDS → least (items_tests items) ≡ None
few_items_not_refused items few = rw (below_isnt MAX_DEPENDS (length items) few) refl

-- Creation

-- a task in the deepest is refused first
pub too_deep_refused : (limits : Limits) (items : List Dep) (m : ℕ) (h : List Event) → MAX_TASK_DEPTH ≤ depth_of (executed_task m h) h → least (create_tests limits items m h) ≡ Some TooDeep
too_deep_refused limits items m h deep = sym (first_is_least 0 (create_tests limits items m h) refl) ∙ rw (up_to_is MAX_TASK_DEPTH (depth_of (executed_task m h) h) deep) refl

-- then one beyond the limit
pub too_many_tasks_refused :
    (limits : Limits) (items : List Dep) (m : ℕ) (h : List Event) → depth_of (executed_task m h) h < MAX_TASK_DEPTH → limits.tasks ≤ tasks_created h → least (create_tests limits items m h) ≡ Some TooManyTasks
too_many_tasks_refused limits items m h shallow many =
    sym (first_is_least 0 (create_tests limits items m h) refl) ∙ rw (up_to_isnt MAX_TASK_DEPTH (depth_of (executed_task m h) h) shallow, up_to_is limits.tasks (tasks_created h) many) refl

-- then one with too many items
pub created_with_too_many_items_refused :
    (limits : Limits) (items : List Dep) (m : ℕ) (h : List Event) → depth_of (executed_task m h) h < MAX_TASK_DEPTH → tasks_created h < limits.tasks → MAX_DEPENDS < length items → least (create_tests limits items m h) ≡ Some TooManyDepends
created_with_too_many_items_refused limits items m h shallow few many =
    rw (up_to_isnt MAX_TASK_DEPTH (depth_of (executed_task m h) h) shallow, up_to_isnt limits.tasks (tasks_created h) few, below_is MAX_DEPENDS (length items) many) refl

-- and no other, whatever its number and whatever member creates it
pub creation_not_refused :
    (limits : Limits) (items : List Dep) (m : ℕ) (h : List Event) → depth_of (executed_task m h) h < MAX_TASK_DEPTH → tasks_created h < limits.tasks → length items ≤ MAX_DEPENDS → least (create_tests limits items m h) ≡ None
creation_not_refused limits items m h shallow few fits =
    rw (up_to_isnt MAX_TASK_DEPTH (depth_of (executed_task m h) h) shallow, up_to_isnt limits.tasks (tasks_created h) few, below_isnt MAX_DEPENDS (length items) fits) refl

-- Room

-- a call is refused that asks for more room than is left
pub too_much_room_refused : (limits : Limits) (room more : ℕ) → 0 < more → limits.events < room + more → least (room_tests limits room more) ≡ Some TraceFull
too_much_room_refused limits room zero some much = absurd (omega arith)
too_much_room_refused limits room (suc more) some much = rw (below_is limits.events (room + suc more) much) refl

-- and none that asks for less or as much
pub room_not_refused : (limits : Limits) (room more : ℕ) → room + more ≤ limits.events → least (room_tests limits room more) ≡ None
room_not_refused limits room zero fits = refl
room_not_refused limits room (suc more) fits = rw (below_isnt limits.events (room + suc more) fits) refl

-- or for none, however full the record is
pub no_room_not_refused : (limits : Limits) (room : ℕ) → least (room_tests limits room 0) ≡ None
no_room_not_refused limits room = refl

-- the room of a new team is two for each member and one
pub room_of_a_new_team : (members : ℕ) → first_room members ≡ 2 * members + 1
room_of_a_new_team zero = refl
room_of_a_new_team (suc m) = let before = room_of_a_new_team m in omega (arith, before)

-- a task asks for room for three events, a group and an arrival for two, words and a cancellation for one
pub room_of_each_call : (TASK_ROOM ≡ 3) × (GROUP_ROOM ≡ 2) × (ARRIVAL_ROOM ≡ 2) × (PAYLOAD_ROOM ≡ 1) × (CANCEL_ROOM ≡ 1)
room_of_each_call = (refl, refl, refl, refl, refl)

-- Where a call is made

-- a call that no explicit task makes is refused in one, and in an implicit task is not
pub refused_in_a_task : (m t : ℕ) (h : List Event) → executed_task m h ≡ Explicit t → least (outside_tasks_tests m h) ≡ Some InsideTask
refused_in_a_task m t h executes = rw executes refl

pub not_refused_in_implicit : (m x : ℕ) (h : List Event) → executed_task m h ≡ Implicit x → least (outside_tasks_tests m h) ≡ None
not_refused_in_implicit m x h executes = rw executes refl

-- what leaves no group open is refused while one is open in the task that the member executes
pub refused_with_a_group_open : (m q : ℕ) (outer : List ℕ) (h : List Event) → open_groups (executed_task m h) h ≡ q ∷ outer → least (group_open_tests m h) ≡ Some GroupOpen
refused_with_a_group_open m q outer h open' = rw open' refl

pub not_refused_without_a_group : (m : ℕ) (h : List Event) → open_groups (executed_task m h) h ≡ [] → least (group_open_tests m h) ≡ None
not_refused_without_a_group m h none = rw none refl

-- and the end of a group while none is
pub end_refused_without_a_group : (m : ℕ) (h : List Event) → open_groups (executed_task m h) h ≡ [] → least (end_group_tests m h) ≡ Some NoGroup
end_refused_without_a_group m h none = rw none refl

pub end_not_refused_with_a_group : (m q : ℕ) (outer : List ℕ) (h : List Event) → open_groups (executed_task m h) h ≡ q ∷ outer → least (end_group_tests m h) ≡ None
end_not_refused_with_a_group m q outer h open' = rw open' refl

-- the end of a task is refused in an implicit one
pub end_of_implicit_refused : (gives_up : Bool) (m x : ℕ) (h : List Event) → executed_task m h ≡ Implicit x → least (end_task_tests gives_up m h) ≡ Some NotInTask
end_of_implicit_refused true m x h executes = rw executes refl
end_of_implicit_refused false m x h executes = sym (first_is_least 0 (end_task_tests false m h) refl) ∙ rw executes refl

-- in an explicit one while a group is open in it
pub end_of_task_refused_with_a_group : (m t q : ℕ) (outer : List ℕ) (h : List Event) → executed_task m h ≡ Explicit t → open_groups (Explicit t) h ≡ q ∷ outer → least (end_task_tests false m h) ≡ Some GroupOpen
end_of_task_refused_with_a_group m t q outer h executes open' = rw (executes, open') refl

-- unless its member gives up the group
pub end_of_task_given_up : (m t : ℕ) (h : List Event) → executed_task m h ≡ Explicit t → least (end_task_tests true m h) ≡ None
end_of_task_given_up m t h executes = rw executes refl

pub end_of_task_not_refused : (gives_up : Bool) (m t : ℕ) (h : List Event) → executed_task m h ≡ Explicit t → open_groups (Explicit t) h ≡ [] → least (end_task_tests gives_up m h) ≡ None
end_of_task_not_refused true m t h executes none = rw executes refl
end_of_task_not_refused false m t h executes none = rw (executes, none) refl

-- the end of the region is refused in an explicit task, and with a group open that its member does not give up
pub end_of_region_refused_in_a_task : (gives_up : Bool) (m t : ℕ) (h : List Event) → executed_task m h ≡ Explicit t → least (end_region_tests gives_up m h) ≡ Some InsideTask
end_of_region_refused_in_a_task true m t h executes = rw executes refl
end_of_region_refused_in_a_task false m t h executes = sym (first_is_least 0 (end_region_tests false m h) refl) ∙ rw executes refl

pub end_of_region_refused_with_a_group : (m x q : ℕ) (outer : List ℕ) (h : List Event) → executed_task m h ≡ Implicit x → open_groups (Implicit x) h ≡ q ∷ outer → least (end_region_tests false m h) ≡ Some GroupOpen
end_of_region_refused_with_a_group m x q outer h executes open' = rw (executes, open') refl

pub end_of_region_given_up : (m x : ℕ) (h : List Event) → executed_task m h ≡ Implicit x → least (end_region_tests true m h) ≡ None
end_of_region_given_up m x h executes = rw executes refl

pub end_of_region_not_refused : (gives_up : Bool) (m x : ℕ) (h : List Event) → executed_task m h ≡ Implicit x → open_groups (Implicit x) h ≡ [] → least (end_region_tests gives_up m h) ≡ None
end_of_region_not_refused true m x h executes none = rw executes refl
end_of_region_not_refused false m x h executes none = rw (executes, none) refl

-- Cancellation

-- a construct of the region or a share is refused in an explicit task
pub cancel_refused_in_a_task : (m t : ℕ) (h : List Event) → executed_task m h ≡ Explicit t → (least (cancel_tests Parallel m h) ≡ Some InsideTask) × (least (cancel_tests Loop m h) ≡ Some InsideTask) × (least (cancel_tests Sections m h) ≡ Some InsideTask)
cancel_refused_in_a_task m t h executes = (rw executes refl, rw executes refl, rw executes refl)

pub cancel_not_refused_in_implicit : (m x : ℕ) (h : List Event) → executed_task m h ≡ Implicit x → (least (cancel_tests Parallel m h) ≡ None) × (least (cancel_tests Loop m h) ≡ None) × (least (cancel_tests Sections m h) ≡ None)
cancel_not_refused_in_implicit m x h executes = (rw executes refl, rw executes refl, rw executes refl)

-- one of a group outside of one
pub cancel_of_group_refused_outside : (m x : ℕ) (h : List Event) → executed_task m h ≡ Implicit x → least (cancel_tests Taskgroup m h) ≡ Some NotInTask
cancel_of_group_refused_outside m x h executes = sym (first_is_least 0 (cancel_tests Taskgroup m h) refl) ∙ rw executes refl

-- in a task that is in no group
pub cancel_of_group_refused_in_none : (m t : ℕ) (h : List Event) → executed_task m h ≡ Explicit t → groups_around t h ≡ [] → least (cancel_tests Taskgroup m h) ≡ Some NoGroup
cancel_of_group_refused_in_none m t h executes none = sym (first_is_least 0 (cancel_tests Taskgroup m h) refl) ∙ rw (executes, none) refl

-- and in one with a group open
pub cancel_of_group_refused_with_a_group :
    (m t q g : ℕ) (outer around : List ℕ) (h : List Event) → executed_task m h ≡ Explicit t → groups_around t h ≡ q ∷ around → open_groups (Explicit t) h ≡ g ∷ outer → least (cancel_tests Taskgroup m h) ≡ Some GroupOpen
cancel_of_group_refused_with_a_group m t q g outer around h executes is open' = rw (executes, is, open') refl

pub cancel_of_group_not_refused :
    (m t q : ℕ) (around : List ℕ) (h : List Event) → executed_task m h ≡ Explicit t → groups_around t h ≡ q ∷ around → open_groups (Explicit t) h ≡ [] → least (cancel_tests Taskgroup m h) ≡ None
cancel_of_group_not_refused m t q around h executes is none = rw (executes, is, none) refl
