-- What a list of events says of tasks and groups: of another task, member or group it says another thing, and what comes later counts.
use Rattle.std.proofs.Common.{◌≡◌, true, false, [], ◌∷◌, ◌++◌, Some, None, refl}
use Rattle.std.specs.Prelude.{◌==◌, nat_lt, nat_le, map}
use Rattle.gomp_types.specs.declared.task.Task.TheVariants.{Implicit, Explicit}
use Rattle.gomp_events.specs.declared.event.Arrival.TheVariants.{Barrier, RegionEnd}
use Rattle.gomp_events.specs.declared.event.Event.TheVariants.{Create, Start, Done, Group, GroupEnd, Arrive, Pass}
use Rattle.gomp_events.specs.EventLists.{at}
use Rattle.gomp_events.specs.Events.{barriers_passed}
use Rattle.gomp_events.specs.Tasks.{same_task, of_explicit, contains, after_first, tasks_created, is_created, every_task, some_task, task_stack, innermost_task, executed_task, in_task, has_started, task_runner, is_complete, all_complete, how_many, open_tasks, task_desc, is_child, is_ancestor, task_depth, depth_of, epoch, epoch_of_child, is_odd}
use Rattle.gomp_events.specs.Groups.{groups_opened, open_groups, groups_around, in_group, group_complete}
use Rattle.gomp_events.specs.Goals.{bound_complete, barrier_met, region_met, may_pass, children_complete, is_ready, each_of, may_descend, may_start, some_startable}
use Rattle.gomp_events.specs.TaskExamples.{after, one_job, other_job, task_tree, child_ended, across_barrier, nested_groups}

-- Words

-- two tasks are one if their kinds and numbers are
pub tasks_that_are_one :
    (same_task (Implicit 1) (Implicit 1) ≡ true) × (same_task (Implicit 1) (Implicit 2) ≡ false) × (same_task (Explicit 1) (Explicit 1) ≡ true)
    × (same_task (Explicit 1) (Explicit 2) ≡ false) × (same_task (Implicit 1) (Explicit 1) ≡ false) × (same_task (Explicit 1) (Implicit 1) ≡ false)
tasks_that_are_one = (refl, refl, refl, refl, refl, refl)

-- a test of explicit tasks holds of no implicit one
pub test_of_explicit_tasks :
    (of_explicit (λ t. t == 3) (Explicit 3) ≡ true) × (of_explicit (λ t. t == 3) (Explicit 2) ≡ false) × (of_explicit (λ t. t == 3) (Implicit 3) ≡ false)
test_of_explicit_tasks = (refl, refl, refl)

-- a number at the begin of a list, at its end, and in none
pub numbers_of_a_list :
    (contains 4 (4 ∷ 5 ∷ []) ≡ true) × (contains 5 (4 ∷ 5 ∷ []) ≡ true) × (contains 6 (4 ∷ 5 ∷ []) ≡ false) × (contains 0 [] ≡ false)
numbers_of_a_list = (refl, refl, refl, refl)

-- without its first element
pub rest_of_a_list : (after_first (4 ∷ 5 ∷ 6 ∷ []) ≡ 5 ∷ 6 ∷ []) × (after_first [] ≡ [])
rest_of_a_list = (refl, refl)

-- odd numbers
pub odd_numbers : map is_odd (0 ∷ 1 ∷ 2 ∷ 3 ∷ 8 ∷ []) ≡ false ∷ true ∷ false ∷ true ∷ false ∷ []
odd_numbers = refl

-- All tasks

-- they are counted, whoever creates them
pub tasks_are_counted : (tasks_created (after task_tree) ≡ 4) × (tasks_created (after child_ended) ≡ 4) × (tasks_created (after []) ≡ 0)
tasks_are_counted = (refl, refl, refl)

-- the first has the number 1, the last the count
pub numbers_that_were_created : map (λ t. is_created t (after task_tree)) (0 ∷ 1 ∷ 4 ∷ 5 ∷ []) ≡ false ∷ true ∷ true ∷ false ∷ []
numbers_that_were_created = refl

-- a test holds of every task, from the first to the last and no more
pub test_of_every_task :
    (every_task (λ t. nat_le t 4) (after task_tree) ≡ true) × (every_task (λ t. nat_lt t 4) (after task_tree) ≡ false) × (every_task (λ t. nat_lt 1 t) (after task_tree) ≡ false)
    × (every_task (λ t. nat_lt 0 t) (after task_tree) ≡ true) × (every_task (λ t. false) (after []) ≡ true)
test_of_every_task = (refl, refl, refl, refl, refl)

-- or of some
pub test_of_some_task :
    (some_task (λ t. t == 1) (after task_tree) ≡ true) × (some_task (λ t. t == 4) (after task_tree) ≡ true) × (some_task (λ t. t == 0) (after task_tree) ≡ false)
    × (some_task (λ t. t == 5) (after task_tree) ≡ false) × (some_task (λ t. true) (after []) ≡ false)
test_of_some_task = (refl, refl, refl, refl, refl)

-- What a member executes

-- the tasks that it has started, the last one first, without those that it has ended
pub stacks_of_members :
    (task_stack 0 (after task_tree) ≡ 2 ∷ 1 ∷ []) × (task_stack 0 (after child_ended) ≡ 1 ∷ []) × (task_stack 1 (after child_ended) ≡ [])
    × (task_stack 0 (after (Start 1 0 ∷ Start 2 1 ∷ Done 2 1 ∷ [])) ≡ 1 ∷ []) × (task_stack 1 (after (Start 1 0 ∷ Start 2 1 ∷ Done 1 0 ∷ [])) ≡ 2 ∷ [])
stacks_of_members = (refl, refl, refl, refl, refl)

-- a member executes the first of them, else its implicit task
pub innermost_of_a_stack : (innermost_task 3 (2 ∷ 1 ∷ []) ≡ Explicit 2) × (innermost_task 3 [] ≡ Implicit 3)
innermost_of_a_stack = (refl, refl)

-- each member executes its own task
pub tasks_of_members :
    (executed_task 0 (after task_tree) ≡ Explicit 2) × (executed_task 0 (after child_ended) ≡ Explicit 1) × (executed_task 1 (after task_tree) ≡ Implicit 1)
    × (executed_task 0 (after (child_ended ++ Done 1 0 ∷ [])) ≡ Implicit 0)
tasks_of_members = (refl, refl, refl, refl)

-- an explicit one, or not
pub members_in_tasks :
    (in_task 0 (after task_tree) ≡ true) × (in_task 1 (after task_tree) ≡ false) × (in_task 0 (after (Start 1 0 ∷ Done 1 0 ∷ [])) ≡ false) × (in_task 1 (after across_barrier) ≡ true)
members_in_tasks = (refl, refl, refl, refl)

-- What becomes of a task

-- whether it was started, by whom, and whether it is complete
pub tasks_that_were_started :
    map (λ t. has_started t (after child_ended)) (0 ∷ 1 ∷ 2 ∷ 3 ∷ 4 ∷ []) ≡ false ∷ true ∷ true ∷ false ∷ false ∷ []
tasks_that_were_started = refl

pub runners_of_tasks :
    (map (λ t. task_runner t (after (child_ended ++ Start 3 1 ∷ []))) (1 ∷ 2 ∷ 3 ∷ 4 ∷ []) ≡ Some 0 ∷ Some 0 ∷ Some 1 ∷ None ∷ [])
    × (task_runner 3 (after child_ended) ≡ None)
runners_of_tasks = (refl, refl)

pub tasks_that_are_complete :
    (map (λ t. is_complete t (after child_ended)) (1 ∷ 2 ∷ 3 ∷ 4 ∷ []) ≡ false ∷ true ∷ false ∷ false ∷ []) × (is_complete 2 (after task_tree) ≡ false)
    × (is_complete 2 (after (child_ended ++ Done 1 0 ∷ [])) ≡ true)
tasks_that_are_complete = (refl, refl, refl)

-- all that pass a test, of those that were created
pub complete_by_a_test :
    (all_complete (λ t. t == 2) (after child_ended) ≡ true) × (all_complete (λ t. nat_le t 2) (after child_ended) ≡ false) × (all_complete (λ t. nat_le 2 t) (after child_ended) ≡ false)
    × (all_complete (λ t. false) (after child_ended) ≡ true) × (all_complete (λ t. t == 5) (after child_ended) ≡ true) × (all_complete (λ t. true) (after []) ≡ true)
complete_by_a_test = (refl, refl, refl, refl, refl, refl)

-- how many numbers pass a test, from 1 on
pub numbers_are_counted :
    (how_many 4 (λ t. nat_le 3 t) ≡ 2) × (how_many 4 (λ t. nat_le t 2) ≡ 2) × (how_many 4 (λ t. true) ≡ 4) × (how_many 4 (λ t. t == 0) ≡ 0) × (how_many 0 (λ t. true) ≡ 0)
numbers_are_counted = (refl, refl, refl, refl, refl)

-- how many open tasks do
pub open_tasks_are_counted :
    (open_tasks (λ t. true) (after task_tree) ≡ 4) × (open_tasks (λ t. true) (after child_ended) ≡ 3) × (open_tasks (λ t. t == 2) (after child_ended) ≡ 0)
    × (open_tasks (λ t. nat_le t 3) (after child_ended) ≡ 2) × (open_tasks (λ t. t == 5) (after child_ended) ≡ 0)
open_tasks_are_counted = (refl, refl, refl, refl, refl)

-- Where a task comes from

-- what was asked for
pub jobs_of_tasks :
    map (λ t. task_desc t (after child_ended)) (0 ∷ 1 ∷ 2 ∷ 3 ∷ 4 ∷ 5 ∷ []) ≡ None ∷ Some one_job ∷ Some other_job ∷ Some one_job ∷ Some other_job ∷ None ∷ []
jobs_of_tasks = refl

-- the children of a task: no child of a child, none of another task, and none of the other kind with its number
pub children_of_tasks :
    (map (λ t. is_child (Implicit 0) t (after child_ended)) (1 ∷ 2 ∷ 3 ∷ 4 ∷ 5 ∷ []) ≡ true ∷ false ∷ false ∷ false ∷ false ∷ [])
    × (map (λ t. is_child (Explicit 1) t (after child_ended)) (1 ∷ 2 ∷ 3 ∷ 4 ∷ 5 ∷ []) ≡ false ∷ true ∷ false ∷ false ∷ false ∷ [])
    × (map (λ t. is_child (Implicit 1) t (after child_ended)) (1 ∷ 2 ∷ 3 ∷ 4 ∷ 5 ∷ []) ≡ false ∷ false ∷ true ∷ false ∷ false ∷ [])
children_of_tasks = (refl, refl, refl)

-- the ancestors of a task: its parent, the parent of that, and the implicit task; not the task itself, and none of its children
pub ancestors_of_tasks :
    (map (λ t. is_ancestor (Implicit 0) t (after child_ended)) (1 ∷ 2 ∷ 3 ∷ 4 ∷ 5 ∷ []) ≡ true ∷ true ∷ false ∷ true ∷ false ∷ [])
    × (map (λ t. is_ancestor (Explicit 1) t (after child_ended)) (1 ∷ 2 ∷ 3 ∷ 4 ∷ []) ≡ false ∷ true ∷ false ∷ true ∷ [])
    × (map (λ t. is_ancestor (Explicit 2) t (after child_ended)) (1 ∷ 2 ∷ 3 ∷ 4 ∷ []) ≡ false ∷ false ∷ false ∷ true ∷ [])
    × (map (λ t. is_ancestor (Implicit 1) t (after child_ended)) (1 ∷ 2 ∷ 3 ∷ 4 ∷ []) ≡ false ∷ false ∷ true ∷ false ∷ [])
ancestors_of_tasks = (refl, refl, refl, refl)

-- how deep each lies
pub depths_of_tasks :
    (map (λ t. task_depth t (after child_ended)) (0 ∷ 1 ∷ 2 ∷ 3 ∷ 4 ∷ 5 ∷ []) ≡ 0 ∷ 1 ∷ 2 ∷ 1 ∷ 3 ∷ 0 ∷ [])
    × (map (λ p. depth_of p (after child_ended)) (Implicit 4 ∷ Explicit 4 ∷ Explicit 1 ∷ []) ≡ 0 ∷ 3 ∷ 1 ∷ [])
depths_of_tasks = (refl, refl)

-- a task is bound to the next barrier of the member in whose implicit task its tree begins, whatever another has passed that runs a part of it, and whatever is passed later
pub barriers_of_tasks :
    (map (λ t. epoch t (after across_barrier)) (0 ∷ 1 ∷ 2 ∷ 3 ∷ []) ≡ 0 ∷ 1 ∷ 1 ∷ 0 ∷ []) × (map (λ m. barriers_passed m (after across_barrier)) (0 ∷ 1 ∷ []) ≡ 1 ∷ 0 ∷ [])
    × (map (λ t. epoch t (after (across_barrier ++ Pass 0 1 ∷ Pass 1 0 ∷ []))) (1 ∷ 2 ∷ []) ≡ 1 ∷ 1 ∷ [])
    × (map (λ t. epoch t (after (Create 1 0 (Implicit 0) one_job ∷ Pass 0 0 ∷ Start 1 0 ∷ Create 2 0 (Explicit 1) other_job ∷ []))) (1 ∷ 2 ∷ []) ≡ 0 ∷ 0 ∷ [])
    × (map (λ t. epoch t (after (Pass 0 0 ∷ Create 1 1 (Implicit 1) one_job ∷ Create 2 0 (Implicit 0) one_job ∷ []))) (1 ∷ 2 ∷ []) ≡ 0 ∷ 1 ∷ [])
barriers_of_tasks = (refl, refl, refl, refl, refl)

-- whoever creates it there
pub barrier_of_the_implicit_task : epoch 1 (after (Pass 0 0 ∷ Create 1 1 (Implicit 0) one_job ∷ [])) ≡ 1
barrier_of_the_implicit_task = refl

-- and so would a new child of each be
pub barriers_of_new_tasks :
    map (λ p. epoch_of_child p (after across_barrier)) (Implicit 0 ∷ Implicit 1 ∷ Explicit 1 ∷ Explicit 2 ∷ []) ≡ 1 ∷ 0 ∷ 1 ∷ 1 ∷ []
barriers_of_new_tasks = refl

-- Groups

-- they are counted, whoever opens them
pub groups_are_counted : (groups_opened (after nested_groups) ≡ 4) × (groups_opened (after (Group 0 0 ∷ GroupEnd 0 0 ∷ [])) ≡ 1) × (groups_opened (after []) ≡ 0)
groups_are_counted = (refl, refl, refl)

-- the open groups of a task, the last one first: not those of its children, or of another member
pub groups_that_are_open :
    (map (λ p. open_groups p (after nested_groups)) (Implicit 0 ∷ Explicit 2 ∷ Implicit 1 ∷ Explicit 1 ∷ []) ≡ (1 ∷ 0 ∷ []) ∷ (2 ∷ []) ∷ (3 ∷ []) ∷ [] ∷ [])
    × (map (λ p. open_groups p (after (nested_groups ++ GroupEnd 2 0 ∷ []))) (Implicit 0 ∷ Explicit 2 ∷ Implicit 1 ∷ []) ≡ (1 ∷ 0 ∷ []) ∷ [] ∷ (3 ∷ []) ∷ [])
    × (map (λ p. open_groups p (after (nested_groups ++ GroupEnd 2 0 ∷ Done 2 0 ∷ GroupEnd 1 0 ∷ []))) (Implicit 0 ∷ Explicit 2 ∷ Implicit 1 ∷ []) ≡ (0 ∷ []) ∷ [] ∷ (3 ∷ []) ∷ [])
    × (map (λ p. open_groups p (after (nested_groups ++ GroupEnd 3 1 ∷ []))) (Implicit 0 ∷ Explicit 2 ∷ Implicit 1 ∷ []) ≡ (1 ∷ 0 ∷ []) ∷ (2 ∷ []) ∷ [] ∷ [])
groups_that_are_open = (refl, refl, refl, refl)

-- the groups around a task: those that were open in its parent, then those around the parent; no group that is opened later, and none that was ended before
pub groups_around_tasks :
    (map (λ t. groups_around t (after nested_groups)) (1 ∷ 2 ∷ 3 ∷ 4 ∷ 5 ∷ []) ≡ (0 ∷ []) ∷ (1 ∷ 0 ∷ []) ∷ (2 ∷ 1 ∷ 0 ∷ []) ∷ [] ∷ [] ∷ [])
    × (groups_around 5 (after (nested_groups ++ GroupEnd 2 0 ∷ Create 5 0 (Explicit 2) one_job ∷ [])) ≡ 1 ∷ 0 ∷ [])
    × (groups_around 3 (after (nested_groups ++ GroupEnd 2 0 ∷ [])) ≡ 2 ∷ 1 ∷ 0 ∷ [])
groups_around_tasks = (refl, refl, refl)

-- whoever creates it there
pub groups_around_of_the_implicit_task : groups_around 1 (after (Group 0 0 ∷ Create 1 1 (Implicit 0) one_job ∷ [])) ≡ 0 ∷ []
groups_around_of_the_implicit_task = refl

-- which tasks are in a group
pub tasks_of_groups :
    (map (λ t. in_group 0 t (after nested_groups)) (1 ∷ 2 ∷ 3 ∷ 4 ∷ []) ≡ true ∷ true ∷ true ∷ false ∷ []) × (map (λ t. in_group 1 t (after nested_groups)) (1 ∷ 2 ∷ 3 ∷ 4 ∷ []) ≡ false ∷ true ∷ true ∷ false ∷ [])
    × (map (λ t. in_group 2 t (after nested_groups)) (1 ∷ 2 ∷ 3 ∷ 4 ∷ []) ≡ false ∷ false ∷ true ∷ false ∷ []) × (map (λ t. in_group 3 t (after nested_groups)) (1 ∷ 2 ∷ 3 ∷ 4 ∷ []) ≡ false ∷ false ∷ false ∷ false ∷ [])
tasks_of_groups = (refl, refl, refl, refl)

-- and whether they are complete: a group waits for the children of its tasks, and not for those of other groups
pub groups_that_are_complete :
    (map (λ q. group_complete q (after nested_groups)) (0 ∷ 1 ∷ 2 ∷ 3 ∷ []) ≡ false ∷ false ∷ false ∷ true ∷ [])
    × (map (λ q. group_complete q (after (nested_groups ++ Done 2 0 ∷ []))) (0 ∷ 1 ∷ 2 ∷ []) ≡ false ∷ false ∷ false ∷ [])
    × (map (λ q. group_complete q (after (nested_groups ++ Start 3 0 ∷ Done 3 0 ∷ []))) (0 ∷ 1 ∷ 2 ∷ []) ≡ false ∷ false ∷ true ∷ [])
    × (map (λ q. group_complete q (after (nested_groups ++ Start 3 0 ∷ Done 3 0 ∷ Done 2 0 ∷ []))) (0 ∷ 1 ∷ 2 ∷ []) ≡ false ∷ true ∷ true ∷ [])
groups_that_are_complete = (refl, refl, refl, refl)

-- What a wait waits for

-- tasks that are bound to this barrier or to an earlier one
pub tasks_before_a_barrier :
    (map (λ g. bound_complete g (after across_barrier)) (0 ∷ 1 ∷ 2 ∷ []) ≡ true ∷ false ∷ false ∷ [])
    × (map (λ g. bound_complete g (after (across_barrier ++ Done 1 1 ∷ []))) (0 ∷ 1 ∷ []) ≡ true ∷ false ∷ [])
    × (map (λ g. bound_complete g (after (across_barrier ++ Done 2 1 ∷ Done 1 1 ∷ []))) (0 ∷ 1 ∷ 2 ∷ []) ≡ true ∷ true ∷ true ∷ [])
tasks_before_a_barrier = (refl, refl, refl)

-- a barrier waits for every member, and for its tasks
pub barriers_that_are_met :
    (barrier_met 2 0 (after across_barrier) ≡ true) × (barrier_met 3 0 (after across_barrier) ≡ false) × (barrier_met 2 1 (after across_barrier) ≡ false)
    × (barrier_met 1 0 (after (Create 1 0 (Implicit 0) one_job ∷ Arrive 0 0 (at Barrier 0) ∷ [])) ≡ false)
    × (barrier_met 1 0 (after (Create 1 0 (Implicit 0) one_job ∷ Arrive 0 0 (at Barrier 0) ∷ Start 1 0 ∷ Done 1 0 ∷ [])) ≡ true)
    × (barrier_met 2 0 (after (Arrive 0 0 (at Barrier 0) ∷ [])) ≡ false)
barriers_that_are_met = (refl, refl, refl, refl, refl, refl)

-- the region's end waits for every member, and for all tasks
pub regions_that_are_met :
    (region_met 2 (after (Arrive 0 0 (at RegionEnd 0) ∷ Arrive 0 1 (at RegionEnd 0) ∷ [])) ≡ true) × (region_met 2 (after (Arrive 0 0 (at RegionEnd 0) ∷ Arrive 0 1 (at Barrier 0) ∷ [])) ≡ false)
    × (region_met 1 (after (Create 1 0 (Implicit 0) one_job ∷ Arrive 0 0 (at RegionEnd 0) ∷ [])) ≡ false)
    × (region_met 1 (after (Create 1 0 (Implicit 0) one_job ∷ Arrive 0 0 (at RegionEnd 0) ∷ Start 1 0 ∷ Done 1 0 ∷ [])) ≡ true)
regions_that_are_met = (refl, refl, refl, refl)

-- a member passes its own next barrier; at the region's end it waits for later tasks too
pub members_that_may_pass :
    (may_pass 2 1 (after across_barrier) ≡ true) × (may_pass 2 0 (after across_barrier) ≡ false)
    × (may_pass 2 1 (after (Arrive 0 0 (at RegionEnd 0) ∷ Arrive 0 1 (at RegionEnd 0) ∷ Pass 0 0 ∷ Create 1 0 (Implicit 0) one_job ∷ [])) ≡ false)
    × (may_pass 2 1 (after (Arrive 0 0 (at RegionEnd 0) ∷ Arrive 0 1 (at RegionEnd 0) ∷ Pass 0 0 ∷ Create 1 0 (Implicit 0) one_job ∷ Start 1 0 ∷ Done 1 0 ∷ [])) ≡ true)
    × (may_pass 2 1 (after (Arrive 0 0 (at RegionEnd 0) ∷ [])) ≡ false)
members_that_may_pass = (refl, refl, refl, refl, refl)

-- a taskwait waits for the children of its task alone, and not for theirs
pub children_that_are_complete :
    map (λ p. children_complete p (after child_ended)) (Implicit 0 ∷ Explicit 1 ∷ Explicit 2 ∷ Implicit 1 ∷ Explicit 3 ∷ []) ≡ false ∷ true ∷ false ∷ false ∷ true ∷ []
children_that_are_complete = refl

-- Tasks that may be started

-- one that was created, and is neither started nor complete
pub tasks_that_are_ready :
    (map (λ t. is_ready t (after child_ended)) (0 ∷ 1 ∷ 2 ∷ 3 ∷ 4 ∷ 5 ∷ []) ≡ false ∷ false ∷ false ∷ true ∷ true ∷ false ∷ [])
    × (is_ready 1 (after (Create 1 0 (Implicit 0) one_job ∷ Done 1 0 ∷ [])) ≡ false)
tasks_that_are_ready = (refl, refl)

-- a test of each of a list
pub test_of_each :
    (each_of (λ t. t == 4) [] ≡ true) × (each_of (λ t. nat_le 4 t) (4 ∷ 5 ∷ []) ≡ true) × (each_of (λ t. t == 4) (4 ∷ 5 ∷ []) ≡ false) × (each_of (λ t. t == 5) (4 ∷ 5 ∷ []) ≡ false)
test_of_each = (refl, refl, refl, refl)

-- a task descends from all that the member has started and not ended: the innermost, and the others
pub descendants_of_the_started :
    (may_descend 0 4 (after task_tree) ≡ true) × (may_descend 0 3 (after task_tree) ≡ false) × (may_descend 0 2 (after task_tree) ≡ false)
    × (may_descend 0 5 (after (Create 1 0 (Implicit 0) one_job ∷ Start 1 0 ∷ Create 2 0 (Explicit 1) one_job ∷ Create 5 0 (Explicit 1) one_job ∷ Start 2 0 ∷ [])) ≡ false)
    × (may_descend 0 3 (after (Create 1 0 (Implicit 0) one_job ∷ Create 2 0 (Implicit 0) one_job ∷ Create 3 1 (Explicit 2) one_job ∷ Start 1 0 ∷ Start 2 0 ∷ [])) ≡ false)
descendants_of_the_started = (refl, refl, refl, refl, refl)

-- and from its implicit task, unless it waits at a barrier; from those that it has started there too
pub descendants_at_a_barrier :
    (may_descend 1 3 (after child_ended) ≡ true) × (may_descend 1 4 (after child_ended) ≡ false) × (may_descend 1 4 (after (child_ended ++ Arrive 0 1 (at Barrier 0) ∷ [])) ≡ true)
    × (may_descend 1 4 (after (child_ended ++ Arrive 0 0 (at Barrier 0) ∷ [])) ≡ false) × (may_descend 1 4 (after (child_ended ++ Arrive 0 1 (at Barrier 0) ∷ Pass 0 1 ∷ [])) ≡ false)
    × (may_descend 1 4 (after (child_ended ++ Arrive 0 1 (at Barrier 0) ∷ Start 3 1 ∷ [])) ≡ false)
descendants_at_a_barrier = (refl, refl, refl, refl, refl, refl)

-- a task that is ready, and descends so
pub tasks_that_may_start :
    (map (λ t. may_start 0 t (after child_ended)) (1 ∷ 2 ∷ 3 ∷ 4 ∷ 5 ∷ []) ≡ false ∷ false ∷ false ∷ true ∷ false ∷ [])
    × (map (λ t. may_start 1 t (after child_ended)) (1 ∷ 2 ∷ 3 ∷ 4 ∷ 5 ∷ []) ≡ false ∷ false ∷ true ∷ false ∷ false ∷ [])
tasks_that_may_start = (refl, refl)

-- whether there is one
pub members_with_a_task_to_start :
    (some_startable 0 (after child_ended) ≡ true) × (some_startable 1 (after child_ended) ≡ true) × (some_startable 2 (after child_ended) ≡ false)
    × (some_startable 1 (after (child_ended ++ Start 3 1 ∷ [])) ≡ false) × (some_startable 1 (after (child_ended ++ Arrive 0 1 (at Barrier 0) ∷ Start 3 1 ∷ Done 3 1 ∷ [])) ≡ true)
    × (some_startable 0 (after []) ≡ false)
members_with_a_task_to_start = (refl, refl, refl, refl, refl, refl)
