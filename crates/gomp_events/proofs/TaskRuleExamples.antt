-- Each field of each rule of tasks and groups by itself refuses an event after some others, and the whole rule allows one beside it.
-- Only that field refuses it, so the example fails with the field; and it is computed, with none of the lemmas about the rules.
use Rattle.std.proofs.Common.{◌≡◌, ℕ, ◌<◌, ◌≤◌, false, List, [], ◌∷◌, zero, suc, refl, arith, rules}
use Rattle.gomp_types.specs.declared.limits.TheConstants.{MAX_TASK_DEPTH}
use Rattle.gomp_types.specs.declared.task.Task.{Task}
use Rattle.gomp_types.specs.declared.task.Task.TheVariants.{Implicit, Explicit}
use Rattle.gomp_events.specs.declared.event.Arrival.TheVariants.{Barrier, RegionEnd}
use Rattle.gomp_events.specs.declared.event.Event.{Event}
use Rattle.gomp_events.specs.declared.event.Event.TheVariants.{Create, Start, Done, Group, GroupEnd, Waited, Arrive, Pass}
use Rattle.gomp_events.specs.EventLists.{at}
use Rattle.gomp_events.specs.Events.{at_barrier}
use Rattle.gomp_events.specs.Tasks.{tasks_created, executed_task, depth_of}
use Rattle.gomp_events.specs.Laws.{Always}
use Rattle.gomp_types.specs.declared.cancel.Scope.{Scope}
use Rattle.gomp_types.specs.declared.cancel.Scope.TheVariants.{Region, OneGroup}
use Rattle.gomp_events.specs.Cancels.{was_cancelled, some_cancelled, groups_within}
use Rattle.gomp_events.specs.Arrivals.{ArrivalRule}
use Rattle.gomp_events.specs.TaskRules.{TaskRule}
use Rattle.gomp_events.specs.TaskExamples.{after, Allows, Forbids, one_job, other_job, task_tree, child_ended, across_barrier, nested_groups, whole_region}
use Rattle.gomp_events.proofs.TaskDepths.{new_depth}

-- A member creates

-- the last member of the team creates a task
pub rule_create_last_member : Allows (TaskRule 3) [] (Create 1 2 (Implicit 2) one_job)
rule_create_last_member = search rules

-- a member creates the next task
pub rule_create_next : Allows (TaskRule 2) (Create 1 0 (Implicit 0) one_job ∷ []) (Create 2 1 (Implicit 1) other_job)
rule_create_next = search rules

-- it creates one in its implicit task while it executes another
pub rule_create_in_implicit : Forbids (TaskRule 1) (Create 1 0 (Implicit 0) one_job ∷ Start 1 0 ∷ []) (Create 2 0 (Implicit 0) one_job)
rule_create_in_implicit may = absurd (let current = may.current in cc)

-- in the one that it executes
pub rule_create_child : Allows (TaskRule 1) (Create 1 0 (Implicit 0) one_job ∷ Start 1 0 ∷ []) (Create 2 0 (Explicit 1) one_job)
rule_create_child = search rules

-- in a task that it has ended
pub rule_create_in_ended : Forbids (TaskRule 1) (Create 1 0 (Implicit 0) one_job ∷ Start 1 0 ∷ Done 1 0 ∷ []) (Create 2 0 (Explicit 1) one_job)
rule_create_in_ended may = absurd (let current = may.current in cc)

-- in its implicit task while it waits at a barrier
pub rule_create_at_barrier : Forbids (TaskRule 1) (Arrive 0 0 (at Barrier 0) ∷ []) (Create 1 0 (Implicit 0) one_job)
rule_create_at_barrier may = absurd (let away = may.away refl in cc)

-- in a task that it runs there
pub rule_create_in_task_at_barrier : Allows (TaskRule 1) (Create 1 0 (Implicit 0) one_job ∷ Arrive 0 0 (at Barrier 0) ∷ Start 1 0 ∷ []) (Create 2 0 (Explicit 1) one_job)
rule_create_in_task_at_barrier = search rules

-- once it has passed the barrier, while another waits there
pub rule_create_past_barrier : Allows (TaskRule 2) (Arrive 0 0 (at Barrier 0) ∷ Arrive 0 1 (at Barrier 0) ∷ Pass 0 0 ∷ []) (Create 1 0 (Implicit 0) one_job)
rule_create_past_barrier = search rules

-- a member runs so many tasks, each of them created in the one before: the newest event stands first
abbrev innermost : ℕ → Task
innermost zero = Implicit 0
innermost (suc k) = Explicit (suc k)

abbrev tasks_in_tasks : ℕ → List Event
tasks_in_tasks zero = []
tasks_in_tasks (suc k) = Start (suc k) 0 ∷ Create (suc k) 0 (innermost k) one_job ∷ tasks_in_tasks k

depth_of_innermost : (k : ℕ) → depth_of (innermost k) (tasks_in_tasks k) ≡ k
depth_of_innermost zero = refl
depth_of_innermost (suc k) = let new = new_depth (suc k) 0 (innermost k) one_job (tasks_in_tasks k) in let before = depth_of_innermost k in omega (arith, new, before)

number_of_innermost : (k : ℕ) → tasks_created (tasks_in_tasks k) ≡ k
number_of_innermost zero = refl
number_of_innermost (suc k) = let before = number_of_innermost k in omega (arith, before)

executed_is_innermost : (k : ℕ) → innermost k ≡ executed_task 0 (tasks_in_tasks k)
executed_is_innermost zero = refl
executed_is_innermost (suc k) = refl

away_with_innermost : (k : ℕ) → at_barrier 0 (tasks_in_tasks k) ≡ false
away_with_innermost zero = refl
away_with_innermost (suc k) = away_with_innermost k

-- it creates one in the sixty-fourth of them, or deeper
pub rule_create_too_deep : (k : ℕ) → MAX_TASK_DEPTH ≤ k → TaskRule 1 (Create (suc k) 0 (innermost k) one_job) (tasks_in_tasks k) → ⊥
rule_create_too_deep k deep may = absurd (let shallow = may.shallow in let depth = depth_of_innermost k in omega (arith, shallow, depth, deep))

-- nothing is cancelled there
never_cancelled : (k : ℕ) (scope : Scope) → was_cancelled scope (tasks_in_tasks k) ≡ false
never_cancelled zero scope = refl
never_cancelled (suc k) scope = never_cancelled k scope

none_cancelled : (qs : List ℕ) (h : List Event) → ((scope : Scope) → was_cancelled scope h ≡ false) → some_cancelled qs h ≡ false
none_cancelled [] h never = refl
none_cancelled (q ∷ qs) h never = rw (never (OneGroup q)) (none_cancelled qs h never)

-- it creates one in any before
pub rule_create_shallow : (k : ℕ) → k < MAX_TASK_DEPTH → TaskRule 1 (Create (suc k) 0 (innermost k) one_job) (tasks_in_tasks k)
rule_create_shallow k few =
    let depth = depth_of_innermost k in let before = number_of_innermost k in
    record { member = omega arith; number = rw before refl; current = executed_is_innermost k; away = λ outside. away_with_innermost k; shallow = omega (arith, depth, few); uncovered = rw (never_cancelled k Region) (none_cancelled (groups_within (innermost k) (tasks_in_tasks k)) (tasks_in_tasks k) (never_cancelled k)) }

-- A member starts

-- a member starts a task at a barrier
pub rule_start_at_barrier : Allows (TaskRule 2) (Create 1 0 (Implicit 0) one_job ∷ Arrive 0 1 (at Barrier 0) ∷ []) (Start 1 1)
rule_start_at_barrier = search rules

-- and before the barrier
pub rule_start_early : Forbids (TaskRule 2) (Create 1 0 (Implicit 0) one_job ∷ []) (Start 1 1)
rule_start_early may = absurd (let ready = may.may in cc)

-- a task that was not created
pub rule_start_uncreated : Forbids (TaskRule 1) (Create 1 0 (Implicit 0) one_job ∷ Arrive 0 0 (at Barrier 0) ∷ []) (Start 2 0)
rule_start_uncreated may = absurd (let ready = may.may in cc)

-- one that another member has started
pub rule_start_twice : Forbids (TaskRule 2) (Create 1 0 (Implicit 0) one_job ∷ Start 1 0 ∷ Arrive 0 1 (at Barrier 0) ∷ []) (Start 1 1)
rule_start_twice may = absurd (let ready = may.may in cc)

-- one that is done
pub rule_start_done : Forbids (TaskRule 2) (Create 1 0 (Implicit 0) one_job ∷ Done 1 0 ∷ Arrive 0 1 (at Barrier 0) ∷ []) (Start 1 1)
rule_start_done may = absurd (let ready = may.may in cc)

-- a task of the same parent as the one that it executes
pub rule_start_sibling : Forbids (TaskRule 1) (Create 1 0 (Implicit 0) one_job ∷ Create 2 0 (Implicit 0) one_job ∷ Start 1 0 ∷ []) (Start 2 0)
rule_start_sibling may = absurd (let ready = may.may in cc)

-- a child of the one that it executes
pub rule_start_child : Allows (TaskRule 1) (Create 1 0 (Implicit 0) one_job ∷ Start 1 0 ∷ Create 2 0 (Explicit 1) one_job ∷ []) (Start 2 0)
rule_start_child = search rules

-- a child of a child
pub rule_start_grandchild : Allows (TaskRule 2) child_ended (Start 4 0)
rule_start_grandchild = search rules

-- A member ends

-- a member ends its task
pub rule_end_own : Allows (TaskRule 2) task_tree (Done 2 0)
rule_end_own = search rules

-- an outer task
pub rule_end_outer : Forbids (TaskRule 2) task_tree (Done 1 0)
rule_end_outer may = absurd (let current = may.current in cc)

-- the task of another member
pub rule_end_of_another : Forbids (TaskRule 2) task_tree (Done 2 1)
rule_end_of_another may = absurd (let current = may.current in cc)

-- a task twice
pub rule_end_twice : Forbids (TaskRule 2) child_ended (Done 2 0)
rule_end_twice may = absurd (let current = may.current in cc)

-- A member opens a group

-- a member opens a group
pub rule_open_first : Allows (TaskRule 2) [] (Group 0 1)
rule_open_first = search rules

-- another opens the next one, also if the first has ended
pub rule_open_next : Allows (TaskRule 2) (Group 0 1 ∷ GroupEnd 0 1 ∷ []) (Group 1 0)
rule_open_next = search rules

-- A member ends a group

-- a member ends its group
pub rule_end_group_own : Allows (TaskRule 2) (Group 0 1 ∷ []) (GroupEnd 0 1)
rule_end_group_own = record { member = omega arith; outer = []; last = refl; complete = refl }

-- a group that was not opened
pub rule_end_group_unopened : Forbids (TaskRule 2) [] (GroupEnd 0 0)
rule_end_group_unopened may = absurd (let last = may.last in cc)

-- that of another member
pub rule_end_group_of_another : Forbids (TaskRule 2) (Group 0 1 ∷ []) (GroupEnd 0 0)
rule_end_group_of_another may = absurd (let last = may.last in cc)

-- an outer one
pub rule_end_group_outer : Forbids (TaskRule 2) (Group 0 0 ∷ Group 1 0 ∷ []) (GroupEnd 0 0)
rule_end_group_outer may = absurd (let last = may.last in cc)

-- the inner one first
pub rule_end_group_inner : Allows (TaskRule 2) (Group 0 0 ∷ Group 1 0 ∷ []) (GroupEnd 1 0)
rule_end_group_inner = record { member = omega arith; outer = 0 ∷ []; last = refl; complete = refl }

-- one that it opened in another task
pub rule_end_group_of_the_parent : Forbids (TaskRule 2) (Group 0 0 ∷ Create 1 0 (Implicit 0) one_job ∷ Start 1 0 ∷ []) (GroupEnd 0 0)
rule_end_group_of_the_parent may = absurd (let last = may.last in cc)

-- one with an open task
pub rule_end_group_open : Forbids (TaskRule 2) (Group 0 0 ∷ Create 1 0 (Implicit 0) one_job ∷ []) (GroupEnd 0 0)
rule_end_group_open may = absurd (let complete = may.complete in cc)

-- with an open child of a task that is done
pub rule_end_group_open_child :
    Forbids (TaskRule 2) (Group 0 0 ∷ Create 1 0 (Implicit 0) one_job ∷ Start 1 0 ∷ Create 2 0 (Explicit 1) one_job ∷ Done 1 0 ∷ []) (GroupEnd 0 0)
rule_end_group_open_child may = absurd (let complete = may.complete in cc)

-- with an open task before it
pub rule_end_group_after_a_task : Allows (TaskRule 2) (Create 1 0 (Implicit 0) one_job ∷ Group 0 0 ∷ []) (GroupEnd 0 0)
rule_end_group_after_a_task = record { member = omega arith; outer = []; last = refl; complete = refl }

-- A task waits for its children

-- a member waits without children
pub rule_wait_member : Allows (TaskRule 2) [] (Waited 1 [])
rule_wait_member = search rules

-- its child is open
pub rule_wait_open : Forbids (TaskRule 2) (Create 1 0 (Implicit 0) one_job ∷ []) (Waited 0 [])
rule_wait_open may = absurd (let complete = may.complete in cc)

-- or runs on another member
pub rule_wait_running : Forbids (TaskRule 2) (Create 1 0 (Implicit 0) one_job ∷ Arrive 0 1 (at Barrier 0) ∷ Start 1 1 ∷ []) (Waited 0 [])
rule_wait_running may = absurd (let complete = may.complete in cc)

-- a child of its child is open, and a task of the other member
pub rule_wait_grandchild : Allows (TaskRule 2) child_ended (Waited 0 [])
rule_wait_grandchild = search rules

-- A member passes a barrier

-- a task that is bound to it is open
pub rule_pass_with_open_task : Forbids (ArrivalRule 1) (Create 1 0 (Implicit 0) one_job ∷ Arrive 0 0 (at Barrier 0) ∷ []) (Pass 0 0)
rule_pass_with_open_task may = absurd (let met = may.met in cc)

-- a task that is bound to the next one is
pub rule_pass_with_later_task : Allows (ArrivalRule 2) across_barrier (Pass 0 1)
rule_pass_with_later_task = search rules

-- and at the region's end
pub rule_pass_region_with_later_task :
    Forbids (ArrivalRule 2) (Arrive 0 0 (at RegionEnd 0) ∷ Arrive 0 1 (at RegionEnd 0) ∷ Pass 0 0 ∷ Create 1 0 (Implicit 0) one_job ∷ []) (Pass 0 1)
rule_pass_region_with_later_task may = absurd (let met = may.met in cc)

-- Whole lists

-- the region of two members keeps the rule of tasks
pub whole_region_keeps_task_rule : Always (TaskRule 2) (after whole_region)
whole_region_keeps_task_rule = search rules depth 50

-- and that of the arrivals
pub whole_region_keeps_arrival_rule : Always (ArrivalRule 2) (after whole_region)
whole_region_keeps_arrival_rule = search rules depth 50

-- so do the other lists
pub task_tree_keeps_rule : Always (TaskRule 2) (after child_ended)
task_tree_keeps_rule = search rules depth 20

pub across_barrier_keeps_rule : Always (TaskRule 2) (after across_barrier)
across_barrier_keeps_rule = search rules depth 20

pub nested_groups_keep_rule : Always (TaskRule 2) (after nested_groups)
nested_groups_keep_rule = search rules depth 20
