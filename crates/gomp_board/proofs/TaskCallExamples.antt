-- The tests, answers and events of the calls on tasks and groups: each line of a definition by an example that it alone decides.
use Rattle.std.proofs.Common.{◌≡◌, ℕ, true, false, List, [], ◌∷◌, Some, None, refl, rules}
use Rattle.std.specs.Prelude.{map}
use Rattle.gomp_types.specs.declared.task.Task.TheVariants.{Implicit, Explicit}
use Rattle.gomp_types.specs.declared.refusal.Refusal.TheVariants.{InsideTask, NotInTask, NoGroup, GroupOpen, TooDeep, TooManyTasks, TraceFull}
use Rattle.gomp_types.specs.declared.reply.Reply.{Reply}
use Rattle.gomp_types.specs.declared.reply.Reply.TheVariants.{NoChunk, Finished, Passed, Wait, Created, Run, TaskDone, Stopped, Refused}
use Rattle.gomp_events.specs.declared.event.Event.{Event}
use Rattle.gomp_events.specs.declared.event.Event.TheVariants.{Create, Start, Done, Group, GroupEnd, Waited}
use Rattle.gomp_types.specs.declared.depend.DepKind.TheVariants.{DepIn, DepOut}
use Rattle.gomp_events.specs.TaskExamples.{at_once, item, with_items}
use Rattle.gomp_types.specs.Least.{least}
use Rattle.gomp_events.specs.TaskCalls.{outside_tasks_tests, has_some, group_is_open, group_open_tests, create_tests, end_task_tests, end_group_tests, lacks_room, room_tests, first_room, AwaitsTasks, CreatesTask, EndsTask, AwaitsChildren, last_complete, AwaitsGroup, creates, starts_task, ends_task, waited, opens_group, ends_first, ends_group}
use Rattle.gomp_events.specs.declared.room.TheConstants.{TASK_ROOM, GROUP_ROOM, ARRIVAL_ROOM}
use Rattle.gomp_board.specs.Examples.{seven, eight, creates_root, creates_in, one_ready, one_runs, one_done, other_runs, nested, group_empty, group_ready, group_done, first_waits, limits_of}

-- a member creates an undeferred task
abbrev own_ready : List Event
own_ready = Create 1 0 (Implicit 0) at_once ∷ []

-- one that waits for another, which the second member runs
abbrev own_held : List Event
own_held = Create 2 0 (Implicit 0) (record at_once { deps = item DepIn 9 ∷ [] }) ∷ Start 1 1 ∷ Create 1 0 (Implicit 0) (with_items (item DepOut 9 ∷ [])) ∷ []

-- Tests

-- of a call that no explicit task makes
pub tested_outside_tasks : map (λ h. least (outside_tasks_tests 0 h)) ([] ∷ one_ready ∷ one_runs ∷ one_done ∷ other_runs ∷ []) ≡ None ∷ None ∷ Some InsideTask ∷ None ∷ None ∷ []
tested_outside_tasks = refl

-- a group is open in the task that opened it, until it is ended
pub lists_with_some : map has_some ([] ∷ (0 ∷ []) ∷ (2 ∷ 1 ∷ []) ∷ []) ≡ false ∷ true ∷ true ∷ []
lists_with_some = refl

pub open_groups_are_told :
    map (group_is_open 0) ([] ∷ group_empty ∷ (GroupEnd 0 0 ∷ group_empty) ∷ (Start 1 0 ∷ group_ready) ∷ group_done ∷ (Group 0 1 ∷ []) ∷ []) ≡ false ∷ true ∷ false ∷ false ∷ true ∷ false ∷ []
open_groups_are_told = refl

pub tested_for_open_groups : map (λ h. least (group_open_tests 0 h)) ([] ∷ group_empty ∷ []) ≡ None ∷ Some GroupOpen ∷ []
tested_for_open_groups = refl

-- of a creation: the depth of the task that creates, and how many there are
pub tested_creations :
    (map (λ depth. least (create_tests (limits_of 64 0) [] 0 (nested depth))) (0 ∷ 63 ∷ 64 ∷ []) ≡ None ∷ None ∷ Some TooDeep ∷ [])
    × (map (λ limit. least (create_tests (limits_of limit 0) [] 0 one_done)) (0 ∷ 1 ∷ 2 ∷ []) ≡ Some TooManyTasks ∷ Some TooManyTasks ∷ None ∷ [])
tested_creations = (refl, refl)

-- of the end of a task
pub tested_task_ends : map (λ h. least (end_task_tests false 0 h)) ([] ∷ one_runs ∷ (Group 0 0 ∷ one_runs) ∷ other_runs ∷ []) ≡ Some NotInTask ∷ None ∷ Some GroupOpen ∷ Some NotInTask ∷ []
tested_task_ends = refl

-- of the end of a group
pub tested_group_ends : map (λ h. least (end_group_tests 0 h)) ([] ∷ group_empty ∷ (GroupEnd 0 0 ∷ group_empty) ∷ []) ≡ Some NoGroup ∷ None ∷ Some NoGroup ∷ []
tested_group_ends = refl

-- Room

-- nothing asked for is never too much; else what was asked for and this are within the limit
pub room_that_lacks : (map (lacks_room 10 8) (0 ∷ 1 ∷ 2 ∷ 3 ∷ []) ≡ false ∷ false ∷ false ∷ true ∷ []) × (map (lacks_room 0 8) (0 ∷ 1 ∷ []) ≡ false ∷ true ∷ [])
room_that_lacks = (refl, refl)

-- it is the limit on events
pub tested_room : map (λ limit. least (room_tests (limits_of 0 limit) 5 3)) (7 ∷ 8 ∷ []) ≡ Some TraceFull ∷ None ∷ []
tested_room = refl

-- a task is created, started and ended; a group opened and ended; an arrival passes
pub room_of_each : (TASK_ROOM ≡ 3) × (GROUP_ROOM ≡ 2) × (ARRIVAL_ROOM ≡ 2)
room_of_each = (refl, refl, refl)

-- each member arrives at the region's end and passes, and one may break the team
pub room_at_first : map first_room (0 ∷ 1 ∷ 2 ∷ 64 ∷ []) ≡ 1 ∷ 3 ∷ 5 ∷ 129 ∷ []
room_at_first = refl

-- Waits

-- the answer is wrong
abbrev Wrong : ℕ → List Event → Reply → Type 0
Wrong member h reply = AwaitsTasks member false h reply → ⊥

-- passed if the goal is met, and only then
pub wait_passed : AwaitsTasks 0 true one_ready Passed
wait_passed = search rules

pub passed_unmet : Wrong 0 [] Passed
passed_unmet = search rules

-- a task that may be started is run only if it is not
pub wait_runs : AwaitsTasks 0 false one_ready (Run 1 7 9 false)
wait_runs = search rules

pub run_when_met : AwaitsTasks 0 true one_ready (Run 1 7 9 false) → ⊥
run_when_met = search rules

-- with what was asked for
pub run_with_another_code : Wrong 0 one_ready (Run 1 8 9 false)
run_with_another_code = search rules

pub run_with_another_argument : Wrong 0 one_ready (Run 1 7 8 false)
run_with_another_argument = search rules

pub run_as_another_task : Wrong 0 (Create 2 0 (Implicit 0) eight ∷ one_ready) (Run 2 7 9 false)
run_as_another_task = search rules

-- any of several
pub wait_runs_any : AwaitsTasks 0 false (Create 2 0 (Implicit 0) eight ∷ one_ready) (Run 1 7 9 false) × AwaitsTasks 0 false (Create 2 0 (Implicit 0) eight ∷ one_ready) (Run 2 8 9 false)
wait_runs_any = search rules

-- it is never one that its creator has to execute at once
pub run_as_own : Wrong 0 one_ready (Run 1 7 9 true)
run_as_own = search rules

-- one that was not created, that runs, or that is done may not be started
pub run_uncreated : Wrong 0 one_ready (Run 2 7 9 false)
run_uncreated = search rules

pub run_twice : Wrong 0 other_runs (Run 1 7 9 false)
run_twice = search rules

pub run_again : Wrong 0 one_done (Run 1 7 9 false)
run_again = search rules

-- nor one that does not descend from the member's task: it does not from a task beside it, nor from another member's unless the member waits at a barrier
pub run_beside : Wrong 0 (Start 2 0 ∷ creates_root 2 ∷ one_ready) (Run 1 7 9 false)
run_beside = search rules

pub run_below : AwaitsTasks 0 false (creates_in 1 2 ∷ one_runs) (Run 2 7 9 false)
run_below = search rules

pub run_of_another_member : Wrong 1 one_ready (Run 1 7 9 false)
run_of_another_member = search rules

pub run_at_a_barrier : AwaitsTasks 0 false (Create 1 1 (Implicit 1) seven ∷ first_waits) (Run 1 7 9 false)
run_at_a_barrier = search rules

-- it waits if there is none, and only then
pub wait_waits : AwaitsTasks 0 false other_runs Wait × AwaitsTasks 1 false one_ready Wait
wait_waits = search rules

pub wait_with_one_startable : Wrong 0 one_ready Wait
wait_with_one_startable = search rules

pub wait_when_met : AwaitsTasks 0 true [] Wait → ⊥
wait_when_met = search rules

-- nothing else is an answer
pub no_other_answer : Wrong 0 [] Finished × Wrong 0 [] NoChunk × Wrong 0 one_runs (TaskDone 1 true) × Wrong 0 one_ready (Created 1) × Wrong 0 [] Stopped × Wrong 0 [] (Refused InsideTask)
no_other_answer = search rules

-- Answers

-- to a creator the new task's number
pub created_answer : CreatesTask 0 one_ready (Created 1)
created_answer = refl

-- to that of an undeferred one the task, and if it may not be started another, or to wait
pub own_answers : CreatesTask 0 own_ready (Run 1 7 70 true) × CreatesTask 0 own_held Wait
own_answers = search rules

pub wrong_own_answers : (CreatesTask 0 own_ready (Created 1) → ⊥) × (CreatesTask 0 own_ready Wait → ⊥) × (CreatesTask 0 own_ready (Run 1 7 70 false) → ⊥) × (CreatesTask 0 own_held (Run 2 7 70 true) → ⊥) × (CreatesTask 0 own_held (Created 2) → ⊥)
wrong_own_answers = search rules

pub wrong_created_answers : (CreatesTask 0 one_ready (Created 2) → ⊥) × (CreatesTask 0 one_ready Finished → ⊥)
wrong_created_answers = search rules

-- at its end the task's number, and that the wait at which it was started is open again
pub ended_answer : EndsTask (Explicit 2) [] (TaskDone 2 true)
ended_answer = refl

-- unless it is undeferred: then its creator goes on
pub own_task_ended : EndsTask (Explicit 1) own_ready (TaskDone 1 false) × (EndsTask (Explicit 1) own_ready (TaskDone 1 true) → ⊥)
own_task_ended = search rules

pub wrong_ended_answers : (EndsTask (Explicit 2) [] (TaskDone 1 true) → ⊥) × (EndsTask (Explicit 2) [] (TaskDone 2 false) → ⊥) × (EndsTask (Explicit 2) [] Passed → ⊥) × (EndsTask (Implicit 2) [] (TaskDone 2 true) → ⊥)
wrong_ended_answers = search rules

-- at a taskwait: of the task that the member executes, and of its children alone
pub taskwait_answers : AwaitsChildren 0 [] one_done Passed × AwaitsChildren 0 [] other_runs Wait × AwaitsChildren 1 [] other_runs Passed × AwaitsChildren 0 [] (creates_in 1 2 ∷ one_done) Passed
taskwait_answers = search rules

pub taskwait_within_a_task : AwaitsChildren 0 [] (creates_in 1 2 ∷ one_runs) (Run 2 7 9 false)
taskwait_within_a_task = search rules

pub wrong_taskwait_answers :
    (AwaitsChildren 0 [] other_runs Passed → ⊥) × (AwaitsChildren 0 [] one_done Wait → ⊥) × (AwaitsChildren 0 [] (creates_in 1 2 ∷ one_runs) Passed → ⊥) × (AwaitsChildren 0 [] one_ready Wait → ⊥)
wrong_taskwait_answers = search rules

-- the last open group alone counts
pub last_group_complete :
    map (λ qs. last_complete qs group_ready) ([] ∷ (0 ∷ []) ∷ (1 ∷ 0 ∷ []) ∷ (0 ∷ 1 ∷ []) ∷ []) ≡ false ∷ false ∷ true ∷ false ∷ []
last_group_complete = refl

-- at the end of a group
pub group_answers : AwaitsGroup 0 group_done Passed × AwaitsGroup 0 group_ready (Run 1 7 9 false) × AwaitsGroup 0 (Start 1 1 ∷ group_ready) Wait × AwaitsGroup 0 (Group 1 0 ∷ group_ready) Passed
group_answers = search rules

pub wrong_group_end_answers : (AwaitsGroup 0 group_ready Passed → ⊥) × (AwaitsGroup 0 group_done Wait → ⊥) × (AwaitsGroup 0 (Start 1 1 ∷ group_ready) Passed → ⊥) × (AwaitsGroup 0 [] Passed → ⊥)
wrong_group_end_answers = search rules

-- Events

-- a creation: the next number, in the task that the member executes
pub creation_gives : (creates 0 seven [] ≡ one_ready) × (creates 0 eight one_runs ≡ Create 2 0 (Explicit 1) eight ∷ []) × (creates 1 seven one_runs ≡ Create 2 1 (Implicit 1) seven ∷ [])
creation_gives = (refl, refl, refl)

-- a task that is run is started, and no other answer starts one
pub replies_start : map (starts_task 1) (Run 3 7 9 false ∷ Passed ∷ Wait ∷ Finished ∷ Created 3 ∷ TaskDone 3 true ∷ []) ≡ (Start 3 1 ∷ []) ∷ [] ∷ [] ∷ [] ∷ [] ∷ [] ∷ []
replies_start = refl

-- a task that is done is ended
pub replies_end : map (ends_task 1) (TaskDone 3 true ∷ Run 3 7 9 false ∷ Passed ∷ Finished ∷ []) ≡ (Done 3 1 ∷ []) ∷ [] ∷ [] ∷ [] ∷ []
replies_end = refl

-- a taskwait is passed
pub taskwaits_give : map (waited 1 []) (Passed ∷ Run 3 7 9 false ∷ Wait ∷ []) ≡ (Waited 1 [] ∷ []) ∷ (Start 3 1 ∷ []) ∷ [] ∷ []
taskwaits_give = refl

-- a group gets the next number
pub groups_give : map (λ reply. opens_group 1 group_empty reply) (Finished ∷ Passed ∷ Wait ∷ []) ≡ (Group 1 1 ∷ []) ∷ [] ∷ [] ∷ []
groups_give = refl

-- the first of these is ended
pub first_is_ended : map (λ qs. ends_first qs 1) ([] ∷ (4 ∷ []) ∷ (5 ∷ 4 ∷ []) ∷ []) ≡ [] ∷ (GroupEnd 4 1 ∷ []) ∷ (GroupEnd 5 1 ∷ []) ∷ []
first_is_ended = refl

-- which is the last open one of the member's task
pub group_ends_give : map (ends_group 0 (Group 1 0 ∷ group_empty)) (Passed ∷ Run 3 7 9 false ∷ Wait ∷ []) ≡ (GroupEnd 1 0 ∷ []) ∷ (Start 3 0 ∷ []) ∷ [] ∷ []
group_ends_give = refl
