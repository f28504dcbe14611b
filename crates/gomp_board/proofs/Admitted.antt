-- What is known of a member whose operation no test refuses.
use Rattle.std.proofs.Common.{◌≡◌, ℕ, ◌+◌, ◌<◌, ◌≤◌, Bool, true, false, List, ◌++◌, None, refl, suc}
use Rattle.std.specs.Prelude.{◌&&◌, not}
use Rattle.std.proofs.lemmas.Bool.{ltb-false, leb-false}
use Rattle.gomp_types.specs.declared.task.TaskDesc.{TaskDesc}
use Rattle.gomp_types.specs.declared.limits.Limits.{Limits}
use Rattle.gomp_types.specs.declared.limits.TheConstants.{MAX_TASK_DEPTH}
use Rattle.gomp_events.specs.declared.event.Event.{Event}
use Rattle.gomp_events.specs.Events.{at_barrier}
use Rattle.gomp_events.specs.Tasks.{tasks_created, executed_task, in_task, depth_of}
use Rattle.gomp_events.specs.TaskRules.{MayCreate}
use Rattle.gomp_events.specs.Cancels.{is_cancelled, some_cancelled, groups_within}
use Rattle.gomp_events.specs.CancelCalls.{creates_covered}
use Rattle.gomp_events.specs.TaskCalls.{group_is_open, room_tests}
use Rattle.gomp_events.specs.declared.room.TheConstants.{TASK_ROOM, GROUP_ROOM}
use Rattle.gomp_types.proofs.Booleans.{not_false, neither_left}
use Rattle.gomp_types.proofs.LeastTests.{AllFail, all_fail, fail_later}
use Rattle.gomp_board.specs.declared.op.Op.{Op}
use Rattle.gomp_board.specs.declared.op.Op.TheVariants.{Create, EndTask, OpenGroup, EndGroup}
use Rattle.gomp_board.specs.Ops.{op_member_tests, op_tests, op_refusal, awaits_barrier, goes_to_the_end}

-- What the tests tell

-- those of an operation that none refuses fail
pub tests_fail : (limits : Limits) (room kept m : ℕ) (op : Op) (h : List Event) → op_refusal limits room kept m op h ≡ None → AllFail (op_tests limits room kept m op h)
tests_fail limits room kept m op h fine = fail_later (op_member_tests m h) (op_tests limits room kept m op h) (all_fail (op_member_tests m h ++ op_tests limits room kept m op h) fine)

-- a member that waits at a barrier executes a task there
not_waiting : (m : ℕ) (h : List Event) → (awaits_barrier m h && not (goes_to_the_end m h)) ≡ false → is_cancelled h ≡ false → in_task m h ≡ false → at_barrier m h ≡ false
not_waiting m h fails whole out = away (at_barrier m h) (rw (out, whole) at fails)
  where
    away : (b : Bool) → ((b && true) && true) ≡ false → b ≡ false
    away true e = e
    away false e = e

-- the member creates a task
pub create_may : (limits : Limits) (room kept members m : ℕ) (desc : TaskDesc) (h : List Event) → m < members → creates_covered m h ≡ false → op_refusal limits room kept m (Create desc) h ≡ None → MayCreate members (suc (tasks_created h)) m (executed_task m h) h
create_may limits room kept members m desc h lt uncovered fine =
    let fails = tests_fail limits room kept m (Create desc) h fine in
    let whole = neither_left (is_cancelled h) (some_cancelled (groups_within (executed_task m h) h) h) uncovered in
    record { member = lt; number = refl; current = refl; away = not_waiting m h fails.0 whole; uncovered = uncovered; shallow = leb-false MAX_TASK_DEPTH (depth_of (executed_task m h) h) fails.1.0 }

pub create_few : (limits : Limits) (room kept m : ℕ) (desc : TaskDesc) (h : List Event) → op_refusal limits room kept m (Create desc) h ≡ None → tasks_created h < limits.tasks
create_few limits room kept m desc h fine = leb-false limits.tasks (tasks_created h) (tests_fail limits room kept m (Create desc) h fine).1.1.0

pub create_room : (limits : Limits) (room kept m : ℕ) (desc : TaskDesc) (h : List Event) → creates_covered m h ≡ false → op_refusal limits room kept m (Create desc) h ≡ None → room + TASK_ROOM ≤ limits.events
create_room limits room kept m desc h uncovered fine =
    let fails = (tests_fail limits room kept m (Create desc) h fine).1.1.1.1 in
    let asked : AllFail (room_tests limits room TASK_ROOM) = rw uncovered at fails in
    ltb-false limits.events (room + TASK_ROOM) asked.0

-- it ends one
pub end_within : (limits : Limits) (room kept m : ℕ) (leaving : Bool) (h : List Event) → op_refusal limits room kept m (EndTask leaving) h ≡ None → in_task m h ≡ true
end_within limits room kept m leaving h fine = not_false (in_task m h) (tests_fail limits room kept m (EndTask leaving) h fine).1.0

-- it opens a group
pub open_room : (limits : Limits) (room kept m : ℕ) (h : List Event) → op_refusal limits room kept m OpenGroup h ≡ None → room + GROUP_ROOM ≤ limits.events
open_room limits room kept m h fine = ltb-false limits.events (room + GROUP_ROOM) (tests_fail limits room kept m OpenGroup h fine).1.0

-- it ends one
pub end_finds_group_open : (limits : Limits) (room kept m : ℕ) (h : List Event) → op_refusal limits room kept m EndGroup h ≡ None → group_is_open m h ≡ true
end_finds_group_open limits room kept m h fine = not_false (group_is_open m h) (tests_fail limits room kept m EndGroup h fine).1.0
