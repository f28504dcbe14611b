-- Worked runs of tasks and groups. OpenMP API 5.2, chapter 12 and sections 15.3 to 15.5. (own)
use Rattle.std.specs.Prelude.{ℕ, pos, negsuc, false, true, [], ◌∷◌, ◌++◌}
use Rattle.std.proofs.Common.{zero, suc}
use Rattle.gomp_types.specs.declared.call.Call.{Call}
use Rattle.gomp_types.specs.declared.call.Call.TheVariants.{LoopNext, LoopEnd, SectionsStart, OrderedStart, SingleStart, SingleCopyStart, Barrier, RegionEnd, CriticalStart, CriticalEnd, LockInit, NestInit, LockDestroy, Set, Test as TestLock, Unset, SetNest, TestNest, UnsetNest, TaskCreate, TaskEnd, Taskwait, GroupStart, GroupEnd, Resume, Stop}
use Rattle.gomp_types.specs.declared.loop_desc.EndKind.TheVariants.{Wait as WaitEnd}
use Rattle.gomp_types.specs.declared.refusal.Place.TheVariants.{Stopped as AtStop}
use Rattle.gomp_types.specs.declared.refusal.Refusal.TheVariants.{BadMember, Ended, Broken, Waiting, InsideTask, NotInTask, InsideShare, HoldsCritical, BadChunk, BadSections, NotOrdered, NotInside, NoGroup, GroupOpen, TooManyTasks, AlreadyHeld, NotHolder, Mismatch, TraceFull, NoMemory}
use Rattle.gomp_types.specs.declared.reply.Reply.TheVariants.{Chunk, NoChunk, Executor, Finished, Passed, Wait, Created, Run as RunTask, TaskDone, Lock as LockMade, Got, Count, Stopped, Refused}
use Rattle.gomp_types.specs.Limits.{standard}
use Rattle.gomp_events.specs.TaskExamples.{job_with, one_job, other_job}
use Rattle.gomp_model.specs.Past.{Terms}
use Rattle.gomp_model.specs.Examples.{Run, asks, loop_by, one_nowait, ten_by_three}
use Rattle.gomp_model.specs.HoldExamples.{name_a, name_b}

-- a task of this code and argument
abbrev pub creates_task : ℕ → ℕ → Call
creates_task code arg = TaskCreate (job_with code arg [])

-- Barriers

-- a member runs the other's task at a barrier; its own one the other runs at the region's end
abbrev pub tasks_at_barriers : Run
tasks_at_barriers =
    (asks 0 (creates_task 7 5), Created 1)
    ∷ (asks 1 Barrier, RunTask 1 7 5 false)
    ∷ (asks 0 Barrier, Wait)
    ∷ (asks 1 TaskEnd, TaskDone 1 true)
    ∷ (asks 1 Resume, Passed)
    ∷ (asks 1 (creates_task 8 0), Created 2)
    ∷ (asks 0 Resume, Passed)
    ∷ (asks 0 RegionEnd, RunTask 2 8 0 false)
    ∷ (asks 1 RegionEnd, Wait)
    ∷ (asks 0 TaskEnd, TaskDone 2 true)
    ∷ (asks 0 Resume, Passed)
    ∷ (asks 1 Resume, Passed)
    ∷ (asks 1 Barrier, Refused Ended)
    ∷ []

-- a member that waits at a barrier runs a task that was created since, at a resume; in the task it has no wait open, and after it waits again
abbrev pub task_at_a_resume : Run
task_at_a_resume =
    (asks 0 Barrier, Wait)
    ∷ (asks 1 (TaskCreate one_job), Created 1)
    ∷ (asks 0 Resume, RunTask 1 7 70 false)
    ∷ (asks 0 Resume, Refused NotInside)
    ∷ (asks 0 Barrier, Refused InsideTask)
    ∷ (asks 1 Barrier, Wait)
    ∷ (asks 0 TaskEnd, TaskDone 1 true)
    ∷ (asks 0 TaskEnd, Refused Waiting)
    ∷ (asks 0 Resume, Passed)
    ∷ (asks 1 Resume, Passed)
    ∷ []

-- at the end of a loop too
abbrev pub task_at_a_loop_end : Run
task_at_a_loop_end =
    (asks 0 (loop_by (pos 1) (pos 1) (pos 1)), Chunk (pos 0) 1)
    ∷ (asks 0 (TaskCreate one_job), Created 1)
    ∷ (asks 0 LoopNext, NoChunk)
    ∷ (asks 0 LoopEnd, RunTask 1 7 70 false)
    ∷ (asks 1 (loop_by (pos 1) (pos 1) (pos 1)), NoChunk)
    ∷ (asks 1 LoopEnd, Wait)
    ∷ (asks 0 TaskEnd, TaskDone 1 true)
    ∷ (asks 1 Resume, Passed)
    ∷ (asks 0 Resume, Passed)
    ∷ []

-- Waits for tasks

-- in its task a member waits for the task's child alone
abbrev pub children_of_two : Run
children_of_two =
    (asks 0 (creates_task 1 0), Created 1)
    ∷ (asks 1 Barrier, RunTask 1 1 0 false)
    ∷ (asks 0 (creates_task 2 0), Created 2)
    ∷ (asks 1 (creates_task 3 0), Created 3)
    ∷ (asks 1 (Taskwait []), RunTask 3 3 0 false)
    ∷ []

-- a member waits for its task, which another may not run; it does not wait for the child of that, which it may run
abbrev pub wait_for_children : Run
wait_for_children =
    (asks 0 (TaskCreate one_job), Created 1)
    ∷ (asks 1 (Taskwait []), Passed)
    ∷ (asks 0 (Taskwait []), RunTask 1 7 70 false)
    ∷ (asks 0 (Taskwait []), Passed)
    ∷ (asks 0 (TaskCreate other_job), Created 2)
    ∷ (asks 0 TaskEnd, TaskDone 1 true)
    ∷ (asks 0 Resume, Passed)
    ∷ (asks 0 (Taskwait []), Passed)
    ∷ []

-- another member runs the task meanwhile, and the first waits for it
abbrev pub wait_for_a_running_child : Run
wait_for_a_running_child =
    (asks 0 (TaskCreate one_job), Created 1)
    ∷ (asks 1 Barrier, RunTask 1 7 70 false)
    ∷ (asks 0 (Taskwait []), Wait)
    ∷ (asks 0 Resume, Wait)
    ∷ (asks 1 TaskEnd, TaskDone 1 true)
    ∷ (asks 0 Resume, Passed)
    ∷ []

-- a member creates a task in each task, and runs it there
abbrev pub down_to : ℕ → Run
down_to zero = []
down_to (suc depth) = down_to depth ++ (asks 0 (creates_task 1 0), Created (suc depth)) ∷ (asks 0 (Taskwait []), RunTask (suc depth) 1 0 false) ∷ []

-- and ends them all, the innermost first
abbrev pub up_from : ℕ → Run
up_from zero = []
up_from (suc depth) = (asks 0 TaskEnd, TaskDone (suc depth) true) ∷ (asks 0 Resume, Passed) ∷ up_from depth

abbrev pub nested_waits : ℕ → Run
nested_waits depth = down_to depth ++ up_from depth

-- Groups

-- a member alone waits for the task of its group
abbrev pub group_of_one : Run
group_of_one =
    (asks 0 GroupStart, Finished)
    ∷ (asks 0 (creates_task 1 0), Created 1)
    ∷ (asks 0 GroupEnd, RunTask 1 1 0 false)
    ∷ (asks 0 TaskEnd, TaskDone 1 true)
    ∷ (asks 0 Resume, Passed)
    ∷ (asks 0 GroupEnd, Refused NoGroup)
    ∷ []

-- a group waits for the child of its task, which another member runs
abbrev pub group_with_a_grandchild : Run
group_with_a_grandchild =
    (asks 0 GroupStart, Finished)
    ∷ (asks 0 (TaskCreate one_job), Created 1)
    ∷ (asks 0 GroupEnd, RunTask 1 7 70 false)
    ∷ (asks 0 (TaskCreate other_job), Created 2)
    ∷ (asks 0 TaskEnd, TaskDone 1 true)
    ∷ (asks 1 Barrier, RunTask 2 8 80 false)
    ∷ (asks 0 Resume, Wait)
    ∷ (asks 1 TaskEnd, TaskDone 2 true)
    ∷ (asks 0 Resume, Passed)
    ∷ []

-- a group in a group; each waits for the tasks that were created since it was opened, and no task is in the task's own group
abbrev pub group_in_a_group : Run
group_in_a_group =
    (asks 0 GroupStart, Finished)
    ∷ (asks 0 (TaskCreate one_job), Created 1)
    ∷ (asks 0 GroupStart, Finished)
    ∷ (asks 0 GroupEnd, Passed)
    ∷ (asks 0 (TaskCreate other_job), Created 2)
    ∷ (asks 0 GroupEnd, RunTask 2 8 80 false)
    ∷ (asks 0 GroupEnd, Refused NoGroup)
    ∷ (asks 0 GroupStart, Finished)
    ∷ (asks 0 TaskEnd, Refused GroupOpen)
    ∷ (asks 0 GroupEnd, Passed)
    ∷ (asks 0 TaskEnd, TaskDone 2 true)
    ∷ (asks 0 Resume, RunTask 1 7 70 false)
    ∷ (asks 0 TaskEnd, TaskDone 1 true)
    ∷ (asks 0 Resume, Passed)
    ∷ []

-- Refusals

-- calls that a task may not make, and calls that only a task may
abbrev pub refused_in_tasks : Run
refused_in_tasks =
    (asks 1 Barrier, Refused BadMember)
    ∷ (asks 0 TaskEnd, Refused NotInTask)
    ∷ (asks 0 Resume, Refused NotInside)
    ∷ (asks 0 GroupEnd, Refused NoGroup)
    ∷ (asks 0 (loop_by (pos 1) (pos 4) (negsuc 0)), Refused BadChunk)
    ∷ (asks 0 (SectionsStart 65537 WaitEnd), Refused BadSections)
    ∷ (asks 0 (loop_by (pos 1) (pos 4) (pos 1)), Chunk (pos 0) 1)
    ∷ (asks 0 Barrier, Refused InsideShare)
    ∷ (asks 0 (OrderedStart (pos 0)), Refused NotOrdered)
    ∷ (asks 0 (creates_task 1 0), Created 1)
    ∷ (asks 0 (Taskwait []), RunTask 1 1 0 false)
    ∷ (asks 0 Barrier, Refused InsideTask)
    ∷ (asks 0 GroupStart, Finished)
    ∷ (asks 0 TaskEnd, Refused GroupOpen)
    ∷ (asks 0 GroupEnd, Passed)
    ∷ (asks 0 TaskEnd, TaskDone 1 true)
    ∷ (asks 0 Stop, Stopped)
    ∷ (asks 0 LoopNext, Refused (Broken (record { member = 0; place = AtStop })))
    ∷ []

-- a member does not end the region while it has a group open, nor a task while that holds a critical name
abbrev pub refused_ends_of_tasks : Run
refused_ends_of_tasks =
    (asks 0 GroupStart, Finished)
    ∷ (asks 0 RegionEnd, Refused GroupOpen)
    ∷ (asks 0 Barrier, Passed)
    ∷ (asks 0 (TaskCreate one_job), Created 1)
    ∷ (asks 0 (CriticalStart name_a), Finished)
    ∷ (asks 0 (Taskwait []), RunTask 1 7 70 false)
    ∷ (asks 0 (CriticalStart name_a), Refused AlreadyHeld)
    ∷ (asks 0 (CriticalEnd name_a), Refused NotHolder)
    ∷ (asks 0 (CriticalStart name_b), Finished)
    ∷ (asks 0 TaskEnd, Refused HoldsCritical)
    ∷ (asks 0 (CriticalEnd name_b), Finished)
    ∷ (asks 0 TaskEnd, TaskDone 1 true)
    ∷ (asks 0 Resume, Passed)
    ∷ (asks 0 RegionEnd, Refused HoldsCritical)
    ∷ (asks 0 (CriticalEnd name_a), Finished)
    ∷ (asks 0 GroupEnd, Passed)
    ∷ (asks 0 RegionEnd, Passed)
    ∷ []

-- Locks of tasks

-- a lock that a task has set, and one that the implicit task has, are waited for by another task of the same member
abbrev pub locks_of_tasks : Run
locks_of_tasks =
    (asks 0 LockInit, LockMade 0)
    ∷ (asks 0 NestInit, LockMade 1)
    ∷ (asks 0 (SetNest 1), Count 1)
    ∷ (asks 0 (TaskCreate one_job), Created 1)
    ∷ (asks 0 (Taskwait []), RunTask 1 7 70 false)
    ∷ (asks 0 (TestNest 1), Count 0)
    ∷ (asks 0 (UnsetNest 1), Refused NotHolder)
    ∷ (asks 0 (Set 0), Finished)
    ∷ (asks 0 (Set 0), Refused AlreadyHeld)
    ∷ (asks 0 (TaskCreate other_job), Created 2)
    ∷ (asks 0 (Taskwait []), RunTask 2 8 80 false)
    ∷ (asks 0 (TestLock 0), Got false)
    ∷ (asks 0 (Unset 0), Refused NotHolder)
    ∷ (asks 0 (Set 0), Wait)
    ∷ (asks 0 TaskEnd, Refused Waiting)
    ∷ (asks 0 Resume, Wait)
    ∷ (asks 0 Stop, Stopped)
    ∷ []

-- a lock outlives the task that has set it, and is nobody's to unset then
abbrev pub lock_of_an_ended_task : Run
lock_of_an_ended_task =
    (asks 0 LockInit, LockMade 0)
    ∷ (asks 0 (TaskCreate one_job), Created 1)
    ∷ (asks 0 (Taskwait []), RunTask 1 7 70 false)
    ∷ (asks 0 (Set 0), Finished)
    ∷ (asks 0 TaskEnd, TaskDone 1 true)
    ∷ (asks 0 Resume, Passed)
    ∷ (asks 0 (Unset 0), Refused NotHolder)
    ∷ (asks 0 (LockDestroy 0), Refused AlreadyHeld)
    ∷ (asks 0 (Set 0), Wait)
    ∷ []

-- Room

-- a team of this size with the standard limits, but for so many events
abbrev pub with_events : ℕ → ℕ → Terms
with_events members events = record {
  members = members;
  limits = record { shares = standard.shares; tasks = standard.tasks; events = events };
  cancellation = false;
}

-- a member alone, which may create one task, and has room for it and for the region's end
abbrev pub one_task : Terms
one_task = record {
  members = 1;
  limits = record { shares = standard.shares; tasks = 1; events = 6 };
  cancellation = false;
}

-- it does so
abbrev pub room_for_one_task : Run
room_for_one_task =
    (asks 0 (TaskCreate one_job), Created 1)
    ∷ (asks 0 (TaskCreate other_job), Refused TooManyTasks)
    ∷ (asks 0 Barrier, Refused TraceFull)
    ∷ (asks 0 RegionEnd, RunTask 1 7 70 false)
    ∷ (asks 0 TaskEnd, TaskDone 1 true)
    ∷ (asks 0 Resume, Passed)
    ∷ []

-- a member alone, with less room than the region's end takes: all that asks for room is refused, and all else goes on
abbrev pub room_for_none : Run
room_for_none =
    (asks 0 (TaskCreate one_job), Refused TraceFull)
    ∷ (asks 0 GroupStart, Refused TraceFull)
    ∷ (asks 0 Barrier, Refused TraceFull)
    ∷ (asks 0 ten_by_three, Refused TraceFull)
    ∷ (asks 0 (SectionsStart 1 WaitEnd), Refused TraceFull)
    ∷ (asks 0 SingleCopyStart, Refused TraceFull)
    ∷ (asks 0 one_nowait, Chunk (pos 0) 1)
    ∷ (asks 0 (TaskCreate one_job), Refused TraceFull)
    ∷ (asks 0 LoopNext, NoChunk)
    ∷ (asks 0 (Taskwait []), Passed)
    ∷ (asks 0 LockInit, Refused NoMemory)
    ∷ (asks 0 LockInit, LockMade 0)
    ∷ (asks 0 Stop, Stopped)
    ∷ []

-- a construct that differs is refused for that, though there is no room for it
abbrev pub no_room_for_another : Run
no_room_for_another = (asks 0 SingleStart, Executor true) ∷ (asks 1 ten_by_three, Refused Mismatch) ∷ []
