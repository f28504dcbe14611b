-- Worked runs of cancellation. OpenMP API 5.2, chapter 16. (own)
use Rattle.std.specs.Prelude.{ℕ, pos, true, false, [], ◌∷◌, ◌++◌}
use Rattle.gomp_types.specs.declared.call.Call.{Call}
use Rattle.gomp_types.specs.declared.call.Call.TheVariants.{LoopNext, LoopEnd, LoopEndNowait, LoopEndCancel, SectionsStart, SectionsNext, SectionsEndCancel, SingleCopyStart, SingleCopyEnd, OrderedStart, Barrier, RegionEnd, CriticalStart, CriticalEnd, LockInit, Set, Unset, TaskEnd, Taskwait, GroupStart, GroupEnd, Cancel, Point, Resume, Stop}
use Rattle.gomp_types.specs.declared.cancel.CancelKind.TheVariants.{Parallel, Loop, Sections, Taskgroup}
use Rattle.gomp_types.specs.declared.depend.DepKind.TheVariants.{DepIn, DepOut}
use Rattle.gomp_types.specs.declared.loop_desc.EndKind.TheVariants.{Wait as WaitEnd, Cancellable}
use Rattle.gomp_types.specs.declared.refusal.Refusal.TheVariants.{Leaving, InsideTask, NotInTask, OutsideShare, HoldsCritical, NotDrained, NotCancellable, NoGroup, GroupOpen, TraceFull}
use Rattle.gomp_types.specs.declared.reply.Reply.TheVariants.{Chunk, NoChunk, Section, Executor, Finished, Passed, Cancelled, Wait, Created, Run as RunTask, TaskDone, Dropped, Lock as LockMade, Cancelling, Stopped, Refused}
use Rattle.gomp_types.specs.Limits.{standard}
use Rattle.gomp_model.specs.Past.{Terms}
use Rattle.gomp_model.specs.Examples.{Run, asks, dynamic_loop, one_nowait, eight_ahead}
use Rattle.gomp_model.specs.ShareExamples.{two_ordered}
use Rattle.gomp_model.specs.TaskRuns.{creates_task}
use Rattle.gomp_model.specs.DependRuns.{creates_with, creates_at_once, one_item}
use Rattle.gomp_model.specs.HoldExamples.{name_a}

-- a team of this size that allows cancellation
abbrev pub cancellable_team : ℕ → Terms
cancellable_team members = record { members = members; limits = standard; cancellation = true }

-- one with room for so many events
abbrev pub cancellable_with : ℕ → ℕ → Terms
cancellable_with members events = record (cancellable_team members) { limits = record standard { events = events } }

-- a member asks for the cancellation of this by a true clause
abbrev pub cancels_parallel : Call
cancels_parallel = Cancel Parallel true

-- The region

-- a member cancels the region while another executes a task: the task that nobody has started is discarded, the running one goes on, and the region's end waits for it and for both members
abbrev pub region_cancelled : Run
region_cancelled =
    (asks 0 (creates_task 1 0), Created 1)
    ∷ (asks 1 Barrier, RunTask 1 1 0 false)
    ∷ (asks 0 (creates_task 2 0), Created 2)
    ∷ (asks 0 cancels_parallel, Cancelling true)
    ∷ (asks 0 (creates_task 3 0), Refused Leaving)
    ∷ (asks 0 RegionEnd, Wait)
    ∷ (asks 1 (creates_task 9 0), Dropped)
    ∷ (asks 1 TaskEnd, TaskDone 1 true)
    ∷ (asks 1 Resume, Cancelled)
    ∷ (asks 0 Resume, Wait)
    ∷ (asks 1 RegionEnd, Passed)
    ∷ (asks 0 Resume, Passed)
    ∷ []

-- if the control variable allows no cancellation, nothing is cancelled
abbrev pub nothing_cancelled : Run
nothing_cancelled =
    (asks 0 (creates_task 1 0), Created 1)
    ∷ (asks 1 Barrier, RunTask 1 1 0 false)
    ∷ (asks 0 (creates_task 2 0), Created 2)
    ∷ (asks 0 cancels_parallel, Cancelling false)
    ∷ (asks 0 (Point Parallel), Cancelling false)
    ∷ (asks 0 (creates_task 3 0), Created 3)
    ∷ []

-- a false clause cancels nothing; a member that waits at a barrier hears of a cancellation when it asks again, and leaves the region
abbrev pub barrier_cut_short : Run
barrier_cut_short =
    (asks 0 Barrier, Wait)
    ∷ (asks 1 (Cancel Parallel false), Cancelling false)
    ∷ (asks 1 cancels_parallel, Cancelling true)
    ∷ (asks 0 Resume, Cancelled)
    ∷ (asks 0 Barrier, Refused Leaving)
    ∷ (asks 1 RegionEnd, Wait)
    ∷ (asks 0 RegionEnd, Passed)
    ∷ (asks 1 Resume, Passed)
    ∷ []

-- so it does if all had arrived, and one has passed
abbrev pub met_barrier_cut_short : Run
met_barrier_cut_short =
    (asks 0 Barrier, Wait)
    ∷ (asks 1 Barrier, Passed)
    ∷ (asks 1 cancels_parallel, Cancelling true)
    ∷ (asks 0 Resume, Cancelled)
    ∷ (asks 0 RegionEnd, Wait)
    ∷ (asks 1 RegionEnd, Passed)
    ∷ (asks 0 Resume, Passed)
    ∷ []

-- a member that has not seen the cancellation is answered so at its next barrier, and at the end of a loop, which it leaves by it; a start that need not wait is answered as always
abbrev pub ends_cut_short : Run
ends_cut_short =
    (asks 1 cancels_parallel, Cancelling true)
    ∷ (asks 0 one_nowait, Chunk (pos 0) 1)
    ∷ (asks 0 LoopEndNowait, Refused NotDrained)
    ∷ (asks 0 LoopNext, NoChunk)
    ∷ (asks 0 LoopEndNowait, Finished)
    ∷ (asks 0 (dynamic_loop (pos 1) (pos 0) (pos 1) WaitEnd), Chunk (pos 0) 1)
    ∷ (asks 0 LoopEnd, Refused NotDrained)
    ∷ (asks 0 LoopNext, NoChunk)
    ∷ (asks 0 LoopEnd, Cancelled)
    ∷ (asks 0 LoopEnd, Refused Leaving)
    ∷ (asks 0 Barrier, Refused Leaving)
    ∷ (asks 0 RegionEnd, Wait)
    ∷ (asks 1 RegionEnd, Passed)
    ∷ []

-- a start that would have to wait for room, and a turn that is not yet the member's
abbrev pub start_cut_short : Run
start_cut_short =
    eight_ahead
    ++ (asks 0 one_nowait, Wait)
    ∷ (asks 1 cancels_parallel, Cancelling true)
    ∷ (asks 0 Resume, Cancelled)
    ∷ (asks 0 one_nowait, Refused Leaving)
    ∷ []

abbrev pub turns_cut_short : Run
turns_cut_short =
    (asks 0 two_ordered, Chunk (pos 0) 1)
    ∷ (asks 1 two_ordered, Chunk (pos 1) 1)
    ∷ (asks 1 (OrderedStart (pos 1)), Wait)
    ∷ (asks 0 cancels_parallel, Cancelling true)
    ∷ (asks 1 Resume, Cancelled)
    ∷ (asks 1 RegionEnd, Wait)
    ∷ (asks 0 RegionEnd, Passed)
    ∷ (asks 1 Resume, Passed)
    ∷ []

-- the next piece of an ordered loop, and the words of a single
abbrev pub next_cut_short : Run
next_cut_short =
    (asks 0 two_ordered, Chunk (pos 0) 1)
    ∷ (asks 1 two_ordered, Chunk (pos 1) 1)
    ∷ (asks 0 cancels_parallel, Cancelling true)
    ∷ (asks 1 LoopNext, Cancelled)
    ∷ []

abbrev pub words_cut_short : Run
words_cut_short =
    (asks 0 SingleCopyStart, Executor true)
    ∷ (asks 1 SingleCopyStart, Wait)
    ∷ (asks 0 cancels_parallel, Cancelling true)
    ∷ (asks 0 (SingleCopyEnd (7 ∷ [])), Refused Leaving)
    ∷ (asks 1 Resume, Cancelled)
    ∷ []

-- a member that leaves frees what it holds, and gives up its loop, its ordered part and its group
abbrev pub leaves_all : Run
leaves_all =
    (asks 0 two_ordered, Chunk (pos 0) 1)
    ∷ (asks 0 (OrderedStart (pos 0)), Finished)
    ∷ (asks 0 GroupStart, Finished)
    ∷ (asks 0 (CriticalStart name_a), Finished)
    ∷ (asks 0 LockInit, LockMade 0)
    ∷ (asks 0 (Set 0), Finished)
    ∷ (asks 0 cancels_parallel, Cancelling true)
    ∷ (asks 0 RegionEnd, Refused HoldsCritical)
    ∷ (asks 0 (Taskwait []), Refused Leaving)
    ∷ (asks 0 GroupEnd, Refused Leaving)
    ∷ (asks 0 (Set 0), Refused Leaving)
    ∷ (asks 0 (CriticalEnd name_a), Finished)
    ∷ (asks 0 (Unset 0), Finished)
    ∷ (asks 0 RegionEnd, Passed)
    ∷ []

-- and it may stop the team
abbrev pub stopped_leaving : Run
stopped_leaving = (asks 0 cancels_parallel, Cancelling true) ∷ (asks 0 Stop, Stopped) ∷ []

-- Loops and sections

-- a member cancels a loop, and leaves it; the other is handed pieces until it sees that
abbrev pub loop_cancelled : Run
loop_cancelled =
    (asks 0 (dynamic_loop (pos 1) (pos 0) (pos 10) Cancellable), Chunk (pos 0) 1)
    ∷ (asks 1 (dynamic_loop (pos 1) (pos 0) (pos 10) Cancellable), Chunk (pos 1) 1)
    ∷ (asks 0 (Cancel Loop true), Cancelling true)
    ∷ (asks 0 LoopNext, Refused Leaving)
    ∷ (asks 0 LoopEndCancel, Wait)
    ∷ (asks 1 LoopNext, Chunk (pos 2) 1)
    ∷ (asks 1 (Point Loop), Cancelling true)
    ∷ (asks 1 LoopEndCancel, Passed)
    ∷ (asks 0 Resume, Passed)
    ∷ []

-- one that has not seen it may end the loop, too; any other end is refused to one that has, and so is all else
abbrev pub loop_left_unseen : Run
loop_left_unseen =
    (asks 0 (dynamic_loop (pos 1) (pos 0) (pos 10) Cancellable), Chunk (pos 0) 1)
    ∷ (asks 1 (dynamic_loop (pos 1) (pos 0) (pos 10) Cancellable), Chunk (pos 1) 1)
    ∷ (asks 1 LoopEndCancel, Refused NotDrained)
    ∷ (asks 0 (Cancel Loop true), Cancelling true)
    ∷ (asks 0 LoopEnd, Refused Leaving)
    ∷ (asks 0 LoopEndNowait, Refused Leaving)
    ∷ (asks 0 SectionsEndCancel, Refused Leaving)
    ∷ (asks 0 (Cancel Loop true), Refused Leaving)
    ∷ (asks 1 LoopEndCancel, Wait)
    ∷ (asks 0 LoopEndCancel, Passed)
    ∷ (asks 0 Barrier, Wait)
    ∷ (asks 1 Resume, Passed)
    ∷ (asks 1 Barrier, Passed)
    ∷ []

-- a member alone cancels its sections
abbrev pub sections_cancelled : Run
sections_cancelled =
    (asks 0 (SectionsStart 2 Cancellable), Section 1)
    ∷ (asks 0 (Cancel Sections true), Cancelling true)
    ∷ (asks 0 SectionsNext, Refused Leaving)
    ∷ (asks 0 SectionsEndCancel, Passed)
    ∷ []

-- a share that cannot be cancelled, and a construct that names another
abbrev pub cancels_nothing : Run
cancels_nothing =
    (asks 0 (Cancel Loop true), Refused OutsideShare)
    ∷ (asks 0 (Cancel Taskgroup true), Refused NotInTask)
    ∷ (asks 0 (dynamic_loop (pos 1) (pos 0) (pos 1) WaitEnd), Chunk (pos 0) 1)
    ∷ (asks 0 (Cancel Loop true), Refused NotCancellable)
    ∷ (asks 0 (Point Loop), Refused NotCancellable)
    ∷ (asks 0 (Cancel Sections true), Refused OutsideShare)
    ∷ (asks 0 (creates_at_once 1 []), RunTask 1 1 0 true)
    ∷ (asks 0 cancels_parallel, Refused InsideTask)
    ∷ (asks 0 (Point Loop), Refused InsideTask)
    ∷ (asks 0 (Cancel Taskgroup true), Refused NoGroup)
    ∷ []

-- in a cancelled region a loop is not cancelled; who leaves a cancelled one is answered that the region is
abbrev pub loop_in_a_cancelled_region : Run
loop_in_a_cancelled_region =
    (asks 0 (dynamic_loop (pos 1) (pos 0) (pos 10) Cancellable), Chunk (pos 0) 1)
    ∷ (asks 1 cancels_parallel, Cancelling true)
    ∷ (asks 0 (Point Loop), Cancelling false)
    ∷ (asks 0 LoopEndCancel, Refused NotDrained)
    ∷ (asks 0 (Cancel Loop true), Cancelling true)
    ∷ (asks 0 (Point Parallel), Refused Leaving)
    ∷ (asks 0 LoopEndCancel, Cancelled)
    ∷ (asks 0 RegionEnd, Wait)
    ∷ []

-- Groups

-- a task cancels its group, in which another is: the task that nobody has started is discarded, those that run go on, and what a task of the group creates is dropped; so one that names a discarded task need not wait for it
abbrev pub group_cancelled : Run
group_cancelled =
    (asks 0 GroupStart, Finished)
    ∷ (asks 0 (creates_task 1 0), Created 1)
    ∷ (asks 1 Barrier, RunTask 1 1 0 false)
    ∷ (asks 0 (creates_task 3 0), Created 2)
    ∷ (asks 0 GroupEnd, RunTask 2 3 0 false)
    ∷ (asks 1 GroupStart, Finished)
    ∷ (asks 1 (creates_with 4 (one_item DepOut 100)), Created 3)
    ∷ (asks 0 (Cancel Taskgroup true), Cancelling true)
    ∷ (asks 1 GroupEnd, Passed)
    ∷ (asks 1 (Point Taskgroup), Cancelling true)
    ∷ (asks 0 TaskEnd, TaskDone 2 true)
    ∷ (asks 0 Resume, Wait)
    ∷ (asks 1 TaskEnd, TaskDone 1 true)
    ∷ (asks 0 Resume, Passed)
    ∷ (asks 0 (creates_with 6 (one_item DepIn 100)), Created 4)
    ∷ (asks 0 Barrier, RunTask 4 6 0 false)
    ∷ []

-- a task cancels the innermost group around it, while it has none open, and then does nothing but end; the tasks outside of that group go on
abbrev pub task_left : Run
task_left =
    (asks 0 GroupStart, Finished)
    ∷ (asks 0 (creates_task 1 0), Created 1)
    ∷ (asks 0 GroupEnd, RunTask 1 1 0 false)
    ∷ (asks 0 GroupStart, Finished)
    ∷ (asks 0 (Cancel Taskgroup true), Refused GroupOpen)
    ∷ (asks 0 (creates_task 2 0), Created 2)
    ∷ (asks 0 (Taskwait []), RunTask 2 2 0 false)
    ∷ (asks 0 (Cancel Taskgroup true), Cancelling true)
    ∷ (asks 0 (creates_task 3 0), Refused Leaving)
    ∷ (asks 0 RegionEnd, Refused Leaving)
    ∷ (asks 0 TaskEnd, TaskDone 2 true)
    ∷ (asks 0 Resume, Passed)
    ∷ (asks 0 (creates_task 4 0), Dropped)
    ∷ []

-- a task whose region is cancelled is told so at a cancellation point; the wait beneath it is met as always, and the next barrier is cut short
abbrev pub task_of_a_cancelled_region : Run
task_of_a_cancelled_region =
    (asks 1 GroupStart, Finished)
    ∷ (asks 1 (creates_task 1 0), Created 1)
    ∷ (asks 1 GroupEnd, RunTask 1 1 0 false)
    ∷ (asks 0 cancels_parallel, Cancelling true)
    ∷ (asks 1 (Point Taskgroup), Cancelling true)
    ∷ (asks 1 GroupStart, Refused Leaving)
    ∷ (asks 1 TaskEnd, TaskDone 1 true)
    ∷ (asks 1 Resume, Passed)
    ∷ (asks 1 Barrier, Cancelled)
    ∷ []

-- Undeferred tasks

-- a creator that waits for its undeferred task is told that it was dropped, and goes on
abbrev pub waiting_creator : Run
waiting_creator =
    (asks 0 (creates_with 1 (one_item DepOut 100)), Created 1)
    ∷ (asks 1 Barrier, RunTask 1 1 0 false)
    ∷ (asks 0 (creates_at_once 2 (one_item DepIn 100)), Wait)
    ∷ (asks 2 cancels_parallel, Cancelling true)
    ∷ (asks 0 Resume, Dropped)
    ∷ (asks 0 (creates_task 3 0), Dropped)
    ∷ (asks 0 Barrier, Cancelled)
    ∷ []

-- Room

-- a cancellation asks for the room of an event, also if it cancels nothing, and keeps it only if it cancels; a task that is dropped asks for none
abbrev pub room_of_cancellations : Run
room_of_cancellations =
    (asks 0 (Cancel Parallel false), Cancelling false)
    ∷ (asks 0 cancels_parallel, Cancelling true)
    ∷ []

abbrev pub no_room_to_cancel : Run
no_room_to_cancel =
    (asks 0 (Point Parallel), Cancelling false)
    ∷ (asks 0 (Cancel Parallel false), Refused TraceFull)
    ∷ (asks 0 cancels_parallel, Refused TraceFull)
    ∷ []

abbrev pub dropped_without_room : Run
dropped_without_room = (asks 1 cancels_parallel, Cancelling true) ∷ (asks 0 (creates_task 1 0), Dropped) ∷ (asks 0 Barrier, Refused TraceFull) ∷ []
