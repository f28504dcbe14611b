-- What the rows of the calls on tasks and groups say, and what the row of every call says of tasks, groups and room.
use Rattle.std.proofs.Common.{ℕ, ◌≡◌, true, false, List, [], ◌∷◌, Some, None, refl}
use Rattle.std.specs.Prelude.{Option, pos, map, take, ◌++◌}
use Rattle.gomp_types.specs.declared.call.Call.{Call}
use Rattle.gomp_types.specs.declared.call.Call.TheVariants.{SectionsStart, TaskCreate, TaskEnd, Taskwait, GroupStart, GroupEnd}
use Rattle.gomp_types.specs.declared.task.Task.TheVariants.{Implicit, Explicit}
use Rattle.gomp_types.specs.declared.task.TaskDesc.{TaskDesc}
use Rattle.gomp_types.specs.declared.loop_desc.EndKind.TheVariants.{Wait as WaitEnd, Nowait}
use Rattle.gomp_types.specs.declared.reply.Reply.{Reply}
use Rattle.gomp_types.specs.declared.reply.Reply.TheVariants.{Chunk, NoChunk, Section, Executor, Copied, Finished, Passed, Wait, Created, Run as RunTask, TaskDone, Stopped}
use Rattle.gomp_events.specs.declared.event.Event.{Event}
use Rattle.gomp_events.specs.declared.event.Event.TheVariants.{Create, Start, Done, Group, GroupEnd as GroupEnded, Waited}
use Rattle.gomp_types.specs.Singles.{single_shape}
use Rattle.gomp_events.specs.TaskExamples.{one_job, other_job, nested_groups}
use Rattle.gomp_model.specs.Starts.{end_room, share_words_room, share_room}
use Rattle.gomp_model.specs.Calls.{row_of}
use Rattle.gomp_model.specs.Examples.{lock_answers, past_with, one_nowait}
use Rattle.gomp_model.proofs.RowExamples.{starts, nexts, ends, arrivals, in_team, in_book, others, flags, keys, kinds, in_the_second, three_locks, takers}

-- the calls on tasks and groups
abbrev pub on_tasks : List Call
on_tasks = TaskCreate one_job ∷ TaskEnd ∷ Taskwait [] ∷ GroupStart ∷ GroupEnd ∷ []

-- and all others
abbrev pub on_no_tasks : List Call
on_no_tasks = in_team ++ in_book ++ others

-- Flags

-- the creation of a task and the start of a group may find no memory
pub memory_of_tasks : takers [] on_tasks ≡ true ∷ false ∷ false ∷ true ∷ false ∷ []
memory_of_tasks = refl

-- none of them stays in its place, puts words, holds a name or a lock, arrives at a barrier or starts a share
pub flags_of_tasks :
    (flags (λ row. row.stays) on_tasks ≡ map (λ call. false) on_tasks) × (flags (λ row. row.puts) on_tasks ≡ map (λ call. false) on_tasks)
    × (keys on_tasks ≡ map (λ call. None) on_tasks)
    × (kinds on_tasks ≡ map (λ call. None) on_tasks) × (map (λ call. (row_of call).starts) on_tasks ≡ map (λ call. None) on_tasks)
flags_of_tasks = (refl, refl, refl, refl, refl)

-- which task these calls create
abbrev pub creations : List Call → List (Option TaskDesc)
creations calls = map (λ call. (row_of call).creates) calls

-- the creation names the task that was asked for, and no other call creates one
pub creations_of_tasks :
    (creations on_tasks ≡ Some one_job ∷ None ∷ None ∷ None ∷ None ∷ []) × (creations (TaskCreate other_job ∷ []) ≡ Some other_job ∷ [])
    × (creations on_no_tasks ≡ map (λ call. None) on_no_tasks)
creations_of_tasks = (refl, refl, refl)

-- Room

-- for how many events these calls ask room
abbrev pub rooms : List Call → List ℕ
rooms calls = map (λ call. (row_of call).room) calls

-- a start asks for the arrival and the pass at its share's end, if that has a barrier, and for the words that its member puts or is given
pub rooms_of_starts : (rooms starts ≡ 2 ∷ 2 ∷ 0 ∷ 1 ∷ []) × (rooms (one_nowait ∷ SectionsStart 3 Nowait ∷ []) ≡ 0 ∷ 0 ∷ [])
rooms_of_starts = (refl, refl)

-- so a share with both would ask for both
pub room_of_a_share :
    (end_room WaitEnd ≡ 2) × (end_room Nowait ≡ 0) × (share_words_room true ≡ 1) × (share_words_room false ≡ 0)
    × (share_room (record (single_shape true) { end_kind = WaitEnd }) ≡ 3)
room_of_a_share = (refl, refl, refl, refl, refl)

-- an end has its room by the start, and the region's end by the team's making; a barrier asks for its own
pub rooms_of_arrivals : rooms arrivals ≡ 0 ∷ 0 ∷ 2 ∷ 0 ∷ []
rooms_of_arrivals = refl

-- a task is created, started and ended, a group is opened and ended
pub rooms_of_tasks : rooms on_tasks ≡ 3 ∷ 0 ∷ 0 ∷ 2 ∷ 0 ∷ []
rooms_of_tasks = refl

-- no other call asks for room
pub rooms_of_others : rooms (nexts ++ ends ++ in_book ++ others) ≡ map (λ call. 0) (nexts ++ ends ++ in_book ++ others)
rooms_of_others = refl

-- Events that a call gives whatever it is answered

-- a task is created
pub begun_by_tasks :
    map (λ call. (row_of call).begins 0 (past_with 1 in_the_second)) on_tasks ≡ (Create 1 0 (Implicit 0) one_job ∷ []) ∷ [] ∷ [] ∷ [] ∷ [] ∷ []
begun_by_tasks = refl

-- it has the next number, and is created in the task that its member executes
pub created_in_groups :
    ((row_of (TaskCreate other_job)).begins 0 (past_with 2 nested_groups) ≡ Create 5 0 (Explicit 2) other_job ∷ [])
    × ((row_of (TaskCreate other_job)).begins 1 (past_with 2 nested_groups) ≡ Create 5 1 (Implicit 1) other_job ∷ [])
created_in_groups = (refl, refl)

-- Events that a reply gives

-- those of this call by this member among groups, for each of these replies
abbrev given : ℕ → Call → List Reply → List Event
given m call [] = []
given m call (reply ∷ replies) = (row_of call).gives m (past_with 2 nested_groups) reply ++ given m call replies

-- the end of a task, of whichever it is; what was waited for, or run; the next group, and the end of the task's last one
pub given_by_tasks :
    (given 0 TaskEnd (TaskDone 2 true ∷ TaskDone 3 false ∷ []) ≡ Done 2 0 ∷ Done 3 0 ∷ [])
    × (given 0 (Taskwait []) (Passed ∷ RunTask 3 8 80 false ∷ []) ≡ Waited 0 [] ∷ Start 3 0 ∷ []) × (given 1 (Taskwait []) (Passed ∷ RunTask 4 7 70 false ∷ []) ≡ Waited 1 [] ∷ Start 4 1 ∷ [])
    × (given 0 GroupStart (Finished ∷ []) ≡ Group 4 0 ∷ []) × (given 1 GroupStart (Finished ∷ []) ≡ Group 4 1 ∷ [])
    × (given 0 GroupEnd (Passed ∷ RunTask 3 8 80 false ∷ []) ≡ GroupEnded 2 0 ∷ Start 3 0 ∷ []) × (given 1 GroupEnd (Passed ∷ []) ≡ GroupEnded 3 1 ∷ [])
given_by_tasks = (refl, refl, refl, refl, refl, refl, refl)

-- the end of a group is that of the last one that is open: of two the second, and once that has ended the first
pub given_by_nested_groups :
    ((row_of GroupEnd).gives 0 (past_with 2 (take 4 nested_groups)) Passed ≡ GroupEnded 1 0 ∷ [])
    × ((row_of GroupEnd).gives 0 (past_with 2 (take 4 nested_groups ++ GroupEnded 1 0 ∷ [])) Passed ≡ GroupEnded 0 0 ∷ [])
    × ((row_of GroupEnd).gives 0 (past_with 2 []) Passed ≡ [])
given_by_nested_groups = (refl, refl, refl)

-- answers that end, pass and finish nothing, and run no task
abbrev no_end : List Reply
no_end = Chunk (pos 0) 1 ∷ NoChunk ∷ Section 0 ∷ Section 1 ∷ Executor true ∷ Executor false ∷ Copied [] ∷ Wait ∷ Stopped ∷ Created 5 ∷ lock_answers

-- a creation gives beside what it has begun with the start of the task that is run, its own or another, and nothing else
pub given_by_creations :
    (given 0 (TaskCreate one_job) (RunTask 3 8 80 true ∷ RunTask 4 7 70 false ∷ []) ≡ Start 3 0 ∷ Start 4 0 ∷ [])
    × (given 1 (TaskCreate one_job) (RunTask 3 8 80 true ∷ []) ≡ Start 3 1 ∷ []) × (given 0 (TaskCreate one_job) (Finished ∷ Passed ∷ TaskDone 2 true ∷ no_end) ≡ [])
given_by_creations = (refl, refl, refl)

-- no call on a task gives anything at another call's answer
pub none_given_by_tasks :
    given 0 (TaskCreate one_job) (Finished ∷ Passed ∷ TaskDone 2 true ∷ no_end) ++ given 0 TaskEnd (Finished ∷ Passed ∷ RunTask 3 8 80 false ∷ no_end)
    ++ given 0 (Taskwait []) (Finished ∷ TaskDone 2 true ∷ no_end) ++ given 0 GroupStart (Passed ∷ RunTask 3 8 80 false ∷ TaskDone 2 true ∷ no_end)
    ++ given 0 GroupEnd (Finished ∷ TaskDone 2 true ∷ no_end) ≡ []
none_given_by_tasks = refl

-- they leave the locks that there are
pub left_by_tasks : map (λ call. (row_of call).locks Finished three_locks) on_tasks ≡ map (λ call. three_locks) on_tasks
left_by_tasks = refl
