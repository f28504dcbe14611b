-- What each operation is answered: an answer that is right, and wrong ones that the definitions refuse.
use Rattle.std.proofs.Common.{true, false, List, [], ◌∷◌, ◌++◌, rules}
use Rattle.gomp_types.specs.declared.depend.DepKind.TheVariants.{DepIn, DepOut}
use Rattle.gomp_types.specs.declared.task.Task.TheVariants.{Implicit}
use Rattle.gomp_types.specs.declared.refusal.Place.TheVariants.{Share, Stopped as AtStop}
use Rattle.gomp_types.specs.declared.refusal.Refusal.TheVariants.{Ended, Waiting, InsideTask, NotInTask, GroupOpen, Mismatch, TraceFull, NoMemory, NoGroup}
use Rattle.gomp_types.specs.declared.reply.Reply.TheVariants.{Copied, Finished, Passed, Wait, Created, Run, TaskDone, Stopped, Refused}
use Rattle.gomp_events.specs.declared.event.Arrival.TheVariants.{Barrier, ShareEnd, RegionEnd}
use Rattle.gomp_events.specs.declared.event.Event.{Event}
use Rattle.gomp_events.specs.declared.event.Event.TheVariants.{Create, Start, Group}
use Rattle.gomp_events.specs.TaskExamples.{item}
use Rattle.gomp_events.specs.EventLists.{at}
use Rattle.gomp_board.specs.declared.op.Op.TheVariants.{Create as CreateTask, AwaitOwn, EndTask, AwaitChildren, OpenGroup, EndGroup, AwaitGroup, Arrive as ArriveAt, AwaitBarrier, Reserve, Put as PutWords, Got as GiveWords, Break as BreakAt}
use Rattle.gomp_board.specs.Ops.{OpAnswer}
use Rattle.gomp_board.specs.Examples.{seven, eight, one_ready, one_runs, one_done, other_runs, group_ready, group_done, first_waits, both_wait, second_ends, usual_limits, words, Allows, Excludes, ExcludesEach}

-- Tasks

-- member 0 has created a task, and then one that is undeferred
abbrev one_undeferred : List Event
one_undeferred = Create 2 0 (Implicit 0) (record eight { undeferred = true }) ∷ one_ready

-- the same, but the second waits for what the first writes
abbrev one_held : List Event
one_held = Create 2 0 (Implicit 0) (record eight { undeferred = true; deps = item DepIn 5 ∷ [] }) ∷ Create 1 0 (Implicit 0) (record seven { deps = item DepOut 5 ∷ [] }) ∷ []

-- a new task has the next number
pub creation_answer : Allows (CreateTask seven) one_done (Created 2)
creation_answer = search rules

pub wrong_creation_answers : ExcludesEach (CreateTask seven) one_done (Created 1 ∷ Created 3 ∷ Finished ∷ Wait ∷ [])
wrong_creation_answers = search rules

-- the resume of a creation goes on with its task: that is run as the member's own once it may be, else another is, or the member waits
pub resumed_creation_answers : Allows AwaitOwn one_undeferred (Run 2 8 9 true) × Allows AwaitOwn one_held (Run 1 7 9 false) × Allows AwaitOwn (Start 1 1 ∷ one_held) Wait
resumed_creation_answers = search rules

pub wrong_resumed_creations :
    ExcludesEach AwaitOwn one_undeferred (Wait ∷ Run 2 8 9 false ∷ Run 1 7 9 false ∷ Created 2 ∷ Passed ∷ Refused NoMemory ∷ []) × ExcludesEach AwaitOwn one_held (Run 2 8 9 true ∷ Wait ∷ Passed ∷ [])
    × ExcludesEach AwaitOwn (Start 1 1 ∷ one_held) (Run 2 8 9 true ∷ Run 1 7 9 false ∷ [])
wrong_resumed_creations = search rules

-- the end of a task names it
pub task_end_answer : Allows (EndTask false) one_runs (TaskDone 1 true)
task_end_answer = search rules

pub wrong_task_end_answers : ExcludesEach (EndTask false) one_runs (TaskDone 2 true ∷ TaskDone 1 false ∷ Finished ∷ [])
wrong_task_end_answers = search rules

-- Taskwaits

-- passed if all children are complete
pub taskwait_passed : Allows (AwaitChildren []) one_done Passed
taskwait_passed = search rules

pub wrong_at_passed_taskwait : ExcludesEach (AwaitChildren []) one_done (Wait ∷ Run 1 7 9 false ∷ Finished ∷ [])
wrong_at_passed_taskwait = search rules

-- else a task that may be started is run
pub taskwait_runs : Allows (AwaitChildren []) one_ready (Run 1 7 9 false)
taskwait_runs = search rules

pub wrong_at_running_taskwait :
    ExcludesEach (AwaitChildren []) one_ready (Passed ∷ Wait ∷ Run 2 7 9 false ∷ Run 1 8 9 false ∷ Run 1 7 8 false ∷ Run 1 7 9 true ∷ [])
wrong_at_running_taskwait = search rules

-- or, if another member runs it, the member waits
pub taskwait_waits : Allows (AwaitChildren []) other_runs Wait
taskwait_waits = search rules

pub wrong_at_waiting_taskwait : ExcludesEach (AwaitChildren []) other_runs (Passed ∷ Run 1 7 9 false ∷ [])
wrong_at_waiting_taskwait = search rules

-- a task of another member does not count
pub taskwait_of_another : Allows (AwaitChildren []) (Create 1 1 (Implicit 1) seven ∷ []) Passed
taskwait_of_another = search rules

-- Groups

-- a group that is opened
pub group_answer : Allows OpenGroup one_runs Finished
group_answer = search rules

pub wrong_group_answers : ExcludesEach OpenGroup one_runs (Passed ∷ Wait ∷ [])
wrong_group_answers = search rules

-- its end is passed if all its tasks are complete
pub group_end_passed : Allows EndGroup group_done Passed
group_end_passed = search rules

pub wrong_at_passed_group : ExcludesEach EndGroup group_done (Wait ∷ Finished ∷ Run 1 7 9 false ∷ [])
wrong_at_passed_group = search rules

-- else a task is run
pub group_end_runs : Allows EndGroup group_ready (Run 1 7 9 false)
group_end_runs = search rules

pub wrong_at_running_group : ExcludesEach EndGroup group_ready (Passed ∷ Wait ∷ Run 1 7 9 true ∷ Run 1 9 7 false ∷ [])
wrong_at_running_group = search rules

-- or the member waits
pub group_end_waits : Allows EndGroup (Start 1 1 ∷ group_ready) Wait
group_end_waits = search rules

pub wrong_at_waiting_group : ExcludesEach EndGroup (Start 1 1 ∷ group_ready) (Passed ∷ Run 1 7 9 false ∷ [])
wrong_at_waiting_group = search rules

-- so is the wait there
pub group_wait_answers : Allows AwaitGroup group_done Passed × Allows AwaitGroup group_ready (Run 1 7 9 false) × Allows AwaitGroup (Start 1 1 ∷ group_ready) Wait
group_wait_answers = search rules

pub wrong_group_waits : ExcludesEach AwaitGroup group_done (Wait ∷ Finished ∷ []) × ExcludesEach AwaitGroup group_ready (Passed ∷ Wait ∷ []) × ExcludesEach AwaitGroup (Start 1 1 ∷ group_ready) (Passed ∷ Refused NoMemory ∷ [])
wrong_group_waits = search rules

-- with no group open it waits
pub no_group_waits : Allows AwaitGroup [] Wait × ExcludesEach AwaitGroup [] (Passed ∷ Refused NoGroup ∷ [])
no_group_waits = search rules

-- a task that was created before the group does not count
pub group_end_beside_a_task : Allows EndGroup (Group 0 0 ∷ one_ready) Passed
group_end_beside_a_task = search rules

-- Barriers

-- the last to arrive passes at once
pub last_arrival_passes : Allows (ArriveAt (at RegionEnd 0) false) second_ends Passed
last_arrival_passes = search rules

pub wrong_at_last_arrival : ExcludesEach (ArriveAt (at RegionEnd 0) false) second_ends (Wait ∷ Finished ∷ Run 1 7 9 false ∷ [])
wrong_at_last_arrival = search rules

-- the first one waits, and so does the last while a task of the barrier is not done
pub first_arrival_waits : Allows (ArriveAt (at Barrier 0) false) [] Wait
first_arrival_waits = search rules

pub wrong_at_first_arrival : ExcludesEach (ArriveAt (at Barrier 0) false) [] (Passed ∷ Finished ∷ [])
wrong_at_first_arrival = search rules

-- or runs a task
pub arrival_runs : Allows (ArriveAt (at Barrier 0) false) one_ready (Run 1 7 9 false)
arrival_runs = search rules

pub wrong_at_running_arrival : ExcludesEach (ArriveAt (at Barrier 0) false) one_ready (Passed ∷ Wait ∷ Run 1 7 9 true ∷ [])
wrong_at_running_arrival = search rules

-- at the wait once all have arrived, and no task is left
pub barrier_passed : Allows AwaitBarrier both_wait Passed
barrier_passed = search rules

pub wrong_at_passed_barrier : ExcludesEach AwaitBarrier both_wait (Wait ∷ Finished ∷ [])
wrong_at_passed_barrier = search rules

-- before that the member waits
pub barrier_waits : Allows AwaitBarrier first_waits Wait
barrier_waits = search rules

pub wrong_at_waiting_barrier : ExcludesEach AwaitBarrier first_waits (Passed ∷ Finished ∷ [])
wrong_at_waiting_barrier = search rules

-- a barrier is not passed while a task that is bound to it runs
pub barrier_waits_for_tasks : Allows AwaitBarrier (both_wait ++ other_runs) Wait
barrier_waits_for_tasks = search rules

pub wrong_while_a_task_runs : ExcludesEach AwaitBarrier (both_wait ++ other_runs) (Passed ∷ Run 1 7 9 false ∷ [])
wrong_while_a_task_runs = search rules

-- Room, and breaks

pub reserve_answer : Allows (Reserve 2) [] Finished
reserve_answer = search rules

pub wrong_reserve_answers : ExcludesEach (Reserve 2) [] (Passed ∷ Wait ∷ [])
wrong_reserve_answers = search rules

-- words that are put, and words that are given
pub words_answer : Allows (PutWords 3 words) [] Finished × Allows (GiveWords 3 words) [] Finished
words_answer = search rules

pub wrong_put_answers : ExcludesEach (PutWords 3 words) [] (Passed ∷ Wait ∷ Copied words ∷ Refused InsideTask ∷ Refused TraceFull ∷ [])
wrong_put_answers = search rules

pub wrong_gift_answers : ExcludesEach (GiveWords 3 words) [] (Passed ∷ Wait ∷ Copied words ∷ Refused InsideTask ∷ Refused TraceFull ∷ [])
wrong_gift_answers = search rules

-- they are not put in a task; a member may be given some there
pub words_answer_in_tasks : Allows (PutWords 3 words) one_runs (Refused InsideTask) × Allows (GiveWords 3 words) one_runs Finished
words_answer_in_tasks = search rules

pub words_let_in_tasks : ExcludesEach (PutWords 3 words) one_runs (Finished ∷ Refused NoMemory ∷ []) × ExcludesEach (GiveWords 3 words) one_runs (Wait ∷ Refused InsideTask ∷ [])
words_let_in_tasks = search rules

pub stop_answer : Allows (BreakAt AtStop 0) first_waits Stopped
stop_answer = search rules

pub wrong_stop_answers : ExcludesEach (BreakAt AtStop 0) first_waits (Finished ∷ Refused Mismatch ∷ [])
wrong_stop_answers = search rules

-- Refusals

-- the one whose test holds, and nothing else
pub refusal_answer : Allows (EndTask false) one_ready (Refused NotInTask)
refusal_answer = search rules

pub wrong_refusals : ExcludesEach (EndTask false) one_ready (Refused GroupOpen ∷ Refused Waiting ∷ TaskDone 1 true ∷ [])
wrong_refusals = search rules

-- of two the one with the lesser number
pub lesser_refusal_answer : Allows (EndTask false) first_waits (Refused Waiting)
lesser_refusal_answer = search rules

pub greater_refusal_is_wrong : Excludes (EndTask false) first_waits (Refused NotInTask)
greater_refusal_is_wrong = search rules

-- none if no test holds
pub refusals_without_a_test : ExcludesEach (EndTask false) one_runs (Refused NotInTask ∷ Refused GroupOpen ∷ Refused Ended ∷ [])
refusals_without_a_test = search rules

-- a construct that differs
pub mismatch_answer : Allows (ArriveAt (at Barrier 0) false) second_ends (Refused Mismatch) × Allows (BreakAt (Share 2) 0) [] (Refused Mismatch)
mismatch_answer = search rules

pub differing_arrival_let_in : ExcludesEach (ArriveAt (at Barrier 0) false) second_ends (Wait ∷ Passed ∷ Refused TraceFull ∷ [])
differing_arrival_let_in = search rules

pub differing_share_let_in : Excludes (BreakAt (Share 2) 0) [] Stopped
differing_share_let_in = search rules

-- Want of memory

-- at operations that ask for room
pub no_memory_for_room :
    Allows (CreateTask seven) [] (Refused NoMemory) × Allows OpenGroup [] (Refused NoMemory) × Allows (ArriveAt (at Barrier 0) false) [] (Refused NoMemory) × Allows (Reserve 1) [] (Refused NoMemory)
    × Allows (ArriveAt (at ShareEnd 0) false) [] (Refused NoMemory) × Allows (PutWords 3 words) [] (Refused NoMemory) × Allows (GiveWords 3 words) [] (Refused NoMemory)
no_memory_for_room = search rules

-- at no other
pub no_memory_at_task_end : Excludes (EndTask false) one_runs (Refused NoMemory)
no_memory_at_task_end = search rules

pub no_memory_at_taskwait : Excludes (AwaitChildren []) one_ready (Refused NoMemory)
no_memory_at_taskwait = search rules

pub no_memory_at_group_end : Excludes EndGroup group_ready (Refused NoMemory)
no_memory_at_group_end = search rules

pub no_memory_at_region_end : Excludes (ArriveAt (at RegionEnd 0) false) [] (Refused NoMemory)
no_memory_at_region_end = search rules

pub no_memory_at_barrier : Excludes AwaitBarrier first_waits (Refused NoMemory)
no_memory_at_barrier = search rules

pub no_memory_for_no_room : Excludes (Reserve 0) [] (Refused NoMemory)
no_memory_for_no_room = search rules

pub no_memory_at_stop : Excludes (BreakAt AtStop 0) [] (Refused NoMemory)
no_memory_at_stop = search rules

-- not at the end of a share whose room was kept
pub no_memory_with_room_kept : OpAnswer usual_limits 5 2 2 0 (ArriveAt (at ShareEnd 0) false) [] (Refused NoMemory) → ⊥
no_memory_with_room_kept = search rules

-- nor for words whose room was kept
pub no_memory_with_words_kept : (OpAnswer usual_limits 5 1 2 0 (PutWords 3 words) [] (Refused NoMemory) → ⊥) × (OpAnswer usual_limits 5 1 2 0 (GiveWords 3 words) [] (Refused NoMemory) → ⊥)
no_memory_with_words_kept = search rules

-- and not beside a test that holds
pub no_memory_beside_a_test : Excludes (CreateTask seven) first_waits (Refused NoMemory) × Excludes (ArriveAt (at Barrier 0) false) second_ends (Refused NoMemory)
no_memory_beside_a_test = search rules
