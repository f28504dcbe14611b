-- The table of records, entry by entry: what each gives at each reply of its conditions, computed.
use Rattle.std.proofs.Common.{◌≡◌, ℕ, Bool, true, false, List, [], ◌∷◌, ◌-◌, ◌^◌, refl}
use Rattle.std.specs.Prelude.{pos, negsuc}
use Rattle.gomp_types.specs.declared.call.Call.{Call}
use Rattle.gomp_types.specs.declared.call.Call.TheVariants.{LoopStart, LoopNext, LoopEnd, LoopEndNowait, LoopEndCancel, SectionsStart, SectionsNext, SectionsEnd, SectionsEndNowait, SectionsEndCancel, SingleStart, SingleCopyStart, SingleCopyEnd, OrderedStart, OrderedEnd, Barrier, RegionEnd, CriticalStart, CriticalEnd, LockInit, NestInit, LockDestroy, Set, Test, Unset, SetNest, TestNest, UnsetNest, TaskCreate, TaskEnd, Taskwait, GroupStart, GroupEnd, Cancel, Point}
use Rattle.gomp_types.specs.declared.reply.Reply.TheVariants.{Chunk, NoChunk, Section, Executor, Copied, Finished, Passed, Cancelled, Wait, Created, Dropped, Cancelling, Run, TaskDone, Lock, Got, Count, Stopped, Refused}
use Rattle.gomp_types.specs.declared.refusal.Refusal.{Refusal}
use Rattle.gomp_types.specs.declared.cancel.CancelKind.TheVariants.{Parallel, Loop, Sections, Taskgroup}
use Rattle.gomp_types.specs.declared.loop_desc.LoopDesc.{LoopDesc}
use Rattle.gomp_types.specs.declared.loop_desc.EndKind.{EndKind}
use Rattle.gomp_types.specs.declared.depend.Dep.{Dep}
use Rattle.gomp_types.specs.declared.task.TaskDesc.{TaskDesc}
use Rattle.gomp_ompt.specs.declared.record.Point.TheVariants as points
use Rattle.gomp_ompt.specs.Records.{begin_record, end_record, single_record}
use Rattle.gomp_ompt.specs.Table.{records_of}

-- No record

pub refusal_has_no_record : (call : Call) (first : Bool) (refusal : Refusal) → records_of call first (Refused refusal) ≡ []
refusal_has_no_record call first refusal = refl

pub stop_has_no_record : (call : Call) (first : Bool) → records_of call first Stopped ≡ []
stop_has_no_record call first = refl

pub dropped_task_has_no_record : (call : Call) (first : Bool) → records_of call first Dropped ≡ []
dropped_task_has_no_record call first = refl

-- Loops and sections

pub loop_starts_with_chunk : (loop : LoopDesc) (first : Bool) → records_of (LoopStart loop) first (Chunk (pos 0) 3) ≡ begin_record points.Work 0 0 ∷ single_record points.Dispatch 0 3 ∷ []
loop_starts_with_chunk loop first = refl

-- a value below 0 is its bits
pub loop_starts_below_zero : (loop : LoopDesc) (first : Bool) → records_of (LoopStart loop) first (Chunk (negsuc 1) 5) ≡ begin_record points.Work 0 0 ∷ single_record points.Dispatch (2 ^ 64 - 2) 5 ∷ []
loop_starts_below_zero loop first = refl

pub loop_starts_without : (loop : LoopDesc) (first : Bool) → records_of (LoopStart loop) first NoChunk ≡ begin_record points.Work 0 0 ∷ []
loop_starts_without loop first = refl

-- a start that waits has not entered its share, nor one whose region is cancelled
pub loop_start_that_waits : (loop : LoopDesc) (first : Bool) → (records_of (LoopStart loop) first Wait ≡ []) × (records_of (LoopStart loop) first Cancelled ≡ [])
loop_start_that_waits loop first = (refl, refl)

pub sections_start_with_one : (count : ℕ) (end_kind : EndKind) (first : Bool) → records_of (SectionsStart count end_kind) first (Section 2) ≡ begin_record points.Work 0 0 ∷ single_record points.Dispatch 2 1 ∷ []
sections_start_with_one count end_kind first = refl

pub sections_start_without : (count : ℕ) (end_kind : EndKind) (first : Bool) → (records_of (SectionsStart count end_kind) first (Section 0) ≡ begin_record points.Work 0 0 ∷ []) × (records_of (SectionsStart count end_kind) first Wait ≡ [])
sections_start_without count end_kind first = (refl, refl)

pub next_chunk_is_dispatched : (first : Bool) → (records_of LoopNext first (Chunk (pos 7) 2) ≡ single_record points.Dispatch 7 2 ∷ []) × (records_of LoopNext first NoChunk ≡ []) × (records_of LoopNext first Wait ≡ [])
next_chunk_is_dispatched first = (refl, refl, refl)

pub next_section_is_dispatched : (first : Bool) → (records_of SectionsNext first (Section 3) ≡ single_record points.Dispatch 3 1 ∷ []) × (records_of SectionsNext first (Section 0) ≡ [])
next_section_is_dispatched first = (refl, refl)

pub end_without_barrier : (first : Bool) → (records_of LoopEndNowait first Finished ≡ end_record points.Work 0 0 ∷ []) × (records_of SectionsEndNowait first Finished ≡ end_record points.Work 0 0 ∷ [])
end_without_barrier first = (refl, refl)

-- an end with a barrier that is passed at once, one that waits, is given a task, and then passes
pub loop_end_that_passes : records_of LoopEnd true Passed ≡ end_record points.Work 0 0 ∷ begin_record points.SyncRegion 2 0 ∷ end_record points.SyncRegion 2 0 ∷ []
loop_end_that_passes = refl

pub loop_end_that_waits : (records_of LoopEnd true Wait ≡ end_record points.Work 0 0 ∷ begin_record points.SyncRegion 2 0 ∷ []) × (records_of LoopEnd false Wait ≡ []) × (records_of LoopEnd false (Run 2 7 5 false) ≡ begin_record points.TaskSchedule 2 0 ∷ []) × (records_of LoopEnd false Passed ≡ end_record points.SyncRegion 2 0 ∷ [])
loop_end_that_waits = (refl, refl, refl, refl)

pub loop_end_with_task : (own : Bool) → records_of LoopEnd true (Run 2 7 5 own) ≡ end_record points.Work 0 0 ∷ begin_record points.SyncRegion 2 0 ∷ begin_record points.TaskSchedule 2 0 ∷ []
loop_end_with_task own = refl

pub loop_end_that_leaves : (records_of LoopEnd true Cancelled ≡ end_record points.Work 0 0 ∷ begin_record points.SyncRegion 2 0 ∷ end_record points.SyncRegion 2 0 ∷ []) × (records_of LoopEnd false Cancelled ≡ end_record points.SyncRegion 2 0 ∷ [])
loop_end_that_leaves = (refl, refl)

pub other_share_ends : (records_of LoopEndCancel true Passed ≡ end_record points.Work 0 0 ∷ begin_record points.SyncRegion 2 0 ∷ end_record points.SyncRegion 2 0 ∷ []) × (records_of SectionsEnd true Passed ≡ end_record points.Work 0 0 ∷ begin_record points.SyncRegion 2 0 ∷ end_record points.SyncRegion 2 0 ∷ []) × (records_of SectionsEndCancel true Passed ≡ end_record points.Work 0 0 ∷ begin_record points.SyncRegion 2 0 ∷ end_record points.SyncRegion 2 0 ∷ [])
other_share_ends = (refl, refl, refl)

-- Singles

pub single_of_executor : (first : Bool) → records_of SingleStart first (Executor true) ≡ begin_record points.Work 1 1 ∷ end_record points.Work 1 1 ∷ []
single_of_executor first = refl

pub single_of_another : (first : Bool) → (records_of SingleStart first (Executor false) ≡ begin_record points.Work 1 0 ∷ end_record points.Work 1 0 ∷ []) × (records_of SingleStart first Wait ≡ [])
single_of_another first = (refl, refl)

pub copying_single_of_executor : (words : List ℕ) (first : Bool) → (records_of SingleCopyStart first (Executor true) ≡ begin_record points.Work 1 1 ∷ []) × (records_of (SingleCopyEnd words) first Finished ≡ end_record points.Work 1 1 ∷ [])
copying_single_of_executor words first = (refl, refl)

pub copying_single_of_another : (words : List ℕ) (first : Bool) → (records_of SingleCopyStart first (Copied words) ≡ begin_record points.Work 1 0 ∷ end_record points.Work 1 0 ∷ []) × (records_of SingleCopyStart first Wait ≡ [])
copying_single_of_another words first = (refl, refl)

-- Barriers, the region's end, taskwaits and groups

pub barrier_that_passes : records_of Barrier true Passed ≡ begin_record points.SyncRegion 1 0 ∷ end_record points.SyncRegion 1 0 ∷ []
barrier_that_passes = refl

pub barrier_that_waits : (records_of Barrier true Wait ≡ begin_record points.SyncRegion 1 0 ∷ []) × (records_of Barrier false Wait ≡ []) × (records_of Barrier false Passed ≡ end_record points.SyncRegion 1 0 ∷ []) × (records_of Barrier false Cancelled ≡ end_record points.SyncRegion 1 0 ∷ [])
barrier_that_waits = (refl, refl, refl, refl)

pub barrier_with_task : (records_of Barrier true (Run 2 7 5 false) ≡ begin_record points.SyncRegion 1 0 ∷ begin_record points.TaskSchedule 2 0 ∷ []) × (records_of Barrier false (Run 2 7 5 false) ≡ begin_record points.TaskSchedule 2 0 ∷ [])
barrier_with_task = (refl, refl)

pub region_end_that_passes : (records_of RegionEnd true Passed ≡ begin_record points.SyncRegion 5 0 ∷ end_record points.SyncRegion 5 0 ∷ end_record points.ImplicitTask 0 0 ∷ []) × (records_of RegionEnd false Passed ≡ end_record points.SyncRegion 5 0 ∷ end_record points.ImplicitTask 0 0 ∷ [])
region_end_that_passes = (refl, refl)

pub region_end_that_waits : (records_of RegionEnd true Wait ≡ begin_record points.SyncRegion 5 0 ∷ []) × (records_of RegionEnd false (Run 2 7 5 false) ≡ begin_record points.TaskSchedule 2 0 ∷ []) × (records_of RegionEnd false Cancelled ≡ end_record points.SyncRegion 5 0 ∷ [])
region_end_that_waits = (refl, refl, refl)

pub taskwait_that_passes : (deps : List Dep) → (records_of (Taskwait deps) true Passed ≡ begin_record points.SyncRegion 3 0 ∷ end_record points.SyncRegion 3 0 ∷ []) × (records_of (Taskwait deps) false (Run 2 7 5 false) ≡ begin_record points.TaskSchedule 2 0 ∷ []) × (records_of (Taskwait deps) false Cancelled ≡ end_record points.SyncRegion 3 0 ∷ [])
taskwait_that_passes deps = (refl, refl, refl)

pub group_begins_and_ends : (first : Bool) → (records_of GroupStart first Finished ≡ begin_record points.SyncRegion 4 0 ∷ []) × (records_of GroupEnd first Passed ≡ end_record points.SyncRegion 4 0 ∷ []) × (records_of GroupEnd first (Run 2 7 5 false) ≡ begin_record points.TaskSchedule 2 0 ∷ []) × (records_of GroupEnd first Wait ≡ []) × (records_of GroupEnd first Cancelled ≡ [])
group_begins_and_ends first = (refl, refl, refl, refl, refl)

-- Tasks

-- a task with this code, and with these items
abbrev pub task_of_code : ℕ → List Dep → TaskDesc
task_of_code code deps = record { code = code; arg = 5; undeferred = false; final_task = false; deps = deps }

pub task_is_created : (first : Bool) → records_of (TaskCreate (task_of_code 7 [])) first (Created 3) ≡ single_record points.TaskCreate 3 7 ∷ []
task_is_created first = refl

-- an item that is written twice counts twice
pub task_with_items_is_created : (item : Dep) (first : Bool) → records_of (TaskCreate (task_of_code 7 (item ∷ item ∷ []))) first (Created 3) ≡ single_record points.TaskCreate 3 7 ∷ single_record points.Dependences 3 2 ∷ []
task_with_items_is_created item first = refl

pub own_task_is_run : (item : Dep) (first : Bool) → (records_of (TaskCreate (task_of_code 7 [])) first (Run 3 7 5 true) ≡ single_record points.TaskCreate 3 7 ∷ begin_record points.TaskSchedule 3 0 ∷ []) × (records_of (TaskCreate (task_of_code 7 (item ∷ []))) first (Run 3 7 5 true) ≡ single_record points.TaskCreate 3 7 ∷ single_record points.Dependences 3 1 ∷ begin_record points.TaskSchedule 3 0 ∷ [])
own_task_is_run item first = (refl, refl)

-- while the undeferred task has to wait, the member runs another, which this call has not created
pub other_task_is_run : (item : Dep) (first : Bool) → (records_of (TaskCreate (task_of_code 7 (item ∷ []))) first (Run 2 9 1 false) ≡ begin_record points.TaskSchedule 2 0 ∷ []) × (records_of (TaskCreate (task_of_code 7 (item ∷ []))) first Wait ≡ [])
other_task_is_run item first = (refl, refl)

pub ended_task_is_done : (first waiting : Bool) → records_of TaskEnd first (TaskDone 3 waiting) ≡ end_record points.TaskSchedule 3 0 ∷ []
ended_task_is_done first waiting = refl

-- Names, locks and ordered parts

pub name_is_acquired : (name : List ℕ) → (records_of (CriticalStart name) true Finished ≡ single_record points.MutexAcquire 1 0 ∷ single_record points.MutexAcquired 1 0 ∷ []) × (records_of (CriticalStart name) true Wait ≡ single_record points.MutexAcquire 1 0 ∷ []) × (records_of (CriticalStart name) false Finished ≡ single_record points.MutexAcquired 1 0 ∷ []) × (records_of (CriticalStart name) false Wait ≡ [])
name_is_acquired name = (refl, refl, refl, refl)

pub lock_is_acquired : (lock : ℕ) → (records_of (Set lock) true Finished ≡ single_record points.MutexAcquire 2 0 ∷ single_record points.MutexAcquired 2 0 ∷ []) × (records_of (Set lock) true Wait ≡ single_record points.MutexAcquire 2 0 ∷ []) × (records_of (Set lock) false Finished ≡ single_record points.MutexAcquired 2 0 ∷ [])
lock_is_acquired lock = (refl, refl, refl)

pub turn_is_acquired : (records_of (OrderedStart (pos 4)) true Finished ≡ single_record points.MutexAcquire 3 0 ∷ single_record points.MutexAcquired 3 0 ∷ []) × (records_of (OrderedStart (pos 4)) false Finished ≡ single_record points.MutexAcquired 3 0 ∷ []) × (records_of (OrderedStart (pos 4)) true Cancelled ≡ single_record points.MutexAcquire 3 0 ∷ [])
turn_is_acquired = (refl, refl, refl)

pub all_are_released : (name : List ℕ) (lock : ℕ) (first : Bool) → (records_of (CriticalEnd name) first Finished ≡ single_record points.MutexReleased 1 0 ∷ []) × (records_of (Unset lock) first Finished ≡ single_record points.MutexReleased 2 0 ∷ []) × (records_of OrderedEnd first Finished ≡ single_record points.MutexReleased 3 0 ∷ [])
all_are_released name lock first = (refl, refl, refl)

pub lock_is_tested : (lock : ℕ) → (records_of (Test lock) true (Got true) ≡ single_record points.MutexAcquire 2 0 ∷ single_record points.MutexAcquired 2 0 ∷ []) × (records_of (Test lock) true (Got false) ≡ single_record points.MutexAcquire 2 0 ∷ []) × (records_of (Test lock) false (Got true) ≡ single_record points.MutexAcquired 2 0 ∷ [])
lock_is_tested lock = (refl, refl, refl)

pub nest_lock_is_set : (records_of (SetNest 6) true (Count 1) ≡ single_record points.MutexAcquire 4 6 ∷ single_record points.MutexAcquired 4 6 ∷ []) × (records_of (SetNest 0) true (Count 2) ≡ single_record points.MutexAcquire 4 0 ∷ begin_record points.NestLock 0 2 ∷ []) × (records_of (SetNest 6) true Wait ≡ single_record points.MutexAcquire 4 6 ∷ []) × (records_of (SetNest 6) false (Count 1) ≡ single_record points.MutexAcquired 4 6 ∷ [])
nest_lock_is_set = (refl, refl, refl, refl)

pub nest_lock_is_tested : (records_of (TestNest 6) true (Count 1) ≡ single_record points.MutexAcquire 4 6 ∷ single_record points.MutexAcquired 4 6 ∷ []) × (records_of (TestNest 6) true (Count 3) ≡ single_record points.MutexAcquire 4 6 ∷ begin_record points.NestLock 6 3 ∷ []) × (records_of (TestNest 6) true (Count 0) ≡ single_record points.MutexAcquire 4 6 ∷ [])
nest_lock_is_tested = (refl, refl, refl)

pub nest_lock_is_unset : (first : Bool) → (records_of (UnsetNest 6) first (Count 0) ≡ single_record points.MutexReleased 4 6 ∷ []) × (records_of (UnsetNest 6) first (Count 2) ≡ end_record points.NestLock 6 2 ∷ [])
nest_lock_is_unset first = (refl, refl)

pub locks_are_made_silently : (first : Bool) → (records_of LockInit first (Lock 0) ≡ []) × (records_of NestInit first (Lock 1) ≡ []) × (records_of (LockDestroy 1) first Finished ≡ [])
locks_are_made_silently first = (refl, refl, refl)

-- Cancellation

pub cancels_are_numbered : (clause first : Bool) → (records_of (Cancel Parallel clause) first (Cancelling true) ≡ single_record points.Cancel 1 0 ∷ []) × (records_of (Cancel Loop clause) first (Cancelling true) ≡ single_record points.Cancel 2 0 ∷ []) × (records_of (Cancel Sections clause) first (Cancelling true) ≡ single_record points.Cancel 4 0 ∷ []) × (records_of (Cancel Taskgroup clause) first (Cancelling true) ≡ single_record points.Cancel 8 0 ∷ [])
cancels_are_numbered clause first = (refl, refl, refl, refl)

pub point_that_is_cancelled : (first : Bool) → (records_of (Point Taskgroup) first (Cancelling true) ≡ single_record points.Cancel 8 0 ∷ []) × (records_of (Point Taskgroup) first (Cancelling false) ≡ []) × (records_of (Cancel Parallel true) first (Cancelling false) ≡ [])
point_that_is_cancelled first = (refl, refl, refl)
