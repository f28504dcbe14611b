-- Which records a call gives to a tool: the table of records, one line for each of its entries. The events are those of
-- OpenMP API 5.2, chapter 19 (OMPT), section 19.5.2; which numbers they have is this project's own.
use Rattle.std.specs.Prelude.{ℕ, Bool, true, false, Option, Some, None, List, [], ◌∷◌, ◌==◌, nat_lt, length, filter_map, if◌then◌else◌}
use Rattle.std.specs.Bool.{then_some}
use Rattle.std.specs.Option.{option_map, option_and_then}
use Rattle.std.specs.Int.{cast_unsigned, w64}
use Rattle.gomp_types.specs.declared.call.Call.{Call}
use Rattle.gomp_types.specs.declared.call.Call.TheVariants.{LoopStart, LoopNext, LoopEnd, LoopEndNowait, LoopEndCancel, SectionsStart, SectionsNext, SectionsEnd, SectionsEndNowait, SectionsEndCancel, SingleStart, SingleCopyStart, SingleCopyEnd, OrderedStart, OrderedEnd, Barrier, RegionEnd, CriticalStart, CriticalEnd, LockInit, NestInit, LockDestroy, Set, Test, Unset, SetNest, TestNest, UnsetNest, TaskCreate, TaskEnd, Taskwait, GroupStart, GroupEnd, Cancel, Point, Resume, Stop}
use Rattle.gomp_types.specs.declared.reply.Reply.{Reply}
use Rattle.gomp_types.specs.declared.reply.Reply.TheVariants.{Chunk, NoChunk, Section, Executor, Copied, Finished, Passed, Cancelled, Created, Dropped, Cancelling, Run, TaskDone, Got, Count, Stopped, Refused}
use Rattle.gomp_types.specs.declared.cancel.CancelKind.{CancelKind}
use Rattle.gomp_types.specs.declared.cancel.CancelKind.TheVariants.{Parallel, Loop, Sections, Taskgroup}
use Rattle.gomp_types.specs.declared.task.TaskDesc.{TaskDesc}
use Rattle.gomp_ompt.specs.declared.record.Point.TheVariants as points
use Rattle.gomp_ompt.specs.declared.record.Record.{Record}
use Rattle.gomp_ompt.specs.Records.{begin_record, end_record, single_record}

-- What a reply says

-- that the member is in the share, with a piece or without
abbrev pub enters_share : Reply → Bool
enters_share (Chunk first count) = true
enters_share NoChunk = true
enters_share (Section number) = true
enters_share _ = false

-- the piece that the member got: the first iteration's bits and how many there are, or the section's number
abbrev pub piece_record : Reply → Option Record
piece_record (Chunk first count) = Some (single_record points.Dispatch (cast_unsigned w64 first) count)
piece_record (Section number) = then_some (nat_lt 0 number) (single_record points.Dispatch number 1)
piece_record _ = None

-- 1 for the executor of a single, 0 for another member
abbrev pub executor_number : Reply → Option ℕ
executor_number (Executor true) = Some 1
executor_number (Executor false) = Some 0
executor_number _ = None

-- that it is the reply to a single's member, the executor or another
abbrev pub is_executor : Reply → Bool
is_executor (Executor executes) = true
is_executor _ = false

-- that the member has the words of the executor
abbrev pub is_copied : Reply → Bool
is_copied (Copied words) = true
is_copied _ = false

-- that the call is done
abbrev pub is_finished : Reply → Bool
is_finished Finished = true
is_finished _ = false

-- that the member has passed
abbrev pub is_passed : Reply → Bool
is_passed Passed = true
is_passed _ = false

-- that the member waits no more: it has passed, or leaves the region
abbrev pub ends_wait : Reply → Bool
ends_wait Passed = true
ends_wait Cancelled = true
ends_wait _ = false

-- the task that the member begins
abbrev pub run_record : Reply → Option Record
run_record (Run task code arg own) = Some (begin_record points.TaskSchedule task 0)
run_record _ = None

-- the task that the member has ended
abbrev pub done_record : Reply → Option Record
done_record (TaskDone task waiting) = Some (end_record points.TaskSchedule task 0)
done_record _ = None

-- the task that the call has created
abbrev pub created_task : Reply → Option ℕ
created_task (Created task) = Some task
created_task (Run task code arg true) = Some task
created_task _ = None

-- that the simple lock was free
abbrev pub is_got : Reply → Bool
is_got (Got free) = free
is_got _ = false

-- that what the construct names is cancelled
abbrev pub is_cancelling : Reply → Bool
is_cancelling (Cancelling cancelled) = cancelled
is_cancelling _ = false

-- how often the nestable lock is set
abbrev pub lock_count : Reply → Option ℕ
lock_count (Count count) = Some count
lock_count _ = None

-- that no call gives a record with this reply
abbrev pub is_silent : Reply → Bool
is_silent (Refused refusal) = true
is_silent Stopped = true
is_silent Dropped = true
is_silent _ = false

-- What several calls have alike

-- the start of a loop or of sections: the share, and its first piece
abbrev pub start_entries : Reply → List (Option Record)
start_entries reply = then_some (enters_share reply) (begin_record points.Work 0 0) ∷ piece_record reply ∷ []

-- a wait, by what is waited at: it begins, the member is given a task, it ends
abbrev pub wait_entries : ℕ → Bool → Reply → List (Option Record)
wait_entries place first reply = then_some first (begin_record points.SyncRegion place 0) ∷ run_record reply ∷ then_some (ends_wait reply) (end_record points.SyncRegion place 0) ∷ []

-- the end of a share that has a barrier
abbrev pub share_end_entries : Bool → Reply → List (Option Record)
share_end_entries first reply = then_some first (end_record points.Work 0 0) ∷ wait_entries 2 first reply

-- the member asks for what one task holds, and has it
abbrev pub acquire_entries : ℕ → ℕ → Bool → Bool → List (Option Record)
acquire_entries kind number first has = then_some first (single_record points.MutexAcquire kind number) ∷ then_some has (single_record points.MutexAcquired kind number) ∷ []

-- a nestable lock was not got, or was free, or is set once more
abbrev pub nest_set_record : ℕ → ℕ → Option Record
nest_set_record lock count = if count == 0 then None else (if count == 1 then Some (single_record points.MutexAcquired 4 lock) else Some (begin_record points.NestLock lock count))

-- a nestable lock is free again, or set still
abbrev pub nest_unset_record : ℕ → ℕ → Record
nest_unset_record lock count = if count == 0 then single_record points.MutexReleased 4 lock else end_record points.NestLock lock count

-- the member asks for a nestable lock, and has it or sets it once more
abbrev pub nest_set_entries : ℕ → Bool → Reply → List (Option Record)
nest_set_entries lock first reply = then_some first (single_record points.MutexAcquire 4 lock) ∷ option_and_then (nest_set_record lock) (lock_count reply) ∷ []

-- the task that was created, with its code, and how many items it has, if it has any
abbrev pub task_entries : TaskDesc → Reply → List (Option Record)
task_entries desc reply = option_map (λ task. single_record points.TaskCreate task desc.code) (created_task reply) ∷ option_and_then (λ task. then_some (nat_lt 0 (length desc.deps)) (single_record points.Dependences task (length desc.deps))) (created_task reply) ∷ run_record reply ∷ []

-- what a cancellation names
abbrev pub cancel_number : CancelKind → ℕ
cancel_number Parallel = 1
cancel_number Loop = 2
cancel_number Sections = 4
cancel_number Taskgroup = 8

-- what the construct names is cancelled
abbrev pub cancel_entries : CancelKind → Reply → List (Option Record)
cancel_entries kind reply = then_some (is_cancelling reply) (single_record points.Cancel (cancel_number kind) 0) ∷ []

-- The table: of each call what it gives in order, each record if its condition holds
abbrev pub entries_of : Call → Bool → Reply → List (Option Record)
entries_of (LoopStart loop) first reply = start_entries reply
entries_of (SectionsStart count end_kind) first reply = start_entries reply
entries_of LoopNext first reply = piece_record reply ∷ []
entries_of SectionsNext first reply = piece_record reply ∷ []
entries_of LoopEndNowait first reply = Some (end_record points.Work 0 0) ∷ []
entries_of SectionsEndNowait first reply = Some (end_record points.Work 0 0) ∷ []
entries_of LoopEnd first reply = share_end_entries first reply
entries_of LoopEndCancel first reply = share_end_entries first reply
entries_of SectionsEnd first reply = share_end_entries first reply
entries_of SectionsEndCancel first reply = share_end_entries first reply
entries_of SingleStart first reply = option_map (begin_record points.Work 1) (executor_number reply) ∷ option_map (end_record points.Work 1) (executor_number reply) ∷ []
entries_of SingleCopyStart first reply = then_some (is_executor reply) (begin_record points.Work 1 1) ∷ then_some (is_copied reply) (begin_record points.Work 1 0) ∷ then_some (is_copied reply) (end_record points.Work 1 0) ∷ []
entries_of (SingleCopyEnd words) first reply = Some (end_record points.Work 1 1) ∷ []
entries_of Barrier first reply = wait_entries 1 first reply
entries_of RegionEnd first reply = then_some first (begin_record points.SyncRegion 5 0) ∷ run_record reply ∷ then_some (ends_wait reply) (end_record points.SyncRegion 5 0) ∷ then_some (is_passed reply) (end_record points.ImplicitTask 0 0) ∷ []
entries_of (TaskCreate desc) first reply = task_entries desc reply
entries_of TaskEnd first reply = done_record reply ∷ []
entries_of (Taskwait deps) first reply = wait_entries 3 first reply
entries_of GroupStart first reply = Some (begin_record points.SyncRegion 4 0) ∷ []
entries_of GroupEnd first reply = run_record reply ∷ then_some (is_passed reply) (end_record points.SyncRegion 4 0) ∷ []
entries_of (CriticalStart name) first reply = acquire_entries 1 0 first (is_finished reply)
entries_of (Set lock) first reply = acquire_entries 2 0 first (is_finished reply)
entries_of (OrderedStart value) first reply = acquire_entries 3 0 first (is_finished reply)
entries_of (CriticalEnd name) first reply = Some (single_record points.MutexReleased 1 0) ∷ []
entries_of (Unset lock) first reply = Some (single_record points.MutexReleased 2 0) ∷ []
entries_of OrderedEnd first reply = Some (single_record points.MutexReleased 3 0) ∷ []
entries_of (Test lock) first reply = acquire_entries 2 0 first (is_got reply)
entries_of (SetNest lock) first reply = nest_set_entries lock first reply
entries_of (TestNest lock) first reply = nest_set_entries lock first reply
entries_of (UnsetNest lock) first reply = option_map (nest_unset_record lock) (lock_count reply) ∷ []
entries_of (Cancel kind clause) first reply = cancel_entries kind reply
entries_of (Point kind) first reply = cancel_entries kind reply
entries_of LockInit first reply = []
entries_of NestInit first reply = []
entries_of (LockDestroy lock) first reply = []
entries_of Resume first reply = []
entries_of Stop first reply = []

-- those of them whose condition holds
abbrev pub present_records : List (Option Record) → List Record
present_records entries = filter_map (λ entry. entry) entries

-- the records of a call, `first` if it was made and not resumed, by its reply
abbrev pub records_of : Call → Bool → Reply → List Record
records_of call first reply = if is_silent reply then [] else present_records (entries_of call first reply)
