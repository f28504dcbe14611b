-- Which records a call gives to a tool, of every number that the call and its reply have: the table's lines, with the numbers as variables.
use Rattle.std.proofs.Common.{◌≡◌, ◌≢◌, ℕ, Bool, true, false, List, [], ◌∷◌, Some, None, length, refl}
use Rattle.std.specs.Prelude.{ℤ, nat_lt, filter_map}
use Rattle.std.specs.Bool.{then_some}
use Rattle.std.specs.Option.{option_map, option_and_then}
use Rattle.std.specs.Int.{cast_unsigned, w64}
use Rattle.std.proofs.lemmas.Bool.{ne_eqb}
use Rattle.gomp_types.specs.declared.call.Call.{Call}
use Rattle.gomp_types.specs.declared.call.Call.TheVariants as call
use Rattle.gomp_types.specs.declared.cancel.CancelKind.{CancelKind}
use Rattle.gomp_types.specs.declared.cancel.CancelKind.TheVariants as names
use Rattle.gomp_types.specs.declared.depend.Dep.{Dep}
use Rattle.gomp_types.specs.declared.loop_desc.EndKind.{EndKind}
use Rattle.gomp_types.specs.declared.loop_desc.LoopDesc.{LoopDesc}
use Rattle.gomp_types.specs.declared.refusal.Refusal.{Refusal}
use Rattle.gomp_types.specs.declared.reply.Reply.{Reply}
use Rattle.gomp_types.specs.declared.reply.Reply.TheVariants as reply
use Rattle.gomp_types.specs.declared.task.TaskDesc.{TaskDesc}
use Rattle.gomp_ompt.specs.declared.record.Point.{Point}
use Rattle.gomp_ompt.specs.declared.record.Point.TheVariants as point
use Rattle.gomp_ompt.specs.declared.record.Endpoint.TheVariants as end
use Rattle.gomp_ompt.specs.Records.{begin_record, end_record, single_record}
use Rattle.gomp_ompt.specs.Table.{enters_share, piece_record, executor_number, is_executor, is_copied, is_finished, is_passed, ends_wait, run_record, done_record, created_task, is_got, is_cancelling, lock_count, is_silent, start_entries, wait_entries, share_end_entries, acquire_entries, nest_set_record, nest_unset_record, nest_set_entries, task_entries, cancel_number, cancel_entries, entries_of, records_of}

-- Records

-- each has its own point and numbers
pub record_has_its_point_and_numbers : (at : Point) (id extra : ℕ) →
    (begin_record at id extra ≡ record { point = at; scope = end.Begin; id = id; extra = extra }) × (end_record at id extra ≡ record { point = at; scope = end.End; id = id; extra = extra }) × (single_record at id extra ≡ record { point = at; scope = end.Single; id = id; extra = extra })
record_has_its_point_and_numbers at id extra = (refl, refl, refl)

-- What a reply says

-- a piece is told by its first iteration and how many there are, and a section by its number, if it has one
pub piece_is_told_by_its_numbers : (first : ℤ) (count number : ℕ) →
    (piece_record (reply.Chunk first count) ≡ Some (single_record point.Dispatch (cast_unsigned w64 first) count)) × (piece_record reply.NoChunk ≡ None) × (piece_record (reply.Section number) ≡ then_some (nat_lt 0 number) (single_record point.Dispatch number 1))
piece_is_told_by_its_numbers first count number = (refl, refl, refl)

-- with a piece or without, the member is in the share
pub member_enters_a_share_with_any_piece : (first : ℤ) (count number : ℕ) → (enters_share (reply.Chunk first count) ≡ true) × (enters_share reply.NoChunk ≡ true) × (enters_share (reply.Section number) ≡ true)
member_enters_a_share_with_any_piece first count number = (refl, refl, refl)

-- a task that is run or done is told by its number
pub task_is_told_by_its_number : (task code arg : ℕ) (own waiting : Bool) →
    (run_record (reply.Run task code arg own) ≡ Some (begin_record point.TaskSchedule task 0)) × (done_record (reply.TaskDone task waiting) ≡ Some (end_record point.TaskSchedule task 0))
task_is_told_by_its_number task code arg own waiting = (refl, refl)

-- and so is one that is created, be it run at once or not; one that is handed to the member is not created
pub created_task_is_told_by_its_number : (task code arg : ℕ) → (created_task (reply.Created task) ≡ Some task) × (created_task (reply.Run task code arg true) ≡ Some task) × (created_task (reply.Run task code arg false) ≡ None)
created_task_is_told_by_its_number task code arg = (refl, refl, refl)

-- a lock is had or not as its reply says, and set so often
pub lock_is_told_by_its_reply : (free : Bool) (count : ℕ) → (is_got (reply.Got free) ≡ free) × (lock_count (reply.Count count) ≡ Some count)
lock_is_told_by_its_reply free count = (refl, refl)

-- what is cancelled is told as its reply says, words are had, and a single has its executor
pub member_is_told_by_its_reply : (is : Bool) (words : List ℕ) → (is_cancelling (reply.Cancelling is) ≡ is) × (is_copied (reply.Copied words) ≡ true) × (is_executor (reply.Executor is) ≡ true)
member_is_told_by_its_reply is words = (refl, refl, refl)

pub executor_is_told_by_its_number : (executor_number (reply.Executor true) ≡ Some 1) × (executor_number (reply.Executor false) ≡ Some 0)
executor_is_told_by_its_number = (refl, refl)

-- what a cancellation names has its number
pub each_cancellation_has_its_number : (cancel_number names.Parallel ≡ 1) × (cancel_number names.Loop ≡ 2) × (cancel_number names.Sections ≡ 4) × (cancel_number names.Taskgroup ≡ 8)
each_cancellation_has_its_number = (refl, refl, refl, refl)

-- no refusal gives a record, whatever it is, whatever the call is
pub refusal_gives_no_record : (made : Call) (first : Bool) (refused : Refusal) → (is_silent (reply.Refused refused) ≡ true) × (records_of made first (reply.Refused refused) ≡ [])
refusal_gives_no_record made first refused = (refl, refl)

-- any other reply than that, a stop and a dropped task gives those of the table whose condition holds
pub other_reply_gives_its_records : (made : Call) (first : Bool) (answer : Reply) → is_silent answer ≡ false → records_of made first answer ≡ filter_map (λ entry. entry) (entries_of made first answer)
other_reply_gives_its_records made first answer told = rw told refl

-- any other reply says none of that

pub no_other_reply_is_finished : (answer : Reply) → answer ≢ reply.Finished → is_finished answer ≡ false
no_other_reply_is_finished reply.Finished other = absurd (other refl)
no_other_reply_is_finished _ other = refl

pub no_other_reply_is_passed : (answer : Reply) → answer ≢ reply.Passed → is_passed answer ≡ false
no_other_reply_is_passed reply.Passed other = absurd (other refl)
no_other_reply_is_passed _ other = refl

pub no_other_reply_ends_a_wait : (answer : Reply) → answer ≢ reply.Passed → answer ≢ reply.Cancelled → ends_wait answer ≡ false
no_other_reply_ends_a_wait reply.Passed passed cancelled = absurd (passed refl)
no_other_reply_ends_a_wait reply.Cancelled passed cancelled = absurd (cancelled refl)
no_other_reply_ends_a_wait _ passed cancelled = refl

pub no_other_reply_has_a_piece : (answer : Reply) → ((first : ℤ) (count : ℕ) → answer ≢ reply.Chunk first count) → ((number : ℕ) → answer ≢ reply.Section number) → piece_record answer ≡ None
no_other_reply_has_a_piece (reply.Chunk first count) chunk section = absurd (chunk first count refl)
no_other_reply_has_a_piece (reply.Section number) chunk section = absurd (section number refl)
no_other_reply_has_a_piece _ chunk section = refl

pub no_other_reply_runs_a_task : (answer : Reply) → ((task code arg : ℕ) (own : Bool) → answer ≢ reply.Run task code arg own) → run_record answer ≡ None
no_other_reply_runs_a_task (reply.Run task code arg own) other = absurd (other task code arg own refl)
no_other_reply_runs_a_task _ other = refl

pub no_other_reply_has_done_a_task : (answer : Reply) → ((task : ℕ) (waiting : Bool) → answer ≢ reply.TaskDone task waiting) → done_record answer ≡ None
no_other_reply_has_done_a_task (reply.TaskDone task waiting) other = absurd (other task waiting refl)
no_other_reply_has_done_a_task _ other = refl

pub no_other_reply_counts_a_lock : (answer : Reply) → ((count : ℕ) → answer ≢ reply.Count count) → lock_count answer ≡ None
no_other_reply_counts_a_lock (reply.Count count) other = absurd (other count refl)
no_other_reply_counts_a_lock _ other = refl

pub no_other_reply_is_silent : (answer : Reply) → ((refused : Refusal) → answer ≢ reply.Refused refused) → answer ≢ reply.Stopped → answer ≢ reply.Dropped → is_silent answer ≡ false
no_other_reply_is_silent (reply.Refused refused) refusal stop drop = absurd (refusal refused refl)
no_other_reply_is_silent reply.Stopped refusal stop drop = absurd (stop refl)
no_other_reply_is_silent reply.Dropped refusal stop drop = absurd (drop refl)
no_other_reply_is_silent _ refusal stop drop = refl

pub some_replies_end_or_finish : (is_finished reply.Finished ≡ true) × (is_passed reply.Passed ≡ true) × (ends_wait reply.Passed ≡ true) × (ends_wait reply.Cancelled ≡ true) × (is_silent reply.Stopped ≡ true) × (is_silent reply.Dropped ≡ true)
some_replies_end_or_finish = (refl, refl, refl, refl, refl, refl)

-- What several calls have alike

pub start_tells_the_share_and_its_piece : (answer : Reply) → start_entries answer ≡ then_some (enters_share answer) (begin_record point.Work 0 0) ∷ piece_record answer ∷ []
start_tells_the_share_and_its_piece answer = refl

pub wait_tells_its_place : (place : ℕ) (first : Bool) (answer : Reply) → wait_entries place first answer ≡ then_some first (begin_record point.SyncRegion place 0) ∷ run_record answer ∷ then_some (ends_wait answer) (end_record point.SyncRegion place 0) ∷ []
wait_tells_its_place place first answer = refl

pub share_end_tells_the_share_and_its_wait : (first : Bool) (answer : Reply) → share_end_entries first answer ≡ then_some first (end_record point.Work 0 0) ∷ wait_entries 2 first answer
share_end_tells_the_share_and_its_wait first answer = refl

pub acquiring_tells_its_kind_and_number : (kind number : ℕ) (first has : Bool) → acquire_entries kind number first has ≡ then_some first (single_record point.MutexAcquire kind number) ∷ then_some has (single_record point.MutexAcquired kind number) ∷ []
acquiring_tells_its_kind_and_number kind number first has = refl

-- a nestable lock by its number and how often it is set
pub setting_a_nestable_lock_is_told : (lock count : ℕ) → (nest_set_record lock 0 ≡ None) × (nest_set_record lock 1 ≡ Some (single_record point.MutexAcquired 4 lock)) × (count ≢ 0 → count ≢ 1 → nest_set_record lock count ≡ Some (begin_record point.NestLock lock count))
setting_a_nestable_lock_is_told lock count = (refl, refl, λ some more. rw (ne_eqb count 0 some, ne_eqb count 1 more) refl)

pub unsetting_a_nestable_lock_is_told : (lock count : ℕ) → (nest_unset_record lock 0 ≡ single_record point.MutexReleased 4 lock) × (count ≢ 0 → nest_unset_record lock count ≡ end_record point.NestLock lock count)
unsetting_a_nestable_lock_is_told lock count = (refl, λ some. rw (ne_eqb count 0 some) refl)

pub nestable_lock_is_asked_for_by_its_number : (lock : ℕ) (first : Bool) (answer : Reply) → nest_set_entries lock first answer ≡ then_some first (single_record point.MutexAcquire 4 lock) ∷ option_and_then (nest_set_record lock) (lock_count answer) ∷ []
nestable_lock_is_asked_for_by_its_number lock first answer = refl

-- a task with its code, and with how many items it has
pub task_is_told_with_its_code_and_items : (desc : TaskDesc) (answer : Reply) → task_entries desc answer ≡
    option_map (λ task. single_record point.TaskCreate task desc.code) (created_task answer) ∷ option_and_then (λ task. then_some (nat_lt 0 (length desc.deps)) (single_record point.Dependences task (length desc.deps))) (created_task answer) ∷ run_record answer ∷ []
task_is_told_with_its_code_and_items desc answer = refl

pub cancellation_is_told_by_what_it_names : (kind : CancelKind) (answer : Reply) → cancel_entries kind answer ≡ then_some (is_cancelling answer) (single_record point.Cancel (cancel_number kind) 0) ∷ []
cancellation_is_told_by_what_it_names kind answer = refl

-- The table: shares

pub loop_start_is_told : (loop : LoopDesc) (first : Bool) (answer : Reply) → entries_of (call.LoopStart loop) first answer ≡ start_entries answer
loop_start_is_told loop first answer = refl

pub sections_start_is_told : (count : ℕ) (end_kind : EndKind) (first : Bool) (answer : Reply) → entries_of (call.SectionsStart count end_kind) first answer ≡ start_entries answer
sections_start_is_told count end_kind first answer = refl

pub loop_next_is_told : (first : Bool) (answer : Reply) → entries_of call.LoopNext first answer ≡ piece_record answer ∷ []
loop_next_is_told first answer = refl

pub sections_next_is_told : (first : Bool) (answer : Reply) → entries_of call.SectionsNext first answer ≡ piece_record answer ∷ []
sections_next_is_told first answer = refl

pub loop_end_without_a_wait_is_told : (first : Bool) (answer : Reply) → entries_of call.LoopEndNowait first answer ≡ Some (end_record point.Work 0 0) ∷ []
loop_end_without_a_wait_is_told first answer = refl

pub sections_end_without_a_wait_is_told : (first : Bool) (answer : Reply) → entries_of call.SectionsEndNowait first answer ≡ Some (end_record point.Work 0 0) ∷ []
sections_end_without_a_wait_is_told first answer = refl

pub loop_end_is_told : (first : Bool) (answer : Reply) → entries_of call.LoopEnd first answer ≡ share_end_entries first answer
loop_end_is_told first answer = refl

pub loop_end_that_may_be_cancelled_is_told : (first : Bool) (answer : Reply) → entries_of call.LoopEndCancel first answer ≡ share_end_entries first answer
loop_end_that_may_be_cancelled_is_told first answer = refl

pub sections_end_is_told : (first : Bool) (answer : Reply) → entries_of call.SectionsEnd first answer ≡ share_end_entries first answer
sections_end_is_told first answer = refl

pub sections_end_that_may_be_cancelled_is_told : (first : Bool) (answer : Reply) → entries_of call.SectionsEndCancel first answer ≡ share_end_entries first answer
sections_end_that_may_be_cancelled_is_told first answer = refl

pub single_start_is_told : (first : Bool) (answer : Reply) → entries_of call.SingleStart first answer ≡ option_map (begin_record point.Work 1) (executor_number answer) ∷ option_map (end_record point.Work 1) (executor_number answer) ∷ []
single_start_is_told first answer = refl

pub single_copy_start_is_told : (first : Bool) (answer : Reply) → entries_of call.SingleCopyStart first answer ≡ then_some (is_executor answer) (begin_record point.Work 1 1) ∷ then_some (is_copied answer) (begin_record point.Work 1 0) ∷ then_some (is_copied answer) (end_record point.Work 1 0) ∷ []
single_copy_start_is_told first answer = refl

pub single_copy_end_is_told : (words : List ℕ) (first : Bool) (answer : Reply) → entries_of (call.SingleCopyEnd words) first answer ≡ Some (end_record point.Work 1 1) ∷ []
single_copy_end_is_told words first answer = refl

-- The table: waits and tasks

pub barrier_is_told : (first : Bool) (answer : Reply) → entries_of call.Barrier first answer ≡ wait_entries 1 first answer
barrier_is_told first answer = refl

pub region_end_is_told : (first : Bool) (answer : Reply) → entries_of call.RegionEnd first answer ≡ then_some first (begin_record point.SyncRegion 5 0) ∷ run_record answer ∷ then_some (ends_wait answer) (end_record point.SyncRegion 5 0) ∷ then_some (is_passed answer) (end_record point.ImplicitTask 0 0) ∷ []
region_end_is_told first answer = refl

pub task_creation_is_told : (desc : TaskDesc) (first : Bool) (answer : Reply) → entries_of (call.TaskCreate desc) first answer ≡ task_entries desc answer
task_creation_is_told desc first answer = refl

pub task_end_is_told : (first : Bool) (answer : Reply) → entries_of call.TaskEnd first answer ≡ done_record answer ∷ []
task_end_is_told first answer = refl

pub wait_for_tasks_is_told : (deps : List Dep) (first : Bool) (answer : Reply) → entries_of (call.Taskwait deps) first answer ≡ wait_entries 3 first answer
wait_for_tasks_is_told deps first answer = refl

pub group_start_is_told : (first : Bool) (answer : Reply) → entries_of call.GroupStart first answer ≡ Some (begin_record point.SyncRegion 4 0) ∷ []
group_start_is_told first answer = refl

pub group_end_is_told : (first : Bool) (answer : Reply) → entries_of call.GroupEnd first answer ≡ run_record answer ∷ then_some (is_passed answer) (end_record point.SyncRegion 4 0) ∷ []
group_end_is_told first answer = refl

-- The table: what one task holds

pub critical_start_is_told : (name : List ℕ) (first : Bool) (answer : Reply) → entries_of (call.CriticalStart name) first answer ≡ acquire_entries 1 0 first (is_finished answer)
critical_start_is_told name first answer = refl

pub critical_end_is_told : (name : List ℕ) (first : Bool) (answer : Reply) → entries_of (call.CriticalEnd name) first answer ≡ Some (single_record point.MutexReleased 1 0) ∷ []
critical_end_is_told name first answer = refl

pub ordered_start_is_told : (value : ℤ) (first : Bool) (answer : Reply) → entries_of (call.OrderedStart value) first answer ≡ acquire_entries 3 0 first (is_finished answer)
ordered_start_is_told value first answer = refl

pub simple_set_is_told : (lock : ℕ) (first : Bool) (answer : Reply) → entries_of (call.Set lock) first answer ≡ acquire_entries 2 0 first (is_finished answer)
simple_set_is_told lock first answer = refl

pub simple_test_is_told : (lock : ℕ) (first : Bool) (answer : Reply) → entries_of (call.Test lock) first answer ≡ acquire_entries 2 0 first (is_got answer)
simple_test_is_told lock first answer = refl

pub simple_unset_is_told : (lock : ℕ) (first : Bool) (answer : Reply) → entries_of (call.Unset lock) first answer ≡ Some (single_record point.MutexReleased 2 0) ∷ []
simple_unset_is_told lock first answer = refl

pub nestable_set_is_told : (lock : ℕ) (first : Bool) (answer : Reply) → entries_of (call.SetNest lock) first answer ≡ nest_set_entries lock first answer
nestable_set_is_told lock first answer = refl

pub nestable_test_is_told : (lock : ℕ) (first : Bool) (answer : Reply) → entries_of (call.TestNest lock) first answer ≡ nest_set_entries lock first answer
nestable_test_is_told lock first answer = refl

pub nestable_unset_is_told : (lock : ℕ) (first : Bool) (answer : Reply) → entries_of (call.UnsetNest lock) first answer ≡ option_map (nest_unset_record lock) (lock_count answer) ∷ []
nestable_unset_is_told lock first answer = refl

-- The table: cancellations, and what no tool is told

pub cancel_is_told : (kind : CancelKind) (clause first : Bool) (answer : Reply) → entries_of (call.Cancel kind clause) first answer ≡ cancel_entries kind answer
cancel_is_told kind clause first answer = refl

pub cancellation_point_is_told : (kind : CancelKind) (first : Bool) (answer : Reply) → entries_of (call.Point kind) first answer ≡ cancel_entries kind answer
cancellation_point_is_told kind first answer = refl

pub new_lock_is_not_told : (first : Bool) (answer : Reply) → entries_of call.LockInit first answer ≡ []
new_lock_is_not_told first answer = refl

pub new_nestable_lock_is_not_told : (first : Bool) (answer : Reply) → entries_of call.NestInit first answer ≡ []
new_nestable_lock_is_not_told first answer = refl

pub destroyed_lock_is_not_told : (lock : ℕ) (first : Bool) (answer : Reply) → entries_of (call.LockDestroy lock) first answer ≡ []
destroyed_lock_is_not_told lock first answer = refl

pub resumption_is_not_told : (first : Bool) (answer : Reply) → entries_of call.Resume first answer ≡ []
resumption_is_not_told first answer = refl

pub stop_is_not_told : (first : Bool) (answer : Reply) → entries_of call.Stop first answer ≡ []
stop_is_not_told first answer = refl
