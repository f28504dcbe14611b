-- No record and no count cuts a number: each lemma holds for every number, so a table that keeps fewer bits refuses it.
use Rattle.std.proofs.Common.{◌≡◌, ℕ, suc, ◌+◌, ◌-◌, ◌^◌, ◌<◌, ◌≤◌, Bool, true, false, List, [], ◌∷◌, length, refl, arith}
use Rattle.std.specs.Prelude.{pos, negsuc, nat_lt, ◌==◌}
use Rattle.std.proofs.lemmas.Bool.{lt-ltb}
use Rattle.gomp_types.proofs.Booleans.{other_number}
use Rattle.gomp_types.specs.declared.call.Call.TheVariants.{LoopStart, LoopNext, LoopEnd, LoopEndCancel, SectionsStart, SectionsNext, SectionsEnd, SectionsEndCancel, Barrier, RegionEnd, SetNest, TestNest, UnsetNest, TaskCreate, TaskEnd, Taskwait, GroupEnd}
use Rattle.gomp_types.specs.declared.reply.Reply.TheVariants.{Chunk, Section, Created, Run, TaskDone, Count}
use Rattle.gomp_types.specs.declared.loop_desc.LoopDesc.{LoopDesc}
use Rattle.gomp_types.specs.declared.loop_desc.EndKind.{EndKind}
use Rattle.gomp_types.specs.declared.depend.Dep.{Dep}
use Rattle.gomp_types.specs.declared.task.TaskDesc.{TaskDesc}
use Rattle.gomp_ompt.specs.declared.record.Point.{Point}
use Rattle.gomp_ompt.specs.declared.record.Point.TheVariants as points
use Rattle.gomp_ompt.specs.declared.record.Endpoint.TheVariants.{Begin, End, Single}
use Rattle.gomp_ompt.specs.declared.record.Record.{Record}
use Rattle.gomp_ompt.specs.Counts.{capped, count_of, AddsCounts}
use Rattle.gomp_ompt.specs.Records.{begin_record, end_record, single_record}
use Rattle.gomp_ompt.specs.Table.{records_of}
use Rattle.gomp_ompt.specs.Traces.{TraceView, with_lost}

-- Records

-- each kind of record has both of its numbers, written here without the names of the table
pub records_keep_both_numbers : (point : Point) (id extra : ℕ) → (begin_record point id extra ≡ record { point = point; scope = Begin; id = id; extra = extra }) × (end_record point id extra ≡ record { point = point; scope = End; id = id; extra = extra }) × (single_record point id extra ≡ record { point = point; scope = Single; id = id; extra = extra })
records_keep_both_numbers point id extra = (refl, refl, refl)

-- a record of a moment
abbrev moment_of : Point → ℕ → ℕ → Record
moment_of point id extra = record { point = point; scope = Single; id = id; extra = extra }

-- one of what begins, and one of what ends
abbrev beginning_of : Point → ℕ → ℕ → Record
beginning_of point id extra = record { point = point; scope = Begin; id = id; extra = extra }

abbrev ending_of : Point → ℕ → ℕ → Record
ending_of point id extra = record { point = point; scope = End; id = id; extra = extra }

-- Chunks and sections

-- the first value of a chunk and how many iterations it has, of whatever loop
pub chunk_keeps_its_numbers : (loop : LoopDesc) (first : Bool) (value count : ℕ) → (records_of (LoopStart loop) first (Chunk (pos value) count) ≡ beginning_of points.Work 0 0 ∷ moment_of points.Dispatch value count ∷ []) × (records_of LoopNext first (Chunk (pos value) count) ≡ moment_of points.Dispatch value count ∷ [])
chunk_keeps_its_numbers loop first value count = (refl, refl)

-- a value below 0 is its bits
pub chunk_below_zero_keeps_its_bits : (loop : LoopDesc) (first : Bool) (beyond count : ℕ) → (records_of (LoopStart loop) first (Chunk (negsuc beyond) count) ≡ beginning_of points.Work 0 0 ∷ moment_of points.Dispatch (2 ^ 64 - suc beyond) count ∷ []) × (records_of LoopNext first (Chunk (negsuc beyond) count) ≡ moment_of points.Dispatch (2 ^ 64 - suc beyond) count ∷ [])
chunk_below_zero_keeps_its_bits loop first beyond count = (refl, refl)

-- at both ends of a value and of a count
pub chunk_at_both_ends : (first : Bool) → (records_of LoopNext first (Chunk (negsuc 9223372036854775807) 1) ≡ moment_of points.Dispatch 9223372036854775808 1 ∷ []) × (records_of LoopNext first (Chunk (negsuc 0) 549755813888) ≡ moment_of points.Dispatch 18446744073709551615 549755813888 ∷ []) × (records_of LoopNext first (Chunk (pos 0) 549755813888) ≡ moment_of points.Dispatch 0 549755813888 ∷ []) × (records_of LoopNext first (Chunk (pos 9223372036854775807) 1) ≡ moment_of points.Dispatch 9223372036854775807 1 ∷ [])
chunk_at_both_ends first = (refl, refl, refl, refl)

-- the number of a section
pub section_keeps_its_number : (count number : ℕ) (end_kind : EndKind) (first : Bool) → 0 < number → (records_of (SectionsStart count end_kind) first (Section number) ≡ beginning_of points.Work 0 0 ∷ moment_of points.Dispatch number 1 ∷ []) × (records_of SectionsNext first (Section number) ≡ moment_of points.Dispatch number 1 ∷ [])
section_keeps_its_number count number end_kind first some = let is : nat_lt 0 number ≡ true = lt-ltb 0 number some in rw is (refl, refl)

pub section_at_both_ends : (first : Bool) → (records_of SectionsNext first (Section 1) ≡ moment_of points.Dispatch 1 1 ∷ []) × (records_of SectionsNext first (Section 65536) ≡ moment_of points.Dispatch 65536 1 ∷ [])
section_at_both_ends first = (refl, refl)

-- Tasks

-- a task's number and its code, whatever its clauses
pub task_keeps_number_and_code : (code arg task : ℕ) (undeferred final_task first : Bool) → records_of (TaskCreate (record { code = code; arg = arg; undeferred = undeferred; final_task = final_task; deps = [] })) first (Created task) ≡ moment_of points.TaskCreate task code ∷ []
task_keeps_number_and_code code arg task undeferred final_task first = refl

-- and how many items it has
pub task_keeps_count_of_items : (code arg task : ℕ) (undeferred final_task first : Bool) (item : Dep) (items : List Dep) → records_of (TaskCreate (record { code = code; arg = arg; undeferred = undeferred; final_task = final_task; deps = item ∷ items })) first (Created task) ≡ moment_of points.TaskCreate task code ∷ moment_of points.Dependences task (suc (length items)) ∷ []
task_keeps_count_of_items code arg task undeferred final_task first item items = let some : nat_lt 0 (suc (length items)) ≡ true = lt-ltb 0 (suc (length items)) (omega arith) in rw some refl

-- the same of an undeferred task, which begins at once, whatever the reply says of its job
pub own_task_keeps_its_numbers : (code arg task job given : ℕ) (undeferred final_task first : Bool) (item : Dep) (items : List Dep) → (records_of (TaskCreate (record { code = code; arg = arg; undeferred = undeferred; final_task = final_task; deps = [] })) first (Run task job given true) ≡ moment_of points.TaskCreate task code ∷ beginning_of points.TaskSchedule task 0 ∷ []) × (records_of (TaskCreate (record { code = code; arg = arg; undeferred = undeferred; final_task = final_task; deps = item ∷ items })) first (Run task job given true) ≡ moment_of points.TaskCreate task code ∷ moment_of points.Dependences task (suc (length items)) ∷ beginning_of points.TaskSchedule task 0 ∷ [])
own_task_keeps_its_numbers code arg task job given undeferred final_task first item items = let some : nat_lt 0 (suc (length items)) ≡ true = lt-ltb 0 (suc (length items)) (omega arith) in (refl, rw some refl)

-- the number of a task that begins at a wait, in each call that waits for tasks
pub begun_task_keeps_its_number : (desc : TaskDesc) (deps : List Dep) (task job given : ℕ) (own : Bool) → (records_of Barrier false (Run task job given own) ≡ beginning_of points.TaskSchedule task 0 ∷ []) × (records_of RegionEnd false (Run task job given own) ≡ beginning_of points.TaskSchedule task 0 ∷ []) × (records_of LoopEnd false (Run task job given own) ≡ beginning_of points.TaskSchedule task 0 ∷ []) × (records_of LoopEndCancel false (Run task job given own) ≡ beginning_of points.TaskSchedule task 0 ∷ []) × (records_of SectionsEnd false (Run task job given own) ≡ beginning_of points.TaskSchedule task 0 ∷ []) × (records_of SectionsEndCancel false (Run task job given own) ≡ beginning_of points.TaskSchedule task 0 ∷ []) × (records_of (Taskwait deps) false (Run task job given own) ≡ beginning_of points.TaskSchedule task 0 ∷ []) × (records_of GroupEnd false (Run task job given own) ≡ beginning_of points.TaskSchedule task 0 ∷ []) × (records_of (TaskCreate desc) false (Run task job given false) ≡ beginning_of points.TaskSchedule task 0 ∷ [])
begun_task_keeps_its_number desc deps task job given own = (refl, refl, refl, refl, refl, refl, refl, refl, refl)

-- and that of one that ends
pub ended_task_keeps_its_number : (task : ℕ) (first waiting : Bool) → records_of TaskEnd first (TaskDone task waiting) ≡ ending_of points.TaskSchedule task 0 ∷ []
ended_task_keeps_its_number task first waiting = refl

-- Nestable locks

-- the lock's number, as it is got
pub got_lock_keeps_its_number : (lock : ℕ) → (records_of (SetNest lock) true (Count 1) ≡ moment_of points.MutexAcquire 4 lock ∷ moment_of points.MutexAcquired 4 lock ∷ []) × (records_of (TestNest lock) true (Count 1) ≡ moment_of points.MutexAcquire 4 lock ∷ moment_of points.MutexAcquired 4 lock ∷ []) × (records_of (TestNest lock) true (Count 0) ≡ moment_of points.MutexAcquire 4 lock ∷ [])
got_lock_keeps_its_number lock = (refl, refl, refl)

-- and as it is set once more, with its count
pub set_lock_keeps_its_count : (lock count : ℕ) → 1 < count → (records_of (SetNest lock) true (Count count) ≡ moment_of points.MutexAcquire 4 lock ∷ beginning_of points.NestLock lock count ∷ []) × (records_of (SetNest lock) false (Count count) ≡ beginning_of points.NestLock lock count ∷ []) × (records_of (TestNest lock) true (Count count) ≡ moment_of points.MutexAcquire 4 lock ∷ beginning_of points.NestLock lock count ∷ [])
set_lock_keeps_its_count lock count more =
    let not_none : (count == 0) ≡ false = other_number count 0 (λ none. omega (arith, more, none)) in
    let not_one : (count == 1) ≡ false = other_number count 1 (λ one. omega (arith, more, one)) in
    rw (not_none, not_one) (refl, refl, refl)

-- and as it is unset
pub unset_lock_keeps_its_count : (lock count : ℕ) (first : Bool) → 0 < count → (records_of (UnsetNest lock) first (Count 0) ≡ moment_of points.MutexReleased 4 lock ∷ []) × (records_of (UnsetNest lock) first (Count count) ≡ ending_of points.NestLock lock count ∷ [])
unset_lock_keeps_its_count lock count first some = let is : (count == 0) ≡ false = other_number count 0 (λ none. omega (arith, some, none)) in (refl, rw is refl)

-- at both ends
pub lock_counts_at_both_ends : (records_of (SetNest 4294967295) false (Count 2) ≡ beginning_of points.NestLock 4294967295 2 ∷ []) × (records_of (SetNest 0) false (Count 65535) ≡ beginning_of points.NestLock 0 65535 ∷ []) × (records_of (UnsetNest 4294967295) true (Count 65534) ≡ ending_of points.NestLock 4294967295 65534 ∷ []) × (records_of (UnsetNest 0) true (Count 1) ≡ ending_of points.NestLock 0 1 ∷ [])
lock_counts_at_both_ends = (refl, refl, refl, refl)

-- Counts

-- a count of 64 bits is itself
pub count_below_the_largest : (count : ℕ) → count < 2 ^ 64 → capped count ≡ count
count_below_the_largest count small = omega (arith, small)

-- and a larger one the largest
pub count_beyond_the_largest : (count : ℕ) → 2 ^ 64 ≤ count → capped count ≡ 18446744073709551615
count_beyond_the_largest count large = omega (arith, large)

-- counts are added in whole while 64 bits hold them
pub counts_are_added_in_whole : (old child new : List ℕ) (point : Point) → AddsCounts old (child ∷ []) new → count_of old point + count_of child point < 2 ^ 64 → count_of new point ≡ count_of old point + count_of child point
counts_are_added_in_whole old child new point adds small = let sum = adds point in omega (arith, sum, small)

-- Traces

-- lost records are counted in whole while 64 bits hold their count
pub lost_records_are_counted : (trace : TraceView) (count : ℕ) → trace.lost + count < 2 ^ 64 → (with_lost trace count).lost ≡ trace.lost + count
lost_records_are_counted trace count small = omega (arith, small)
