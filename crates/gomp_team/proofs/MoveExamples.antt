-- Computed tables: what each call, made and repeated, makes of a member's parts by each reply that it may have.
use Rattle.std.proofs.Common.{ℕ, ℤ, ◌≡◌, ◌+◌, Bool, true, false, List, [], ◌∷◌, refl}
use Rattle.std.specs.Prelude.{map}
use Rattle.gomp_types.specs.declared.call.Call.{Call}
use Rattle.gomp_types.specs.declared.call.Call.TheVariants.{LoopStart, LoopNext, LoopEnd, LoopEndNowait, LoopEndCancel, SectionsStart, SectionsNext, SectionsEnd, SectionsEndNowait, SectionsEndCancel, SingleStart, SingleCopyStart, SingleCopyEnd, OrderedStart, Barrier, RegionEnd, CriticalStart, CriticalEnd, LockInit, NestInit, LockDestroy, Set, Test, Unset, SetNest, TestNest, UnsetNest, TaskCreate, TaskEnd, Taskwait, GroupStart, GroupEnd, Cancel, Point, Resume, Stop}
use Rattle.gomp_types.specs.declared.cancel.CancelKind.{CancelKind}
use Rattle.gomp_types.specs.declared.cancel.CancelKind.TheVariants.{Parallel, Loop, Sections, Taskgroup}
use Rattle.gomp_types.specs.declared.depend.Dep.{Dep}
use Rattle.gomp_types.specs.declared.loop_desc.EndKind.{EndKind}
use Rattle.gomp_types.specs.declared.loop_desc.LoopDesc.{LoopDesc}
use Rattle.gomp_types.specs.declared.refusal.Refusal.TheVariants.{NotInTask, InsideShare, NotDrained, NotInside, NotCancellable, NoGroup, GroupOpen, TooDeep, TooManyDepends, AlreadyHeld, NotHolder, NoLock, CountTooLarge, Mismatch, TraceFull, NoMemory}
use Rattle.gomp_types.specs.declared.reply.Reply.{Reply}
use Rattle.gomp_types.specs.declared.reply.Reply.TheVariants.{Chunk, NoChunk, Section, Executor, Copied, Finished, Passed, Cancelled, Wait, Created, Dropped, Cancelling, Run, TaskDone, Lock, Got, Count, Stopped, Refused}
use Rattle.gomp_types.specs.declared.task.TaskDesc.{TaskDesc}
use Rattle.gomp_model.specs.ShareExamples.{ends_with}
use Rattle.gomp_team_board.specs.Parts.{PartView, part_of}
use Rattle.gomp_team_book.specs.Parts.{BookPartView}
use Rattle.gomp_team.specs.Moves.{events_part, holds_part, releases_part}

-- Events

-- two parts of the ledger with eight events, of which one is a creation, two are passes and three are starts; and so many more
abbrev with_more : ℕ → ℕ → ℕ → ℕ → PartView
with_more events creates passes starts = part_of 2 (8 + events) (record { creates = 1 + creates; passes = 2 + passes; starts = 3 + starts })

abbrev as_before : PartView
as_before = with_more 0 0 0 0

-- one event that is not counted by its kind, and a break is one
abbrev with_one : PartView
with_one = with_more 1 0 0 0

-- what a call, made or repeated, makes of them by each reply
abbrev events_by : Bool → List Reply → Call → List PartView
events_by repeated replies call = map (λ (reply : Reply). events_part repeated call reply as_before) replies

-- of each of these calls, made and repeated
abbrev events_of_all : List Reply → List Call → List (List PartView)
events_of_all replies called = map (events_by false replies) called

abbrev events_of_repeated : List Reply → List Call → List (List PartView)
events_of_repeated replies called = map (events_by true replies) called

-- the calls that arrive and may be cut short by a cancelled region, and the region's end
abbrev cut_arrivals : List Call
cut_arrivals = Barrier ∷ LoopEnd ∷ LoopEndCancel ∷ SectionsEnd ∷ SectionsEndCancel ∷ []

-- an arrival gives itself, and with it a pass or the start of a task; in a cancelled region nothing; a mismatch the break
abbrev of_an_arrival : List PartView
of_an_arrival = with_more 2 0 1 0 ∷ with_more 2 0 0 1 ∷ with_one ∷ as_before ∷ with_one ∷ as_before ∷ as_before ∷ []

pub events_of_arrivals : (task code arg : ℕ)
    → events_of_all (Passed ∷ Run task code arg false ∷ Wait ∷ Cancelled ∷ Refused Mismatch ∷ Refused NotDrained ∷ Refused TraceFull ∷ []) cut_arrivals
    ≡ of_an_arrival ∷ of_an_arrival ∷ of_an_arrival ∷ of_an_arrival ∷ of_an_arrival ∷ []
events_of_arrivals task code arg = refl

pub events_of_the_regions_end : (task code arg : ℕ)
    → events_by false (Passed ∷ Run task code arg false ∷ Wait ∷ Refused Mismatch ∷ Refused GroupOpen ∷ []) RegionEnd
    ≡ with_more 2 0 1 0 ∷ with_more 2 0 0 1 ∷ with_one ∷ with_one ∷ as_before ∷ []
events_of_the_regions_end task code arg = refl

-- repeated it gives the pass or the start alone
abbrev of_a_further_try : List PartView
of_a_further_try = with_more 1 0 1 0 ∷ with_more 1 0 0 1 ∷ as_before ∷ as_before ∷ as_before ∷ []

pub events_of_waiting_arrivals : (task code arg : ℕ)
    → events_of_repeated (Passed ∷ Run task code arg false ∷ Wait ∷ Cancelled ∷ Refused NotInside ∷ []) (RegionEnd ∷ cut_arrivals)
    ≡ of_a_further_try ∷ of_a_further_try ∷ of_a_further_try ∷ of_a_further_try ∷ of_a_further_try ∷ of_a_further_try ∷ []
events_of_waiting_arrivals task code arg = refl

-- a start gives nothing that the ledger counts but the break of a mismatch, at once or after a wait
abbrev of_a_start : List PartView
of_a_start = as_before ∷ as_before ∷ as_before ∷ as_before ∷ with_one ∷ as_before ∷ as_before ∷ []

pub events_of_starts : (loop : LoopDesc) (count amount number : ℕ) (end_kind : EndKind) (first : ℤ) (executes : Bool)
    → (events_of_all (Chunk first amount ∷ NoChunk ∷ Wait ∷ Cancelled ∷ Refused Mismatch ∷ Refused InsideShare ∷ Refused NoMemory ∷ []) (LoopStart loop ∷ []) ≡ of_a_start ∷ [])
    × (events_of_all (Section number ∷ Section 0 ∷ Wait ∷ Cancelled ∷ Refused Mismatch ∷ Refused InsideShare ∷ Refused NoMemory ∷ []) (SectionsStart count end_kind ∷ []) ≡ of_a_start ∷ [])
    × (events_of_all (Executor executes ∷ Executor false ∷ Wait ∷ Cancelled ∷ Refused Mismatch ∷ Refused InsideShare ∷ Refused TraceFull ∷ []) (SingleStart ∷ []) ≡ of_a_start ∷ [])
    × (events_of_repeated (Chunk first amount ∷ NoChunk ∷ Wait ∷ Cancelled ∷ Refused Mismatch ∷ Refused InsideShare ∷ Refused NoMemory ∷ []) (LoopStart loop ∷ []) ≡ of_a_start ∷ [])
    × (events_of_repeated (Section number ∷ Section 0 ∷ Wait ∷ Cancelled ∷ Refused Mismatch ∷ Refused InsideShare ∷ Refused NoMemory ∷ []) (SectionsStart count end_kind ∷ []) ≡ of_a_start ∷ [])
    × (events_of_repeated (Executor executes ∷ Executor false ∷ Wait ∷ Cancelled ∷ Refused Mismatch ∷ Refused InsideShare ∷ Refused TraceFull ∷ []) (SingleStart ∷ []) ≡ of_a_start ∷ [])
events_of_starts loop count amount number end_kind first executes = (refl, refl, refl, refl, refl, refl)

-- words give one event to their executor, and one to each member that is given them
pub events_of_words : (words : List ℕ)
    → (events_by false (Executor true ∷ Copied words ∷ Copied [] ∷ Wait ∷ Cancelled ∷ Refused Mismatch ∷ Refused InsideShare ∷ []) SingleCopyStart
    ≡ as_before ∷ with_one ∷ with_one ∷ as_before ∷ as_before ∷ with_one ∷ as_before ∷ [])
    × (events_by true (Executor true ∷ Copied words ∷ Copied [] ∷ Wait ∷ Cancelled ∷ Refused Mismatch ∷ Refused InsideShare ∷ []) SingleCopyStart
    ≡ as_before ∷ with_one ∷ with_one ∷ as_before ∷ as_before ∷ with_one ∷ as_before ∷ [])
    × (events_by false (Finished ∷ Refused NotInside ∷ []) (SingleCopyEnd words) ≡ with_one ∷ as_before ∷ [])
events_of_words words = (refl, refl, refl)

-- the creation of a task gives that, unless it is dropped, and the start of one that the member executes at once
pub events_of_creations : (desc : TaskDesc) (task code arg : ℕ)
    → (events_by false (Created task ∷ Run task code arg true ∷ Run task code arg false ∷ Wait ∷ Dropped ∷ Refused TooDeep ∷ Refused NoMemory ∷ []) (TaskCreate desc)
    ≡ with_more 1 1 0 0 ∷ with_more 2 1 0 1 ∷ with_more 2 1 0 1 ∷ with_more 1 1 0 0 ∷ as_before ∷ as_before ∷ as_before ∷ [])
    × (events_by true (Run task code arg true ∷ Run task code arg false ∷ Wait ∷ Dropped ∷ Refused NotInside ∷ []) (TaskCreate desc)
    ≡ with_more 1 0 0 1 ∷ with_more 1 0 0 1 ∷ as_before ∷ as_before ∷ as_before ∷ [])
events_of_creations desc task code arg = (refl, refl)

-- the end of a task gives that
pub events_of_task_ends : (task : ℕ) (waiting : Bool) → events_by false (TaskDone task waiting ∷ Refused NotInTask ∷ []) TaskEnd ≡ with_one ∷ as_before ∷ []
events_of_task_ends task waiting = refl

-- a taskwait gives the start of a task alone
pub events_of_taskwaits : (items : List Dep) (task code arg : ℕ)
    → (events_by false (Passed ∷ Run task code arg false ∷ Wait ∷ Refused TooManyDepends ∷ []) (Taskwait items) ≡ as_before ∷ with_more 1 0 0 1 ∷ as_before ∷ as_before ∷ [])
    × (events_by true (Passed ∷ Run task code arg false ∷ Wait ∷ Refused NotInside ∷ []) (Taskwait items) ≡ as_before ∷ with_more 1 0 0 1 ∷ as_before ∷ as_before ∷ [])
events_of_taskwaits items task code arg = (refl, refl)

-- a group is opened and ended, at once or after a wait; neither is the pass of a barrier
pub events_of_groups : (task code arg : ℕ)
    → (events_by false (Finished ∷ Refused TraceFull ∷ []) GroupStart ≡ with_one ∷ as_before ∷ [])
    × (events_by false (Passed ∷ Run task code arg false ∷ Wait ∷ Refused NoGroup ∷ []) GroupEnd ≡ with_one ∷ with_more 1 0 0 1 ∷ as_before ∷ as_before ∷ [])
    × (events_by true (Passed ∷ Run task code arg false ∷ Wait ∷ Refused NotInside ∷ []) GroupEnd ≡ with_one ∷ with_more 1 0 0 1 ∷ as_before ∷ as_before ∷ [])
events_of_groups task code arg = (refl, refl, refl)

-- a cancellation of the region or of a group gives that, by a true clause; one of a share is none of the ledger's, and a point gives none
abbrev construct_replies : List Reply
construct_replies = Cancelling true ∷ Cancelling false ∷ Refused NotCancellable ∷ []

abbrev nothing_cancelled : List PartView
nothing_cancelled = as_before ∷ as_before ∷ as_before ∷ []

pub events_of_cancellations :
    (events_of_all construct_replies (Cancel Parallel true ∷ Cancel Taskgroup true ∷ []) ≡ (with_one ∷ as_before ∷ as_before ∷ []) ∷ (with_one ∷ as_before ∷ as_before ∷ []) ∷ [])
    × (events_of_all construct_replies (Cancel Parallel false ∷ Cancel Taskgroup false ∷ []) ≡ nothing_cancelled ∷ nothing_cancelled ∷ [])
    × (events_of_all construct_replies (Cancel Loop true ∷ Cancel Loop false ∷ Cancel Sections true ∷ Cancel Sections false ∷ []) ≡ nothing_cancelled ∷ nothing_cancelled ∷ nothing_cancelled ∷ nothing_cancelled ∷ [])
    × (events_of_all construct_replies (Point Parallel ∷ Point Loop ∷ Point Sections ∷ Point Taskgroup ∷ []) ≡ nothing_cancelled ∷ nothing_cancelled ∷ nothing_cancelled ∷ nothing_cancelled ∷ [])
events_of_cancellations = (refl, refl, refl, refl)

-- a stop is a break
pub events_of_a_stop : events_by false (Stopped ∷ Refused NotInside ∷ []) Stop ≡ with_one ∷ as_before ∷ []
events_of_a_stop = refl

-- a resume with nothing to repeat gives none, and neither does a call inside a share that its member has entered, whatever it is answered
pub no_events_inside_shares : (repeated : Bool) (reply : Reply) (part : PartView) (value : ℤ)
    → map (λ (call : Call). events_part repeated call reply part) (Resume ∷ LoopNext ∷ LoopEndNowait ∷ SectionsNext ∷ SectionsEndNowait ∷ OrderedStart value ∷ []) ≡ part ∷ part ∷ part ∷ part ∷ part ∷ part ∷ []
no_events_inside_shares repeated reply part value = refl

-- of the ends that are done at once that of a single with words alone gives one; the last of them is the end of an ordered part
pub events_of_ends : (repeated : Bool) (words : List ℕ)
    → map (events_by repeated (Finished ∷ Refused NotInside ∷ Refused NotDrained ∷ [])) (ends_with words)
    ≡ (as_before ∷ as_before ∷ as_before ∷ []) ∷ (as_before ∷ as_before ∷ as_before ∷ []) ∷ (with_one ∷ as_before ∷ as_before ∷ []) ∷ (as_before ∷ as_before ∷ as_before ∷ []) ∷ []
events_of_ends repeated words = refl

-- the calls on names and locks
abbrev calls_of_keys : List ℕ → ℕ → List Call
calls_of_keys name number =
    CriticalStart name ∷ CriticalEnd name ∷ LockInit ∷ NestInit ∷ LockDestroy number ∷ Set number ∷ Test number ∷ Unset number ∷ SetNest number ∷ TestNest number ∷ UnsetNest number ∷ []

pub no_events_of_keys : (repeated : Bool) (reply : Reply) (part : PartView) (name : List ℕ) (number : ℕ)
    → map (λ (call : Call). events_part repeated call reply part) (calls_of_keys name number) ≡ part ∷ part ∷ part ∷ part ∷ part ∷ part ∷ part ∷ part ∷ part ∷ part ∷ part ∷ []
no_events_of_keys repeated reply part name number = refl

-- Holds and releases

-- two parts of a ledger on which so much was counted
abbrev two_parts : ℕ → BookPartView
two_parts amount = record { parts = 2; amount = amount }

-- three
abbrev of_three : BookPartView
of_three = two_parts 3

-- one more
abbrev of_four : BookPartView
of_four = two_parts 4

-- what a call makes of three holds, and of three releases, by each reply
abbrev holds_by : Bool → List Reply → Call → List BookPartView
holds_by repeated replies call = map (λ (reply : Reply). holds_part repeated call reply of_three) replies

abbrev releases_by : Bool → List Reply → Call → List BookPartView
releases_by repeated replies call = map (λ (reply : Reply). releases_part repeated call reply of_three) replies

-- a name is held once it is entered, and a simple lock once it is set, at once or after a wait
pub holds_of_entries : (name : List ℕ) (number : ℕ)
    → (map (holds_by false (Finished ∷ Wait ∷ Refused AlreadyHeld ∷ Refused NoMemory ∷ [])) (CriticalStart name ∷ Set number ∷ []) ≡ (of_four ∷ of_three ∷ of_three ∷ of_three ∷ []) ∷ (of_four ∷ of_three ∷ of_three ∷ of_three ∷ []) ∷ [])
    × (map (holds_by true (Finished ∷ Wait ∷ Refused NoLock ∷ Refused NotInside ∷ [])) (CriticalStart name ∷ Set number ∷ []) ≡ (of_four ∷ of_three ∷ of_three ∷ of_three ∷ []) ∷ (of_four ∷ of_three ∷ of_three ∷ of_three ∷ []) ∷ [])
holds_of_entries name number = (refl, refl)

-- a test of a simple lock holds it if it is answered yes
pub holds_of_tests : (number : ℕ) → holds_by false (Got true ∷ Got false ∷ Refused NoLock ∷ []) (Test number) ≡ of_four ∷ of_three ∷ of_three ∷ []
holds_of_tests number = refl

-- a nestable lock is held once more, whatever its count is now; by a test that is answered 0 it is not
pub holds_of_nestable_locks : (number count : ℕ)
    → (holds_by false (Count count ∷ Count 1 ∷ Count 65535 ∷ Wait ∷ Refused CountTooLarge ∷ []) (SetNest number) ≡ of_four ∷ of_four ∷ of_four ∷ of_three ∷ of_three ∷ [])
    × (holds_by true (Count count ∷ Count 1 ∷ Count 65535 ∷ Wait ∷ Refused NoLock ∷ []) (SetNest number) ≡ of_four ∷ of_four ∷ of_four ∷ of_three ∷ of_three ∷ [])
    × (holds_by false (Count 0 ∷ Count 1 ∷ Count 2 ∷ Count 65535 ∷ Refused CountTooLarge ∷ []) (TestNest number) ≡ of_three ∷ of_four ∷ of_four ∷ of_four ∷ of_three ∷ [])
holds_of_nestable_locks number count = (refl, refl, refl)

-- a name and a lock are freed once, a nestable lock for each time that it was set
pub releases_of_keys : (name : List ℕ) (number count : ℕ)
    → (map (releases_by false (Finished ∷ Refused NotHolder ∷ Refused NoLock ∷ [])) (CriticalEnd name ∷ Unset number ∷ []) ≡ (of_four ∷ of_three ∷ of_three ∷ []) ∷ (of_four ∷ of_three ∷ of_three ∷ []) ∷ [])
    × (releases_by false (Count count ∷ Count 0 ∷ Count 1 ∷ Refused NotHolder ∷ []) (UnsetNest number) ≡ of_four ∷ of_four ∷ of_four ∷ of_three ∷ [])
releases_of_keys name number count = (refl, refl)

-- the making and the destroying of a lock neither hold nor free it
pub no_holds_of_makings : (repeated : Bool) (made number : ℕ)
    → (map (holds_by repeated (Lock made ∷ Finished ∷ Refused CountTooLarge ∷ [])) (LockInit ∷ NestInit ∷ LockDestroy number ∷ []) ≡ (of_three ∷ of_three ∷ of_three ∷ []) ∷ (of_three ∷ of_three ∷ of_three ∷ []) ∷ (of_three ∷ of_three ∷ of_three ∷ []) ∷ [])
    × (map (releases_by repeated (Lock made ∷ Finished ∷ Refused CountTooLarge ∷ [])) (LockInit ∷ NestInit ∷ LockDestroy number ∷ []) ≡ (of_three ∷ of_three ∷ of_three ∷ []) ∷ (of_three ∷ of_three ∷ of_three ∷ []) ∷ (of_three ∷ of_three ∷ of_three ∷ []) ∷ [])
no_holds_of_makings true made number = (refl, refl)
no_holds_of_makings false made number = (refl, refl)

-- what holds frees nothing by any reply that it may have, and what frees holds nothing
pub no_releases_of_holds : (name : List ℕ) (number count : ℕ) (got : Bool)
    → (map (releases_by false (Finished ∷ Wait ∷ Got got ∷ Count count ∷ Refused AlreadyHeld ∷ [])) (CriticalStart name ∷ Set number ∷ Test number ∷ [])
    ≡ (of_three ∷ of_three ∷ of_three ∷ of_three ∷ of_three ∷ []) ∷ (of_three ∷ of_three ∷ of_three ∷ of_three ∷ of_three ∷ []) ∷ (of_three ∷ of_three ∷ of_three ∷ of_three ∷ of_three ∷ []) ∷ [])
    × (map (releases_by false (Count count ∷ Count 0 ∷ Wait ∷ [])) (SetNest number ∷ TestNest number ∷ []) ≡ (of_three ∷ of_three ∷ of_three ∷ []) ∷ (of_three ∷ of_three ∷ of_three ∷ []) ∷ [])
    × (map (releases_by true (Finished ∷ Count count ∷ Wait ∷ [])) (CriticalStart name ∷ Set number ∷ SetNest number ∷ []) ≡ (of_three ∷ of_three ∷ of_three ∷ []) ∷ (of_three ∷ of_three ∷ of_three ∷ []) ∷ (of_three ∷ of_three ∷ of_three ∷ []) ∷ [])
    × (map (holds_by false (Finished ∷ Count count ∷ Refused NotHolder ∷ [])) (CriticalEnd name ∷ Unset number ∷ UnsetNest number ∷ []) ≡ (of_three ∷ of_three ∷ of_three ∷ []) ∷ (of_three ∷ of_three ∷ of_three ∷ []) ∷ (of_three ∷ of_three ∷ of_three ∷ []) ∷ [])
no_releases_of_holds name number count got = (refl, refl, refl, refl)

-- Every other call holds and frees nothing, whatever it is answered

-- the calls on shares, on words and ordered parts
abbrev calls_of_shares : LoopDesc → ℕ → EndKind → List ℕ → ℤ → List Call
calls_of_shares loop count end_kind words value =
    LoopStart loop ∷ LoopNext ∷ LoopEnd ∷ LoopEndCancel ∷ SectionsStart count end_kind ∷ SectionsNext ∷ SectionsEnd ∷ SectionsEndCancel ∷ SingleStart ∷ SingleCopyStart ∷ OrderedStart value ∷ ends_with words

-- those at barriers, on tasks and groups, and of the team
abbrev calls_of_tasks : TaskDesc → List Dep → CancelKind → Bool → List Call
calls_of_tasks desc items kind clause =
    Barrier ∷ RegionEnd ∷ TaskCreate desc ∷ TaskEnd ∷ Taskwait items ∷ GroupStart ∷ GroupEnd ∷ Cancel kind clause ∷ Point kind ∷ Resume ∷ Stop ∷ []

-- one part for each of fifteen calls, and of eleven
abbrev fifteen_times : BookPartView → List BookPartView
fifteen_times part = part ∷ part ∷ part ∷ part ∷ part ∷ part ∷ part ∷ part ∷ part ∷ part ∷ part ∷ part ∷ part ∷ part ∷ part ∷ []

abbrev eleven_times : BookPartView → List BookPartView
eleven_times part = part ∷ part ∷ part ∷ part ∷ part ∷ part ∷ part ∷ part ∷ part ∷ part ∷ part ∷ []

pub no_holds_of_shares : (repeated : Bool) (reply : Reply) (part : BookPartView) (loop : LoopDesc) (count : ℕ) (end_kind : EndKind) (words : List ℕ) (value : ℤ)
    → (map (λ (call : Call). holds_part repeated call reply part) (calls_of_shares loop count end_kind words value) ≡ fifteen_times part)
    × (map (λ (call : Call). releases_part repeated call reply part) (calls_of_shares loop count end_kind words value) ≡ fifteen_times part)
no_holds_of_shares true reply part loop count end_kind words value = (refl, refl)
no_holds_of_shares false reply part loop count end_kind words value = (refl, refl)

pub no_holds_of_tasks : (repeated : Bool) (reply : Reply) (part : BookPartView) (desc : TaskDesc) (items : List Dep) (kind : CancelKind) (clause : Bool)
    → (map (λ (call : Call). holds_part repeated call reply part) (calls_of_tasks desc items kind clause) ≡ eleven_times part)
    × (map (λ (call : Call). releases_part repeated call reply part) (calls_of_tasks desc items kind clause) ≡ eleven_times part)
no_holds_of_tasks true reply part desc items kind clause = (refl, refl)
no_holds_of_tasks false reply part desc items kind clause = (refl, refl)
