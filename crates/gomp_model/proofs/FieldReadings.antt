-- What each field of a call's row is, of any argument, member, past and reply, but those that CallTests, ReplyEvents and CauseRefutations read:
-- memory and room, shares and barriers, tasks, cancellation, words, names and locks, and where a construct differs.
use Rattle.std.proofs.Common.{◌≡◌, ℕ, Bool, true, false, List, [], ◌∷◌, ◌++◌, Option, Some, None, refl}
use Rattle.std.specs.Prelude.{ℤ, ◌≢◌, map, not, slice_set}
use Rattle.gomp_types.specs.declared.call.Call.{Call}
use Rattle.gomp_types.specs.declared.call.Call.TheVariants.{LoopStart, LoopNext, LoopEnd, LoopEndCancel, SectionsStart, SectionsNext, SectionsEnd, SectionsEndCancel, SingleStart, SingleCopyStart, SingleCopyEnd, OrderedStart, Barrier, RegionEnd, CriticalStart, CriticalEnd, LockInit, NestInit, LockDestroy, Set, Test as TestLock, Unset, SetNest, TestNest, UnsetNest, TaskCreate, TaskEnd, Taskwait, GroupStart, GroupEnd, Cancel, Point, Resume, Stop}
use Rattle.gomp_types.specs.declared.call.Server.TheVariants.{Shares, Board, Book, Team}
use Rattle.gomp_types.specs.declared.cancel.CancelKind.{CancelKind}
use Rattle.gomp_types.specs.declared.cancel.CancelKind.TheVariants as kinds
use Rattle.gomp_types.specs.declared.depend.Dep.{Dep}
use Rattle.gomp_events.specs.declared.event.Arrival.TheVariants.{Barrier as BarrierArrival, ShareEnd, RegionEnd as RegionEndArrival}
use Rattle.gomp_events.specs.declared.event.Event.{Event}
use Rattle.gomp_events.specs.declared.event.Event.TheVariants.{Hold}
use Rattle.gomp_types.specs.declared.key.Key.{Key}
use Rattle.gomp_types.specs.declared.key.Key.TheVariants.{Critical, Lock, NestLock}
use Rattle.gomp_types.specs.declared.lock.LockKind.{LockKind}
use Rattle.gomp_types.specs.declared.lock.LockKind.TheVariants.{Simple, Nest}
use Rattle.gomp_types.specs.declared.loop_desc.EndKind.{EndKind}
use Rattle.gomp_types.specs.declared.loop_desc.LoopDesc.{LoopDesc}
use Rattle.gomp_types.specs.declared.refusal.Place.TheVariants.{Share, Barrier as AtBarrier}
use Rattle.gomp_types.specs.declared.reply.Reply.{Reply}
use Rattle.gomp_types.specs.declared.reply.Reply.TheVariants.{Cancelling, Dropped, Finished, Lock as LockMade}
use Rattle.gomp_types.specs.declared.task.Task.{Task}
use Rattle.gomp_types.specs.declared.task.TaskDesc.{TaskDesc}
use Rattle.gomp_events.specs.Cancels.{leaves_region}
use Rattle.gomp_events.specs.CancelCalls.{creates_covered}
use Rattle.gomp_events.specs.Events.{barriers_passed, shares_entered}
use Rattle.gomp_types.specs.Limits.{shown_number}
use Rattle.gomp_types.specs.Pieces.{shape_of}
use Rattle.gomp_types.specs.Sections.{sections_shape}
use Rattle.gomp_types.specs.Servers.{kind_served_by, served_by}
use Rattle.gomp_types.specs.Singles.{single_shape}
use Rattle.gomp_locks.specs.Holders.{same_key}
use Rattle.gomp_model.specs.ShareExamples.{ends_with}
use Rattle.gomp_model.specs.Calls.{row_of}
use Rattle.gomp_model.specs.CriticalNames.{was_name_held}
use Rattle.gomp_model.specs.Past.{Past}
use Rattle.gomp_model.specs.Row.{Row}

-- All calls, by what they are on

-- the arguments of calls
pub record Arguments : Type 0 where
  pub loop : LoopDesc
  pub count : ℕ
  pub end_kind : EndKind
  pub value : ℤ
  pub payload : List ℕ
  pub name : List ℕ
  pub number : ℕ
  pub desc : TaskDesc
  pub items : List Dep
  pub kind : CancelKind
  pub clause : Bool

-- the starts of shares, and the calls by which a member waits in its place for more of one
abbrev pub share_starts : Arguments → List Call
share_starts any = LoopStart any.loop ∷ SectionsStart any.count any.end_kind ∷ SingleStart ∷ SingleCopyStart ∷ []

abbrev pub share_nexts : Arguments → List Call
share_nexts any = LoopNext ∷ SectionsNext ∷ OrderedStart any.value ∷ []

-- the ends of shares with a barrier
abbrev pub barrier_ends : List Call
barrier_ends = LoopEnd ∷ LoopEndCancel ∷ SectionsEnd ∷ SectionsEndCancel ∷ []

abbrev pub arriving_calls : List Call
arriving_calls = Barrier ∷ RegionEnd ∷ barrier_ends

-- the calls on names and locks: those that hold or free one, and those that make or destroy one
abbrev pub name_calls : Arguments → List Call
name_calls any = CriticalStart any.name ∷ CriticalEnd any.name ∷ []

abbrev pub simple_lock_calls : Arguments → List Call
simple_lock_calls any = Set any.number ∷ TestLock any.number ∷ Unset any.number ∷ []

abbrev pub nestable_lock_calls : Arguments → List Call
nestable_lock_calls any = SetNest any.number ∷ TestNest any.number ∷ UnsetNest any.number ∷ []

abbrev pub holding_calls : Arguments → List Call
holding_calls any = name_calls any ++ simple_lock_calls any ++ nestable_lock_calls any

abbrev pub lock_makers : List Call
lock_makers = LockInit ∷ NestInit ∷ []

abbrev pub book_calls : Arguments → List Call
book_calls any = LockDestroy any.number ∷ lock_makers ++ holding_calls any

-- all others
abbrev pub task_calls : Arguments → List Call
task_calls any = TaskCreate any.desc ∷ TaskEnd ∷ Taskwait any.items ∷ GroupStart ∷ GroupEnd ∷ []

abbrev pub cancel_calls : Arguments → List Call
cancel_calls any = Cancel any.kind any.clause ∷ Point any.kind ∷ []

abbrev pub other_calls : Arguments → List Call
other_calls any = task_calls any ++ cancel_calls any ++ Resume ∷ Stop ∷ []

-- the rows of all these calls have this there
abbrev pub AllHave : {A : Type 0} → (Row → A) → A → List Call → Type 0
AllHave field value calls = map (λ call. field (row_of call)) calls ≡ map (λ call. value) calls

-- Memory and room

-- a name is made by a construct that is its first one, a lock by each of its makers, and nothing by another call
pub name_is_made_at_its_first_start : (name : List ℕ) (m : ℕ) (p : Past) → (row_of (CriticalStart name)).makes m p ≡ not (was_name_held name p.events)
name_is_made_at_its_first_start name m p = refl

pub lock_is_made_by_each_maker : (m : ℕ) (p : Past) → AllHave (λ row. row.makes m p) true lock_makers
lock_is_made_by_each_maker m p = refl

pub nothing_is_made_by_another_call : (any : Arguments) (m : ℕ) (p : Past) →
    AllHave (λ row. row.makes m p) false (share_starts any ++ share_nexts any ++ ends_with any.payload ++ arriving_calls ++ CriticalEnd any.name ∷ LockDestroy any.number ∷ simple_lock_calls any ++ nestable_lock_calls any ++ other_calls any)
nothing_is_made_by_another_call any m p = refl

-- a construct with a name is its first one as long as no task has held the name
pub no_name_is_started_at_first : (name : List ℕ) → was_name_held name [] ≡ false
no_name_is_started_at_first name = refl

pub hold_starts_its_name : (name : List ℕ) (key : Key) (m : ℕ) (task : Task) (h : List Event) → same_key key (Critical name) ≡ true → was_name_held name (Hold key m task ∷ h) ≡ true
hold_starts_its_name name key m task h same = rw same refl

pub hold_starts_no_other_name : (name : List ℕ) (key : Key) (m : ℕ) (task : Task) (h : List Event) → same_key key (Critical name) ≡ false → was_name_held name (Hold key m task ∷ h) ≡ was_name_held name h
hold_starts_no_other_name name key m task h other = rw other refl

pub no_other_event_starts_a_name : (name : List ℕ) (event : Event) (h : List Event) → ((key : Key) (m : ℕ) (task : Task) → event ≢ Hold key m task) → was_name_held name (event ∷ h) ≡ was_name_held name h
no_other_event_starts_a_name name (Hold key m task) h other = absurd (other key m task refl)
no_other_event_starts_a_name name _ h other = refl

-- a creation keeps its room unless it is dropped, a cancel construct if it cancels, every other call whatever it is answered
pub dropped_creation_keeps_no_room : (desc : TaskDesc) → (row_of (TaskCreate desc)).keeps_room Dropped ≡ false
dropped_creation_keeps_no_room desc = refl

pub creation_keeps_its_room : (desc : TaskDesc) (reply : Reply) → reply ≢ Dropped → (row_of (TaskCreate desc)).keeps_room reply ≡ true
creation_keeps_its_room desc Dropped other = absurd (other refl)
creation_keeps_its_room desc _ other = refl

pub cancellation_keeps_its_room : (kind : CancelKind) (clause : Bool) → (row_of (Cancel kind clause)).keeps_room (Cancelling true) ≡ clause
cancellation_keeps_its_room kind clause = refl

pub cancel_construct_keeps_no_room_otherwise : (kind : CancelKind) (clause : Bool) (reply : Reply) → reply ≢ Cancelling true → (row_of (Cancel kind clause)).keeps_room reply ≡ false
cancel_construct_keeps_no_room_otherwise kind clause (Cancelling true) other = absurd (other refl)
cancel_construct_keeps_no_room_otherwise kind clause _ other = refl

pub point_keeps_no_room : (kind : CancelKind) (reply : Reply) → (row_of (Point kind)).keeps_room reply ≡ false
point_keeps_no_room kind (Cancelling true) = refl
point_keeps_no_room kind _ = refl

pub every_other_call_keeps_its_room : (any : Arguments) (reply : Reply) →
    AllHave (λ row. row.keeps_room reply) true (share_starts any ++ share_nexts any ++ ends_with any.payload ++ arriving_calls ++ book_calls any ++ TaskEnd ∷ Taskwait any.items ∷ GroupStart ∷ GroupEnd ∷ Resume ∷ Stop ∷ [])
every_other_call_keeps_its_room any reply = refl

-- a creation is dropped if a cancellation reaches its task, and no other call is
pub covered_creation_is_dropped : (desc : TaskDesc) (m : ℕ) (p : Past) → (row_of (TaskCreate desc)).drops m p ≡ creates_covered m p.events
covered_creation_is_dropped desc m p = refl

pub no_other_call_is_dropped : (call : Call) (m : ℕ) (p : Past) → ((desc : TaskDesc) → call ≢ TaskCreate desc) → (row_of call).drops m p ≡ false
no_other_call_is_dropped (TaskCreate desc) m p other = absurd (other desc refl)
no_other_call_is_dropped _ m p other = refl

-- Shares and barriers

-- each start begins the share of its own construct, and no other call begins one
pub start_begins_its_share : (loop : LoopDesc) (count : ℕ) (kind : EndKind) →
    ((row_of (LoopStart loop)).starts ≡ Some (shape_of loop)) × ((row_of (SectionsStart count kind)).starts ≡ Some (sections_shape count kind))
    × ((row_of SingleStart).starts ≡ Some (single_shape false)) × ((row_of SingleCopyStart).starts ≡ Some (single_shape true))
start_begins_its_share loop count kind = (refl, refl, refl, refl)

pub no_other_call_begins_a_share : (any : Arguments) → AllHave (λ row. row.starts) None (share_nexts any ++ ends_with any.payload ++ arriving_calls ++ book_calls any ++ other_calls any)
no_other_call_begins_a_share any = refl

-- who waits to begin a share, or for more of it, stays in its place, and no other member that waits
pub wait_for_a_share_stays_in_place : (any : Arguments) → AllHave (λ row. row.stays) true (share_starts any ++ share_nexts any)
wait_for_a_share_stays_in_place any = refl

pub no_other_wait_stays_in_place : (any : Arguments) → AllHave (λ row. row.stays) false (ends_with any.payload ++ arriving_calls ++ book_calls any ++ other_calls any)
no_other_wait_stays_in_place any = refl

-- a barrier, the region's end and the ends of shares with a barrier are arrived at, each as its kind, and no other call arrives
pub arrival_is_of_its_kind : ((row_of Barrier).arrives ≡ Some BarrierArrival) × ((row_of RegionEnd).arrives ≡ Some RegionEndArrival) × AllHave (λ row. row.arrives) (Some ShareEnd) barrier_ends
arrival_is_of_its_kind = (refl, refl, refl)

pub no_other_call_arrives : (any : Arguments) → AllHave (λ row. row.arrives) None (share_starts any ++ share_nexts any ++ ends_with any.payload ++ book_calls any ++ other_calls any)
no_other_call_arrives any = refl

-- the region's end of a member that leaves it gives its share up, and no other call does
pub region_end_gives_up_its_share : (m : ℕ) (h : List Event) → (row_of RegionEnd).gives_up m h ≡ leaves_region m h
region_end_gives_up_its_share m h = refl

pub no_other_call_gives_up_its_share : (call : Call) (m : ℕ) (h : List Event) → call ≢ RegionEnd → (row_of call).gives_up m h ≡ false
no_other_call_gives_up_its_share RegionEnd m h other = absurd (other refl)
no_other_call_gives_up_its_share _ m h other = refl

-- the executor's end of a single with words puts them, and no other call does
pub copy_end_puts_words : (payload : List ℕ) → (row_of (SingleCopyEnd payload)).puts ≡ true
copy_end_puts_words payload = refl

pub no_other_call_puts_words : (call : Call) → ((payload : List ℕ) → call ≢ SingleCopyEnd payload) → (row_of call).puts ≡ false
no_other_call_puts_words (SingleCopyEnd payload) other = absurd (other payload refl)
no_other_call_puts_words _ other = refl

-- a start differs at its member's next share, every other call at its next barrier
pub start_differs_at_its_share : (any : Arguments) (m : ℕ) (h : List Event) → AllHave (λ row. row.place m h) (Share (shown_number (shares_entered m h))) (share_starts any)
start_differs_at_its_share any m h = refl

pub every_other_call_differs_at_its_barrier : (any : Arguments) (m : ℕ) (h : List Event) →
    AllHave (λ row. row.place m h) (AtBarrier (shown_number (barriers_passed m h))) (share_nexts any ++ ends_with any.payload ++ arriving_calls ++ book_calls any ++ other_calls any)
every_other_call_differs_at_its_barrier any m h = refl

-- Tasks and cancellation

-- a creation creates the task that is asked for, and no other call creates one
pub creation_creates_its_task : (desc : TaskDesc) → (row_of (TaskCreate desc)).creates ≡ Some desc
creation_creates_its_task desc = refl

pub no_other_call_creates_a_task : (call : Call) → ((desc : TaskDesc) → call ≢ TaskCreate desc) → (row_of call).creates ≡ None
no_other_call_creates_a_task (TaskCreate desc) other = absurd (other desc refl)
no_other_call_creates_a_task _ other = refl

-- a cancel construct may cancel what it names, whatever its clause, and no other call may cancel anything
pub cancel_construct_cancels_what_it_names : (kind : CancelKind) (clause : Bool) → (row_of (Cancel kind clause)).cancels ≡ Some kind
cancel_construct_cancels_what_it_names kind clause = refl

pub no_other_call_cancels : (call : Call) → ((kind : CancelKind) (clause : Bool) → call ≢ Cancel kind clause) → (row_of call).cancels ≡ None
no_other_call_cancels (Cancel kind clause) other = absurd (other kind clause refl)
no_other_call_cancels _ other = refl

-- Names and locks

-- which part answers the calls: the book those on names and locks, and no others
pub book_answers_names_and_locks : (any : Arguments) → map served_by (book_calls any) ≡ map (λ call. Book) (book_calls any)
book_answers_names_and_locks any = refl

-- the shares their own, but those that bring words
pub shares_answer_their_calls : (any : Arguments) → (map served_by (share_starts any) ≡ Shares ∷ Shares ∷ Shares ∷ Team ∷ []) × (map served_by (share_nexts any) ≡ map (λ call. Shares) (share_nexts any)) × (map served_by (ends_with any.payload) ≡ Shares ∷ Shares ∷ Team ∷ Shares ∷ [])
shares_answer_their_calls any = (refl, refl, refl)

-- the board those on tasks and the stop, and of constructs that cancel those that name no share
pub board_answers_tasks_and_the_stop : (any : Arguments) → map served_by (Stop ∷ task_calls any) ≡ map (λ call. Board) (Stop ∷ task_calls any)
board_answers_tasks_and_the_stop any = refl

pub cancel_constructs_are_answered_by_what_they_name : (kind : CancelKind) (clause : Bool) → (served_by (Cancel kind clause) ≡ kind_served_by kind) × (served_by (Point kind) ≡ kind_served_by kind)
cancel_constructs_are_answered_by_what_they_name kind clause = (refl, refl)

pub shares_are_named_by_their_kinds : map kind_served_by (kinds.Parallel ∷ kinds.Loop ∷ kinds.Sections ∷ kinds.Taskgroup ∷ []) ≡ Board ∷ Shares ∷ Shares ∷ Board ∷ []
shares_are_named_by_their_kinds = refl

-- and several together those that arrive at a barrier, and a resume
pub team_answers_arrivals_and_resumes : map served_by (Resume ∷ arriving_calls) ≡ map (λ call. Team) (Resume ∷ arriving_calls)
team_answers_arrivals_and_resumes = refl

-- a critical construct holds and frees its name, a lock's calls that lock by its kind and number; no other call holds or frees anything
pub critical_construct_holds_its_name : (any : Arguments) → AllHave (λ row. row.holds) (Some (Critical any.name)) (name_calls any)
critical_construct_holds_its_name any = refl

pub lock_call_holds_its_lock : (any : Arguments) → AllHave (λ row. row.holds) (Some (Lock any.number)) (simple_lock_calls any) × AllHave (λ row. row.holds) (Some (NestLock any.number)) (nestable_lock_calls any)
lock_call_holds_its_lock any = (refl, refl)

pub no_other_call_holds : (any : Arguments) → AllHave (λ row. row.holds) None (share_starts any ++ share_nexts any ++ ends_with any.payload ++ arriving_calls ++ lock_makers ++ LockDestroy any.number ∷ other_calls any)
no_other_call_holds any = refl

-- a lock that is made stands behind the others, by its kind
pub made_lock_stands_last : (number : ℕ) (locks : List (Option LockKind)) →
    ((row_of LockInit).locks (LockMade number) locks ≡ locks ++ Some Simple ∷ []) × ((row_of NestInit).locks (LockMade number) locks ≡ locks ++ Some Nest ∷ [])
made_lock_stands_last number locks = (refl, refl)

pub no_lock_stands_unmade : (reply : Reply) (locks : List (Option LockKind)) → ((number : ℕ) → reply ≢ LockMade number) → AllHave (λ row. row.locks reply locks) locks lock_makers
no_lock_stands_unmade (LockMade number) locks other = absurd (other number refl)
no_lock_stands_unmade _ locks other = refl

-- one that is destroyed leaves its place, and no other call, and no other answer, changes any
pub destroyed_lock_leaves_its_place : (number : ℕ) (locks : List (Option LockKind)) → (row_of (LockDestroy number)).locks Finished locks ≡ slice_set locks number None
destroyed_lock_leaves_its_place number locks = refl

pub no_lock_is_gone_undestroyed : (number : ℕ) (reply : Reply) (locks : List (Option LockKind)) → reply ≢ Finished → (row_of (LockDestroy number)).locks reply locks ≡ locks
no_lock_is_gone_undestroyed number Finished locks other = absurd (other refl)
no_lock_is_gone_undestroyed number _ locks other = refl

pub no_other_call_changes_the_locks : (any : Arguments) (reply : Reply) (locks : List (Option LockKind)) →
    AllHave (λ row. row.locks reply locks) locks (share_starts any ++ share_nexts any ++ ends_with any.payload ++ arriving_calls ++ holding_calls any ++ other_calls any)
no_other_call_changes_the_locks any reply locks = refl
