-- Which events a reply gives, of any member, past and argument: just that of what happened, before the earlier ones; the room that starts ask for, and which calls a member that leaves may make.
use Rattle.std.proofs.Common.{◌≡◌, ◌+◌, ℕ, suc, Bool, true, false, List, [], ◌∷◌, ◌++◌, Some, None, refl, arith}
use Rattle.std.specs.Prelude.{ℤ, ◌≢◌, ◌&&◌, ◌||◌, not, nat_lt, pos, if◌then◌else◌}
use Rattle.std.specs.Ordering.{int_eq}
use Rattle.std.proofs.lemmas.Bool.Decides.{nat_tests}
use Rattle.gomp_types.specs.declared.call.Call.{Call}
use Rattle.gomp_types.specs.declared.call.Call.TheVariants.{LoopStart, LoopNext, LoopEnd, LoopEndNowait, LoopEndCancel, SectionsStart, SectionsNext, SectionsEnd, SectionsEndNowait, SectionsEndCancel, SingleStart, SingleCopyStart, SingleCopyEnd, OrderedStart, Barrier, RegionEnd, CriticalStart, CriticalEnd, LockInit, NestInit, LockDestroy, Set, Test as TestLock, Unset, SetNest, TestNest, UnsetNest, TaskCreate, TaskEnd, Taskwait, GroupStart, GroupEnd, Cancel, Point, Resume, Stop}
use Rattle.gomp_types.specs.declared.cancel.CancelKind.{CancelKind}
use Rattle.gomp_types.specs.declared.cancel.CancelKind.TheVariants.{Parallel}
use Rattle.gomp_types.specs.declared.cancel.Scope.{Scope}
use Rattle.gomp_types.specs.declared.depend.Dep.{Dep}
use Rattle.gomp_events.specs.declared.event.Arrival.TheVariants.{Barrier as BarrierArrival, ShareEnd, RegionEnd as RegionEndArrival}
use Rattle.gomp_events.specs.declared.event.Event.{Event}
use Rattle.gomp_events.specs.declared.event.Event.TheVariants.{Enter, Take, Drained, End, HandOn, Part, Put, Got as GotWords, Arrive, Pass, Hold, Free, Create, Start, Done, Group, GroupEnd as EndOfGroup, Waited, Cancel as CancelScope, Discard, See, Break}
use Rattle.gomp_types.specs.declared.key.Key.TheVariants.{Critical, Lock, NestLock}
use Rattle.gomp_types.specs.declared.loop_desc.EndKind.{EndKind}
use Rattle.gomp_types.specs.declared.loop_desc.EndKind.TheVariants.{Wait as WaitEnd, Nowait, Cancellable}
use Rattle.gomp_types.specs.declared.loop_desc.LoopDesc.{LoopDesc}
use Rattle.gomp_types.specs.declared.refusal.Place.TheVariants.{Share, Barrier as AtBarrier, Stopped as AtStop}
use Rattle.gomp_types.specs.declared.refusal.Refusal.{Refusal}
use Rattle.gomp_types.specs.declared.refusal.Refusal.TheVariants.{Mismatch}
use Rattle.gomp_types.specs.declared.reply.Reply.{Reply}
use Rattle.gomp_types.specs.declared.reply.Reply.TheVariants.{Chunk, NoChunk, Section, Executor, Copied, Finished, Passed, Cancelled, Wait, Created, Dropped, Cancelling, Run, TaskDone, Lock as LockMade, Got, Count, Stopped, Refused}
use Rattle.gomp_types.specs.declared.loop_desc.Sched.{Sched}
use Rattle.gomp_types.specs.declared.loop_desc.Sched.TheVariants.{Static, Guided}
use Rattle.gomp_types.specs.declared.shape.Shape.{Shape}
use Rattle.gomp_types.specs.declared.shape.ShareKind.TheVariants.{StaticChunked, StaticEven}
use Rattle.gomp_types.specs.Least.{least}
use Rattle.gomp_events.specs.Seen.{seen_of}
use Rattle.gomp_types.specs.Shapes.{is_copy}
use Rattle.gomp_shares.specs.Loops.{end_tests}
use Rattle.gomp_shares.specs.Sections.{sections_end_tests}
use Rattle.gomp_types.specs.declared.task.TaskDesc.{TaskDesc}
use Rattle.gomp_events.specs.Cancels.{is_cancelled, is_covered, leaves_region, leaves_share, leaves_task, own_cancelled, scope_of}
use Rattle.gomp_events.specs.CancelCalls.{creates_covered, discards, discards_to}
use Rattle.gomp_events.specs.Tags.{tag_with}
use Rattle.gomp_events.specs.Events.{barriers_passed, has_drained, open_number, open_share, shares_entered}
use Rattle.gomp_events.specs.Goals.{is_unstarted}
use Rattle.gomp_events.specs.Groups.{groups_opened, open_groups}
use Rattle.gomp_types.specs.Limits.{shown_number}
use Rattle.gomp_events.specs.Ordered.{last_number}
use Rattle.gomp_types.specs.Pieces.{share_kind_of, shape_of}
use Rattle.gomp_types.specs.Sections.{sections_shape}
use Rattle.gomp_types.specs.Singles.{single_shape}
use Rattle.gomp_events.specs.declared.room.TheConstants.{ARRIVAL_ROOM}
use Rattle.gomp_events.specs.Tasks.{executed_task, tasks_created}
use Rattle.gomp_types.specs.Values.{iteration_at}
use Rattle.gomp_shares.specs.Calls.{kind_in}
use Rattle.gomp_shares.specs.Starts.{leaves, sees_at_end}
use Rattle.gomp_model.specs.Past.{Past}
use Rattle.gomp_model.specs.Row.{events_after, unless_repeated}
use Rattle.gomp_model.specs.Calls.{row_of}
use Rattle.gomp_model.specs.Starts.{share_room}
use Rattle.gomp_types.specs.Resumes.{call_meant, is_resume}
use Rattle.gomp_model.specs.Team.{past_after}
use Rattle.gomp_model.proofs.Refutations.{made_by}

-- the events after this call of the member, made once or repeated, and its reply
abbrev pub events_of : Bool → Call → ℕ → Past → Reply → List Event
events_of repeated call m p reply = events_after repeated (row_of call) m p reply

-- a step leaves the events of the call that it makes
pub step_gives_the_events_of_its_row : (p : Past) (m : ℕ) (call : Call) (reply : Reply) → (past_after p (made_by m call) reply).events ≡ events_after (is_resume call) (row_of (call_meant call (p.waits m).open_call)) m p reply
step_gives_the_events_of_its_row p m call reply = refl

-- a resume leaves those of the call that waits
pub resume_gives_the_events_of_its_call : (p : Past) (m : ℕ) (call : Call) (reply : Reply) → (p.waits m).open_call ≡ Some call → (past_after p (made_by m Resume) reply).events ≡ events_of true call m p reply
resume_gives_the_events_of_its_call p m call reply waits = rw waits refl

-- Names and locks

-- who enters a critical construct holds its name
pub entry_holds_its_name : (repeated : Bool) (name : List ℕ) (m : ℕ) (p : Past) → events_of repeated (CriticalStart name) m p Finished ≡ Hold (Critical name) m (executed_task m p.events) ∷ p.events
entry_holds_its_name repeated name m p = refl

-- who is to wait does not
pub wait_holds_no_name : (repeated : Bool) (name : List ℕ) (m : ℕ) (p : Past) → events_of repeated (CriticalStart name) m p Wait ≡ p.events
wait_holds_no_name repeated name m p = refl

-- its end frees the name
pub exit_frees_its_name : (repeated : Bool) (name : List ℕ) (m : ℕ) (p : Past) → events_of repeated (CriticalEnd name) m p Finished ≡ Free (Critical name) m (executed_task m p.events) ∷ p.events
exit_frees_its_name repeated name m p = refl

-- a lock that is set is held
pub set_holds_its_lock : (repeated : Bool) (number m : ℕ) (p : Past) → events_of repeated (Set number) m p Finished ≡ Hold (Lock number) m (executed_task m p.events) ∷ p.events
set_holds_its_lock repeated number m p = refl

pub wait_holds_no_lock : (repeated : Bool) (number m : ℕ) (p : Past) → events_of repeated (Set number) m p Wait ≡ p.events
wait_holds_no_lock repeated number m p = refl

-- a test holds it if it was free, and only then
pub successful_test_holds_its_lock : (repeated : Bool) (number m : ℕ) (p : Past) → events_of repeated (TestLock number) m p (Got true) ≡ Hold (Lock number) m (executed_task m p.events) ∷ p.events
successful_test_holds_its_lock repeated number m p = refl

pub failed_test_holds_no_lock : (repeated : Bool) (number m : ℕ) (p : Past) → events_of repeated (TestLock number) m p (Got false) ≡ p.events
failed_test_holds_no_lock repeated number m p = refl

pub unset_frees_its_lock : (repeated : Bool) (number m : ℕ) (p : Past) → events_of repeated (Unset number) m p Finished ≡ Free (Lock number) m (executed_task m p.events) ∷ p.events
unset_frees_its_lock repeated number m p = refl

some_count : (count : ℕ) → nat_lt 0 (suc count) ≡ true
some_count count = grind (arith, nat_tests)

-- a nestable lock is held once more at each set, whatever the count
pub set_holds_its_nestable_lock : (repeated : Bool) (number m : ℕ) (p : Past) → events_of repeated (SetNest number) m p Finished ≡ Hold (NestLock number) m (executed_task m p.events) ∷ p.events
set_holds_its_nestable_lock repeated number m p = refl

pub counted_set_holds_its_nestable_lock : (repeated : Bool) (number count m : ℕ) (p : Past) → events_of repeated (SetNest number) m p (Count (suc count)) ≡ Hold (NestLock number) m (executed_task m p.events) ∷ p.events
counted_set_holds_its_nestable_lock repeated number count m p = rw (some_count count) refl

pub wait_holds_no_nestable_lock : (repeated : Bool) (number m : ℕ) (p : Past) → events_of repeated (SetNest number) m p Wait ≡ p.events
wait_holds_no_nestable_lock repeated number m p = refl

pub counted_test_holds_its_nestable_lock : (repeated : Bool) (number count m : ℕ) (p : Past) → events_of repeated (TestNest number) m p (Count (suc count)) ≡ Hold (NestLock number) m (executed_task m p.events) ∷ p.events
counted_test_holds_its_nestable_lock repeated number count m p = rw (some_count count) refl

pub failed_test_holds_no_nestable_lock : (repeated : Bool) (number m : ℕ) (p : Past) → events_of repeated (TestNest number) m p (Count 0) ≡ p.events
failed_test_holds_no_nestable_lock repeated number m p = refl

-- and freed once, whatever count is left
pub unset_frees_its_nestable_lock : (repeated : Bool) (number count m : ℕ) (p : Past) → events_of repeated (UnsetNest number) m p (Count count) ≡ Free (NestLock number) m (executed_task m p.events) ∷ p.events
unset_frees_its_nestable_lock repeated number count m p = refl

-- a lock that is made or destroyed is no event
pub made_lock_is_no_event : (repeated : Bool) (number m : ℕ) (p : Past) → events_of repeated LockInit m p (LockMade number) ≡ p.events
made_lock_is_no_event repeated number m p = refl

pub made_nestable_lock_is_no_event : (repeated : Bool) (number m : ℕ) (p : Past) → events_of repeated NestInit m p (LockMade number) ≡ p.events
made_nestable_lock_is_no_event repeated number m p = refl

pub destroyed_lock_is_no_event : (repeated : Bool) (number m : ℕ) (p : Past) → events_of repeated (LockDestroy number) m p Finished ≡ p.events
destroyed_lock_is_no_event repeated number m p = refl

-- Loops

-- a loop's start that is answered by iterations enters the share and takes them
pub loop_start_takes_its_chunk : (repeated : Bool) (loop : LoopDesc) (first : ℤ) (count m : ℕ) (p : Past) → events_of repeated (LoopStart loop) m p (Chunk first count)
    ≡ Take (shares_entered m p.events) m (iteration_at (shape_of loop) first) (iteration_at (shape_of loop) first + count) ∷ Enter (shares_entered m p.events) m (shape_of loop) ∷ p.events
loop_start_takes_its_chunk repeated loop first count m p = refl

-- or drains it
pub loop_start_drains : (repeated : Bool) (loop : LoopDesc) (m : ℕ) (p : Past) → events_of repeated (LoopStart loop) m p NoChunk ≡ Drained (shares_entered m p.events) m ∷ Enter (shares_entered m p.events) m (shape_of loop) ∷ p.events
loop_start_drains repeated loop m p = refl

-- while it waits it enters none
pub waiting_loop_start_enters_no_share : (repeated : Bool) (loop : LoopDesc) (m : ℕ) (p : Past) → events_of repeated (LoopStart loop) m p Wait ≡ p.events
waiting_loop_start_enters_no_share repeated loop m p = refl

pub cancelled_loop_start_sees_it : (repeated : Bool) (loop : LoopDesc) (m : ℕ) (p : Past) → events_of repeated (LoopStart loop) m p Cancelled ≡ See m Parallel ∷ p.events
cancelled_loop_start_sees_it repeated loop m p = refl

-- the next piece of an unordered loop
pub next_piece_is_taken : (repeated : Bool) (first : ℤ) (count m share : ℕ) (shape : Shape) (p : Past) → open_share m p.events ≡ Some (share, shape) → shape.ordered ≡ false →
    events_of repeated LoopNext m p (Chunk first count) ≡ Take share m (iteration_at shape first) (iteration_at shape first + count) ∷ p.events
next_piece_is_taken repeated first count m share shape p is unordered = rw (is, unordered) refl

pub next_piece_drains : (repeated : Bool) (m share : ℕ) (shape : Shape) (p : Past) → open_share m p.events ≡ Some (share, shape) → shape.ordered ≡ false → events_of repeated LoopNext m p NoChunk ≡ Drained share m ∷ p.events
next_piece_drains repeated m share shape p is unordered = rw (is, unordered) refl

-- of an ordered one, whose member hands its piece on first
pub next_piece_is_taken_once_handed_on : (repeated : Bool) (first : ℤ) (count m share : ℕ) (shape : Shape) (p : Past) → open_share m p.events ≡ Some (share, shape) → shape.ordered ≡ true →
    events_of repeated LoopNext m p (Chunk first count) ≡ Take share m (iteration_at shape first) (iteration_at shape first + count) ∷ HandOn share m (last_number p.terms.members (share, shape) m p.events) ∷ p.events
next_piece_is_taken_once_handed_on repeated first count m share shape p is ordered = rw (is, ordered) refl

pub next_piece_drains_once_handed_on : (repeated : Bool) (m share : ℕ) (shape : Shape) (p : Past) → open_share m p.events ≡ Some (share, shape) → shape.ordered ≡ true →
    events_of repeated LoopNext m p NoChunk ≡ Drained share m ∷ HandOn share m (last_number p.terms.members (share, shape) m p.events) ∷ p.events
next_piece_drains_once_handed_on repeated m share shape p is ordered = rw (is, ordered) refl

pub waiting_next_piece_hands_nothing_on : (repeated : Bool) (m share : ℕ) (shape : Shape) (p : Past) → open_share m p.events ≡ Some (share, shape) → events_of repeated LoopNext m p Wait ≡ p.events
waiting_next_piece_hands_nothing_on repeated m share shape p is = rw is refl

pub cancelled_next_piece_sees_it : (repeated : Bool) (m : ℕ) (p : Past) → events_of repeated LoopNext m p Cancelled ≡ See m Parallel ∷ p.events
cancelled_next_piece_sees_it repeated m p = refl

-- Sections

pub sections_start_takes_its_section : (repeated : Bool) (count k m : ℕ) (kind : EndKind) (p : Past) → events_of repeated (SectionsStart count kind) m p (Section (suc k))
    ≡ Take (shares_entered m p.events) m k (suc k) ∷ Enter (shares_entered m p.events) m (sections_shape count kind) ∷ p.events
sections_start_takes_its_section repeated count k m kind p = refl

pub sections_start_drains : (repeated : Bool) (count m : ℕ) (kind : EndKind) (p : Past) → events_of repeated (SectionsStart count kind) m p (Section 0)
    ≡ Drained (shares_entered m p.events) m ∷ Enter (shares_entered m p.events) m (sections_shape count kind) ∷ p.events
sections_start_drains repeated count m kind p = refl

pub waiting_sections_start_enters_no_share : (repeated : Bool) (count m : ℕ) (kind : EndKind) (p : Past) → events_of repeated (SectionsStart count kind) m p Wait ≡ p.events
waiting_sections_start_enters_no_share repeated count m kind p = refl

pub cancelled_sections_start_sees_it : (repeated : Bool) (count m : ℕ) (kind : EndKind) (p : Past) → events_of repeated (SectionsStart count kind) m p Cancelled ≡ See m Parallel ∷ p.events
cancelled_sections_start_sees_it repeated count m kind p = refl

pub next_section_is_taken : (repeated : Bool) (k m share : ℕ) (shape : Shape) (p : Past) → open_share m p.events ≡ Some (share, shape) → events_of repeated SectionsNext m p (Section (suc k)) ≡ Take share m k (suc k) ∷ p.events
next_section_is_taken repeated k m share shape p is = rw is refl

pub next_section_drains : (repeated : Bool) (m share : ℕ) (shape : Shape) (p : Past) → open_share m p.events ≡ Some (share, shape) → events_of repeated SectionsNext m p (Section 0) ≡ Drained share m ∷ p.events
next_section_drains repeated m share shape p is = rw is refl

-- Singles

-- who executes a single takes its piece and leaves it; the others drain it and leave it
pub executor_takes_the_single : (repeated : Bool) (m : ℕ) (p : Past) → events_of repeated SingleStart m p (Executor true)
    ≡ End (shares_entered m p.events) m ∷ Take (shares_entered m p.events) m 0 1 ∷ Enter (shares_entered m p.events) m (single_shape false) ∷ p.events
executor_takes_the_single repeated m p = refl

pub others_drain_the_single : (repeated : Bool) (m : ℕ) (p : Past) → events_of repeated SingleStart m p (Executor false)
    ≡ End (shares_entered m p.events) m ∷ Drained (shares_entered m p.events) m ∷ Enter (shares_entered m p.events) m (single_shape false) ∷ p.events
others_drain_the_single repeated m p = refl

pub waiting_single_enters_no_share : (repeated : Bool) (m : ℕ) (p : Past) → events_of repeated SingleStart m p Wait ≡ p.events
waiting_single_enters_no_share repeated m p = refl

pub cancelled_single_sees_it : (repeated : Bool) (m : ℕ) (p : Past) → events_of repeated SingleStart m p Cancelled ≡ See m Parallel ∷ p.events
cancelled_single_sees_it repeated m p = refl

-- with words its executor stays in it until it has put them; the others get them and leave it
pub executor_takes_the_copy : (repeated : Bool) (m : ℕ) (p : Past) → events_of repeated SingleCopyStart m p (Executor true)
    ≡ Take (shares_entered m p.events) m 0 1 ∷ Enter (shares_entered m p.events) m (single_shape true) ∷ p.events
executor_takes_the_copy repeated m p = refl

pub others_get_the_words : (repeated : Bool) (payload : List ℕ) (m : ℕ) (p : Past) → events_of repeated SingleCopyStart m p (Copied payload)
    ≡ End (shares_entered m p.events) m ∷ GotWords (shares_entered m p.events) m payload ∷ Drained (shares_entered m p.events) m ∷ Enter (shares_entered m p.events) m (single_shape true) ∷ p.events
others_get_the_words repeated payload m p = refl

pub waiting_copy_enters_no_share : (repeated : Bool) (m : ℕ) (p : Past) → events_of repeated SingleCopyStart m p Wait ≡ p.events
waiting_copy_enters_no_share repeated m p = refl

pub cancelled_copy_sees_it : (repeated : Bool) (m : ℕ) (p : Past) → events_of repeated SingleCopyStart m p Cancelled ≡ See m Parallel ∷ p.events
cancelled_copy_sees_it repeated m p = refl

pub copy_end_puts_its_words : (payload : List ℕ) (m : ℕ) (p : Past) → events_of false (SingleCopyEnd payload) m p Finished ≡ End (open_number m p.events) m ∷ Put (open_number m p.events) m payload ∷ p.events
copy_end_puts_its_words payload m p = refl

-- Ordered parts

pub ordered_start_begins_its_part : (repeated : Bool) (value : ℤ) (m share : ℕ) (shape : Shape) (p : Past) → open_share m p.events ≡ Some (share, shape) →
    events_of repeated (OrderedStart value) m p Finished ≡ Part share m (iteration_at shape value) ∷ p.events
ordered_start_begins_its_part repeated value m share shape p is = rw is refl

pub waiting_ordered_start_begins_no_part : (repeated : Bool) (value : ℤ) (m share : ℕ) (shape : Shape) (p : Past) → open_share m p.events ≡ Some (share, shape) → events_of repeated (OrderedStart value) m p Wait ≡ p.events
waiting_ordered_start_begins_no_part repeated value m share shape p is = rw is refl

pub cancelled_ordered_start_sees_it : (repeated : Bool) (value : ℤ) (m : ℕ) (p : Past) → events_of repeated (OrderedStart value) m p Cancelled ≡ See m Parallel ∷ p.events
cancelled_ordered_start_sees_it repeated value m p = refl

-- Barriers

-- a call that is repeated does not begin once more
pub again_none : (events : List Event) → unless_repeated events true ≡ []
again_none [] = refl
again_none (event ∷ events) = refl

-- a barrier is arrived at whatever the answer
pub barrier_that_waits_is_arrived_at : (m : ℕ) (p : Past) → is_cancelled p.events ≡ false → events_of false Barrier m p Wait ≡ Arrive (barriers_passed m p.events) m (tag_with BarrierArrival (shares_entered m p.events)) ∷ p.events
barrier_that_waits_is_arrived_at m p uncancelled = rw uncancelled refl

pub barrier_that_passes_is_arrived_at : (m : ℕ) (p : Past) → is_cancelled p.events ≡ false →
    events_of false Barrier m p Passed ≡ Pass (barriers_passed m p.events) m ∷ Arrive (barriers_passed m p.events) m (tag_with BarrierArrival (shares_entered m p.events)) ∷ p.events
barrier_that_passes_is_arrived_at m p uncancelled = rw uncancelled refl

pub barrier_that_runs_a_task_is_arrived_at : (m task code arg : ℕ) (own : Bool) (p : Past) → is_cancelled p.events ≡ false →
    events_of false Barrier m p (Run task code arg own) ≡ Start task m ∷ Arrive (barriers_passed m p.events) m (tag_with BarrierArrival (shares_entered m p.events)) ∷ p.events
barrier_that_runs_a_task_is_arrived_at m task code arg own p uncancelled = rw uncancelled refl

-- not in a cancelled region, which its member sees
pub cancelled_barrier_sees_it : (m : ℕ) (p : Past) → is_cancelled p.events ≡ true → events_of false Barrier m p Cancelled ≡ See m Parallel ∷ p.events
cancelled_barrier_sees_it m p cancelled = rw cancelled refl

-- one that is repeated was arrived at
pub repeated_barrier_passes : (m : ℕ) (p : Past) → events_of true Barrier m p Passed ≡ Pass (barriers_passed m p.events) m ∷ p.events
repeated_barrier_passes m p = rw (again_none ((row_of Barrier).begins m p)) refl

pub repeated_barrier_waits_without_an_event : (m : ℕ) (p : Past) → events_of true Barrier m p Wait ≡ p.events
repeated_barrier_waits_without_an_event m p = rw (again_none ((row_of Barrier).begins m p)) refl

pub repeated_barrier_starts_its_task : (m task code arg : ℕ) (own : Bool) (p : Past) → events_of true Barrier m p (Run task code arg own) ≡ Start task m ∷ p.events
repeated_barrier_starts_its_task m task code arg own p = rw (again_none ((row_of Barrier).begins m p)) refl

pub repeated_barrier_sees_the_cancellation : (m : ℕ) (p : Past) → events_of true Barrier m p Cancelled ≡ See m Parallel ∷ p.events
repeated_barrier_sees_the_cancellation m p = rw (again_none ((row_of Barrier).begins m p)) refl

-- the region's end is arrived at in every region
pub region_end_that_waits_is_arrived_at : (m : ℕ) (p : Past) → events_of false RegionEnd m p Wait ≡ Arrive (barriers_passed m p.events) m (tag_with RegionEndArrival (shares_entered m p.events)) ∷ p.events
region_end_that_waits_is_arrived_at m p = refl

pub region_end_that_passes_is_arrived_at : (m : ℕ) (p : Past) →
    events_of false RegionEnd m p Passed ≡ Pass (barriers_passed m p.events) m ∷ Arrive (barriers_passed m p.events) m (tag_with RegionEndArrival (shares_entered m p.events)) ∷ p.events
region_end_that_passes_is_arrived_at m p = refl

pub region_end_that_runs_a_task_is_arrived_at : (m task code arg : ℕ) (own : Bool) (p : Past) →
    events_of false RegionEnd m p (Run task code arg own) ≡ Start task m ∷ Arrive (barriers_passed m p.events) m (tag_with RegionEndArrival (shares_entered m p.events)) ∷ p.events
region_end_that_runs_a_task_is_arrived_at m task code arg own p = refl

pub repeated_region_end_passes : (m : ℕ) (p : Past) → events_of true RegionEnd m p Passed ≡ Pass (barriers_passed m p.events) m ∷ p.events
repeated_region_end_passes m p = refl

pub repeated_region_end_waits_without_an_event : (m : ℕ) (p : Past) → events_of true RegionEnd m p Wait ≡ p.events
repeated_region_end_waits_without_an_event m p = refl

pub repeated_region_end_starts_its_task : (m task code arg : ℕ) (own : Bool) (p : Past) → events_of true RegionEnd m p (Run task code arg own) ≡ Start task m ∷ p.events
repeated_region_end_starts_its_task m task code arg own p = refl

-- Ends of shares

-- a share is left by its end without a barrier
pub nowait_end_leaves_its_loop : (m : ℕ) (p : Past) → events_of false LoopEndNowait m p Finished ≡ End (open_number m p.events) m ∷ (sees_at_end m p.events ++ p.events)
nowait_end_leaves_its_loop m p = refl

pub nowait_end_leaves_its_sections : (m : ℕ) (p : Past) → events_of false SectionsEndNowait m p Finished ≡ End (open_number m p.events) m ∷ (sees_at_end m p.events ++ p.events)
nowait_end_leaves_its_sections m p = refl

-- its member sees a cancellation that it has not seen, unless nothing was left
pub end_sees_its_cancellation : (m : ℕ) (h : List Event) → own_cancelled m h ≡ true → has_drained m h ≡ false → leaves_share m h ≡ false → sees_at_end m h ≡ See m (kind_in (open_share m h)) ∷ []
end_sees_its_cancellation m h cancelled more unseen = rw (cancelled, more, unseen) refl

pub end_sees_no_cancellation_without_one : (m : ℕ) (h : List Event) → own_cancelled m h ≡ false → sees_at_end m h ≡ []
end_sees_no_cancellation_without_one m h uncancelled = rw uncancelled refl

pub end_sees_no_cancellation_once_drained : (m : ℕ) (h : List Event) → own_cancelled m h ≡ true → has_drained m h ≡ true → sees_at_end m h ≡ []
end_sees_no_cancellation_once_drained m h cancelled drained = rw (cancelled, drained) refl

pub end_sees_its_cancellation_once : (m : ℕ) (h : List Event) → own_cancelled m h ≡ true → has_drained m h ≡ false → leaves_share m h ≡ true → sees_at_end m h ≡ []
end_sees_its_cancellation_once m h cancelled more seen = rw (cancelled, more, seen) refl

-- with a barrier: its member leaves it and arrives, whatever the answer, unless the region is cancelled
pub loop_end_that_waits_is_arrived_at : (m : ℕ) (p : Past) → is_cancelled p.events ≡ false → events_of false LoopEnd m p Wait ≡ Arrive (barriers_passed m p.events) m (tag_with ShareEnd (shares_entered m p.events)) ∷ (leaves m p.events ++ p.events)
loop_end_that_waits_is_arrived_at m p uncancelled = rw uncancelled refl

pub loop_end_that_passes_is_arrived_at : (m : ℕ) (p : Past) → is_cancelled p.events ≡ false →
    events_of false LoopEnd m p Passed ≡ Pass (barriers_passed m (leaves m p.events ++ p.events)) m ∷ Arrive (barriers_passed m p.events) m (tag_with ShareEnd (shares_entered m p.events)) ∷ (leaves m p.events ++ p.events)
loop_end_that_passes_is_arrived_at m p uncancelled = rw uncancelled refl

pub loop_end_that_runs_a_task_is_arrived_at : (m task code arg : ℕ) (own : Bool) (p : Past) → is_cancelled p.events ≡ false →
    events_of false LoopEnd m p (Run task code arg own) ≡ Start task m ∷ Arrive (barriers_passed m p.events) m (tag_with ShareEnd (shares_entered m p.events)) ∷ (leaves m p.events ++ p.events)
loop_end_that_runs_a_task_is_arrived_at m task code arg own p uncancelled = rw uncancelled refl

pub cancelled_loop_end_leaves_its_share : (m : ℕ) (p : Past) → is_cancelled p.events ≡ true → events_of false LoopEnd m p Cancelled ≡ See m Parallel ∷ (leaves m p.events ++ p.events)
cancelled_loop_end_leaves_its_share m p cancelled = rw cancelled refl

pub repeated_loop_end_passes : (m : ℕ) (p : Past) → events_of true LoopEnd m p Passed ≡ Pass (barriers_passed m p.events) m ∷ p.events
repeated_loop_end_passes m p = rw (again_none ((row_of LoopEnd).begins m p)) refl

pub repeated_loop_end_waits_without_an_event : (m : ℕ) (p : Past) → events_of true LoopEnd m p Wait ≡ p.events
repeated_loop_end_waits_without_an_event m p = rw (again_none ((row_of LoopEnd).begins m p)) refl

pub repeated_loop_end_starts_its_task : (m task code arg : ℕ) (own : Bool) (p : Past) → events_of true LoopEnd m p (Run task code arg own) ≡ Start task m ∷ p.events
repeated_loop_end_starts_its_task m task code arg own p = rw (again_none ((row_of LoopEnd).begins m p)) refl

pub repeated_loop_end_sees_the_cancellation : (m : ℕ) (p : Past) → events_of true LoopEnd m p Cancelled ≡ See m Parallel ∷ p.events
repeated_loop_end_sees_the_cancellation m p = rw (again_none ((row_of LoopEnd).begins m p)) refl

pub loop_end_cancel_that_waits_is_arrived_at : (m : ℕ) (p : Past) → is_cancelled p.events ≡ false → events_of false LoopEndCancel m p Wait ≡ Arrive (barriers_passed m p.events) m (tag_with ShareEnd (shares_entered m p.events)) ∷ (leaves m p.events ++ p.events)
loop_end_cancel_that_waits_is_arrived_at m p uncancelled = rw uncancelled refl

pub loop_end_cancel_that_passes_is_arrived_at : (m : ℕ) (p : Past) → is_cancelled p.events ≡ false →
    events_of false LoopEndCancel m p Passed ≡ Pass (barriers_passed m (leaves m p.events ++ p.events)) m ∷ Arrive (barriers_passed m p.events) m (tag_with ShareEnd (shares_entered m p.events)) ∷ (leaves m p.events ++ p.events)
loop_end_cancel_that_passes_is_arrived_at m p uncancelled = rw uncancelled refl

pub loop_end_cancel_that_runs_a_task_is_arrived_at : (m task code arg : ℕ) (own : Bool) (p : Past) → is_cancelled p.events ≡ false →
    events_of false LoopEndCancel m p (Run task code arg own) ≡ Start task m ∷ Arrive (barriers_passed m p.events) m (tag_with ShareEnd (shares_entered m p.events)) ∷ (leaves m p.events ++ p.events)
loop_end_cancel_that_runs_a_task_is_arrived_at m task code arg own p uncancelled = rw uncancelled refl

pub cancelled_loop_end_cancel_leaves_its_share : (m : ℕ) (p : Past) → is_cancelled p.events ≡ true → events_of false LoopEndCancel m p Cancelled ≡ See m Parallel ∷ (leaves m p.events ++ p.events)
cancelled_loop_end_cancel_leaves_its_share m p cancelled = rw cancelled refl

pub repeated_loop_end_cancel_passes : (m : ℕ) (p : Past) → events_of true LoopEndCancel m p Passed ≡ Pass (barriers_passed m p.events) m ∷ p.events
repeated_loop_end_cancel_passes m p = rw (again_none ((row_of LoopEndCancel).begins m p)) refl

pub repeated_loop_end_cancel_waits_without_an_event : (m : ℕ) (p : Past) → events_of true LoopEndCancel m p Wait ≡ p.events
repeated_loop_end_cancel_waits_without_an_event m p = rw (again_none ((row_of LoopEndCancel).begins m p)) refl

pub repeated_loop_end_cancel_starts_its_task : (m task code arg : ℕ) (own : Bool) (p : Past) → events_of true LoopEndCancel m p (Run task code arg own) ≡ Start task m ∷ p.events
repeated_loop_end_cancel_starts_its_task m task code arg own p = rw (again_none ((row_of LoopEndCancel).begins m p)) refl

pub repeated_loop_end_cancel_sees_the_cancellation : (m : ℕ) (p : Past) → events_of true LoopEndCancel m p Cancelled ≡ See m Parallel ∷ p.events
repeated_loop_end_cancel_sees_the_cancellation m p = rw (again_none ((row_of LoopEndCancel).begins m p)) refl

pub sections_end_that_waits_is_arrived_at : (m : ℕ) (p : Past) → is_cancelled p.events ≡ false → events_of false SectionsEnd m p Wait ≡ Arrive (barriers_passed m p.events) m (tag_with ShareEnd (shares_entered m p.events)) ∷ (leaves m p.events ++ p.events)
sections_end_that_waits_is_arrived_at m p uncancelled = rw uncancelled refl

pub sections_end_that_passes_is_arrived_at : (m : ℕ) (p : Past) → is_cancelled p.events ≡ false →
    events_of false SectionsEnd m p Passed ≡ Pass (barriers_passed m (leaves m p.events ++ p.events)) m ∷ Arrive (barriers_passed m p.events) m (tag_with ShareEnd (shares_entered m p.events)) ∷ (leaves m p.events ++ p.events)
sections_end_that_passes_is_arrived_at m p uncancelled = rw uncancelled refl

pub sections_end_that_runs_a_task_is_arrived_at : (m task code arg : ℕ) (own : Bool) (p : Past) → is_cancelled p.events ≡ false →
    events_of false SectionsEnd m p (Run task code arg own) ≡ Start task m ∷ Arrive (barriers_passed m p.events) m (tag_with ShareEnd (shares_entered m p.events)) ∷ (leaves m p.events ++ p.events)
sections_end_that_runs_a_task_is_arrived_at m task code arg own p uncancelled = rw uncancelled refl

pub cancelled_sections_end_leaves_its_share : (m : ℕ) (p : Past) → is_cancelled p.events ≡ true → events_of false SectionsEnd m p Cancelled ≡ See m Parallel ∷ (leaves m p.events ++ p.events)
cancelled_sections_end_leaves_its_share m p cancelled = rw cancelled refl

pub repeated_sections_end_passes : (m : ℕ) (p : Past) → events_of true SectionsEnd m p Passed ≡ Pass (barriers_passed m p.events) m ∷ p.events
repeated_sections_end_passes m p = rw (again_none ((row_of SectionsEnd).begins m p)) refl

pub repeated_sections_end_waits_without_an_event : (m : ℕ) (p : Past) → events_of true SectionsEnd m p Wait ≡ p.events
repeated_sections_end_waits_without_an_event m p = rw (again_none ((row_of SectionsEnd).begins m p)) refl

pub repeated_sections_end_starts_its_task : (m task code arg : ℕ) (own : Bool) (p : Past) → events_of true SectionsEnd m p (Run task code arg own) ≡ Start task m ∷ p.events
repeated_sections_end_starts_its_task m task code arg own p = rw (again_none ((row_of SectionsEnd).begins m p)) refl

pub repeated_sections_end_sees_the_cancellation : (m : ℕ) (p : Past) → events_of true SectionsEnd m p Cancelled ≡ See m Parallel ∷ p.events
repeated_sections_end_sees_the_cancellation m p = rw (again_none ((row_of SectionsEnd).begins m p)) refl

pub sections_end_cancel_that_waits_is_arrived_at : (m : ℕ) (p : Past) → is_cancelled p.events ≡ false → events_of false SectionsEndCancel m p Wait ≡ Arrive (barriers_passed m p.events) m (tag_with ShareEnd (shares_entered m p.events)) ∷ (leaves m p.events ++ p.events)
sections_end_cancel_that_waits_is_arrived_at m p uncancelled = rw uncancelled refl

pub sections_end_cancel_that_passes_is_arrived_at : (m : ℕ) (p : Past) → is_cancelled p.events ≡ false →
    events_of false SectionsEndCancel m p Passed ≡ Pass (barriers_passed m (leaves m p.events ++ p.events)) m ∷ Arrive (barriers_passed m p.events) m (tag_with ShareEnd (shares_entered m p.events)) ∷ (leaves m p.events ++ p.events)
sections_end_cancel_that_passes_is_arrived_at m p uncancelled = rw uncancelled refl

pub sections_end_cancel_that_runs_a_task_is_arrived_at : (m task code arg : ℕ) (own : Bool) (p : Past) → is_cancelled p.events ≡ false →
    events_of false SectionsEndCancel m p (Run task code arg own) ≡ Start task m ∷ Arrive (barriers_passed m p.events) m (tag_with ShareEnd (shares_entered m p.events)) ∷ (leaves m p.events ++ p.events)
sections_end_cancel_that_runs_a_task_is_arrived_at m task code arg own p uncancelled = rw uncancelled refl

pub cancelled_sections_end_cancel_leaves_its_share : (m : ℕ) (p : Past) → is_cancelled p.events ≡ true → events_of false SectionsEndCancel m p Cancelled ≡ See m Parallel ∷ (leaves m p.events ++ p.events)
cancelled_sections_end_cancel_leaves_its_share m p cancelled = rw cancelled refl

pub repeated_sections_end_cancel_passes : (m : ℕ) (p : Past) → events_of true SectionsEndCancel m p Passed ≡ Pass (barriers_passed m p.events) m ∷ p.events
repeated_sections_end_cancel_passes m p = rw (again_none ((row_of SectionsEndCancel).begins m p)) refl

pub repeated_sections_end_cancel_waits_without_an_event : (m : ℕ) (p : Past) → events_of true SectionsEndCancel m p Wait ≡ p.events
repeated_sections_end_cancel_waits_without_an_event m p = rw (again_none ((row_of SectionsEndCancel).begins m p)) refl

pub repeated_sections_end_cancel_starts_its_task : (m task code arg : ℕ) (own : Bool) (p : Past) → events_of true SectionsEndCancel m p (Run task code arg own) ≡ Start task m ∷ p.events
repeated_sections_end_cancel_starts_its_task m task code arg own p = rw (again_none ((row_of SectionsEndCancel).begins m p)) refl

pub repeated_sections_end_cancel_sees_the_cancellation : (m : ℕ) (p : Past) → events_of true SectionsEndCancel m p Cancelled ≡ See m Parallel ∷ p.events
repeated_sections_end_cancel_sees_the_cancellation m p = rw (again_none ((row_of SectionsEndCancel).begins m p)) refl

-- the share's end is no pass
pub end_of_a_share_passes_no_barrier : (m : ℕ) (h : List Event) → barriers_passed m (leaves m h ++ h) ≡ barriers_passed m h
end_of_a_share_passes_no_barrier m h = by_sight (own_cancelled m h && not (has_drained m h || leaves_share m h))
  where
    by_sight : (sees : Bool) → barriers_passed m ((if sees then See m (kind_in (open_share m h)) ∷ [] else []) ++ h) ≡ barriers_passed m h
    by_sight true = refl
    by_sight false = refl

-- Tasks and groups

-- a task is created, whatever the answer to its creator; an undeferred one is then started
pub created_task_is_an_event : (desc : TaskDesc) (task m : ℕ) (p : Past) → creates_covered m p.events ≡ false →
    events_of false (TaskCreate desc) m p (Created task) ≡ Create (suc (tasks_created p.events)) m (executed_task m p.events) desc ∷ p.events
created_task_is_an_event desc task m p uncovered = rw uncovered refl

pub creation_that_runs_a_task_starts_it : (desc : TaskDesc) (task code arg m : ℕ) (own : Bool) (p : Past) → creates_covered m p.events ≡ false →
    events_of false (TaskCreate desc) m p (Run task code arg own) ≡ Start task m ∷ Create (suc (tasks_created p.events)) m (executed_task m p.events) desc ∷ p.events
creation_that_runs_a_task_starts_it desc task code arg m own p uncovered = rw uncovered refl

pub creation_that_waits_is_an_event : (desc : TaskDesc) (m : ℕ) (p : Past) → creates_covered m p.events ≡ false →
    events_of false (TaskCreate desc) m p Wait ≡ Create (suc (tasks_created p.events)) m (executed_task m p.events) desc ∷ p.events
creation_that_waits_is_an_event desc m p uncovered = rw uncovered refl

-- one that is dropped creates nothing
pub dropped_task_is_no_event : (desc : TaskDesc) (m : ℕ) (p : Past) → creates_covered m p.events ≡ true → events_of false (TaskCreate desc) m p Dropped ≡ p.events
dropped_task_is_no_event desc m p covered = rw covered refl

-- nor does one that is repeated
pub repeated_creation_starts_its_task : (desc : TaskDesc) (task code arg m : ℕ) (own : Bool) (p : Past) → events_of true (TaskCreate desc) m p (Run task code arg own) ≡ Start task m ∷ p.events
repeated_creation_starts_its_task desc task code arg m own p = rw (again_none ((row_of (TaskCreate desc)).begins m p)) refl

pub repeated_creation_waits_without_an_event : (desc : TaskDesc) (m : ℕ) (p : Past) → events_of true (TaskCreate desc) m p Wait ≡ p.events
repeated_creation_waits_without_an_event desc m p = rw (again_none ((row_of (TaskCreate desc)).begins m p)) refl

pub task_end_ends_its_task : (repeated waiting : Bool) (task m : ℕ) (p : Past) → events_of repeated TaskEnd m p (TaskDone task waiting) ≡ Done task m ∷ p.events
task_end_ends_its_task repeated waiting task m p = refl

-- a taskwait that is passed is noted with its items
pub passed_taskwait_is_noted : (repeated : Bool) (items : List Dep) (m : ℕ) (p : Past) → events_of repeated (Taskwait items) m p Passed ≡ Waited m items ∷ p.events
passed_taskwait_is_noted repeated items m p = refl

pub taskwait_starts_its_task : (repeated own : Bool) (items : List Dep) (task code arg m : ℕ) (p : Past) → events_of repeated (Taskwait items) m p (Run task code arg own) ≡ Start task m ∷ p.events
taskwait_starts_its_task repeated own items task code arg m p = refl

pub waiting_taskwait_is_no_event : (repeated : Bool) (items : List Dep) (m : ℕ) (p : Past) → events_of repeated (Taskwait items) m p Wait ≡ p.events
waiting_taskwait_is_no_event repeated items m p = refl

pub group_start_opens_a_group : (repeated : Bool) (m : ℕ) (p : Past) → events_of repeated GroupStart m p Finished ≡ Group (groups_opened p.events) m ∷ p.events
group_start_opens_a_group repeated m p = refl

-- the innermost group ends once its end is passed
pub passed_group_end_ends_its_group : (repeated : Bool) (m group : ℕ) (outer : List ℕ) (p : Past) → open_groups (executed_task m p.events) p.events ≡ group ∷ outer → events_of repeated GroupEnd m p Passed ≡ EndOfGroup group m ∷ p.events
passed_group_end_ends_its_group repeated m group outer p opened = rw opened refl

pub group_end_starts_its_task : (repeated own : Bool) (task code arg m : ℕ) (p : Past) → events_of repeated GroupEnd m p (Run task code arg own) ≡ Start task m ∷ p.events
group_end_starts_its_task repeated own task code arg m p = refl

pub waiting_group_end_ends_no_group : (repeated : Bool) (m : ℕ) (p : Past) → events_of repeated GroupEnd m p Wait ≡ p.events
waiting_group_end_ends_no_group repeated m p = refl

-- Cancellation

-- a cancel construct with a true clause cancels what it names, discards what that reaches, and its member sees it
pub cancellation_is_an_event : (repeated : Bool) (kind : CancelKind) (m : ℕ) (scope : Scope) (p : Past) → scope_of kind m p.events ≡ Some scope →
    events_of repeated (Cancel kind true) m p (Cancelling true) ≡ See m kind ∷ ((discards m scope p.events ++ CancelScope m scope ∷ []) ++ p.events)
cancellation_is_an_event repeated kind m scope p names = rw names refl

-- one with a false clause, and a cancellation point, only see it
pub false_clause_cancels_nothing : (repeated : Bool) (kind : CancelKind) (m : ℕ) (p : Past) → events_of repeated (Cancel kind false) m p (Cancelling true) ≡ See m kind ∷ p.events
false_clause_cancels_nothing repeated kind m p = refl

pub point_cancels_nothing : (repeated : Bool) (kind : CancelKind) (m : ℕ) (p : Past) → events_of repeated (Point kind) m p (Cancelling true) ≡ See m kind ∷ p.events
point_cancels_nothing repeated kind m p = refl

-- if nothing is cancelled there is no event
pub uncancelled_construct_is_no_event : (repeated clause : Bool) (kind : CancelKind) (m : ℕ) (p : Past) → events_of repeated (Cancel kind clause) m p (Cancelling false) ≡ p.events
uncancelled_construct_is_no_event repeated clause kind m p = refl

pub uncancelled_point_is_no_event : (repeated : Bool) (kind : CancelKind) (m : ℕ) (p : Past) → events_of repeated (Point kind) m p (Cancelling false) ≡ p.events
uncancelled_point_is_no_event repeated kind m p = refl

-- each task that is reached and that nobody has started is discarded, whatever its number, and no other
pub reached_task_is_discarded : (k m : ℕ) (h : List Event) → is_unstarted (suc k) h ≡ true → is_covered (suc k) h ≡ true → discards_to (suc k) m h ≡ Discard (suc k) m ∷ discards_to k m h
reached_task_is_discarded k m h unstarted reached = rw (unstarted, reached) refl

pub started_task_is_not_discarded : (k m : ℕ) (h : List Event) → is_unstarted (suc k) h ≡ false → discards_to (suc k) m h ≡ discards_to k m h
started_task_is_not_discarded k m h started = rw started refl

pub task_out_of_reach_is_not_discarded : (k m : ℕ) (h : List Event) → is_unstarted (suc k) h ≡ true → is_covered (suc k) h ≡ false → discards_to (suc k) m h ≡ discards_to k m h
task_out_of_reach_is_not_discarded k m h unstarted apart = rw (unstarted, apart) refl

pub all_tasks_may_be_discarded : (m : ℕ) (scope : Scope) (h : List Event) → discards m scope h ≡ discards_to (tasks_created h) m (CancelScope m scope ∷ h)
all_tasks_may_be_discarded m scope h = refl

-- Stops and refusals

-- a stop breaks the team
pub stop_breaks_the_team : (repeated : Bool) (m : ℕ) (p : Past) → events_of repeated Stop m p Stopped ≡ Break m AtStop ∷ p.events
stop_breaks_the_team repeated m p = refl

-- a mismatch does so at the place of the call
pub mismatch_breaks_at_the_place_of_the_call : (repeated : Bool) (call : Call) (m : ℕ) (p : Past) → events_of repeated call m p (Refused Mismatch) ≡ Break m ((row_of call).place m p.events) ∷ p.events
mismatch_breaks_at_the_place_of_the_call repeated call m p = refl

-- no other refusal is an event
pub refusal_is_no_event : (repeated : Bool) (call : Call) (refusal : Refusal) (m : ℕ) (p : Past) → refusal ≢ Mismatch → events_of repeated call m p (Refused refusal) ≡ p.events
refusal_is_no_event repeated call Mismatch m p other = absurd (other refl)
refusal_is_no_event repeated call _ m p other = refl

-- a start differs at its share
pub loop_start_differs_at_its_share : (loop : LoopDesc) (m : ℕ) (h : List Event) → (row_of (LoopStart loop)).place m h ≡ Share (shown_number (shares_entered m h))
loop_start_differs_at_its_share loop m h = refl

pub sections_start_differs_at_its_share : (count : ℕ) (kind : EndKind) (m : ℕ) (h : List Event) → (row_of (SectionsStart count kind)).place m h ≡ Share (shown_number (shares_entered m h))
sections_start_differs_at_its_share count kind m h = refl

pub single_differs_at_its_share : (m : ℕ) (h : List Event) → (row_of SingleStart).place m h ≡ Share (shown_number (shares_entered m h))
single_differs_at_its_share m h = refl

pub copy_differs_at_its_share : (m : ℕ) (h : List Event) → (row_of SingleCopyStart).place m h ≡ Share (shown_number (shares_entered m h))
copy_differs_at_its_share m h = refl

-- an arrival differs at its barrier
pub barrier_differs_at_its_barrier : (m : ℕ) (h : List Event) → (row_of Barrier).place m h ≡ AtBarrier (shown_number (barriers_passed m h))
barrier_differs_at_its_barrier m h = refl

pub region_end_differs_at_its_barrier : (m : ℕ) (h : List Event) → (row_of RegionEnd).place m h ≡ AtBarrier (shown_number (barriers_passed m h))
region_end_differs_at_its_barrier m h = refl

pub loop_end_differs_at_its_barrier : (m : ℕ) (h : List Event) → (row_of LoopEnd).place m h ≡ AtBarrier (shown_number (barriers_passed m h))
loop_end_differs_at_its_barrier m h = refl

pub loop_end_cancel_differs_at_its_barrier : (m : ℕ) (h : List Event) → (row_of LoopEndCancel).place m h ≡ AtBarrier (shown_number (barriers_passed m h))
loop_end_cancel_differs_at_its_barrier m h = refl

pub sections_end_differs_at_its_barrier : (m : ℕ) (h : List Event) → (row_of SectionsEnd).place m h ≡ AtBarrier (shown_number (barriers_passed m h))
sections_end_differs_at_its_barrier m h = refl

pub sections_end_cancel_differs_at_its_barrier : (m : ℕ) (h : List Event) → (row_of SectionsEndCancel).place m h ≡ AtBarrier (shown_number (barriers_passed m h))
sections_end_cancel_differs_at_its_barrier m h = refl

-- Room

-- a loop has no words
pub loop_is_no_copy : (sched : Sched) (chunk : ℤ) → is_copy (share_kind_of sched chunk) ≡ false
loop_is_no_copy Static chunk = by_chunk (int_eq chunk (pos 0))
  where
    by_chunk : (even : Bool) → is_copy (if even then StaticEven else StaticChunked) ≡ false
    by_chunk true = refl
    by_chunk false = refl
loop_is_no_copy Guided chunk = refl
loop_is_no_copy _ chunk = refl

-- a share with no barrier at its end asks for no room, however long it is; one with a barrier asks for that of an arrival
pub nowait_loop_asks_no_room : (loop : LoopDesc) → loop.end_kind ≡ Nowait → (row_of (LoopStart loop)).room ≡ 0
nowait_loop_asks_no_room loop nowait = rw (nowait, loop_is_no_copy loop.sched loop.chunk) refl

pub loop_asks_room_to_arrive : (loop : LoopDesc) → loop.end_kind ≡ WaitEnd → (row_of (LoopStart loop)).room ≡ ARRIVAL_ROOM
loop_asks_room_to_arrive loop waits = rw (waits, loop_is_no_copy loop.sched loop.chunk) refl

pub cancellable_loop_asks_room_to_arrive : (loop : LoopDesc) → loop.end_kind ≡ Cancellable → (row_of (LoopStart loop)).room ≡ ARRIVAL_ROOM
cancellable_loop_asks_room_to_arrive loop waits = rw (waits, loop_is_no_copy loop.sched loop.chunk) refl

pub nowait_sections_ask_no_room : (count : ℕ) → (row_of (SectionsStart count Nowait)).room ≡ 0
nowait_sections_ask_no_room count = refl

pub sections_ask_room_to_arrive : (count : ℕ) → (row_of (SectionsStart count WaitEnd)).room ≡ ARRIVAL_ROOM
sections_ask_room_to_arrive count = refl

pub cancellable_sections_ask_room_to_arrive : (count : ℕ) → (row_of (SectionsStart count Cancellable)).room ≡ ARRIVAL_ROOM
cancellable_sections_ask_room_to_arrive count = refl

-- a share of any shape asks for the room of its end, and of its words
pub share_asks_no_room_without_a_barrier : (shape : Shape) → shape.end_kind ≡ Nowait → is_copy shape.kind ≡ false → share_room shape ≡ 0
share_asks_no_room_without_a_barrier shape nowait without = rw (nowait, without) refl

pub share_asks_room_for_its_words : (shape : Shape) → shape.end_kind ≡ Nowait → is_copy shape.kind ≡ true → share_room shape ≡ 1
share_asks_room_for_its_words shape nowait words = rw (nowait, words) refl

pub share_asks_room_to_arrive : (shape : Shape) → shape.end_kind ≡ WaitEnd → is_copy shape.kind ≡ false → share_room shape ≡ ARRIVAL_ROOM
share_asks_room_to_arrive shape waits without = rw (waits, without) refl

pub cancellable_share_asks_room_to_arrive : (shape : Shape) → shape.end_kind ≡ Cancellable → is_copy shape.kind ≡ false → share_room shape ≡ ARRIVAL_ROOM
cancellable_share_asks_room_to_arrive shape waits without = rw (waits, without) refl

-- Which calls a member may make that leaves a region, a share or a task

-- none of these, whoever it is
pub no_loop_start_of_a_leaving_member : (loop : LoopDesc) (m : ℕ) (h : List Event) → (row_of (LoopStart loop)).lets_leave m h ≡ false
no_loop_start_of_a_leaving_member loop m h = refl

pub no_next_piece_of_a_leaving_member : (m : ℕ) (h : List Event) → (row_of LoopNext).lets_leave m h ≡ false
no_next_piece_of_a_leaving_member m h = refl

pub no_nowait_loop_end_of_a_leaving_member : (m : ℕ) (h : List Event) → (row_of LoopEndNowait).lets_leave m h ≡ false
no_nowait_loop_end_of_a_leaving_member m h = refl

pub no_sections_start_of_a_leaving_member : (count : ℕ) (kind : EndKind) (m : ℕ) (h : List Event) → (row_of (SectionsStart count kind)).lets_leave m h ≡ false
no_sections_start_of_a_leaving_member count kind m h = refl

pub no_next_section_of_a_leaving_member : (m : ℕ) (h : List Event) → (row_of SectionsNext).lets_leave m h ≡ false
no_next_section_of_a_leaving_member m h = refl

pub no_nowait_sections_end_of_a_leaving_member : (m : ℕ) (h : List Event) → (row_of SectionsEndNowait).lets_leave m h ≡ false
no_nowait_sections_end_of_a_leaving_member m h = refl

pub no_single_start_of_a_leaving_member : (m : ℕ) (h : List Event) → (row_of SingleStart).lets_leave m h ≡ false
no_single_start_of_a_leaving_member m h = refl

pub no_copy_start_of_a_leaving_member : (m : ℕ) (h : List Event) → (row_of SingleCopyStart).lets_leave m h ≡ false
no_copy_start_of_a_leaving_member m h = refl

pub no_copy_end_of_a_leaving_member : (payload : List ℕ) (m : ℕ) (h : List Event) → (row_of (SingleCopyEnd payload)).lets_leave m h ≡ false
no_copy_end_of_a_leaving_member payload m h = refl

pub no_ordered_start_of_a_leaving_member : (value : ℤ) (m : ℕ) (h : List Event) → (row_of (OrderedStart value)).lets_leave m h ≡ false
no_ordered_start_of_a_leaving_member value m h = refl

pub no_barrier_of_a_leaving_member : (m : ℕ) (h : List Event) → (row_of Barrier).lets_leave m h ≡ false
no_barrier_of_a_leaving_member m h = refl

pub no_critical_start_of_a_leaving_member : (name : List ℕ) (m : ℕ) (h : List Event) → (row_of (CriticalStart name)).lets_leave m h ≡ false
no_critical_start_of_a_leaving_member name m h = refl

pub no_lock_init_of_a_leaving_member : (m : ℕ) (h : List Event) → (row_of LockInit).lets_leave m h ≡ false
no_lock_init_of_a_leaving_member m h = refl

pub no_nestable_lock_init_of_a_leaving_member : (m : ℕ) (h : List Event) → (row_of NestInit).lets_leave m h ≡ false
no_nestable_lock_init_of_a_leaving_member m h = refl

pub no_lock_destroy_of_a_leaving_member : (number : ℕ) (m : ℕ) (h : List Event) → (row_of (LockDestroy number)).lets_leave m h ≡ false
no_lock_destroy_of_a_leaving_member number m h = refl

pub no_lock_set_of_a_leaving_member : (number : ℕ) (m : ℕ) (h : List Event) → (row_of (Set number)).lets_leave m h ≡ false
no_lock_set_of_a_leaving_member number m h = refl

pub no_lock_test_of_a_leaving_member : (number : ℕ) (m : ℕ) (h : List Event) → (row_of (TestLock number)).lets_leave m h ≡ false
no_lock_test_of_a_leaving_member number m h = refl

pub no_nestable_lock_set_of_a_leaving_member : (number : ℕ) (m : ℕ) (h : List Event) → (row_of (SetNest number)).lets_leave m h ≡ false
no_nestable_lock_set_of_a_leaving_member number m h = refl

pub no_nestable_lock_test_of_a_leaving_member : (number : ℕ) (m : ℕ) (h : List Event) → (row_of (TestNest number)).lets_leave m h ≡ false
no_nestable_lock_test_of_a_leaving_member number m h = refl

pub no_task_create_of_a_leaving_member : (desc : TaskDesc) (m : ℕ) (h : List Event) → (row_of (TaskCreate desc)).lets_leave m h ≡ false
no_task_create_of_a_leaving_member desc m h = refl

pub no_taskwait_of_a_leaving_member : (items : List Dep) (m : ℕ) (h : List Event) → (row_of (Taskwait items)).lets_leave m h ≡ false
no_taskwait_of_a_leaving_member items m h = refl

pub no_group_start_of_a_leaving_member : (m : ℕ) (h : List Event) → (row_of GroupStart).lets_leave m h ≡ false
no_group_start_of_a_leaving_member m h = refl

pub no_group_end_of_a_leaving_member : (m : ℕ) (h : List Event) → (row_of GroupEnd).lets_leave m h ≡ false
no_group_end_of_a_leaving_member m h = refl

pub no_cancel_construct_of_a_leaving_member : (kind : CancelKind) (clause : Bool) (m : ℕ) (h : List Event) → (row_of (Cancel kind clause)).lets_leave m h ≡ false
no_cancel_construct_of_a_leaving_member kind clause m h = refl

pub no_cancellation_point_of_a_leaving_member : (kind : CancelKind) (m : ℕ) (h : List Event) → (row_of (Point kind)).lets_leave m h ≡ false
no_cancellation_point_of_a_leaving_member kind m h = refl

-- each of these
pub critical_end_of_a_leaving_member : (name : List ℕ) (m : ℕ) (h : List Event) → (row_of (CriticalEnd name)).lets_leave m h ≡ true
critical_end_of_a_leaving_member name m h = refl

pub lock_unset_of_a_leaving_member : (number : ℕ) (m : ℕ) (h : List Event) → (row_of (Unset number)).lets_leave m h ≡ true
lock_unset_of_a_leaving_member number m h = refl

pub nestable_lock_unset_of_a_leaving_member : (number : ℕ) (m : ℕ) (h : List Event) → (row_of (UnsetNest number)).lets_leave m h ≡ true
nestable_lock_unset_of_a_leaving_member number m h = refl

pub stop_of_a_leaving_member : (m : ℕ) (h : List Event) → (row_of Stop).lets_leave m h ≡ true
stop_of_a_leaving_member m h = refl

-- the region's end if it leaves the region, its task's end if it leaves that
pub region_end_of_one_that_leaves_it : (m : ℕ) (h : List Event) → (row_of RegionEnd).lets_leave m h ≡ leaves_region m h
region_end_of_one_that_leaves_it m h = refl

pub task_end_of_one_that_leaves_it : (m : ℕ) (h : List Event) → (row_of TaskEnd).lets_leave m h ≡ leaves_task m h
task_end_of_one_that_leaves_it m h = refl

-- the end of its share if it leaves that alone, by the call that ends it
pub loop_end_of_one_that_leaves_its_share : (m : ℕ) (h : List Event) → leaves_share m h ≡ true → leaves_region m h ≡ false → leaves_task m h ≡ false → least (end_tests WaitEnd (seen_of m h)) ≡ None → (row_of LoopEnd).lets_leave m h ≡ true
loop_end_of_one_that_leaves_its_share m h share region task none = rw (share, region, task, none) refl

pub no_loop_end_of_one_that_leaves_no_share : (m : ℕ) (h : List Event) → leaves_share m h ≡ false → (row_of LoopEnd).lets_leave m h ≡ false
no_loop_end_of_one_that_leaves_no_share m h stays = rw stays refl

pub no_loop_end_of_one_that_leaves_the_region : (m : ℕ) (h : List Event) → leaves_share m h ≡ true → leaves_region m h ≡ true → (row_of LoopEnd).lets_leave m h ≡ false
no_loop_end_of_one_that_leaves_the_region m h share region = rw (share, region) refl

pub no_loop_end_of_one_that_leaves_its_task : (m : ℕ) (h : List Event) → leaves_share m h ≡ true → leaves_region m h ≡ false → leaves_task m h ≡ true → (row_of LoopEnd).lets_leave m h ≡ false
no_loop_end_of_one_that_leaves_its_task m h share region task = rw (share, region, task) refl

pub no_loop_end_of_one_that_its_place_refuses : (m : ℕ) (refusal : Refusal) (h : List Event) → leaves_share m h ≡ true → leaves_region m h ≡ false → leaves_task m h ≡ false → least (end_tests WaitEnd (seen_of m h)) ≡ Some refusal → (row_of LoopEnd).lets_leave m h ≡ false
no_loop_end_of_one_that_its_place_refuses m refusal h share region task some = rw (share, region, task, some) refl

pub loop_end_cancel_of_one_that_leaves_its_share : (m : ℕ) (h : List Event) → leaves_share m h ≡ true → leaves_region m h ≡ false → leaves_task m h ≡ false → least (end_tests Cancellable (seen_of m h)) ≡ None → (row_of LoopEndCancel).lets_leave m h ≡ true
loop_end_cancel_of_one_that_leaves_its_share m h share region task none = rw (share, region, task, none) refl

pub no_loop_end_cancel_of_one_that_leaves_no_share : (m : ℕ) (h : List Event) → leaves_share m h ≡ false → (row_of LoopEndCancel).lets_leave m h ≡ false
no_loop_end_cancel_of_one_that_leaves_no_share m h stays = rw stays refl

pub no_loop_end_cancel_of_one_that_leaves_the_region : (m : ℕ) (h : List Event) → leaves_share m h ≡ true → leaves_region m h ≡ true → (row_of LoopEndCancel).lets_leave m h ≡ false
no_loop_end_cancel_of_one_that_leaves_the_region m h share region = rw (share, region) refl

pub no_loop_end_cancel_of_one_that_leaves_its_task : (m : ℕ) (h : List Event) → leaves_share m h ≡ true → leaves_region m h ≡ false → leaves_task m h ≡ true → (row_of LoopEndCancel).lets_leave m h ≡ false
no_loop_end_cancel_of_one_that_leaves_its_task m h share region task = rw (share, region, task) refl

pub no_loop_end_cancel_of_one_that_its_place_refuses : (m : ℕ) (refusal : Refusal) (h : List Event) → leaves_share m h ≡ true → leaves_region m h ≡ false → leaves_task m h ≡ false → least (end_tests Cancellable (seen_of m h)) ≡ Some refusal → (row_of LoopEndCancel).lets_leave m h ≡ false
no_loop_end_cancel_of_one_that_its_place_refuses m refusal h share region task some = rw (share, region, task, some) refl

pub sections_end_of_one_that_leaves_its_share : (m : ℕ) (h : List Event) → leaves_share m h ≡ true → leaves_region m h ≡ false → leaves_task m h ≡ false → least (sections_end_tests WaitEnd (seen_of m h)) ≡ None → (row_of SectionsEnd).lets_leave m h ≡ true
sections_end_of_one_that_leaves_its_share m h share region task none = rw (share, region, task, none) refl

pub no_sections_end_of_one_that_leaves_no_share : (m : ℕ) (h : List Event) → leaves_share m h ≡ false → (row_of SectionsEnd).lets_leave m h ≡ false
no_sections_end_of_one_that_leaves_no_share m h stays = rw stays refl

pub no_sections_end_of_one_that_leaves_the_region : (m : ℕ) (h : List Event) → leaves_share m h ≡ true → leaves_region m h ≡ true → (row_of SectionsEnd).lets_leave m h ≡ false
no_sections_end_of_one_that_leaves_the_region m h share region = rw (share, region) refl

pub no_sections_end_of_one_that_leaves_its_task : (m : ℕ) (h : List Event) → leaves_share m h ≡ true → leaves_region m h ≡ false → leaves_task m h ≡ true → (row_of SectionsEnd).lets_leave m h ≡ false
no_sections_end_of_one_that_leaves_its_task m h share region task = rw (share, region, task) refl

pub no_sections_end_of_one_that_its_place_refuses : (m : ℕ) (refusal : Refusal) (h : List Event) → leaves_share m h ≡ true → leaves_region m h ≡ false → leaves_task m h ≡ false → least (sections_end_tests WaitEnd (seen_of m h)) ≡ Some refusal → (row_of SectionsEnd).lets_leave m h ≡ false
no_sections_end_of_one_that_its_place_refuses m refusal h share region task some = rw (share, region, task, some) refl

pub sections_end_cancel_of_one_that_leaves_its_share : (m : ℕ) (h : List Event) → leaves_share m h ≡ true → leaves_region m h ≡ false → leaves_task m h ≡ false → least (sections_end_tests Cancellable (seen_of m h)) ≡ None → (row_of SectionsEndCancel).lets_leave m h ≡ true
sections_end_cancel_of_one_that_leaves_its_share m h share region task none = rw (share, region, task, none) refl

pub no_sections_end_cancel_of_one_that_leaves_no_share : (m : ℕ) (h : List Event) → leaves_share m h ≡ false → (row_of SectionsEndCancel).lets_leave m h ≡ false
no_sections_end_cancel_of_one_that_leaves_no_share m h stays = rw stays refl

pub no_sections_end_cancel_of_one_that_leaves_the_region : (m : ℕ) (h : List Event) → leaves_share m h ≡ true → leaves_region m h ≡ true → (row_of SectionsEndCancel).lets_leave m h ≡ false
no_sections_end_cancel_of_one_that_leaves_the_region m h share region = rw (share, region) refl

pub no_sections_end_cancel_of_one_that_leaves_its_task : (m : ℕ) (h : List Event) → leaves_share m h ≡ true → leaves_region m h ≡ false → leaves_task m h ≡ true → (row_of SectionsEndCancel).lets_leave m h ≡ false
no_sections_end_cancel_of_one_that_leaves_its_task m h share region task = rw (share, region, task) refl

pub no_sections_end_cancel_of_one_that_its_place_refuses : (m : ℕ) (refusal : Refusal) (h : List Event) → leaves_share m h ≡ true → leaves_region m h ≡ false → leaves_task m h ≡ false → least (sections_end_tests Cancellable (seen_of m h)) ≡ Some refusal → (row_of SectionsEndCancel).lets_leave m h ≡ false
no_sections_end_cancel_of_one_that_its_place_refuses m refusal h share region task some = rw (share, region, task, some) refl

-- one that is made for the first time gives its events
pub once_first : (events : List Event) → unless_repeated events false ≡ events
once_first [] = refl
once_first (event ∷ events) = refl
