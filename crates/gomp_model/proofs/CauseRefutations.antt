-- Which answers no call has, of any member, past and argument: a line of a cause and what it forbids. The causes of calls on shares, names
-- and locks are those of gomp_shares and gomp_locks, whose own refutations stand there.
use Rattle.std.proofs.Common.{◌≡◌, ℕ, Bool, true, false, List, Some, None, refl}
use Rattle.std.specs.Prelude.{ℤ, ◌≢◌, ◌&&◌, ◌||◌, not, length}
use Rattle.gomp_types.specs.declared.call.Call.{Call}
use Rattle.gomp_types.specs.declared.call.Call.TheVariants.{LoopStart, LoopNext, LoopEnd, LoopEndNowait, LoopEndCancel, SectionsStart, SectionsNext, SectionsEnd, SectionsEndNowait, SectionsEndCancel, SingleStart, SingleCopyStart, SingleCopyEnd, OrderedStart, Barrier, RegionEnd, CriticalStart, CriticalEnd, LockInit, NestInit, LockDestroy, Set, Test as TestLock, Unset, SetNest, TestNest, UnsetNest, TaskCreate, TaskEnd, Taskwait, GroupStart, GroupEnd, Cancel, Point, Resume, Stop}
use Rattle.gomp_types.specs.declared.cancel.CancelKind.{CancelKind}
use Rattle.gomp_types.specs.declared.depend.Dep.{Dep}
use Rattle.gomp_events.specs.declared.event.Event.{Event}
use Rattle.gomp_types.specs.declared.key.Key.TheVariants.{Critical}
use Rattle.gomp_types.specs.declared.lock.LockKind.TheVariants.{Simple, Nest}
use Rattle.gomp_types.specs.declared.loop_desc.EndKind.{EndKind}
use Rattle.gomp_types.specs.declared.loop_desc.LoopDesc.{LoopDesc}
use Rattle.gomp_types.specs.declared.reply.Reply.{Reply}
use Rattle.gomp_types.specs.declared.reply.Reply.TheVariants.{Finished, Passed, Wait, Created, Run, TaskDone, Cancelled, Cancelling, Dropped, Stopped}
use Rattle.gomp_types.specs.declared.task.Task.TheVariants.{Implicit, Explicit}
use Rattle.gomp_types.specs.declared.task.TaskDesc.{TaskDesc}
use Rattle.gomp_events.specs.Cancels.{is_cancelled, names_cancelled}
use Rattle.gomp_events.specs.CancelCalls.{creates_covered, OrIsCancelled, OrWaitsCancelled}
use Rattle.gomp_events.specs.Events.{open_share}
use Rattle.gomp_events.specs.Goals.{may_pass, may_start, is_startable, some_startable, taskwait_met}
use Rattle.gomp_events.specs.Groups.{open_groups}
use Rattle.gomp_types.specs.Pieces.{shape_of}
use Rattle.gomp_types.specs.Sections.{sections_shape}
use Rattle.gomp_types.specs.Singles.{single_shape}
use Rattle.gomp_events.specs.TaskCalls.{AwaitsTasks, AwaitsOwn, last_complete}
use Rattle.gomp_events.specs.Tasks.{executed_task, task_desc, newest_child, is_undeferred}
use Rattle.gomp_types.proofs.Booleans.{not_both}
use Rattle.gomp_shares.specs.Loops.{DealsOut, DealsNext}
use Rattle.gomp_shares.specs.OrderedParts.{BeginsPart}
use Rattle.gomp_shares.specs.Sections.{DealsSections}
use Rattle.gomp_shares.specs.Singles.{DealsSingle, DealsCopy}
use Rattle.gomp_shares.specs.Starts.{Starts}
use Rattle.gomp_locks.specs.CriticalNames.{EntersCritical}
use Rattle.gomp_locks.specs.Holders.{asker, holder, holding_owner, found_lock}
use Rattle.gomp_locks.specs.Locks.{MakesLock, SetsLock, TestsLock, SetsNest, TestsNest, UnsetsNest}
use Rattle.gomp_model.specs.Past.{Past}
use Rattle.gomp_model.specs.Calls.{row_of}

-- this call of the member may be answered so, after what was before
abbrev pub IsAnswered : Call → ℕ → Past → Reply → Type 0
IsAnswered call m p reply = (row_of call).may_reply m p reply

-- Waits at which tasks are run

-- the goal of a wait is not met, and it is passed
pub no_pass_before_the_goal : (m : ℕ) (met : Bool) (h : List Event) → met ≡ false → AwaitsTasks m met h Passed → ⊥
no_pass_before_the_goal m met h unmet passed = not_both met passed unmet

-- it is met, and the member is to wait, or to run a task
pub no_wait_once_met : (m : ℕ) (met : Bool) (h : List Event) → met ≡ true → AwaitsTasks m met h Wait → ⊥
no_wait_once_met m met h is waits = not_both met is waits.0

pub no_run_once_met : (m task code arg : ℕ) (own met : Bool) (h : List Event) → met ≡ true → AwaitsTasks m met h (Run task code arg own) → ⊥
no_run_once_met m task code arg own met h is runs = not_both met is runs.0

-- the member is to wait, though there is a task that it may start
pub no_wait_beside_a_task : (m : ℕ) (met : Bool) (h : List Event) → some_startable m h ≡ true → AwaitsTasks m met h Wait → ⊥
no_wait_beside_a_task m met h some waits = not_both (some_startable m h) some waits.1

-- it is to run one that it may not start, as its own, or with another code or argument
pub no_run_of_a_task_that_may_not_start : (m task code arg : ℕ) (own met : Bool) (h : List Event) → is_startable m task h ≡ false → AwaitsTasks m met h (Run task code arg own) → ⊥
no_run_of_a_task_that_may_not_start m task code arg own met h never runs = not_both (is_startable m task h) runs.2 never

pub no_run_as_its_own_at_a_wait : (m task code arg : ℕ) (met : Bool) (h : List Event) → AwaitsTasks m met h (Run task code arg true) → ⊥
no_run_as_its_own_at_a_wait m task code arg met h runs = not_both true refl runs.1

pub no_run_by_another_code : (m task code arg : ℕ) (own met : Bool) (desc : TaskDesc) (h : List Event) → task_desc task h ≡ Some desc → desc.code ≢ code → AwaitsTasks m met h (Run task code arg own) → ⊥
no_run_by_another_code m task code arg own met desc h is differ runs = differ (rw is at runs.3).0

pub no_run_by_another_argument : (m task code arg : ℕ) (own met : Bool) (desc : TaskDesc) (h : List Event) → task_desc task h ≡ Some desc → desc.arg ≢ arg → AwaitsTasks m met h (Run task code arg own) → ⊥
no_run_by_another_argument m task code arg own met desc h is differ runs = differ (rw is at runs.3).1

pub no_run_of_no_task : (m task code arg : ℕ) (own met : Bool) (h : List Event) → task_desc task h ≡ None → AwaitsTasks m met h (Run task code arg own) → ⊥
no_run_of_no_task m task code arg own met h none runs = rw none at runs.3

-- it is answered as no wait is
pub no_other_answer_at_a_wait : (m : ℕ) (met : Bool) (h : List Event) (reply : Reply) → reply ≢ Passed → reply ≢ Wait → ((task code arg : ℕ) (own : Bool) → reply ≢ Run task code arg own) → AwaitsTasks m met h reply → ⊥
no_other_answer_at_a_wait m met h Passed passes waits runs may = passes refl
no_other_answer_at_a_wait m met h Wait passes waits runs may = waits refl
no_other_answer_at_a_wait m met h (Run task code arg own) passes waits runs may = runs task code arg own refl
no_other_answer_at_a_wait m met h _ passes waits runs may = absurd may

-- what each of these calls waits for

pub barrier_waits_for_all : (m : ℕ) (p : Past) (reply : Reply) → IsAnswered Barrier m p reply → OrIsCancelled (is_cancelled p.events) (AwaitsTasks m (may_pass p.terms.members m p.events) p.events) reply
barrier_waits_for_all m p reply may = may

pub loop_end_waits_for_all : (m : ℕ) (p : Past) (reply : Reply) → IsAnswered LoopEnd m p reply → OrIsCancelled (is_cancelled p.events) (AwaitsTasks m (may_pass p.terms.members m p.events) p.events) reply
loop_end_waits_for_all m p reply may = may

pub loop_end_cancel_waits_for_all : (m : ℕ) (p : Past) (reply : Reply) → IsAnswered LoopEndCancel m p reply → OrIsCancelled (is_cancelled p.events) (AwaitsTasks m (may_pass p.terms.members m p.events) p.events) reply
loop_end_cancel_waits_for_all m p reply may = may

pub sections_end_waits_for_all : (m : ℕ) (p : Past) (reply : Reply) → IsAnswered SectionsEnd m p reply → OrIsCancelled (is_cancelled p.events) (AwaitsTasks m (may_pass p.terms.members m p.events) p.events) reply
sections_end_waits_for_all m p reply may = may

pub sections_end_cancel_waits_for_all : (m : ℕ) (p : Past) (reply : Reply) → IsAnswered SectionsEndCancel m p reply → OrIsCancelled (is_cancelled p.events) (AwaitsTasks m (may_pass p.terms.members m p.events) p.events) reply
sections_end_cancel_waits_for_all m p reply may = may

pub region_end_waits_for_all : (m : ℕ) (p : Past) (reply : Reply) → IsAnswered RegionEnd m p reply → AwaitsTasks m (may_pass p.terms.members m p.events) p.events reply
region_end_waits_for_all m p reply may = may

pub taskwait_waits_for_its_children : (m : ℕ) (items : List Dep) (p : Past) (reply : Reply) → IsAnswered (Taskwait items) m p reply → AwaitsTasks m (taskwait_met (executed_task m p.events) items p.events) p.events reply
taskwait_waits_for_its_children m items p reply may = may

pub group_end_waits_for_its_tasks : (m : ℕ) (p : Past) (reply : Reply) → IsAnswered GroupEnd m p reply → AwaitsTasks m (last_complete (open_groups (executed_task m p.events) p.events) p.events) p.events reply
group_end_waits_for_its_tasks m p reply may = may

-- In a cancelled region

-- an arrival is answered otherwise than that the region is cancelled, or so though it is not
pub no_other_answer_once_cancelled : (May : Reply → Type 0) (cancelled : Bool) (reply : Reply) → cancelled ≡ true → reply ≢ Cancelled → OrIsCancelled cancelled May reply → ⊥
no_other_answer_once_cancelled May true reply is differ may = differ may
no_other_answer_once_cancelled May false reply is differ may = absurd (cc)

pub as_ever_if_uncancelled : (May : Reply → Type 0) (cancelled : Bool) (reply : Reply) → cancelled ≡ false → OrIsCancelled cancelled May reply → May reply
as_ever_if_uncancelled May true reply is may = absurd (cc)
as_ever_if_uncancelled May false reply is may = may

-- a call that would have to wait is answered to wait
pub no_wait_once_cancelled : (May : Reply → Type 0) (cancelled : Bool) → cancelled ≡ true → OrWaitsCancelled cancelled May Wait → ⊥
no_wait_once_cancelled May true is may = may
no_wait_once_cancelled May false is may = absurd (cc)

-- or is answered that the region is cancelled, though it need not wait
pub no_cancelled_without_a_wait : (May : Reply → Type 0) (cancelled : Bool) → cancelled ≡ true → (May Wait → ⊥) → OrWaitsCancelled cancelled May Cancelled → ⊥
no_cancelled_without_a_wait May true is free may = free may
no_cancelled_without_a_wait May false is free may = absurd (cc)

pub waits_as_ever_if_uncancelled : (May : Reply → Type 0) (cancelled : Bool) (reply : Reply) → cancelled ≡ false → OrWaitsCancelled cancelled May reply → May reply
waits_as_ever_if_uncancelled May true reply is may = absurd (cc)
waits_as_ever_if_uncancelled May false reply is may = may

-- Creations

-- one that a cancellation reaches is answered otherwise than dropped
pub no_creation_once_covered : (m : ℕ) (desc : TaskDesc) (p : Past) (reply : Reply) → creates_covered m p.events ≡ true → reply ≢ Dropped → IsAnswered (TaskCreate desc) m p reply → ⊥
no_creation_once_covered m desc p reply covered differ may = differ (rw covered at may)

-- a deferred one is answered otherwise than by its number
pub no_other_number_of_a_creation : (m : ℕ) (desc : TaskDesc) (p : Past) (reply : Reply) → creates_covered m p.events ≡ false → is_undeferred (newest_child (executed_task m p.events) p.events) p.events ≡ false
    → reply ≢ Created (newest_child (executed_task m p.events) p.events) → IsAnswered (TaskCreate desc) m p reply → ⊥
no_other_number_of_a_creation m desc p reply uncovered deferred differ may = differ (rw (uncovered, deferred) at may)

-- an undeferred one waits for its own task
pub creation_waits_for_its_own : (m : ℕ) (desc : TaskDesc) (p : Past) (reply : Reply) → creates_covered m p.events ≡ false → is_undeferred (newest_child (executed_task m p.events) p.events) p.events ≡ true
    → IsAnswered (TaskCreate desc) m p reply → AwaitsOwn m (newest_child (executed_task m p.events) p.events) p.events reply
creation_waits_for_its_own m desc p reply uncovered undeferred may = rw (uncovered, undeferred) at may

-- another task as the creator's own, or its own before it may start
pub no_own_run_of_another : (m t task code arg : ℕ) (h : List Event) → task ≢ t → AwaitsOwn m t h (Run task code arg true) → ⊥
no_own_run_of_another m t task code arg h differ runs = differ runs.0

pub no_own_run_too_early : (m t task code arg : ℕ) (h : List Event) → may_start m t h ≡ false → AwaitsOwn m t h (Run task code arg true) → ⊥
no_own_run_too_early m t task code arg h never runs = not_both (may_start m t h) runs.1 never

pub no_own_run_by_another_code : (m t task code arg : ℕ) (desc : TaskDesc) (h : List Event) → task_desc t h ≡ Some desc → desc.code ≢ code → AwaitsOwn m t h (Run task code arg true) → ⊥
no_own_run_by_another_code m t task code arg desc h is differ runs = differ (rw is at runs.2).0

pub no_own_run_by_another_argument : (m t task code arg : ℕ) (desc : TaskDesc) (h : List Event) → task_desc t h ≡ Some desc → desc.arg ≢ arg → AwaitsOwn m t h (Run task code arg true) → ⊥
no_own_run_by_another_argument m t task code arg desc h is differ runs = differ (rw is at runs.2).1

-- another task, or a wait, while its own may start
pub no_other_run_before_its_own : (m t task code arg : ℕ) (h : List Event) → may_start m t h ≡ true → AwaitsOwn m t h (Run task code arg false) → ⊥
no_other_run_before_its_own m t task code arg h may runs = not_both (may_start m t h) may runs.0

pub no_wait_before_its_own : (m t : ℕ) (h : List Event) → may_start m t h ≡ true → AwaitsOwn m t h Wait → ⊥
no_wait_before_its_own m t h may waits = not_both (may_start m t h) may waits.0

pub no_wait_of_a_creator_beside_a_task : (m t : ℕ) (h : List Event) → some_startable m h ≡ true → AwaitsOwn m t h Wait → ⊥
no_wait_of_a_creator_beside_a_task m t h some waits = not_both (some_startable m h) some waits.1

-- a pass, as if its task had been run
pub no_pass_of_a_creator : (m t : ℕ) (h : List Event) → AwaitsOwn m t h Passed → ⊥
no_pass_of_a_creator m t h may = may

-- Ends of tasks, starts of groups

pub no_other_end_of_a_task : (m t : ℕ) (p : Past) (reply : Reply) → executed_task m p.events ≡ Explicit t → reply ≢ TaskDone t (not (is_undeferred t p.events)) → IsAnswered TaskEnd m p reply → ⊥
no_other_end_of_a_task m t p reply is differ may = differ (rw is at may)

pub no_end_of_an_implicit_task : (m k : ℕ) (p : Past) (reply : Reply) → executed_task m p.events ≡ Implicit k → IsAnswered TaskEnd m p reply → ⊥
no_end_of_an_implicit_task m k p reply is may = rw is at may

pub no_other_start_of_a_group : (m : ℕ) (p : Past) (reply : Reply) → reply ≢ Finished → IsAnswered GroupStart m p reply → ⊥
no_other_start_of_a_group m p reply differ may = differ may

-- Cancellation

pub no_other_answer_to_a_cancel_construct : (m : ℕ) (kind : CancelKind) (clause : Bool) (p : Past) (reply : Reply) → reply ≢ Cancelling (p.terms.cancellation && (clause || names_cancelled kind m p.events)) → IsAnswered (Cancel kind clause) m p reply → ⊥
no_other_answer_to_a_cancel_construct m kind clause p reply differ may = differ may

pub no_other_answer_to_a_point : (m : ℕ) (kind : CancelKind) (p : Past) (reply : Reply) → reply ≢ Cancelling (p.terms.cancellation && names_cancelled kind m p.events) → IsAnswered (Point kind) m p reply → ⊥
no_other_answer_to_a_point m kind p reply differ may = differ may

-- Shares: each call's cause is its construct's, of whichever member, share and description

pub loop_start_deals_out : (m : ℕ) (loop : LoopDesc) (p : Past) (reply : Reply) → IsAnswered (LoopStart loop) m p reply → OrWaitsCancelled (is_cancelled p.events) (λ given. Starts DealsOut p.terms.members m (shape_of loop) given p.events) reply
loop_start_deals_out m loop p reply may = may

pub loop_next_deals_on : (m : ℕ) (p : Past) (reply : Reply) → IsAnswered LoopNext m p reply → OrWaitsCancelled (is_cancelled p.events) (λ given. DealsNext p.terms.members m (open_share m p.events) given p.events) reply
loop_next_deals_on m p reply may = may

pub sections_start_deals_out : (m count : ℕ) (kind : EndKind) (p : Past) (reply : Reply) → IsAnswered (SectionsStart count kind) m p reply →
    OrWaitsCancelled (is_cancelled p.events) (λ given. Starts DealsSections p.terms.members m (sections_shape count kind) given p.events) reply
sections_start_deals_out m count kind p reply may = may

pub sections_next_deals_on : (m : ℕ) (p : Past) (reply : Reply) → IsAnswered SectionsNext m p reply → DealsSections p.terms.members m (open_share m p.events) reply p.events
sections_next_deals_on m p reply may = may

pub single_start_has_one_executor : (m : ℕ) (p : Past) (reply : Reply) → IsAnswered SingleStart m p reply → OrWaitsCancelled (is_cancelled p.events) (λ given. Starts DealsSingle p.terms.members m (single_shape false) given p.events) reply
single_start_has_one_executor m p reply may = may

pub single_copy_gives_words : (m : ℕ) (p : Past) (reply : Reply) → IsAnswered SingleCopyStart m p reply → OrWaitsCancelled (is_cancelled p.events) (λ given. Starts DealsCopy p.terms.members m (single_shape true) given p.events) reply
single_copy_gives_words m p reply may = may

pub ordered_start_waits_its_turn : (m : ℕ) (value : ℤ) (p : Past) (reply : Reply) → IsAnswered (OrderedStart value) m p reply → OrWaitsCancelled (is_cancelled p.events) (λ given. BeginsPart p.terms.members m (open_share m p.events) given p.events) reply
ordered_start_waits_its_turn m value p reply may = may

-- what is done at once is answered so
pub no_other_answer_to_a_nowait_end : (m : ℕ) (p : Past) (reply : Reply) → reply ≢ Finished → IsAnswered LoopEndNowait m p reply → ⊥
no_other_answer_to_a_nowait_end m p reply differ may = differ may

pub no_other_answer_to_a_sections_nowait_end : (m : ℕ) (p : Past) (reply : Reply) → reply ≢ Finished → IsAnswered SectionsEndNowait m p reply → ⊥
no_other_answer_to_a_sections_nowait_end m p reply differ may = differ may

pub no_other_answer_to_words : (m : ℕ) (payload : List ℕ) (p : Past) (reply : Reply) → reply ≢ Finished → IsAnswered (SingleCopyEnd payload) m p reply → ⊥
no_other_answer_to_words m payload p reply differ may = differ may

-- Names and locks: each call's cause is the book's, of whoever holds what it asks for

pub name_is_entered_if_free : (m : ℕ) (name : List ℕ) (p : Past) (reply : Reply) → IsAnswered (CriticalStart name) m p reply → EntersCritical (holding_owner (holder (Critical name) p.events)) reply
name_is_entered_if_free m name p reply may = may

pub no_other_answer_to_an_end_of_a_name : (m : ℕ) (name : List ℕ) (p : Past) (reply : Reply) → reply ≢ Finished → IsAnswered (CriticalEnd name) m p reply → ⊥
no_other_answer_to_an_end_of_a_name m name p reply differ may = differ may

pub simple_lock_has_the_next_number : (m : ℕ) (p : Past) (reply : Reply) → IsAnswered LockInit m p reply → MakesLock (length p.locks) reply
simple_lock_has_the_next_number m p reply may = may

pub nestable_lock_has_the_next_number : (m : ℕ) (p : Past) (reply : Reply) → IsAnswered NestInit m p reply → MakesLock (length p.locks) reply
nestable_lock_has_the_next_number m p reply may = may

pub no_other_answer_to_a_destroy : (m number : ℕ) (p : Past) (reply : Reply) → reply ≢ Finished → IsAnswered (LockDestroy number) m p reply → ⊥
no_other_answer_to_a_destroy m number p reply differ may = differ may

pub lock_is_set_if_free : (m number : ℕ) (p : Past) (reply : Reply) → IsAnswered (Set number) m p reply → SetsLock (found_lock Simple number p.locks p.events) reply
lock_is_set_if_free m number p reply may = may

pub lock_test_tells_if_free : (m number : ℕ) (p : Past) (reply : Reply) → IsAnswered (TestLock number) m p reply → TestsLock (found_lock Simple number p.locks p.events) reply
lock_test_tells_if_free m number p reply may = may

pub no_other_answer_to_an_unset : (m number : ℕ) (p : Past) (reply : Reply) → reply ≢ Finished → IsAnswered (Unset number) m p reply → ⊥
no_other_answer_to_an_unset m number p reply differ may = differ may

pub nestable_lock_is_set_by_its_owner : (m number : ℕ) (p : Past) (reply : Reply) → IsAnswered (SetNest number) m p reply → SetsNest (asker m p.events) (found_lock Nest number p.locks p.events) reply
nestable_lock_is_set_by_its_owner m number p reply may = may

pub nestable_lock_test_tells_the_count : (m number : ℕ) (p : Past) (reply : Reply) → IsAnswered (TestNest number) m p reply → TestsNest (asker m p.events) (found_lock Nest number p.locks p.events) reply
nestable_lock_test_tells_the_count m number p reply may = may

pub nestable_lock_unset_tells_the_count : (m number : ℕ) (p : Past) (reply : Reply) → IsAnswered (UnsetNest number) m p reply → UnsetsNest (asker m p.events) (found_lock Nest number p.locks p.events) reply
nestable_lock_unset_tells_the_count m number p reply may = may

-- Resumes and stops

pub no_answer_to_an_idle_resume : (m : ℕ) (p : Past) (reply : Reply) → IsAnswered Resume m p reply → ⊥
no_answer_to_an_idle_resume m p reply may = may

pub no_other_answer_to_a_stop : (m : ℕ) (p : Past) (reply : Reply) → reply ≢ Stopped → IsAnswered Stop m p reply → ⊥
no_other_answer_to_a_stop m p reply differ may = differ may
