-- For what each call is refused, of any member, past and argument: all its tests, made and, as the second of a pair, repeated by a resume. Which refusal comes first
-- is settled by the numbers of gomp_types; what each of these tests asks is that of gomp_types, gomp_shares and gomp_locks, whose refutations stand there.
use Rattle.std.proofs.Common.{◌≡◌, ℕ, Bool, true, false, List, [], ◌∷◌, ◌++◌, refl, length}
use Rattle.std.specs.Prelude.{ℤ, ◌≢◌, ◌&&◌, is_some, nat_le, nat_lt, not}
use Rattle.gomp_types.specs.declared.call.Call.{Call}
use Rattle.gomp_types.specs.declared.call.Call.TheVariants.{LoopStart, LoopNext, LoopEnd, LoopEndNowait, LoopEndCancel, SectionsStart, SectionsNext, SectionsEnd, SectionsEndNowait, SectionsEndCancel, SingleStart, SingleCopyStart, SingleCopyEnd, OrderedStart, OrderedEnd, Barrier, RegionEnd, CriticalStart, CriticalEnd, LockInit, NestInit, LockDestroy, Set, Test as TestLock, Unset, SetNest, TestNest, UnsetNest, TaskCreate, TaskEnd, Taskwait, GroupStart, GroupEnd, Cancel, Point, Resume, Stop}
use Rattle.gomp_types.specs.declared.cancel.CancelKind.TheVariants.{Parallel, Loop, Sections, Taskgroup}
use Rattle.gomp_types.specs.declared.depend.Dep.{Dep}
use Rattle.gomp_events.specs.declared.event.Arrival.{Arrival}
use Rattle.gomp_events.specs.declared.event.Arrival.TheVariants.{Barrier as BarrierArrival, ShareEnd, RegionEnd as RegionEndArrival}
use Rattle.gomp_events.specs.declared.event.Event.{Event}
use Rattle.gomp_events.specs.declared.event.Event.TheVariants.{PartEnd}
use Rattle.gomp_types.specs.declared.key.Key.TheVariants.{Critical}
use Rattle.gomp_types.specs.declared.lock.LockKind.TheVariants.{Simple, Nest}
use Rattle.gomp_types.specs.declared.loop_desc.EndKind.{EndKind}
use Rattle.gomp_types.specs.declared.loop_desc.EndKind.TheVariants.{Wait, Nowait, Cancellable}
use Rattle.gomp_types.specs.declared.loop_desc.LoopDesc.{LoopDesc}
use Rattle.gomp_types.specs.declared.refusal.Refusal.TheVariants.{Leaving, InsideShare, InsideTask, NotInTask, HoldsCritical, NotInside, NoGroup, GroupOpen, TooDeep, TooManyTasks, TooManyDepends, Mismatch, TraceFull}
use Rattle.gomp_types.specs.declared.reply.Reply.{Reply}
use Rattle.gomp_types.specs.declared.reply.Reply.TheVariants.{Finished}
use Rattle.gomp_types.specs.declared.task.TaskDesc.{TaskDesc}
use Rattle.gomp_events.specs.Cancels.{groups_over, is_cancelled, is_leaving, leaves_region, leaves_task}
use Rattle.gomp_events.specs.CancelCalls.{creates_covered}
use Rattle.gomp_events.specs.Tags.{tag_differs, tag_with}
use Rattle.gomp_events.specs.Events.{barriers_passed, open_number, shares_entered, tag_at}
use Rattle.gomp_types.specs.Iterations.{loop_tests}
use Rattle.gomp_types.specs.Pieces.{shape_of}
use Rattle.gomp_types.specs.Sections.{sections_shape, sections_tests}
use Rattle.gomp_events.specs.Seen.{seen_of}
use Rattle.gomp_types.specs.Singles.{single_shape}
use Rattle.gomp_events.specs.TaskCalls.{group_is_open, has_some, lacks_room, unless_given_up}
use Rattle.gomp_events.specs.Tasks.{depth_of, executed_task, in_task, tasks_created}
use Rattle.gomp_types.specs.Tests.{Test}
use Rattle.gomp_shares.specs.Cancels.{cancel_place_tests}
use Rattle.gomp_shares.specs.Loops.{end_tests, next_tests}
use Rattle.gomp_shares.specs.OrderedParts.{part_end_tests, part_tests}
use Rattle.gomp_shares.specs.Sections.{section_next_tests, sections_end_tests}
use Rattle.gomp_shares.specs.Singles.{put_tests}
use Rattle.gomp_shares.specs.Starts.{compared_share, drained_tests, start_tests}
use Rattle.gomp_locks.specs.CriticalNames.{critical_end_tests, critical_start_tests}
use Rattle.gomp_locks.specs.Holders.{asker, found_any_lock, found_lock, holder, holding_owner, holds_critical}
use Rattle.gomp_locks.specs.Locks.{count_tests, gone_tests, init_tests, set_by_any_tests, set_by_other_tests, set_by_own_tests}
use Rattle.gomp_model.proofs.ReplyEvents.{events_of}
use Rattle.gomp_model.specs.Arrivals.{ends_its_own}
use Rattle.gomp_model.specs.Calls.{row_of}
use Rattle.gomp_model.specs.Past.{Past}
use Rattle.gomp_model.specs.Row.{row_tests}
use Rattle.gomp_model.specs.Starts.{share_room}
use Rattle.gomp_model.proofs.CauseRefutations.{IsAnswered}

-- the tests of a call, made and repeated
abbrev pub IsTestedBy : Call → ℕ → Past → List Test → List Test → Type 0
IsTestedBy call m p made repeated = (row_tests false (row_of call) m p ≡ made) × (row_tests true (row_of call) m p ≡ repeated)

-- a member that leaves something, and may not make the call
abbrev pub leaves : ℕ → Past → Bool → Test
leaves m p may = (is_leaving m p.events && not may, Leaving)

-- too little room for so many events
abbrev pub lacks : Past → ℕ → Test
lacks p room = (lacks_room p.terms.limits.events p.room room, TraceFull)

-- no explicit task makes the call, nor one that holds a critical name, which asks for so much room
abbrev pub in_a_task : ℕ → Past → ℕ → List Test
in_a_task m p room = (in_task m p.events, InsideTask) ∷ lacks p room ∷ (holds_critical (asker m p.events) p.events, HoldsCritical) ∷ []

-- the arrival differs from those of the other members at its barrier; in a cancelled region it is not compared
abbrev pub otherwise : Arrival → ℕ → List Event → Test
otherwise kind m h = (not (is_cancelled h) && tag_differs (tag_with kind (shares_entered m h)) (tag_at (barriers_passed m h) h), Mismatch)

-- a group that its task has opened is not ended, unless the member gives it up
abbrev pub leaves_open : Bool → ℕ → Past → List Test
leaves_open given_up m p = unless_given_up given_up ((group_is_open m p.events, GroupOpen) ∷ [])

-- Shares

pub loop_start_is_refused_for : (loop : LoopDesc) (m : ℕ) (p : Past) → IsTestedBy (LoopStart loop) m p
    (leaves m p false ∷ start_tests (loop_tests loop) p.terms.limits (seen_of m p.events) ++ compared_share (shape_of loop) m p.events ++ in_a_task m p (share_room (shape_of loop))) (compared_share (shape_of loop) m p.events)
loop_start_is_refused_for loop m p = (refl, refl)

pub sections_start_is_refused_for : (count : ℕ) (kind : EndKind) (m : ℕ) (p : Past) → IsTestedBy (SectionsStart count kind) m p
    (leaves m p false ∷ start_tests (sections_tests count) p.terms.limits (seen_of m p.events) ++ compared_share (sections_shape count kind) m p.events ++ in_a_task m p (share_room (sections_shape count kind)))
    (compared_share (sections_shape count kind) m p.events)
sections_start_is_refused_for count kind m p = (refl, refl)

pub single_start_is_refused_for : (m : ℕ) (p : Past) → IsTestedBy SingleStart m p
    (leaves m p false ∷ start_tests [] p.terms.limits (seen_of m p.events) ++ compared_share (single_shape false) m p.events ++ in_a_task m p 0) (compared_share (single_shape false) m p.events)
single_start_is_refused_for m p = (refl, refl)

pub single_copy_start_is_refused_for : (m : ℕ) (p : Past) → IsTestedBy SingleCopyStart m p
    (leaves m p false ∷ start_tests [] p.terms.limits (seen_of m p.events) ++ compared_share (single_shape true) m p.events ++ in_a_task m p 1) (compared_share (single_shape true) m p.events)
single_copy_start_is_refused_for m p = (refl, refl)

pub loop_next_is_refused_for : (m : ℕ) (p : Past) → IsTestedBy LoopNext m p (leaves m p false ∷ next_tests (seen_of m p.events) ++ in_a_task m p 0) []
loop_next_is_refused_for m p = (refl, refl)

pub sections_next_is_refused_for : (m : ℕ) (p : Past) → IsTestedBy SectionsNext m p (leaves m p false ∷ section_next_tests (seen_of m p.events) ++ in_a_task m p 0) []
sections_next_is_refused_for m p = (refl, refl)

pub ordered_start_is_refused_for : (value : ℤ) (m : ℕ) (p : Past) → IsTestedBy (OrderedStart value) m p (leaves m p false ∷ part_tests value (seen_of m p.events) ++ in_a_task m p 0) []
ordered_start_is_refused_for value m p = (refl, refl)

pub ordered_end_is_refused_for : (m : ℕ) (p : Past) → IsTestedBy OrderedEnd m p (leaves m p false ∷ part_end_tests (seen_of m p.events) ++ in_a_task m p 0) []
ordered_end_is_refused_for m p = (refl, refl)

pub words_are_refused_for : (payload : List ℕ) (m : ℕ) (p : Past) → IsTestedBy (SingleCopyEnd payload) m p (leaves m p false ∷ put_tests (seen_of m p.events) ++ in_a_task m p 0) []
words_are_refused_for payload m p = (refl, refl)

-- an end without a barrier; one with a barrier is compared too, and a member that leaves its share may end that
pub loop_end_nowait_is_refused_for : (m : ℕ) (p : Past) → IsTestedBy LoopEndNowait m p (leaves m p false ∷ end_tests Nowait (seen_of m p.events) ++ drained_tests m p.events ++ in_a_task m p 0) []
loop_end_nowait_is_refused_for m p = (refl, refl)

pub sections_end_nowait_is_refused_for : (m : ℕ) (p : Past) → IsTestedBy SectionsEndNowait m p (leaves m p false ∷ sections_end_tests Nowait (seen_of m p.events) ++ drained_tests m p.events ++ in_a_task m p 0) []
sections_end_nowait_is_refused_for m p = (refl, refl)

pub loop_end_is_refused_for : (m : ℕ) (p : Past) → IsTestedBy LoopEnd m p
    (leaves m p (ends_its_own (end_tests Wait) m p.events) ∷ end_tests Wait (seen_of m p.events) ++ drained_tests m p.events ++ otherwise ShareEnd m p.events ∷ in_a_task m p 0) []
loop_end_is_refused_for m p = (refl, refl)

pub loop_end_cancel_is_refused_for : (m : ℕ) (p : Past) → IsTestedBy LoopEndCancel m p
    (leaves m p (ends_its_own (end_tests Cancellable) m p.events) ∷ end_tests Cancellable (seen_of m p.events) ++ drained_tests m p.events ++ otherwise ShareEnd m p.events ∷ in_a_task m p 0) []
loop_end_cancel_is_refused_for m p = (refl, refl)

pub sections_end_is_refused_for : (m : ℕ) (p : Past) → IsTestedBy SectionsEnd m p
    (leaves m p (ends_its_own (sections_end_tests Wait) m p.events) ∷ sections_end_tests Wait (seen_of m p.events) ++ drained_tests m p.events ++ otherwise ShareEnd m p.events ∷ in_a_task m p 0) []
sections_end_is_refused_for m p = (refl, refl)

pub sections_end_cancel_is_refused_for : (m : ℕ) (p : Past) → IsTestedBy SectionsEndCancel m p
    (leaves m p (ends_its_own (sections_end_tests Cancellable) m p.events) ∷ sections_end_tests Cancellable (seen_of m p.events) ++ drained_tests m p.events ++ otherwise ShareEnd m p.events ∷ in_a_task m p 0) []
sections_end_cancel_is_refused_for m p = (refl, refl)

-- Barriers

pub barrier_is_refused_for : (m : ℕ) (p : Past) → IsTestedBy Barrier m p (leaves m p false ∷ (is_some (seen_of m p.events).current, InsideShare) ∷ otherwise BarrierArrival m p.events ∷ in_a_task m p 2) []
barrier_is_refused_for m p = (refl, refl)

-- the region's end, to which a member that leaves the region may go, with its share and its groups
pub region_end_is_refused_for : (m : ℕ) (p : Past) → IsTestedBy RegionEnd m p
    (leaves m p (leaves_region m p.events) ∷ (unless_given_up (leaves_region m p.events) ((is_some (seen_of m p.events).current, InsideShare) ∷ []) ++ otherwise RegionEndArrival m p.events ∷ [])
    ++ (((in_task m p.events, InsideTask) ∷ leaves_open (leaves_region m p.events) m p ++ lacks p 0 ∷ []) ++ (holds_critical (asker m p.events) p.events, HoldsCritical) ∷ [])) []
region_end_is_refused_for m p = (refl, refl)

-- Names and locks

pub name_is_refused_for : (name : List ℕ) (m : ℕ) (p : Past) → IsTestedBy (CriticalStart name) m p (leaves m p false ∷ lacks p 0 ∷ critical_start_tests (asker m p.events) name (holding_owner (holder (Critical name) p.events))) []
name_is_refused_for name m p = (refl, refl)

pub end_of_a_name_is_refused_for : (name : List ℕ) (m : ℕ) (p : Past) → IsTestedBy (CriticalEnd name) m p (leaves m p true ∷ lacks p 0 ∷ critical_end_tests (asker m p.events) name (holding_owner (holder (Critical name) p.events))) []
end_of_a_name_is_refused_for name m p = (refl, refl)

pub simple_lock_is_refused_for : (m : ℕ) (p : Past) → IsTestedBy LockInit m p (leaves m p false ∷ lacks p 0 ∷ init_tests (length p.locks)) []
simple_lock_is_refused_for m p = (refl, refl)

pub nestable_lock_is_refused_for : (m : ℕ) (p : Past) → IsTestedBy NestInit m p (leaves m p false ∷ lacks p 0 ∷ init_tests (length p.locks)) []
nestable_lock_is_refused_for m p = (refl, refl)

pub destroy_is_refused_for : (number m : ℕ) (p : Past) → IsTestedBy (LockDestroy number) m p
    (leaves m p false ∷ lacks p 0 ∷ set_by_any_tests (found_any_lock number p.locks p.events) ++ gone_tests (found_any_lock number p.locks p.events)) (gone_tests (found_any_lock number p.locks p.events))
destroy_is_refused_for number m p = (refl, refl)

pub set_is_refused_for : (number m : ℕ) (p : Past) → IsTestedBy (Set number) m p
    (leaves m p false ∷ lacks p 0 ∷ set_by_own_tests (asker m p.events) (found_lock Simple number p.locks p.events) ++ gone_tests (found_lock Simple number p.locks p.events)) (gone_tests (found_lock Simple number p.locks p.events))
set_is_refused_for number m p = (refl, refl)

pub lock_test_is_refused_for : (number m : ℕ) (p : Past) → IsTestedBy (TestLock number) m p (leaves m p false ∷ lacks p 0 ∷ gone_tests (found_lock Simple number p.locks p.events)) (gone_tests (found_lock Simple number p.locks p.events))
lock_test_is_refused_for number m p = (refl, refl)

pub unset_is_refused_for : (number m : ℕ) (p : Past) → IsTestedBy (Unset number) m p
    (leaves m p true ∷ lacks p 0 ∷ set_by_other_tests (asker m p.events) (found_lock Simple number p.locks p.events) ++ gone_tests (found_lock Simple number p.locks p.events)) (gone_tests (found_lock Simple number p.locks p.events))
unset_is_refused_for number m p = (refl, refl)

pub set_nest_is_refused_for : (number m : ℕ) (p : Past) → IsTestedBy (SetNest number) m p
    (leaves m p false ∷ lacks p 0 ∷ count_tests (asker m p.events) (found_lock Nest number p.locks p.events) ++ gone_tests (found_lock Nest number p.locks p.events)) (gone_tests (found_lock Nest number p.locks p.events))
set_nest_is_refused_for number m p = (refl, refl)

pub nest_test_is_refused_for : (number m : ℕ) (p : Past) → IsTestedBy (TestNest number) m p
    (leaves m p false ∷ lacks p 0 ∷ count_tests (asker m p.events) (found_lock Nest number p.locks p.events) ++ gone_tests (found_lock Nest number p.locks p.events)) (gone_tests (found_lock Nest number p.locks p.events))
nest_test_is_refused_for number m p = (refl, refl)

pub unset_nest_is_refused_for : (number m : ℕ) (p : Past) → IsTestedBy (UnsetNest number) m p
    (leaves m p true ∷ lacks p 0 ∷ set_by_other_tests (asker m p.events) (found_lock Nest number p.locks p.events) ++ gone_tests (found_lock Nest number p.locks p.events)) (gone_tests (found_lock Nest number p.locks p.events))
unset_nest_is_refused_for number m p = (refl, refl)

-- Tasks and groups

-- a task that would lie deeper than 64, one task more than the limit, or more than 16 items
abbrev pub of_a_creation : TaskDesc → Past → ℕ → List Test
of_a_creation desc p m =
    (nat_le 64 (depth_of (executed_task m p.events) p.events), TooDeep) ∷ (nat_le p.terms.limits.tasks (tasks_created p.events), TooManyTasks) ∷ (nat_lt 16 (length desc.deps), TooManyDepends) ∷ []

-- a creation that a cancellation reaches is dropped, whatever room there is
pub creation_is_refused_for : (desc : TaskDesc) (m : ℕ) (p : Past) → creates_covered m p.events ≡ false → IsTestedBy (TaskCreate desc) m p (leaves m p false ∷ of_a_creation desc p m ++ lacks p 3 ∷ []) []
creation_is_refused_for desc m p uncovered = rw uncovered (refl, refl)

pub dropped_creation_is_refused_for : (desc : TaskDesc) (m : ℕ) (p : Past) → creates_covered m p.events ≡ true → IsTestedBy (TaskCreate desc) m p (leaves m p false ∷ of_a_creation desc p m) []
dropped_creation_is_refused_for desc m p covered = rw covered (refl, refl)

-- the end of a task, which a member that leaves the task may call, with its groups
pub task_end_is_refused_for : (m : ℕ) (p : Past) → IsTestedBy TaskEnd m p
    (leaves m p (leaves_task m p.events) ∷ ((not (in_task m p.events), NotInTask) ∷ leaves_open (leaves_task m p.events) m p ++ lacks p 0 ∷ []) ++ (holds_critical (asker m p.events) p.events, HoldsCritical) ∷ []) []
task_end_is_refused_for m p = (refl, refl)

pub taskwait_is_refused_for : (items : List Dep) (m : ℕ) (p : Past) → IsTestedBy (Taskwait items) m p (leaves m p false ∷ (nat_lt 16 (length items), TooManyDepends) ∷ lacks p 0 ∷ []) []
taskwait_is_refused_for items m p = (refl, refl)

pub group_start_is_refused_for : (m : ℕ) (p : Past) → IsTestedBy GroupStart m p (leaves m p false ∷ lacks p 2 ∷ []) []
group_start_is_refused_for m p = (refl, refl)

pub group_end_is_refused_for : (m : ℕ) (p : Past) → IsTestedBy GroupEnd m p (leaves m p false ∷ (not (group_is_open m p.events), NoGroup) ∷ lacks p 0 ∷ []) []
group_end_is_refused_for m p = (refl, refl)

-- Cancellation

-- the region is cancelled outside of every explicit task
pub cancel_of_the_region_is_refused_for : (clause : Bool) (m : ℕ) (p : Past) → IsTestedBy (Cancel Parallel clause) m p (leaves m p false ∷ (in_task m p.events, InsideTask) ∷ lacks p 1 ∷ []) []
cancel_of_the_region_is_refused_for clause m p = (refl, refl)

pub point_of_the_region_is_refused_for : (m : ℕ) (p : Past) → IsTestedBy (Point Parallel) m p (leaves m p false ∷ (in_task m p.events, InsideTask) ∷ lacks p 0 ∷ []) []
point_of_the_region_is_refused_for m p = (refl, refl)

-- so is a share, which asks for no room
pub cancel_of_a_loop_is_refused_for : (clause : Bool) (m : ℕ) (p : Past) → IsTestedBy (Cancel Loop clause) m p (leaves m p false ∷ cancel_place_tests Loop (seen_of m p.events) ++ (in_task m p.events, InsideTask) ∷ lacks p 0 ∷ []) []
cancel_of_a_loop_is_refused_for clause m p = (refl, refl)

pub point_of_a_loop_is_refused_for : (m : ℕ) (p : Past) → IsTestedBy (Point Loop) m p (leaves m p false ∷ cancel_place_tests Loop (seen_of m p.events) ++ (in_task m p.events, InsideTask) ∷ lacks p 0 ∷ []) []
point_of_a_loop_is_refused_for m p = (refl, refl)

pub cancel_of_sections_is_refused_for : (clause : Bool) (m : ℕ) (p : Past) → IsTestedBy (Cancel Sections clause) m p (leaves m p false ∷ cancel_place_tests Sections (seen_of m p.events) ++ (in_task m p.events, InsideTask) ∷ lacks p 0 ∷ []) []
cancel_of_sections_is_refused_for clause m p = (refl, refl)

pub point_of_sections_is_refused_for : (m : ℕ) (p : Past) → IsTestedBy (Point Sections) m p (leaves m p false ∷ cancel_place_tests Sections (seen_of m p.events) ++ (in_task m p.events, InsideTask) ∷ lacks p 0 ∷ []) []
point_of_sections_is_refused_for m p = (refl, refl)

-- a group is in a task of it that has no group open
abbrev pub in_no_group : ℕ → Past → List Test
in_no_group m p = (not (in_task m p.events), NotInTask) ∷ (not (has_some (groups_over (executed_task m p.events) p.events)), NoGroup) ∷ (group_is_open m p.events, GroupOpen) ∷ []

pub cancel_of_a_group_is_refused_for : (clause : Bool) (m : ℕ) (p : Past) → IsTestedBy (Cancel Taskgroup clause) m p (leaves m p false ∷ in_no_group m p ++ lacks p 1 ∷ []) []
cancel_of_a_group_is_refused_for clause m p = (refl, refl)

pub point_of_a_group_is_refused_for : (m : ℕ) (p : Past) → IsTestedBy (Point Taskgroup) m p (leaves m p false ∷ in_no_group m p ++ lacks p 0 ∷ []) []
point_of_a_group_is_refused_for m p = (refl, refl)

-- Resumes and stops

pub idle_resume_is_refused : (m : ℕ) (p : Past) → row_tests true (row_of Resume) m p ≡ (true, NotInside) ∷ []
idle_resume_is_refused m p = refl

pub stop_is_refused_for_nothing : (m : ℕ) (p : Past) → IsTestedBy Stop m p (leaves m p true ∷ lacks p 0 ∷ []) []
stop_is_refused_for_nothing m p = (refl, refl)

-- The end of an ordered part is answered at once, like those in CauseRefutations

pub no_other_answer_to_an_ordered_end : (m : ℕ) (p : Past) (reply : Reply) → reply ≢ Finished → IsAnswered OrderedEnd m p reply → ⊥
no_other_answer_to_an_ordered_end m p reply differ may = differ may

-- the end of an ordered part is its event, and no member makes it that leaves
pub ordered_end_ends_its_part : (m : ℕ) (p : Past) → events_of false OrderedEnd m p Finished ≡ PartEnd (open_number m p.events) m ∷ p.events
ordered_end_ends_its_part m p = refl

pub no_ordered_end_of_a_leaving_member : (m : ℕ) (h : List Event) → (row_of OrderedEnd).lets_leave m h ≡ false
no_ordered_end_of_a_leaving_member m h = refl
