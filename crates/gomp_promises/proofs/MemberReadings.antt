-- What stands behind the answer to a member on threads, what it is never answered, and what stands behind a refusal that is printed of a script's region.
use Rattle.std.proofs.Common.{ℕ, ℤ, ◌≡◌, Bool, true, false, List, Option, Some, None, pos, refl}
use Rattle.std.specs.Prelude.{Err}
use Rattle.gomp_types.specs.declared.call.Call.TheVariants.{Barrier, RegionEnd, Set, SingleCopyEnd, TaskCreate, Test}
use Rattle.gomp_types.specs.declared.lock.Held.{Held}
use Rattle.gomp_types.specs.declared.refusal.Refusal.{Refusal}
use Rattle.gomp_types.specs.declared.reply.Reply.{Reply}
use Rattle.gomp_types.specs.declared.reply.Reply.TheVariants.{Created, Finished, Passed, Refused, Wait}
use Rattle.gomp_types.specs.declared.task.Owner.{Owner}
use Rattle.gomp_types.specs.declared.task.TaskDesc.{TaskDesc}
use Rattle.gomp_events.specs.declared.event.Arrival.TheVariants as arrivals
use Rattle.gomp_events.specs.Events.{share_number}
use Rattle.gomp_events.specs.Tags.{tag_with}
use Rattle.gomp_board.specs.declared.op.Op.TheVariants.{Arrive, AwaitBarrier, Create, Put}
use Rattle.gomp_icv.specs.Variables.{Variables}
use Rattle.gomp_locks.specs.BookCalls.{BookCall, set_lock, test_lock}
use Rattle.gomp_locks.specs.Locks.{TestsLock}
use Rattle.gomp_member.specs.Own.{OwnView, own_owner}
use Rattle.gomp_ring.specs.RingSeats.{SeatView}
use Rattle.gomp_region.specs.declared.script.Script.{Script}
use Rattle.gomp_program.specs.Programs.{ProgramView, programs_from}
use Rattle.gomp_course.specs.declared.no_tool.NoTool.{NoTool}
use Rattle.gomp_fork.specs.declared.report.RegionFault.{RegionFault}
use Rattle.gomp_runtime.specs.Regions.{ForksRegion}
use Rattle.gomp_seat_calls.specs.Chunks.{NoneIsZero}
use Rattle.gomp_team_board.specs.Locked.{IsAnsweredUnless}
use Rattle.gomp_team_book.specs.Others.{IsAnswered}
use Rattle.gomp_team.specs.Answers.{AnswersBookUnless, TeamAnswers}
use Rattle.gomp_run.specs.Asks.{no_tool, script_program}
use Rattle.gomp_run.specs.Output.{HasFaulted, fault_status, program_count, refusal_line}

-- The board

-- a task that was created the board has created, of this description
pub creation_is_asked : (allowed : Bool) (own : OwnView) (desc : TaskDesc) (seat : SeatView) (task : ℕ) → TeamAnswers allowed false own (TaskCreate desc) seat (Created task)
    → (found : Option Refusal) × IsAnsweredUnless found (Create desc) seat.member (Created task)
creation_is_asked allowed own desc seat task (found, finds, answered) = (found, answered)

-- a member that passes a barrier arrived there, with as many shares as it has entered and the region that it leaves,
pub arrival_is_asked : (allowed : Bool) (own : OwnView) (seat : SeatView) → TeamAnswers allowed false own Barrier seat Passed
    → (found : Option Refusal) × IsAnsweredUnless found (Arrive (tag_with arrivals.Barrier seat.seen.entered) own.leaving.region) seat.member Passed
arrival_is_asked allowed own seat (resumed, (found, finds, answered), starts) = (found, answered)

-- or waited there
pub wait_is_asked : (allowed : Bool) (own : OwnView) (seat : SeatView) → TeamAnswers allowed true own Barrier seat Passed → (found : Option Refusal) × IsAnsweredUnless found AwaitBarrier seat.member Passed
wait_is_asked allowed own seat (resumed, (found, finds, answered), starts) = (found, answered)

-- at the region's end as one that arrives there
pub region_end_is_asked : (allowed : Bool) (own : OwnView) (seat : SeatView) → TeamAnswers allowed false own RegionEnd seat Passed
    → (found : Option Refusal) × IsAnsweredUnless found (Arrive (tag_with arrivals.RegionEnd seat.seen.entered) own.leaving.region) seat.member Passed
region_end_is_asked allowed own seat (resumed, (found, finds, answered), starts) = (found, answered)

-- the words that a member has put are those that it was called with, in the share that it was in
pub words_are_asked : (allowed : Bool) (own : OwnView) (words : List ℕ) (seat : SeatView) → TeamAnswers allowed false own (SingleCopyEnd words) seat Finished
    → (found : Option Refusal) × IsAnsweredUnless found (Put (share_number seat.seen.current) words) seat.member Finished
words_are_asked allowed own words seat (resumed, (found, finds, answered), starts) = (found, answered)

-- The book

unfound_then_asked : (found : Option Refusal) (owner : Owner) (call : BookCall) (reply : Reply) → ((refusal : Refusal) → reply ≡ Refused refusal → ⊥) → AnswersBookUnless found owner call reply → IsAnswered owner call reply
unfound_then_asked (Some refusal) owner call reply unrefused is = absurd (unrefused refusal is)
unfound_then_asked None owner call reply unrefused answered = answered

-- a lock that was set is the one of this number, by the task that the member executes
pub lock_is_asked : (allowed : Bool) (own : OwnView) (number : ℕ) (seat : SeatView) → TeamAnswers allowed false own (Set number) seat Finished → IsAnswered (own_owner own) (set_lock number) Finished
lock_is_asked allowed own number seat (team, of_team, answered) = unfound_then_asked _ (own_owner own) (set_lock number) Finished (λ refusal is. cc) answered

no_test_waits : (lock : Option (Option Held)) → TestsLock lock Wait → ⊥
no_test_waits None tests = tests
no_test_waits (Some held) tests = tests

-- a test of a lock never waits
pub never_waits_at_a_test : (allowed : Bool) (own : OwnView) (number : ℕ) (seat : SeatView) → TeamAnswers allowed false own (Test number) seat Wait → ⊥
never_waits_at_a_test allowed own number seat (team, of_team, answered) = no_test_waits _ (unfound_then_asked _ (own_owner own) (test_lock number) Wait (λ refusal is. cc) answered).1.1

-- Chunks

-- a chunk of no iterations has the value 0
pub none_is_at_zero : (first : ℤ) → NoneIsZero first 0 → first ≡ pos 0
none_is_at_zero first zero = zero refl

-- A script's region

-- a refusal that is printed is that of some fault that the region may leave
pub refusal_was_left : (icv : Variables) (script : Script) (text : List ℕ) (code : ℕ) → HasFaulted icv script text code →
    (tools : List NoTool) × (fault : RegionFault ProgramView NoTool)
    × ForksRegion script_program no_tool (record { icv = icv; regions = 0 }) (programs_from script 0 0 (program_count icv script.team)) tools (Err fault)
    × (text ≡ refusal_line fault.refusal) × (code ≡ fault_status fault.refusal)
refusal_was_left icv script text code faulted = (faulted.tools, faulted.fault, faulted.forked, faulted.text_is, faulted.code_is)
