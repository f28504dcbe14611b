-- What a member's knowledge never says, of any members, calls, replies and pasts.
use Rattle.std.proofs.Common.{◌≡◌, ◌≢◌, ◌<◌, ◌+◌, ℕ, Bool, true, false, List, [], ◌∷◌, Some, None, refl, sym, arith, ◌∙◌}
use Rattle.std.specs.Prelude.{◌-◌, ◌||◌, is_none, is_some}
use Rattle.gomp_types.specs.declared.call.Call.{Call}
use Rattle.gomp_types.specs.declared.call.Call.TheVariants.{CriticalEnd, CriticalStart, RegionEnd, Resume, Stop}
use Rattle.gomp_types.specs.declared.cancel.CancelKind.TheVariants.{Loop, Sections, Parallel, Taskgroup}
use Rattle.gomp_types.specs.declared.critical_name.CriticalName.{CriticalName}
use Rattle.gomp_types.specs.declared.refusal.Refusal.{Refusal}
use Rattle.gomp_types.specs.declared.refusal.Refusal.TheVariants.{Ended, Waiting, NotInside}
use Rattle.gomp_types.specs.declared.reply.Reply.{Reply}
use Rattle.gomp_types.specs.declared.reply.Reply.TheVariants.{Finished, Passed, Wait, Cancelling, Run, TaskDone, Refused}
use Rattle.gomp_types.specs.declared.task.Task.TheVariants.{Implicit, Explicit}
use Rattle.gomp_types.specs.Least.{least}
use Rattle.gomp_events.specs.Events.{has_left_region}
use Rattle.gomp_events.specs.Seen.{seen_of}
use Rattle.gomp_events.specs.Tasks.{executed_task}
use Rattle.gomp_events.specs.Cancels.{leaves_region, leaves_task, leaves_share}
use Rattle.gomp_model.specs.Past.{Past}
use Rattle.gomp_model.specs.Row.{Row}
use Rattle.gomp_model.specs.Calls.{row_of}
use Rattle.gomp_dispatch.specs.Leaves.{named_by}
use Rattle.gomp_member.specs.Own.{OwnView, own_task, own_owner, own_meant, passes_end, names_after, names_share, leaves_share_after, own_after}
use Rattle.gomp_member.specs.Rooms.{StartsTask}
use Rattle.gomp_member.specs.Tests.{KnowsPast, LetsEnd, own_tests}
use Rattle.gomp_member.proofs.OwnTests.{ended_answers, waiting_answers, resume_answers, stop_answers}

-- A refusal

-- it moves no wait, no task, nothing that the member leaves,
pub waits_never_moved_by_a_refusal : (refusal : Refusal) (call : Call) (own : OwnView) → (own_after (Refused refusal) call own).waits ≢ own.waits → ⊥
waits_never_moved_by_a_refusal refusal call own differs = differs refl

pub tasks_never_moved_by_a_refusal : (refusal : Refusal) (call : Call) (own : OwnView) → (own_after (Refused refusal) call own).tasks ≢ own.tasks → ⊥
tasks_never_moved_by_a_refusal refusal call own differs = differs refl

pub leaving_never_moved_by_a_refusal : (refusal : Refusal) (call : Call) (own : OwnView) → (own_after (Refused refusal) call own).leaving ≢ own.leaving → ⊥
leaving_never_moved_by_a_refusal refusal call own differs = differs refl

pub share_never_left_by_a_refusal : (refusal : Refusal) (call : Call) (own : OwnView) → (own_after (Refused refusal) call own).leaves_share ≢ own.leaves_share → ⊥
share_never_left_by_a_refusal refusal call own differs = differs refl

-- and ends nothing
refused_call_passes_no_end : (refusal : Refusal) (call : Call) → passes_end call (Refused refusal) ≡ false
refused_call_passes_no_end refusal RegionEnd = refl
refused_call_passes_no_end refusal _ = refl

pub region_never_ended_by_a_refusal : (refusal : Refusal) (call : Call) (own : OwnView) → own.ended ≡ false → (own_after (Refused refusal) call own).ended ≡ true → ⊥
region_never_ended_by_a_refusal refusal call own inside ended =
    let none : (own.ended || passes_end (own_meant own call) (Refused refusal)) ≡ false = rw inside (refused_call_passes_no_end refusal (own_meant own call)) in
    let both : false ≡ true = sym none ∙ ended in cc

-- its numbers never change
pub number_never_moved : (reply : Reply) (call : Call) (own : OwnView) → (own_after reply call own).number ≢ own.number → ⊥
number_never_moved reply call own differs = differs refl

pub team_never_moved : (reply : Reply) (call : Call) (own : OwnView) → (own_after reply call own).team ≢ own.team → ⊥
team_never_moved reply call own differs = differs refl

-- Waits

-- who is told to wait waits,
pub wait_never_closes : (call : Call) (own : OwnView) → (own_after Wait call own).waits.open_call ≡ None → ⊥
wait_never_closes call own shut = cc

-- for the call that it repeats, if it repeats one,
pub resume_never_waits_for_itself : (call : Call) (own : OwnView) → own.waits.open_call ≡ Some call → (own_after Wait Resume own).waits.open_call ≢ Some call → ⊥
resume_never_waits_for_itself call own is differs = differs (rw is refl)

-- above the same calls
pub wait_never_moves_the_calls_beneath : (call : Call) (own : OwnView) → (own_after Wait call own).waits.beneath ≢ own.waits.beneath → ⊥
wait_never_moves_the_calls_beneath call own differs = differs refl

-- a whole answer closes the wait
pub pass_never_leaves_a_wait_open : (call : Call) (own : OwnView) → (own_after Passed call own).waits.open_call ≢ None → ⊥
pass_never_leaves_a_wait_open call own some = some refl

pub pass_never_moves_the_calls_beneath : (call : Call) (own : OwnView) → (own_after Passed call own).waits.beneath ≢ own.waits.beneath → ⊥
pass_never_moves_the_calls_beneath call own differs = differs refl

-- while a task is run no call waits
pub starter_never_waits : (task code arg : ℕ) (undeferred : Bool) (call : Call) (own : OwnView) → (own_after (Run task code arg undeferred) call own).waits.open_call ≢ None → ⊥
starter_never_waits task code arg true call own some = some refl
starter_never_waits task code arg false call own some = some refl

-- that at which it was started is beneath it, unless it is the creation's own
pub repeated_call_never_forgotten : (task code arg : ℕ) (call : Call) (own : OwnView) → own.waits.open_call ≡ Some call → (own_after (Run task code arg false) Resume own).waits.beneath ≢ call ∷ own.waits.beneath → ⊥
repeated_call_never_forgotten task code arg call own is differs = differs (rw is refl)

pub creation_never_waits_again : (task code arg : ℕ) (call : Call) (own : OwnView) → (own_after (Run task code arg true) call own).waits.beneath ≢ own.waits.beneath → ⊥
creation_never_waits_again task code arg call own differs = differs refl

-- and waits again once it has ended, if the answer says so
pub call_beneath_never_lost : (task : ℕ) (call beneath : Call) (calls : List Call) (own : OwnView) → own.waits.beneath ≡ beneath ∷ calls → (own_after (TaskDone task true) call own).waits.open_call ≢ Some beneath → ⊥
call_beneath_never_lost task call beneath calls own is differs = differs (rw is refl)

pub call_never_waits_unasked : (task : ℕ) (call : Call) (own : OwnView) → (own_after (TaskDone task false) call own).waits.open_call ≢ None → ⊥
call_never_waits_unasked task call own some = some refl

-- Tasks

-- a task that is started is the one that the member executes,
pub started_task_never_another : (task code arg : ℕ) (undeferred : Bool) (call : Call) (own : OwnView) → own_task (own_after (Run task code arg undeferred) call own) ≢ Explicit task → ⊥
started_task_never_another task code arg undeferred call own differs = differs refl

-- above the others
pub tasks_below_never_lost : (task code arg : ℕ) (undeferred : Bool) (call : Call) (own : OwnView) → (own_after (Run task code arg undeferred) call own).tasks ≢ task ∷ own.tasks → ⊥
tasks_below_never_lost task code arg undeferred call own differs = differs refl

-- and one that is done is left, for that below it
pub done_task_never_stays : (task done : ℕ) (waiting : Bool) (call : Call) (tasks : List ℕ) (own : OwnView) → own.tasks ≡ task ∷ tasks → (own_after (TaskDone done waiting) call own).tasks ≢ tasks → ⊥
done_task_never_stays task done waiting call tasks own is differs = differs (rw is refl)

pub wait_never_moves_the_tasks : (call : Call) (own : OwnView) → (own_after Wait call own).tasks ≢ own.tasks → ⊥
wait_never_moves_the_tasks call own differs = differs refl

-- only a start asks for room
pub room_never_asked_without_a_start : (reply : Reply) → StartsTask reply → ((task code arg : ℕ) (undeferred : Bool) → reply ≢ Run task code arg undeferred) → ⊥
room_never_asked_without_a_start (Run task code arg undeferred) starts other = other task code arg undeferred refl
room_never_asked_without_a_start _ starts other = starts

pub room_always_asked_by_a_start : (task code arg : ℕ) (undeferred : Bool) → (StartsTask (Run task code arg undeferred) → ⊥) → ⊥
room_always_asked_by_a_start task code arg undeferred none = none tt

-- The region's end

-- a member that has ended never comes back
pub ended_member_never_comes_back : (reply : Reply) (call : Call) (own : OwnView) → own.ended ≡ true → (own_after reply call own).ended ≡ false → ⊥
ended_member_never_comes_back reply call own ended back =
    let still : (own.ended || passes_end (own_meant own call) reply) ≡ true = rw ended refl in
    let both : true ≡ false = sym still ∙ back in cc

-- no call ends the region but its end
other_call_passes_no_end : (call : Call) (reply : Reply) → call ≢ RegionEnd → passes_end call reply ≡ false
other_call_passes_no_end RegionEnd reply other = absurd (other refl)
other_call_passes_no_end _ reply other = refl

pub region_never_ended_by_another_call : (reply : Reply) (call : Call) (own : OwnView) → own.ended ≡ false → own_meant own call ≢ RegionEnd → (own_after reply call own).ended ≡ true → ⊥
region_never_ended_by_another_call reply call own inside other ended =
    let none : (own.ended || passes_end (own_meant own call) reply) ≡ false = rw inside (other_call_passes_no_end (own_meant own call) reply other) in
    let both : false ≡ true = sym none ∙ ended in cc

-- nor by another answer than that it is passed
unpassed_end_is_none : (reply : Reply) → reply ≢ Passed → passes_end RegionEnd reply ≡ false
unpassed_end_is_none Passed other = absurd (other refl)
unpassed_end_is_none _ other = refl

pub region_never_ended_unpassed : (reply : Reply) → reply ≢ Passed → passes_end RegionEnd reply ≡ true → ⊥
region_never_ended_unpassed reply other passes = let both : false ≡ true = sym (unpassed_end_is_none reply other) ∙ passes in cc

pub passed_end_never_forgotten : passes_end RegionEnd Passed ≡ false → ⊥
passed_end_never_forgotten none = cc

-- Shares

-- a call that names no loop and no sections has the member leave none
unnamed_share_is_kept : (reply : Reply) (call : Call) → names_share (named_by call) ≡ false → leaves_share_after reply call false ≡ false
unnamed_share_is_kept (Cancelling true) call unnamed = rw unnamed refl
unnamed_share_is_kept (Cancelling false) call unnamed = refl
unnamed_share_is_kept _ call unnamed = refl

pub share_never_left_unnamed : (reply : Reply) (call : Call) (own : OwnView) → own.leaves_share ≡ false → names_share (named_by (own_meant own call)) ≡ false → (own_after reply call own).leaves_share ≡ true → ⊥
share_never_left_unnamed reply call own stays unnamed leaves =
    let none : leaves_share_after reply (own_meant own call) own.leaves_share ≡ false = rw stays (unnamed_share_is_kept reply (own_meant own call) unnamed) in
    let both : false ≡ true = sym none ∙ leaves in cc

-- nor does one that finds nothing cancelled
pub share_never_left_uncancelled : (call : Call) → leaves_share_after (Cancelling false) call false ≡ true → ⊥
share_never_left_uncancelled call leaves = cc

-- one that names some, and finds it cancelled, always does
pub cancelled_share_never_kept : (call : Call) → names_share (named_by call) ≡ true → leaves_share_after (Cancelling true) call false ≢ true → ⊥
cancelled_share_never_kept call named stays = stays (rw named refl)

-- a share is left by its end, and by no other call
pub ended_share_never_left_again : (call : Call) (leaves : Bool) → (row_of call).drains ≡ true → leaves_share_after Passed call leaves ≡ true → ⊥
ended_share_never_left_again call true drains still = let none : leaves_share_after Passed call true ≡ false = rw drains refl in let both : false ≡ true = sym none ∙ still in cc
ended_share_never_left_again call false drains still = cc

pub share_never_given_up_otherwise : (call : Call) → (row_of call).drains ≡ false → leaves_share_after Passed call true ≢ true → ⊥
share_never_given_up_otherwise call drains gone = gone (rw drains refl)

-- a region or a group is no share, and no construct names none
pub region_never_a_share : names_share (Some Parallel) ≡ true → ⊥
region_never_a_share named = cc

pub group_never_a_share : names_share (Some Taskgroup) ≡ true → ⊥
group_never_a_share named = cc

pub nothing_never_a_share : names_share None ≡ true → ⊥
nothing_never_a_share named = cc

pub loop_always_a_share : names_share (Some Loop) ≡ false → ⊥
loop_always_a_share unnamed = cc

pub sections_always_a_share : names_share (Some Sections) ≡ false → ⊥
sections_always_a_share unnamed = cc

-- The owner

pub implicit_task_never_numbered : (own : OwnView) → own.tasks ≡ [] → (own_owner own).task ≢ 0 → ⊥
implicit_task_never_numbered own none differs = differs (rw none refl)

pub explicit_task_never_another : (task : ℕ) (tasks : List ℕ) (own : OwnView) → own.tasks ≡ task ∷ tasks → (own_owner own).task ≢ task → ⊥
explicit_task_never_another task tasks own is differs = differs (rw is refl)

pub owner_never_another_member : (own : OwnView) → (own_owner own).member ≢ own.number → ⊥
owner_never_another_member own differs = differs refl

pub owner_never_of_another_team : (own : OwnView) → (own_owner own).team ≢ own.team → ⊥
owner_never_of_another_team own differs = differs refl

pub idle_member_never_in_another_task : (own : OwnView) → own.tasks ≡ [] → own_task own ≢ Implicit own.number → ⊥
idle_member_never_in_another_task own none differs = differs (rw none refl)

-- Tests

-- a member that has ended is refused so, whatever it calls
pub ended_member_never_let_in : (call : Call) (own : OwnView) (p : Past) → KnowsPast own p → own.ended ≡ true → least (own_tests own call p) ≢ Some Ended → ⊥
ended_member_never_let_in call own p knows ended differs = differs (ended_answers call own p (knows.ended ∙ ended))

-- one that waits is, if it neither resumes nor stops
pub waiting_member_never_calls : (call : Call) (own : OwnView) (p : Past) → KnowsPast own p → own.ended ≡ false → call ≢ Resume → call ≢ Stop → is_some own.waits.open_call ≡ true → least (own_tests own call p) ≢ Some Waiting → ⊥
waiting_member_never_calls call own p knows inside resumes stops waits differs =
    differs (waiting_answers call resumes stops own p (knows.ended ∙ inside) (rw knows.waits waits))

-- a stop is refused only after the end
pub stop_never_refused_inside : (own : OwnView) (p : Past) → KnowsPast own p → own.ended ≡ false → least (own_tests own Stop p) ≢ None → ⊥
stop_never_refused_inside own p knows inside differs = differs (stop_answers own p (knows.ended ∙ inside))

-- a resume goes on if a call waits
pub resume_of_a_wait_never_refused : (own : OwnView) (p : Past) → KnowsPast own p → own.ended ≡ false → is_none own.waits.open_call ≡ false → least (own_tests own Resume p) ≢ None → ⊥
resume_of_a_wait_never_refused own p knows inside waits differs = differs (resume_answers own p (knows.ended ∙ inside) ∙ rw (knows.waits, waits) refl)

-- and is refused if none does
pub resume_of_nothing_never_let_in : (own : OwnView) (p : Past) → KnowsPast own p → own.ended ≡ false → is_none own.waits.open_call ≡ true → least (own_tests own Resume p) ≢ Some NotInside → ⊥
resume_of_nothing_never_let_in own p knows inside nothing differs = differs (resume_answers own p (knows.ended ∙ inside) ∙ rw (knows.waits, nothing) refl)

-- What is known of the past

pub end_never_misknown : (own : OwnView) (p : Past) → KnowsPast own p → has_left_region own.number p.events ≢ own.ended → ⊥
end_never_misknown own p knows differs = differs knows.ended

pub waits_never_misknown : (own : OwnView) (p : Past) → KnowsPast own p → p.waits own.number ≢ own.waits → ⊥
waits_never_misknown own p knows differs = differs knows.waits

pub task_never_misknown : (own : OwnView) (p : Past) → KnowsPast own p → executed_task own.number p.events ≢ own_task own → ⊥
task_never_misknown own p knows differs = differs knows.task

pub left_region_never_misknown : (own : OwnView) (p : Past) → KnowsPast own p → leaves_region own.number p.events ≢ own.leaving.region → ⊥
left_region_never_misknown own p knows differs = differs knows.leaving.region

pub left_task_never_misknown : (own : OwnView) (p : Past) → KnowsPast own p → leaves_task own.number p.events ≢ own.leaving.task → ⊥
left_task_never_misknown own p knows differs = differs knows.leaving.task

pub left_share_never_misknown : (own : OwnView) (p : Past) → KnowsPast own p → leaves_share own.number p.events ≢ own.leaves_share → ⊥
left_share_never_misknown own p knows differs = differs knows.share

-- the tests of its place never let a member end its share by a call that they refuse, nor refuse one that they let
pub place_never_misjudged : (placed : Bool) (own : OwnView) (row : Row) (p : Past) → LetsEnd placed own row p → own.leaves_share ≡ true → row.drains ≡ true → placed ≢ is_none (least (row.by_place p.terms.limits (seen_of own.number p.events))) → ⊥
place_never_misjudged placed own row p lets leaves drains differs = differs (lets leaves drains)

-- Names

-- no name is counted but by a call that enters one, and is answered that it has,
pub names_never_grow_by_another_call : (reply : Reply) (call : Call) (names : ℕ) → ((name : CriticalName) → call ≡ CriticalStart name → ⊥) → names < names_after reply call names → ⊥
names_never_grow_by_another_call Finished (CriticalStart name) names other more = other name refl
names_never_grow_by_another_call Finished (CriticalEnd name) names other more = omega (arith, more)
names_never_grow_by_another_call Finished call names other more = omega (arith, more)
names_never_grow_by_another_call reply call names other more = omega (arith, more)

pub names_never_grow_by_a_wait : (call : Call) (own : OwnView) → (own_after Wait call own).names ≢ own.names → ⊥
names_never_grow_by_a_wait call own differs = differs refl

-- which counts one,
pub entered_name_never_uncounted : (name : CriticalName) (call : Call) (own : OwnView) → own_meant own call ≡ CriticalStart name → own.names < 18446744073709551615 → (own_after Finished call own).names ≢ own.names + 1 → ⊥
entered_name_never_uncounted name call own is few differs = differs (rw is (omega (arith, few)))

-- and one that is left is counted no more
pub left_name_never_counted : (name : CriticalName) (call : Call) (own : OwnView) → own_meant own call ≡ CriticalEnd name → (own_after Finished call own).names ≢ own.names - 1 → ⊥
left_name_never_counted name call own is differs = differs (rw is refl)
