-- What a team's definitions say of its size, its schedules, its words, its calls and its waits: for each what it alone tells or refuses.
use Rattle.std.proofs.Common.{◌≡◌, ℕ, true, false, List, [], ◌∷◌, Option, Some, None, refl, arith}
use Rattle.std.specs.Prelude.{pos}
use Rattle.gomp_types.specs.declared.call.Call.{Call}
use Rattle.gomp_types.specs.declared.call.Call.TheVariants.{LoopStart, LoopNext, LoopEndNowait, Barrier, LockInit, NestInit, LockDestroy, TaskCreate, TaskEnd, Taskwait, Resume, Stop}
use Rattle.gomp_types.specs.declared.depend.Dep.{Dep}
use Rattle.gomp_types.specs.declared.depend.DepKind.TheVariants.{DepIn}
use Rattle.gomp_types.specs.declared.task.TaskDesc.{TaskDesc}
use Rattle.gomp_types.specs.declared.lock.LockKind.TheVariants.{Simple, Nest}
use Rattle.gomp_types.specs.declared.loop_desc.EndKind.TheVariants.{Wait as WaitEnd}
use Rattle.gomp_types.specs.declared.loop_desc.LoopDesc.{LoopDesc}
use Rattle.gomp_types.specs.declared.loop_desc.Sched.{Sched}
use Rattle.gomp_types.specs.declared.loop_desc.Sched.TheVariants.{Guided, Runtime}
use Rattle.gomp_types.specs.declared.reply.Reply.TheVariants.{Passed, Finished, Wait, Run, TaskDone, Lock as LockMade, Stopped, Refused}
use Rattle.gomp_types.specs.declared.refusal.Refusal.TheVariants.{InsideShare}
use Rattle.gomp_types.specs.Limits.{IsTeamSize}
use Rattle.gomp_model.specs.Past.{Waits, no_waits}
use Rattle.gomp_model.specs.Team.{waits_after}
use Rattle.gomp_icv.specs.Variables.{Variables, initial}
use Rattle.gomp_core.specs.Stands.{standard_terms}
use Rattle.gomp_core.specs.Resolved.{step_by, record_of}
use Rattle.gomp_core.specs.LocksMade.{lock_kinds_of, locks_made}

-- a team has 1 to 64 members
pub team_sizes : IsTeamSize 1 × IsTeamSize 64 × (IsTeamSize 0 → ⊥) × (IsTeamSize 65 → ⊥)
team_sizes = ((omega arith, omega arith), (omega arith, omega arith), λ is. absurd (let some = is.0 in omega arith), λ is. absurd (let most = is.1 in omega arith))

-- a loop of this schedule and chunk
abbrev loop_by : Sched → ℕ → LoopDesc
loop_by sched chunk = record { start = pos 0; end = pos 9; incr = pos 1; sched = sched; chunk = pos chunk; ordered = false; end_kind = WaitEnd }

-- a task without a clause, and one that waits for what was written and is undeferred
abbrev plain_task : TaskDesc
plain_task = record { code = 1; arg = 2; undeferred = false; final_task = false; deps = [] }

abbrev written_before : Dep
written_before = record { kind = DepIn; addr = 7 }

abbrev undeferred_task : TaskDesc
undeferred_task = record plain_task { undeferred = true; deps = written_before ∷ [] }

-- the locks of an older team are made in their order, and those that are gone are destroyed at once
pub locks_in_order :
    locks_made (lock_kinds_of (Some (record { kind = Simple; held = None }) ∷ None ∷ Some (record { kind = Nest; held = None }) ∷ []))
    ≡ (step_by 0 NestInit, LockMade 2) ∷ (step_by 0 (LockDestroy 1), Finished) ∷ (step_by 0 LockInit, LockMade 1) ∷ (step_by 0 LockInit, LockMade 0) ∷ []
locks_in_order = refl

-- control variables with a schedule in chunks of four
abbrev by_four : Variables
by_four = record initial { sched = Guided; chunk = pos 4; cancellation = true }

-- the record has a runtime loop with the schedule of the control variables, and other calls as they are
pub record_is_resolved :
    record_of by_four (record { member = 1; call = LoopStart (loop_by Runtime 0) } ∷ record { member = 0; call = Stop } ∷ []) (Wait ∷ Stopped ∷ [])
    ≡ (record { member = 0; call = Stop }, Stopped) ∷ (record { member = 1; call = LoopStart (loop_by Guided 4) }, Wait) ∷ []
record_is_resolved = refl

-- a team is made with its size, the standard limits, and cancellation by its variable
pub terms_of_three : standard_terms 3 by_four ≡ record { members = 3; limits = record { shares = 131064; tasks = 1048576; events = 16777216 }; cancellation = true }
terms_of_three = refl

-- the calls of a member: one that waits, and those beneath
abbrev waits_of : Option Call → List Call → Waits
waits_of waiting calls = record { open_call = waiting; beneath = calls }

-- a wait is kept if the reply is to wait or a refusal; a task is run above the call, which waits again when the task has ended; every other reply closes the wait
pub waits_that_are_kept :
    (waits_after Wait Barrier no_waits ≡ waits_of (Some Barrier) []) × (waits_after Wait Resume (waits_of (Some Barrier) []) ≡ waits_of (Some Barrier) []) × (waits_after (Refused InsideShare) LoopNext (waits_of (Some Barrier) []) ≡ waits_of (Some Barrier) [])
    × (waits_after (Run 1 7 9 false) Resume (waits_of (Some Barrier) []) ≡ waits_of None (Barrier ∷ [])) × (waits_after (Run 2 7 9 false) (Taskwait []) (waits_of None (Barrier ∷ [])) ≡ waits_of None (Taskwait [] ∷ Barrier ∷ []))
    × (waits_after (TaskDone 2 true) TaskEnd (waits_of None (Taskwait [] ∷ Barrier ∷ [])) ≡ waits_of (Some (Taskwait [])) (Barrier ∷ []))
    × (waits_after Passed Resume (waits_of (Some (Taskwait [])) (Barrier ∷ [])) ≡ waits_of None (Barrier ∷ [])) × (waits_after Finished LoopEndNowait no_waits ≡ no_waits)
waits_that_are_kept = (refl, refl, refl, refl, refl, refl, refl, refl)

-- an undeferred task closes the creation that starts it, at once or at a resume, and no call waits again when it has ended
pub waits_of_an_undeferred_task :
    (waits_after (Run 2 7 9 true) (TaskCreate undeferred_task) (waits_of None (Barrier ∷ [])) ≡ waits_of None (Barrier ∷ []))
    × (waits_after (Run 2 7 9 true) Resume (waits_of (Some (TaskCreate undeferred_task)) (Barrier ∷ [])) ≡ waits_of None (Barrier ∷ []))
    × (waits_after (TaskDone 2 false) TaskEnd (waits_of None (Barrier ∷ [])) ≡ waits_of None (Barrier ∷ []))
waits_of_an_undeferred_task = (refl, refl, refl)

-- while it may not begin its creation waits, and another task is run above that
pub wait_of_a_held_task :
    (waits_after Wait (TaskCreate undeferred_task) no_waits ≡ waits_of (Some (TaskCreate undeferred_task)) [])
    × (waits_after (Run 1 7 9 false) (TaskCreate undeferred_task) no_waits ≡ waits_of None (TaskCreate undeferred_task ∷ []))
    × (waits_after (TaskDone 1 true) TaskEnd (waits_of None (TaskCreate undeferred_task ∷ [])) ≡ waits_of (Some (TaskCreate undeferred_task)) [])
wait_of_a_held_task = (refl, refl, refl)
