-- Which calls a team changes before it makes them (`resolved_call`): the start of a loop that leaves its schedule to the control variables, and no other, whatever the call is about.
use Rattle.std.proofs.Common.{◌≡◌, ◌≢◌, ℕ, Bool, true, false, List, [], ◌∷◌, int_eq, refl}
use Rattle.std.specs.Prelude.{ℤ, pos, ◌&&◌, if◌then◌else◌}
use Rattle.gomp_types.specs.declared.call.Call.{Call}
use Rattle.gomp_types.specs.declared.call.Call.TheVariants.{LoopStart}
use Rattle.gomp_types.specs.declared.call.Step.{Step}
use Rattle.gomp_types.specs.declared.loop_desc.LoopDesc.{LoopDesc}
use Rattle.gomp_types.specs.declared.loop_desc.Sched.{Sched}
use Rattle.gomp_types.specs.declared.loop_desc.Sched.TheVariants as sched
use Rattle.gomp_types.specs.declared.reply.Reply.{Reply}
use Rattle.gomp_types.specs.Iterations.{is_runtime}
use Rattle.gomp_types.specs.Pieces.{resolved_loop}
use Rattle.gomp_model.specs.Team.{record_after}
use Rattle.gomp_icv.specs.Variables.{Variables}
use Rattle.gomp_core.specs.Resolved.{step_by, resolved_call, resolved_step, resolved_steps, record_of}

-- The start of a loop

-- the loop with this schedule and chunk
abbrev scheduled : Sched → ℤ → LoopDesc → LoopDesc
scheduled kind chunk loop = record loop { sched = kind; chunk = chunk }

-- a loop keeps its iterations, what is ordered in it, and what stands at its end
abbrev HasRest : LoopDesc → LoopDesc → Type 0
HasRest loop resolved = (resolved.start ≡ loop.start) × (resolved.end ≡ loop.end) × (resolved.incr ≡ loop.incr) × (resolved.ordered ≡ loop.ordered) × (resolved.end_kind ≡ loop.end_kind)

rest_either_way : (test : Bool) (kind : Sched) (chunk : ℤ) (loop : LoopDesc) → HasRest loop (if test then scheduled kind chunk loop else loop)
rest_either_way true kind chunk loop = (refl, refl, refl, refl, refl)
rest_either_way false kind chunk loop = (refl, refl, refl, refl, refl)

-- the start of a loop stays one, of a loop that has all but the schedule and the chunk
pub loop_start_keeps_its_loop : (icv : Variables) (loop : LoopDesc) → (resolved : LoopDesc) × (resolved_call icv (LoopStart loop) ≡ LoopStart resolved) × HasRest loop resolved
loop_start_keeps_its_loop icv loop = (resolved_loop icv.sched icv.chunk loop, refl, rest_either_way (is_runtime loop.sched && int_eq loop.chunk (pos 0)) icv.sched icv.chunk loop)

-- a runtime loop without a chunk has the schedule and the chunk of the control variables
pub runtime_loop_has_the_schedule_of_the_variables : (icv : Variables) (loop : LoopDesc) → resolved_call icv (LoopStart (scheduled sched.Runtime (pos 0) loop)) ≡ LoopStart (scheduled icv.sched icv.chunk loop)
runtime_loop_has_the_schedule_of_the_variables icv loop = refl

-- one with a chunk stays as it is
pub runtime_loop_with_a_chunk_stays : (icv : Variables) (loop : LoopDesc) → int_eq loop.chunk (pos 0) ≡ false → resolved_call icv (LoopStart (scheduled sched.Runtime loop.chunk loop)) ≡ LoopStart (scheduled sched.Runtime loop.chunk loop)
runtime_loop_with_a_chunk_stays icv loop some = rw some refl

-- and so does a loop with a schedule of its own, whatever its chunk is
pub loop_with_a_schedule_stays : (icv : Variables) (chunk : ℤ) (loop : LoopDesc) →
    (resolved_call icv (LoopStart (scheduled sched.Static chunk loop)) ≡ LoopStart (scheduled sched.Static chunk loop))
    × (resolved_call icv (LoopStart (scheduled sched.Dynamic chunk loop)) ≡ LoopStart (scheduled sched.Dynamic chunk loop))
    × (resolved_call icv (LoopStart (scheduled sched.Guided chunk loop)) ≡ LoopStart (scheduled sched.Guided chunk loop))
loop_with_a_schedule_stays icv chunk loop = (refl, refl, refl)

-- The other calls

-- a call that begins no loop stays as it is, whichever it is
pub other_call_stays : (icv : Variables) (made : Call) → ((loop : LoopDesc) → made ≢ LoopStart loop) → resolved_call icv made ≡ made
other_call_stays icv (LoopStart loop) other = absurd (other loop refl)
other_call_stays icv _ other = refl

-- Steps

-- a step is that of this member with this call
pub step_has_its_member_and_call : (member : ℕ) (made : Call) → ((step_by member made).member ≡ member) × ((step_by member made).call ≡ made)
step_has_its_member_and_call member made = (refl, refl)

-- its member stays, and its call is changed so
pub resolved_step_keeps_its_member : (icv : Variables) (step : Step) → ((resolved_step icv step).member ≡ step.member) × ((resolved_step icv step).call ≡ resolved_call icv step.call)
resolved_step_keeps_its_member icv step = (refl, refl)

-- each step of a list is changed so, in its place
pub each_step_is_resolved : (icv : Variables) (step : Step) (steps : List Step) → (resolved_steps icv [] ≡ []) × (resolved_steps icv (step ∷ steps) ≡ resolved_step icv step ∷ resolved_steps icv steps)
each_step_is_resolved icv step steps = (refl, refl)

-- a record begins empty, and has these steps with their replies
pub record_is_of_the_resolved_steps : (icv : Variables) (steps : List Step) (replies : List Reply) → record_of icv steps replies ≡ record_after (resolved_steps icv steps) replies []
record_is_of_the_resolved_steps icv steps replies = refl
