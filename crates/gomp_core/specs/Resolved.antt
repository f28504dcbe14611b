-- Runtime schedules: a team takes the kind and the chunk of such a loop from its control variables. OpenMP API 5.2, section 11.5.3.
use Rattle.std.specs.Prelude.{ℕ, List, [], map}
use Rattle.gomp_types.specs.declared.call.Call.{Call}
use Rattle.gomp_types.specs.declared.call.Call.TheVariants.{LoopStart}
use Rattle.gomp_types.specs.declared.call.Step.{Step}
use Rattle.gomp_types.specs.declared.reply.Reply.{Reply}
use Rattle.gomp_types.specs.Pieces.{resolved_loop}
use Rattle.gomp_model.specs.Team.{Record, record_after}
use Rattle.gomp_icv.specs.Variables.{Variables}

-- the step in which a member makes a call
abbrev pub step_by : ℕ → Call → Step
step_by m call = record { member = m; call = call }

-- the call with the schedule that counts, if it is the start of a loop
abbrev pub resolved_call : Variables → Call → Call
resolved_call icv (LoopStart loop) = LoopStart (resolved_loop icv.sched icv.chunk loop)
resolved_call icv call = call

-- a step, and steps, with such calls
abbrev pub resolved_step : Variables → Step → Step
resolved_step icv step = record { member = step.member; call = resolved_call icv step.call }

abbrev pub resolved_steps : Variables → List Step → List Step
resolved_steps icv steps = map (resolved_step icv) steps

-- the record of these steps, each with the schedule that counts, and of their replies
abbrev pub record_of : Variables → List Step → List Reply → Record
record_of icv steps replies = record_after (resolved_steps icv steps) replies []
