-- The program of a member, as contracts see it. (own)
use Rattle.std.proofs.Common.{zero, suc}
use Rattle.std.specs.Prelude.{ℕ, ℤ, pos, ◌≡◌, ◌+◌, Bool, true, false, ◌⊎◌, List, [], ◌∷◌, map, Option, Some, None}
use Rattle.gomp_types.specs.declared.call.Call.{Call}
use Rattle.gomp_types.specs.declared.call.Call.TheVariants.{Resume, Stop}
use Rattle.gomp_types.specs.declared.refusal.Refusal.TheVariants.{Broken}
use Rattle.gomp_types.specs.declared.reply.Reply.{Reply}
use Rattle.gomp_types.specs.declared.reply.Reply.TheVariants.{Passed, Stopped, Refused}
use Rattle.gomp_region.specs.declared.script.Script.{Script}
use Rattle.gomp_program.specs.declared.acts.ScriptAct.{ScriptAct}
use Rattle.gomp_program.specs.declared.acts.ScriptAct.TheVariants.{Do}
use Rattle.gomp_program.specs.declared.frame.Frame.{Frame}
use Rattle.gomp_program.specs.declared.frame.Iteration.{Iteration}
use Rattle.gomp_program.specs.declared.frame.Stage.{Stage}
use Rattle.gomp_program.specs.declared.frame.Stage.TheVariants.{Unasked, EndingRegion}
use Rattle.gomp_program.specs.declared.replies.Sequel.{Sequel}
use Rattle.gomp_program.specs.declared.replies.Sequel.TheVariants.{SameCall}
use Rattle.gomp_program.specs.Answers.{is_answer}
use Rattle.gomp_program.specs.Calls.{act_at}
use Rattle.gomp_program.specs.Moves.{Lead, lead_of}
use Rattle.gomp_program.specs.Places.{Place, statement_at}
use Rattle.gomp_program.specs.Waits.{wait_sequel, waiting_at}

-- a member, the script that it runs and how far it has come
pub record ProgramView : Type 0 where
  pub script : Script
  pub member : ℕ
  pub line : ℕ
  pub stage : Stage
  pub iteration : Iteration
  pub frames : List Frame
  pub total : ℤ
  pub owes : Bool

-- the program of a member that begins at this line of a script
abbrev pub program_from : Script → ℕ → ℕ → ProgramView
program_from script line member = record { script = script; member = member; line = line; stage = Unasked; iteration = record { value = pos 0; left = 0 }; frames = []; total = pos 0; owes = false }

-- the programs of a team, by the members' numbers, from this one on
abbrev pub programs_from : Script → ℕ → ℕ → ℕ → List ProgramView
programs_from script line member zero = []
programs_from script line member (suc count) = program_from script line member ∷ programs_from script line (member + 1) count

-- what a member does at the call at which it stands
abbrev pub act_of : ProgramView → ScriptAct
act_of program = act_at program.script program.line program.iteration.value program.stage

-- where it stands
abbrev pub place_of : ProgramView → Place
place_of program = record { line = program.line; stage = program.stage; iteration = program.iteration; frames = program.frames }

-- where a reply leads it
abbrev pub lead_behind : Reply → ProgramView → Lead
lead_behind reply program = lead_of program.script (place_of program) reply

-- the call behind a reply that leaves the member where it stands
abbrev pub call_behind : Sequel → Call
call_behind SameCall = Resume
call_behind _ = Stop

-- the call behind a reply to wait
abbrev pub call_at_wait : ProgramView → Call
call_at_wait program = call_behind (wait_sequel (waiting_at program.stage (statement_at program.script program.line)))

-- a call that is made wherever the member stands: a resume or a stop
abbrev pub IsOtherCall : Option Call → Type 0
IsOtherCall (Some call) = (call ≡ Resume) ⊎ (call ≡ Stop)
IsOtherCall None = Unit {0}

-- whether this is a reply to the call at which a member stands, behind which it goes on
abbrev pub answers : Reply → ProgramView → Bool
answers reply program = is_answer program.stage (statement_at program.script program.line) reply

-- an act is that of the place where the member now stands, a resume, or a stop
abbrev pub IsAct : ScriptAct → ProgramView → Type 0
IsAct act program = (act ≡ act_of program) ⊎ (act ≡ Do Resume) ⊎ (act ≡ Do Stop)

-- whether a reply is the last: the region's end is passed, or the team is stopped or broken
abbrev pub is_passed_region : Stage → Bool
is_passed_region EndingRegion = true
is_passed_region _ = false

abbrev pub is_last_reply : Stage → Reply → Bool
is_last_reply stage Passed = is_passed_region stage
is_last_reply stage Stopped = true
is_last_reply stage (Refused (Broken clash)) = true
is_last_reply stage _ = false

-- the totals of these members
abbrev pub totals_of : List ProgramView → List ℤ
totals_of programs = map (λ (program : ProgramView). program.total) programs
