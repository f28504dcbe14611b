-- What the program of a script's member asks of the runtime. (own)
use Rattle.std.specs.Prelude.{ℕ, ◌≡◌, ◌+◌, true, List, length, Option, Some, None, Result, Ok, Err}
use Rattle.std.specs.declared.alloc.AllocError.{AllocError}
use Rattle.gomp_types.specs.declared.reply.Reply.{Reply}
use Rattle.gomp_types.specs.Limits.{shown_number}
use Rattle.gomp_program.specs.declared.acts.ScriptAct.{ScriptAct}
use Rattle.gomp_program.specs.declared.acts.ScriptAct.TheVariants as script
use Rattle.gomp_program.specs.Programs.{ProgramView, programs_from, totals_of}
use Rattle.gomp_program.specs.Totals.{joined_total}
use Rattle.gomp_program.specs.Next.{ActsThere, AddsCopied, GoesOnBehind, LacksMemory, MakesOwed, StandsBehind, StopsRefused, WaitsAgain}
use Rattle.gomp_course.specs.declared.program.Act.{Act}
use Rattle.gomp_course.specs.declared.program.Act.TheVariants.{Do, Parallel}
use Rattle.gomp_course.specs.declared.program.Program.{Ghosts as ProgramGhosts}
use Rattle.gomp_course.specs.declared.no_tool.NoTool.{NoTool}
use Rattle.gomp_ompt.specs.declared.tool.Tool.{Ghosts as ToolGhosts}

-- the script's act: a call, or a nested region of so many members, without an `if` clause
abbrev pub asked_act : ScriptAct → Act
asked_act (script.Do call) = Do call
asked_act (script.Parallel members) = Parallel (Some members) true

-- the same of what the script found, if it found memory
abbrev pub asked_if_found : Result ScriptAct AllocError → Option Act
asked_if_found (Ok act) = Some (asked_act act)
asked_if_found (Err lack) = None

-- behind a reply the program goes along its script, and asks for what that says, or for nothing if it found no memory
pub record GoesAlong (old : ProgramView) (last : Reply) (asked : Option Act) (new : ProgramView) : Type 0 where
  pub found : Result ScriptAct AllocError
  pub asked_is : asked ≡ asked_if_found found
  pub stands : StandsBehind last old found new
  pub acts : ActsThere found new
  pub goes : GoesOnBehind last old found new
  pub refused : StopsRefused last old found new
  pub waits : WaitsAgain last old found new
  pub adds : AddsCopied last old found new
  pub owed : MakesOwed old found new
  pub memory : LacksMemory old found new
  pub script_is : new.script ≡ old.script
  pub member_is : new.member ≡ old.member

-- at a nested region it makes a program for each of its members, which begins behind that line
abbrev pub MakesPrograms : ProgramView → ℕ → List ProgramView → Type 0
MakesPrograms program count programs = programs ≡ programs_from program.script (shown_number (program.line + 1)) 0 count

-- behind it, it adds what they have added
abbrev pub TakesTotals : ProgramView → List ProgramView → ProgramView → Type 0
TakesTotals old children new = new ≡ record old { total = joined_total old.total (totals_of children) }

-- all of this, as a runtime has it
abbrev pub script_program : ProgramGhosts ProgramView
script_program = record { next_gives = GoesAlong; fork_gives = MakesPrograms; join_gives = TakesTotals }

-- and a tool that keeps nothing
abbrev pub no_tool : ToolGhosts NoTool
no_tool = record { on_gives = λ old event new. new ≡ old; fork_gives = λ tool count tools. length tools ≡ count; join_gives = λ old tools new. new ≡ old }
