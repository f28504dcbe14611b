-- What a member does behind a reply. (own)
use Rattle.std.specs.Prelude.{◌≡◌, ◌⊎◌, true, false, Option, Some, None, Result, Ok, IfOk, IsSome, OnErr}
use Rattle.gomp_types.specs.declared.call.Call.{Call}
use Rattle.gomp_types.specs.declared.call.Call.TheVariants.{Resume, Stop}
use Rattle.gomp_types.specs.declared.refusal.Refusal.{Refusal}
use Rattle.gomp_types.specs.declared.reply.Reply.{Reply}
use Rattle.gomp_types.specs.declared.reply.Reply.TheVariants.{Refused, Wait}
use Rattle.gomp_program.specs.declared.acts.ScriptAct.{ScriptAct}
use Rattle.gomp_program.specs.declared.acts.ScriptAct.TheVariants.{Do}
use Rattle.gomp_program.specs.declared.frame.Stage.TheVariants.{Ending}
use Rattle.gomp_program.specs.Calls.{CreatesWithItems}
use Rattle.gomp_program.specs.Leaving.{LeavesBlock}
use Rattle.gomp_program.specs.Moves.{Lead, Executes, Calls, Leaving, Resumes, Stops}
use Rattle.gomp_program.specs.Passing.{ComesTo}
use Rattle.gomp_program.specs.Places.{statement_at}
use Rattle.gomp_program.specs.Programs.{IsAct, ProgramView, act_of, answers, call_at_wait, lead_behind, place_of}
use Rattle.gomp_program.specs.Totals.{addition_at, total_with}

-- the act is that of the place where the member now stands, a resume, or a stop
abbrev pub ActsThere : {E : Type 0} → Result ScriptAct E → ProgramView → Type 0
ActsThere result new = IfOk result (λ act. IsAct act new)

-- behind a reply to its call the member goes on: the act is that of the place where it now stands
abbrev pub GoesOnBehind : {E : Type 0} → Reply → ProgramView → Result ScriptAct E → ProgramView → Type 0
GoesOnBehind reply old result new = old.owes ≡ false → answers reply old ≡ true → IfOk result (λ act. act ≡ act_of new)

-- a refusal is answered by a stop, and nothing changes
abbrev pub StopsRefused : {E : Type 0} → Reply → ProgramView → Result ScriptAct E → ProgramView → Type 0
StopsRefused reply old result new = (refusal : Refusal) → old.owes ≡ false → reply ≡ Refused refusal → (result ≡ Ok (Do Stop)) × (new ≡ old)

-- behind a reply to wait the call is asked about again if it may wait, and nothing changes
abbrev pub WaitsAgain : {E : Type 0} → Reply → ProgramView → Result ScriptAct E → ProgramView → Type 0
WaitsAgain reply old result new = old.owes ≡ false → reply ≡ Wait → (result ≡ Ok (Do (call_at_wait old))) × (new ≡ old)

-- behind a word of a copy, handed to the member or put by it, its number is added, and the member ends the copy
abbrev pub EndsCopy : Reply → ProgramView → ProgramView → Type 0
EndsCopy reply old new = (new.total ≡ total_with old.total (addition_at old.stage (statement_at old.script old.line) reply)) × (new.line ≡ old.line) × (new.stage ≡ Ending 0)

abbrev pub AddsCopied : {E : Type 0} → Reply → ProgramView → Result ScriptAct E → ProgramView → Type 0
AddsCopied reply old result new = old.owes ≡ false → IsSome (addition_at old.stage (statement_at old.script old.line) reply) → IfOk result (λ act. EndsCopy reply old new)

-- a call that is owed is made, whatever the reply, and nothing else changes
abbrev pub MakesOwed : {E : Type 0} → ProgramView → Result ScriptAct E → ProgramView → Type 0
MakesOwed old result new = old.owes ≡ true → IfOk result (λ act. (act ≡ act_of old) × (new ≡ record old { owes = false }))

-- if memory is refused nothing has changed, or the member owes the call that creates a task with items
abbrev pub OwesForMemory : ProgramView → ProgramView → Type 0
OwesForMemory old new = (new ≡ old) ⊎ ((old.owes ≡ false) × (new.owes ≡ true) × CreatesWithItems (statement_at new.script new.line))

abbrev pub LacksMemory : {E : Type 0} → ProgramView → Result ScriptAct E → ProgramView → Type 0
LacksMemory old result new = OnErr result (OwesForMemory old new)

-- so a member comes from one place to another, and adds what it executes on the way, or what the reply adds
abbrev pub HasCome : Lead → Reply → ProgramView → ProgramView → Type 0
HasCome (Executes line iteration frames) reply old new = ComesTo old.script old.member (record { line = line; iteration = iteration; frames = frames; total = old.total }) (place_of new) new.total
HasCome (Calls place) reply old new = (place_of new ≡ place) × (new.total ≡ total_with old.total (addition_at old.stage (statement_at old.script old.line) reply))
HasCome (Leaving script exit) reply old new = LeavesBlock script exit (place_of old) (place_of new) × (new.total ≡ total_with old.total (addition_at old.stage (statement_at old.script old.line) reply))
HasCome (Resumes place) reply old new = (place_of new ≡ place) × (new.total ≡ old.total)
HasCome Stops reply old new = (place_of new ≡ place_of old) × (new.total ≡ old.total)

-- a call that is not the one of the place to which it comes
abbrev pub call_behind_lead : Lead → Option Call
call_behind_lead (Resumes place) = Some Resume
call_behind_lead Stops = Some Stop
call_behind_lead _ = None

-- what it does there
abbrev pub act_behind : Option Call → ProgramView → ScriptAct
act_behind (Some call) new = Do call
act_behind None new = act_of new

-- behind a reply a member stands where its construct or statement leads it by that reply, and does what is done there
pub record StandsBehind {E : Type 0} (reply : Reply) (old : ProgramView) (result : Result ScriptAct E) (new : ProgramView) : Type 0 where
  -- at this line, stage and iteration, inside these blocks, with this total
  pub place : old.owes ≡ false → IfOk result (λ act. HasCome (lead_behind reply old) reply old new)
  -- it makes the call of that place, resumes, or stops
  pub act : old.owes ≡ false → IfOk result (λ act. act ≡ act_behind (call_behind_lead (lead_behind reply old)) new)
  -- if memory is refused nothing has changed, or it stands there all the same
  pub memory : old.owes ≡ false → OnErr result ((new ≡ old) ⊎ HasCome (lead_behind reply old) reply old new)
  -- what it has owed it has made
  pub owes : IfOk result (λ act. new.owes ≡ false)
