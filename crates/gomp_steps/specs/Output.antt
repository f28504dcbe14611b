-- What `ompteam steps` writes for a text, and with which status it ends. (own)
use Rattle.std.specs.Prelude.{ℕ, ◌≡◌, ◌++◌, if◌then◌else◌, Bool, true, false, List, [], ◌∷◌, Option, Some, None, Result, Ok, Err, length, flat_map, string_bytes}
use Rattle.gomp_types.specs.declared.call.Step.{Step}
use Rattle.gomp_types.specs.declared.reply.Reply.{Reply}
use Rattle.gomp_types.specs.declared.refusal.Refusal.TheVariants.{BadTeam}
use Rattle.gomp_events.specs.declared.event.Event.{Event}
use Rattle.gomp_model.specs.Team.{Record, record_after, Caused}
use Rattle.gomp_icv.specs.Variables.{Variables}
use Rattle.gomp_core.specs.Stands.{Keeps, Stands, TeamView, standard_terms}
use Rattle.gomp_core.specs.Resolved.{resolved_step, resolved_steps}
use Rattle.gomp_script.specs.declared.parse.BadLine.{BadLine}
use Rattle.gomp_script.specs.declared.parse.LineError.{LineError}
use Rattle.gomp_script.specs.declared.parse.LineError.TheVariants.{Fault, NoMemory}
use Rattle.gomp_script.specs.declared.parse.Why.{Why}
use Rattle.gomp_script.specs.StepText.{steps_of, with_team}
use Rattle.gomp_script.specs.Printing.{reply_line, bad_line_text, refusal_line}
use Rattle.gomp_service.specs.declared.answer.Answer.{Answer}
use Rattle.gomp_service.specs.Statuses.{is_size, lacks, status_of}

-- the replies of a new team of this size, by these control variables, to the steps, one for each, a line for each
pub record Replied (icv : Variables) (count : ℕ) (steps : List Step) (text : List ℕ) (code : ℕ) : Type 0 where
  pub replies : List Reply
  pub each : length replies ≡ length steps
  pub caused : Caused (standard_terms count icv) (record_after (resolved_steps icv steps) replies [])
  pub text_is : text ≡ flat_map reply_line replies
  pub code_is : code ≡ status_of replies

abbrev pub Runs : Variables → Bool → ℕ → List Step → List ℕ → ℕ → Type 0
Runs icv true count steps text code = Replied icv count steps text code
Runs icv false count steps text code = (text ≡ refusal_line BadTeam) × (code ≡ 2)

-- the status after one more reply
abbrev pub code_after : Reply → ℕ → ℕ
code_after reply code = if lacks reply then 3 else code

-- a bad line is told, and nothing else
abbrev pub IsBadLine : BadLine → List ℕ → ℕ → Type 0
IsBadLine bad text code = (text ≡ bad_line_text bad) × (code ≡ 1)

-- the line of this number is told for its fault, and for nothing else
abbrev pub TellsLine : ℕ → LineError → List ℕ → ℕ → Type 0
TellsLine number (Fault why) text code = IsBadLine (record { line = number; why = why }) text code
TellsLine number NoMemory text code = ⊥

-- what is written for what was read
abbrev pub AnswerTo : Variables → Result (ℕ × List Step) BadLine → List ℕ → ℕ → Type 0
AnswerTo icv (Ok found) text code = Runs icv (is_size found.0) found.0 found.1 text code
AnswerTo icv (Err bad) text code = IsBadLine bad text code

-- what is written for the lines behind the team's, of this size
abbrev pub AnswerToLines : Variables → ℕ → Result (List Step) BadLine → List ℕ → ℕ → Type 0
AnswerToLines icv count read text code = AnswerTo icv (with_team count read) text code

-- the same if there is such a team: its replies, or a bad line
abbrev pub AnswerToSteps : Variables → ℕ → Result (List Step) BadLine → List ℕ → ℕ → Type 0
AnswerToSteps icv count (Ok steps) text code = Replied icv count steps text code
AnswerToSteps icv count (Err bad) text code = IsBadLine bad text code

-- this is the answer to a text
abbrev pub IsAnswer : Variables → List ℕ → Answer → Type 0
IsAnswer icv text answer = AnswerTo icv (steps_of text) (string_bytes answer.text) answer.code

-- One line

-- a step was answered by a team, which stood before for some steps and their replies, and stands now for these two more; its reply was put behind an answer
pub record AnswersStep {S : Type 0} (stands : S → List Event → Type 0) (members : S → ℕ) (team : TeamView S × TeamView S) (answer : Answer × Answer) (step : Step) : Type 0 where
  pub reply : Reply
  pub keeps : Keeps team.0 team.1 step.call reply
  pub stands_now : (before : Record) → Stands stands members team.0 before → Stands stands members team.1 ((resolved_step team.0.icv step, reply) ∷ before)
  pub text_is : string_bytes answer.1.text ≡ string_bytes answer.0.text ++ reply_line reply
  pub code_is : answer.1.code ≡ code_after reply answer.0.code

-- so the step of a line, if it has one; else nothing happens
abbrev pub AnswersSaid : {S : Type 0} → (S → List Event → Type 0) → (S → ℕ) → TeamView S × TeamView S → Answer × Answer → Option Step → Type 0
AnswersSaid stands members team answer None = (team.1 ≡ team.0) × (answer.1 ≡ answer.0)
AnswersSaid stands members team answer (Some step) = AnswersStep stands members team answer step

-- what becomes of a line that is read so: its step is answered, or it is told why it is bad, or memory is wanting
abbrev pub AnswersLine : {S : Type 0} → (S → List Event → Type 0) → (S → ℕ) → TeamView S × TeamView S → Answer × Answer → Result (Option Step) Why → Result (Unit {0}) LineError → Type 0
AnswersLine stands members team answer read (Ok done) = (said : Option Step) × (read ≡ Ok said) × AnswersSaid stands members team answer said
AnswersLine stands members team answer read (Err (Fault why)) = read ≡ Err why
AnswersLine stands members team answer read (Err NoMemory) = Unit {0}
