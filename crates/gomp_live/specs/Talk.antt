-- What is answered in a talk: to each line what the lines before it leave. (own)
use Rattle.std.specs.Prelude.{ℕ, ◌≡◌, ◌+◌, ◌++◌, is_some, Bool, true, false, List, [], ◌∷◌, Option, Some, None, Result, Ok, Err, length, codes}
use Rattle.gomp_types.specs.declared.call.Step.{Step}
use Rattle.gomp_types.specs.declared.reply.Reply.{Reply}
use Rattle.gomp_types.specs.declared.refusal.Refusal.TheVariants.{BadTeam}
use Rattle.gomp_types.specs.declared.lock.LockKind.{LockKind}
use Rattle.gomp_types.specs.Limits.{shown_number}
use Rattle.gomp_model.specs.Team.{Record, MayAnswer, past_of, Caused}
use Rattle.gomp_icv.specs.Variables.{Variables}
use Rattle.gomp_core.specs.Stands.{standard_terms}
use Rattle.gomp_core.specs.Resolved.{resolved_step}
use Rattle.gomp_core.specs.LocksMade.{locks_made}
use Rattle.gomp_script.specs.declared.live.LiveLine.{LiveLine}
use Rattle.gomp_script.specs.declared.live.LiveLine.TheVariants.{NewTeam, NextStep}
use Rattle.gomp_script.specs.declared.parse.Why.{Why}
use Rattle.gomp_script.specs.LiveText.{read_live_line}
use Rattle.gomp_script.specs.Printing.{reply_line, bad_line_text, refusal_line}
use Rattle.gomp_service.specs.Statuses.{is_size}

-- what was asked of a team, and answered: its size, and its record
pub record Made : Type 0 where
  pub size : ℕ
  pub run : Record

-- the locks that were made so far, by their numbers; None in the place of one that was destroyed
abbrev pub locks_so_far : Variables → Option Made → List (Option LockKind)
locks_so_far icv None = []
locks_so_far icv (Some made) = (past_of (standard_terms made.size icv) made.run).locks

-- a new team, in which its primary has made the locks that there are, as they were made before
abbrev pub begun_with : ℕ → List (Option LockKind) → Made
begun_with count locks = record { size = count; run = locks_made locks }

-- a new team stands where one may have this size, with the locks of the one before it, which nobody holds
pub record TeamBegun (icv : Variables) (count : ℕ) (stood : Option Made) (answer : List ℕ) (stands : Option Made) : Type 0 where
  pub answer_is : answer ≡ codes "ok\n"
  pub caused : Caused (standard_terms count icv) (locks_made (locks_so_far icv stood))
  pub stands_is : stands ≡ Some (begun_with count (locks_so_far icv stood))

-- where none may, the one that stood
abbrev pub TeamAnswered : Variables → Bool → ℕ → Option Made → List ℕ → Option Made → Type 0
TeamAnswered icv true count stood answer stands = TeamBegun icv count stood answer stands
TeamAnswered icv false count stood answer stands = (answer ≡ refusal_line BadTeam) × (stands ≡ stood)

-- the answer to a step is a reply that has its cause after those before it, on a line
pub record StepAnswered (icv : Variables) (made : Made) (step : Step) (answer : List ℕ) (stands : Option Made) : Type 0 where
  pub reply : Reply
  pub caused : MayAnswer (past_of (standard_terms made.size icv) made.run) (resolved_step icv step) reply
  pub answer_is : answer ≡ reply_line reply
  pub stands_is : stands ≡ Some (record made { run = (resolved_step icv step, reply) ∷ made.run })

-- a step is of a team that stands
abbrev pub NextStepAnswered : Variables → Option Made → Step → List ℕ → Option Made → Type 0
NextStepAnswered icv None step answer stands = ⊥
NextStepAnswered icv (Some made) step answer stands = StepAnswered icv made step answer stands

-- a line that is skipped has an empty answer; a bad one changes nothing
abbrev pub LineAnswered : Variables → ℕ → Option Made → Result (Option LiveLine) Why → List ℕ → Option Made → Type 0
LineAnswered icv number stood (Ok (Some (NewTeam count))) answer stands = TeamAnswered icv (is_size count) count stood answer stands
LineAnswered icv number stood (Ok (Some (NextStep step))) answer stands = NextStepAnswered icv stood step answer stands
LineAnswered icv number stood (Ok None) answer stands = (answer ≡ []) × (stands ≡ stood)
LineAnswered icv number stood (Err why) answer stands = (answer ≡ bad_line_text (record { line = number; why = why })) × (stands ≡ stood)

-- this is the answer to the line of this number, with the team that stood before it and the one that stands then
abbrev pub Answers : Variables → ℕ → Option Made → List ℕ → List ℕ → Option Made → Type 0
Answers icv number stood line answer stands = LineAnswered icv number stood (read_live_line (is_some stood) line) answer stands

-- the number of the line after these; lines are numbered from 1, up to the largest number
abbrev pub next_number : List (List ℕ) → ℕ
next_number lines = shown_number (length lines + 1)

-- what was said to these lines, the newest of them first, and the team that stands then
abbrev pub Talked : Variables → List (List ℕ) → List ℕ → Option Made → Type 0
Talked icv [] said stands = (said ≡ []) × (stands ≡ None)
Talked icv (line ∷ earlier) said stands =
    (before : List ℕ) × (stood : Option Made) × (answer : List ℕ)
    × Talked icv earlier before stood × Answers icv (next_number earlier) stood line answer stands × (said ≡ before ++ answer)
