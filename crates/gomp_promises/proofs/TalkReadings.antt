-- What a line of a talk is answered, of every line, number and team: each kind of line gives its own answer, whole, and nothing else does.
use Rattle.std.proofs.Common.{◌≡◌, ◌↔◌, ℕ, true, false, List, [], ◌∷◌, ◌++◌, Option, Some, None, Ok, Err, codes}
use Rattle.std.specs.Prelude.{is_some}
use Rattle.gomp_types.specs.declared.call.Step.{Step}
use Rattle.gomp_types.specs.declared.reply.Reply.{Reply}
use Rattle.gomp_types.specs.declared.refusal.Refusal.TheVariants.{BadTeam}
use Rattle.gomp_model.specs.Team.{MayAnswer, past_of, Caused}
use Rattle.gomp_icv.specs.Variables.{Variables}
use Rattle.gomp_core.specs.Stands.{standard_terms}
use Rattle.gomp_core.specs.Resolved.{resolved_step}
use Rattle.gomp_core.specs.LocksMade.{locks_made}
use Rattle.gomp_script.specs.declared.live.LiveLine.TheVariants as asks
use Rattle.gomp_script.specs.declared.parse.Why.{Why}
use Rattle.gomp_script.specs.LiveText.{read_live_line}
use Rattle.gomp_script.specs.Printing.{reply_line, bad_line_text, refusal_line}
use Rattle.gomp_service.specs.Statuses.{is_size}
use Rattle.gomp_live.specs.Talk.{Made, TeamBegun, TeamAnswered, StepAnswered, NextStepAnswered, LineAnswered, Answers, Talked, begun_with, locks_so_far, next_number}

-- a line is answered as it is read, whatever stood before it
pub line_is_answered_as_it_is_read : (icv : Variables) (number : ℕ) (stood : Option Made) (line answer : List ℕ) (stands : Option Made) →
    Answers icv number stood line answer stands ↔ LineAnswered icv number stood (read_live_line (is_some stood) line) answer stands
line_is_answered_as_it_is_read icv number stood line answer stands = ((λ is. is), (λ is. is))

-- a step is answered as a step of the team that stands
pub line_of_a_step_is_answered_so : (icv : Variables) (number : ℕ) (stood : Option Made) (step : Step) (answer : List ℕ) (stands : Option Made) →
    LineAnswered icv number stood (Ok (Some (asks.NextStep step))) answer stands ↔ NextStepAnswered icv stood step answer stands
line_of_a_step_is_answered_so icv number stood step answer stands = ((λ is. is), (λ is. is))

-- a team as one of its size
pub line_of_a_team_is_answered_so : (icv : Variables) (number count : ℕ) (stood : Option Made) (answer : List ℕ) (stands : Option Made) →
    LineAnswered icv number stood (Ok (Some (asks.NewTeam count))) answer stands ↔ TeamAnswered icv (is_size count) count stood answer stands
line_of_a_team_is_answered_so icv number count stood answer stands = ((λ is. is), (λ is. is))

-- a line that is skipped has no answer, and changes nothing
pub skipped_line_has_no_answer : (icv : Variables) (number : ℕ) (stood : Option Made) (answer : List ℕ) (stands : Option Made) →
    LineAnswered icv number stood (Ok None) answer stands ↔ ((answer ≡ []) × (stands ≡ stood))
skipped_line_has_no_answer icv number stood answer stands = ((λ is. is), (λ is. is))

-- a bad one is told with its own number, and changes nothing
pub bad_line_is_told_by_its_number : (icv : Variables) (number : ℕ) (stood : Option Made) (fault : Why) (answer : List ℕ) (stands : Option Made) →
    LineAnswered icv number stood (Err fault) answer stands ↔ ((answer ≡ bad_line_text (record { line = number; why = fault })) × (stands ≡ stood))
bad_line_is_told_by_its_number icv number stood fault answer stands = ((λ is. is), (λ is. is))

-- of a size that may be, a new team begins
pub team_of_a_size_begins : (icv : Variables) (count : ℕ) (stood : Option Made) (answer : List ℕ) (stands : Option Made) →
    TeamAnswered icv true count stood answer stands ↔ TeamBegun icv count stood answer stands
team_of_a_size_begins icv count stood answer stands = ((λ is. is), (λ is. is))

-- of any other, none does, and the one that stood stays
pub team_of_no_size_is_refused : (icv : Variables) (count : ℕ) (stood : Option Made) (answer : List ℕ) (stands : Option Made) →
    TeamAnswered icv false count stood answer stands ↔ ((answer ≡ refusal_line BadTeam) × (stands ≡ stood))
team_of_no_size_is_refused icv count stood answer stands = ((λ is. is), (λ is. is))

-- a team that has begun has the locks of the one before it, each with its cause
pub begun_team_is_told_whole : (icv : Variables) (count : ℕ) (stood : Option Made) (answer : List ℕ) (stands : Option Made) →
    TeamBegun icv count stood answer stands ↔ ((answer ≡ codes "ok\n") × Caused (standard_terms count icv) (locks_made (locks_so_far icv stood)) × (stands ≡ Some (begun_with count (locks_so_far icv stood))))
begun_team_is_told_whole icv count stood answer stands = (
  (λ begun. (begun.answer_is, begun.caused, begun.stands_is)),
  (λ parts. record { answer_is = parts.0; caused = parts.1; stands_is = parts.2 }),
)

-- a step is of a team that stands, and that team's own
pub step_is_of_the_team_that_stands : (icv : Variables) (made : Made) (step : Step) (answer : List ℕ) (stands : Option Made) →
    NextStepAnswered icv (Some made) step answer stands ↔ StepAnswered icv made step answer stands
step_is_of_the_team_that_stands icv made step answer stands = ((λ is. is), (λ is. is))

-- its answer is a reply that has its cause behind all before it, and both are kept
pub answered_step_is_told_whole : (icv : Variables) (made : Made) (step : Step) (answer : List ℕ) (stands : Option Made) →
    StepAnswered icv made step answer stands ↔ ((reply : Reply) × MayAnswer (past_of (standard_terms made.size icv) made.run) (resolved_step icv step) reply × (answer ≡ reply_line reply) × (stands ≡ Some (record { size = made.size; run = (resolved_step icv step, reply) ∷ made.run })))
answered_step_is_told_whole icv made step answer stands = (
  (λ told. (told.reply, told.caused, told.answer_is, told.stands_is)),
  (λ parts. record { reply = parts.0; caused = parts.1; answer_is = parts.2; stands_is = parts.3 }),
)

-- a talk begins with nothing said, and no team
pub talk_begins_with_nothing : (icv : Variables) (said : List ℕ) (stands : Option Made) → Talked icv [] said stands ↔ ((said ≡ []) × (stands ≡ None))
talk_begins_with_nothing icv said stands = ((λ is. is), (λ is. is))

-- and each line has its answer behind what was said to those before it
pub each_line_of_a_talk_is_answered : (icv : Variables) (line : List ℕ) (earlier : List (List ℕ)) (said : List ℕ) (stands : Option Made) →
    Talked icv (line ∷ earlier) said stands ↔ ((before : List ℕ) × (stood : Option Made) × (answer : List ℕ) × Talked icv earlier before stood × Answers icv (next_number earlier) stood line answer stands × (said ≡ before ++ answer))
each_line_of_a_talk_is_answered icv line earlier said stands = ((λ is. is), (λ is. is))
