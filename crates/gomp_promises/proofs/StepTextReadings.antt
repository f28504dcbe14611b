-- How a text of steps is read, line by line, of every number of a line, every step and every fault.
use Rattle.std.proofs.Common.{◌≡◌, ℕ, ◌+◌, List, [], ◌∷◌, Some, None, Result, Ok, Err, refl}
use Rattle.gomp_types.specs.declared.call.Step.{Step}
use Rattle.gomp_types.specs.Limits.{shown_number}
use Rattle.gomp_text.specs.Words.{lines_of}
use Rattle.gomp_script.specs.declared.parse.BadLine.{BadLine}
use Rattle.gomp_script.specs.declared.parse.Why.{Why}
use Rattle.gomp_script.specs.declared.parse.Why.TheVariants as why
use Rattle.gomp_script.specs.StepText.{read_line, step_of, team_of, with_front, with_team, step_line, steps_from, team_line, text_from, steps_of}

-- a step comes before those of later lines, unless one of these is bad
pub step_comes_before_later_ones : (step : Step) (steps : List Step) (bad : BadLine) → (with_front step (Ok steps) ≡ Ok (step ∷ steps)) × (with_front step (Err bad) ≡ Err bad)
step_comes_before_later_ones step steps bad = (refl, refl)

-- a team has the steps of the lines behind it, unless one of these is bad
pub team_has_the_steps_behind_it : (count : ℕ) (steps : List Step) (bad : BadLine) → (with_team count (Ok steps) ≡ Ok (count, steps)) × (with_team count (Err bad) ≡ Err bad)
team_has_the_steps_behind_it count steps bad = (refl, refl)

-- the first bad line is told by its number, whatever comes behind it; a line that says nothing is passed
pub first_bad_step_is_told : (number : ℕ) (fault : Why) (step : Step) (later : Result (List Step) BadLine) →
    (step_line number (Err fault) later ≡ Err (record { line = number; why = fault })) × (step_line number (Ok None) later ≡ later) × (step_line number (Ok (Some step)) later ≡ with_front step later)
first_bad_step_is_told number fault step later = (refl, refl, refl)

-- before the team too; the team is that of the first line that says something
pub first_line_is_of_the_team : (number count : ℕ) (fault : Why) (later : Result (ℕ × List Step) BadLine) (steps : Result (List Step) BadLine) →
    (team_line number (Err fault) later steps ≡ Err (record { line = number; why = fault })) × (team_line number (Ok None) later steps ≡ later) × (team_line number (Ok (Some count)) later steps ≡ with_team count steps)
first_line_is_of_the_team number count fault later steps = (refl, refl, refl)

-- lines are read in their turn, each by the next number
pub lines_of_steps_are_read_in_turn : (number : ℕ) (line : List ℕ) (lines : List (List ℕ)) → (steps_from number [] ≡ Ok []) × (steps_from number (line ∷ lines) ≡ step_line number (read_line step_of line) (steps_from (shown_number (number + 1)) lines))
lines_of_steps_are_read_in_turn number line lines = (refl, refl)

pub lines_before_the_team_are_read_in_turn : (number : ℕ) (line : List ℕ) (lines : List (List ℕ)) →
    (text_from number [] ≡ Err (record { line = 1; why = why.FirstLine }))
    × (text_from number (line ∷ lines) ≡ team_line number (read_line team_of line) (text_from (shown_number (number + 1)) lines) (steps_from (shown_number (number + 1)) lines))
lines_before_the_team_are_read_in_turn number line lines = (refl, refl)

-- from the first line on, which is line 1
pub text_of_steps_is_read_from_line_one : (text : List ℕ) → steps_of text ≡ text_from 1 (lines_of text)
text_of_steps_is_read_from_line_one text = refl
