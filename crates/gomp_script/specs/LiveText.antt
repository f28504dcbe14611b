-- A line of a talk: `team N`, or `MEMBER CALL` once a team stands. (own)
use Rattle.std.specs.Prelude.{ℕ, ◌≢◌, Bool, true, false, if◌then◌else◌, List, [], ◌∷◌, Option, Some, None, Result, Ok, Err, codes}
use Rattle.gomp_script.specs.declared.live.LiveLine.{LiveLine}
use Rattle.gomp_script.specs.declared.live.LiveLine.TheVariants.{NewTeam, NextStep}
use Rattle.gomp_script.specs.declared.parse.Why.{Why}
use Rattle.gomp_script.specs.declared.parse.Why.TheVariants.{MissingWord, FirstLine}
use Rattle.gomp_script.specs.StepText.{◌>>=◌, call_items, step_of, team_of, read_line}
use Rattle.gomp_text.specs.Words.{same_word}

-- the new team that words ask for
abbrev pub new_team_of : List (List ℕ) → Result LiveLine Why
new_team_of words = do
  count ← team_of words
  Ok (NewTeam count)

-- the step that words ask for, which a team has to stand for
abbrev pub next_step_of : Bool → List (List ℕ) → Result LiveLine Why
next_step_of false words = Err FirstLine
next_step_of true words = do
  step ← step_of words
  Ok (NextStep step)

-- what the words of a line ask for, where a team stands or none does
abbrev pub live_of : Bool → List (List ℕ) → Result LiveLine Why
live_of has_team [] = Err MissingWord
live_of has_team (word ∷ words) =
    if same_word word (codes "team") then new_team_of (word ∷ words)
    else next_step_of has_team (word ∷ words)

-- what a line asks for; an empty one and a comment ask for nothing
abbrev pub read_live_line : Bool → List ℕ → Result (Option LiveLine) Why
read_live_line has_team line = read_line (live_of has_team) line

-- the step that is asked for has an item: only then does a line take memory
abbrev pub AskedHasItems : Result LiveLine Why → Type 0
AskedHasItems (Ok (NextStep step)) = call_items step.call ≢ []
AskedHasItems (Ok (NewTeam count)) = ⊥
AskedHasItems (Err why) = ⊥

-- the same of a line
abbrev pub LiveHasItems : Result (Option LiveLine) Why → Type 0
LiveHasItems (Ok (Some asked)) = AskedHasItems (Ok asked)
LiveHasItems (Ok None) = ⊥
LiveHasItems (Err why) = ⊥
