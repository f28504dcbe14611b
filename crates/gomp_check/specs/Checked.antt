-- What `ompteam check` prints for a text, and with which status it ends. (own)
use Rattle.std.specs.Prelude.{ℕ, ◌≡◌, ◌-◌, ◌++◌, Bool, true, false, if◌then◌else◌, List, [], ◌∷◌, Option, Some, None, Result, Ok, Err, codes, filter, length, string_bytes}
use Rattle.std.specs.Fmt.{decimal}
use Rattle.gomp_types.specs.declared.call.Step.{Step}
use Rattle.gomp_text.specs.Words.{lines_of, same_word, words_of}
use Rattle.gomp_script.specs.declared.parse.BadLine.{BadLine}
use Rattle.gomp_script.specs.declared.parse.Why.{Why}
use Rattle.gomp_script.specs.Printing.{bad_line_text}
use Rattle.gomp_script.specs.StepText.{read_line, steps_of, without_comment}
use Rattle.gomp_region.specs.declared.script.BadScript.{BadScript}
use Rattle.gomp_region.specs.declared.script.ScriptLine.{ScriptLine}
use Rattle.gomp_region.specs.declared.script.AskedSize.{AskedSize}
use Rattle.gomp_region.specs.Printing.{bad_script_text}
use Rattle.gomp_region.specs.ScriptText.{script_of}
use Rattle.gomp_service.specs.declared.answer.Answer.{Answer}

-- Which kind of text

-- whether the first of these words is `region`
abbrev pub begins_region : List (List ℕ) → Bool
begins_region [] = false
begins_region (word ∷ words) = same_word word (codes "region")

-- the same of a line, if it counts
abbrev pub line_kind : List ℕ → Result (Option Bool) Why
line_kind line = read_line (λ words. Ok (begins_region words)) line

-- by the first line that counts, and the later ones; a line with a byte that is not ASCII is bad in either kind of text
abbrev pub kind_by : Result (Option Bool) Why → Bool → Bool
kind_by (Err why) later = false
kind_by (Ok None) later = later
kind_by (Ok (Some region)) later = region

abbrev pub is_script_from : List (List ℕ) → Bool
is_script_from [] = false
is_script_from (line ∷ lines) = kind_by (line_kind line) (is_script_from lines)

-- whether a text is a script: the first word of its first line that counts is `region`
abbrev pub is_script : List ℕ → Bool
is_script text = is_script_from (lines_of text)

-- How many lines

abbrev pub has_words : List (List ℕ) → Bool
has_words [] = false
has_words (word ∷ words) = true

-- whether a line is not skipped: it has a word, and is no comment
abbrev pub counts : List ℕ → Bool
counts line = has_words (without_comment (words_of line))

-- how many lines behind the first that counts are not skipped
abbrev pub later_lines : List ℕ → ℕ
later_lines text = length (filter counts (lines_of text)) - 1

-- What is printed, and the status

abbrev pub counted : List ℕ → ℕ → List ℕ × ℕ
counted kind lines = (kind ++ (codes " " ++ (decimal lines ++ codes "\n")), 0)

abbrev pub steps_checked : ℕ → Result (ℕ × List Step) BadLine → List ℕ × ℕ
steps_checked lines (Ok found) = counted (codes "steps") lines
steps_checked lines (Err bad) = (bad_line_text bad, 1)

abbrev pub script_checked : ℕ → Result (AskedSize × List ScriptLine × List ℕ) BadScript → List ℕ × ℕ
script_checked lines (Ok found) = counted (codes "script") lines
script_checked lines (Err bad) = (bad_script_text bad, 1)

-- of a text that is read as the one or the other
abbrev pub checked : List ℕ → List ℕ × ℕ
checked text = if is_script text then script_checked (later_lines text) (script_of text) else steps_checked (later_lines text) (steps_of text)

-- the answer has this text and this status
abbrev pub IsAnswer : List ℕ × ℕ → Answer → Type 0
IsAnswer printed answer = (string_bytes answer.text ≡ printed.0) × (answer.code ≡ printed.1)
