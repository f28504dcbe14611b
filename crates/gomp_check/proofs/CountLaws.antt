-- A text without a bad line has one step, or one statement, for each line behind its first that is not skipped.
use Rattle.std.proofs.Common.{◌≡◌, ◌∙◌, ℕ, ◌+◌, ◌≤◌, Bool, true, false, List, [], ◌∷◌, Option, Some, None, Result, Ok, Err, length, refl, ap, sym, suc, arith}
use Rattle.std.specs.Prelude.{filter, if◌then◌else◌}
use Rattle.gomp_types.specs.declared.call.Step.{Step}
use Rattle.gomp_types.specs.Limits.{shown_number}
use Rattle.gomp_text.specs.Words.{is_ascii, lines_of, words_of}
use Rattle.gomp_script.specs.declared.parse.BadLine.{BadLine}
use Rattle.gomp_script.specs.declared.parse.Why.{Why}
use Rattle.gomp_script.specs.declared.parse.Why.TheVariants.{NotAscii}
use Rattle.gomp_script.specs.StepText.{◌>>=◌, read_line, read_words, some_if_ok, step_line, step_of, steps_from, steps_of, team_line, team_of, text_from, with_front, with_team, without_comment}
use Rattle.gomp_region.specs.declared.nesting.OpenBlock.{OpenBlock}
use Rattle.gomp_region.specs.declared.script.BadScript.{BadScript}
use Rattle.gomp_region.specs.declared.script.ScriptLine.{ScriptLine}
use Rattle.gomp_region.specs.declared.script.ScriptWhy.{ScriptWhy}
use Rattle.gomp_region.specs.declared.script.AskedSize.{AskedSize}
use Rattle.gomp_region.specs.declared.statement.Statement.{Statement}
use Rattle.gomp_region.specs.ScriptText.{ends_from, line_nested, line_then, region_line, region_of, script_from, script_of, statement_of, statements_from}
use Rattle.gomp_region.specs.ScriptText as script
use Rattle.gomp_region.proofs.BlockLaws.{behind_line, behind_none}
use Rattle.gomp_check.specs.Checked.{checked, counts, has_words, is_script, later_lines, script_checked, steps_checked}

-- Lines

no_value : {A : Type 0} (read : Result A Why) → some_if_ok read ≡ Ok None → ⊥
no_value (Ok value) none = absurd (cc)
no_value (Err why) none = absurd (cc)

words_said : {A : Type 0} (reads : List (List ℕ) → Result A Why) (ascii : Bool) (words : List (List ℕ)) (value : A) → ((if ascii then Ok words else Err NotAscii) >>= read_words reads) ≡ Ok (Some value) → has_words words ≡ true
words_said reads true [] value said = absurd (cc)
words_said reads true (word ∷ words) value said = refl
words_said reads false words value said = absurd (cc)

no_words_said : {A : Type 0} (reads : List (List ℕ) → Result A Why) (ascii : Bool) (words : List (List ℕ)) → ((if ascii then Ok words else Err NotAscii) >>= read_words reads) ≡ Ok None → has_words words ≡ false
no_words_said reads true [] said = refl
no_words_said reads true (word ∷ words) said = absurd (no_value (reads (word ∷ words)) said)
no_words_said reads false words said = absurd (cc)

-- a line that says something counts
said_counts : {A : Type 0} (reads : List (List ℕ) → Result A Why) (line : List ℕ) (value : A) → read_line reads line ≡ Ok (Some value) → counts line ≡ true
said_counts reads line value said = words_said reads (is_ascii line) (without_comment (words_of line)) value said

-- one that says nothing does not
unsaid_counts : {A : Type 0} (reads : List (List ℕ) → Result A Why) (line : List ℕ) → read_line reads line ≡ Ok None → counts line ≡ false
unsaid_counts reads line said = no_words_said reads (is_ascii line) (without_comment (words_of line)) said

one_more_line : (line : List ℕ) (lines : List (List ℕ)) → counts line ≡ true → length (filter counts (line ∷ lines)) ≡ suc (length (filter counts lines))
one_more_line line lines counted = rw counted refl

no_more_lines : (line : List ℕ) (lines : List (List ℕ)) → counts line ≡ false → length (filter counts (line ∷ lines)) ≡ length (filter counts lines)
no_more_lines line lines skipped = rw skipped refl

-- Steps

step_in_front : (step : Step) (later : Result (List Step) BadLine) (steps : List Step) → with_front step later ≡ Ok steps → (found : List Step) × (later ≡ Ok found) × (step ∷ found ≡ steps)
step_in_front step (Ok found) steps read = (found, refl, cc)
step_in_front step (Err bad) steps read = absurd (cc)

step_counted : (said : Result (Option Step) Why) (line : List ℕ) (lines : List (List ℕ)) (number : ℕ) (later : Result (List Step) BadLine) (steps : List Step) →
    ((step : Step) → said ≡ Ok (Some step) → counts line ≡ true) → (said ≡ Ok None → counts line ≡ false) → ((found : List Step) → later ≡ Ok found → length found ≡ length (filter counts lines)) →
    step_line number said later ≡ Ok steps → length steps ≡ length (filter counts (line ∷ lines))
step_counted (Err why) line lines number later steps some none same read = absurd (cc)
step_counted (Ok None) line lines number later steps some none same read = same steps read ∙ sym (no_more_lines line lines (none refl))
step_counted (Ok (Some step)) line lines number later steps some none same read =
    let front = step_in_front step later steps read in
    ap length (sym front.2) ∙ ap suc (same front.0 front.1) ∙ sym (one_more_line line lines (some step refl))

steps_each_line : (lines : List (List ℕ)) (number : ℕ) (steps : List Step) → steps_from number lines ≡ Ok steps → length steps ≡ length (filter counts lines)
steps_each_line [] number steps read =
    let none : [] ≡ steps = cc in
    ap length (sym none)
steps_each_line (line ∷ lines) number steps read =
    step_counted (read_line step_of line) line lines number (steps_from (shown_number (number + 1)) lines) steps (said_counts step_of line) (unsaid_counts step_of line) (steps_each_line lines (shown_number (number + 1))) read

steps_of_team : (count given : ℕ) (read : Result (List Step) BadLine) (steps : List Step) → with_team count read ≡ Ok (given, steps) → read ≡ Ok steps
steps_of_team count given (Ok found) steps is = let same : (count, found) ≡ (given, steps) = cc in ap Ok (ap (λ (read : ℕ × List Step). read.1) same)
steps_of_team count given (Err bad) steps is = absurd (cc)

team_counted : (said : Result (Option ℕ) Why) (line : List ℕ) (lines : List (List ℕ)) (number : ℕ) (later : Result (ℕ × List Step) BadLine) (read : Result (List Step) BadLine) (count : ℕ) (steps : List Step) →
    ((team : ℕ) → said ≡ Ok (Some team) → counts line ≡ true) → (said ≡ Ok None → counts line ≡ false) →
    (later ≡ Ok (count, steps) → length (filter counts lines) ≡ suc (length steps)) → (read ≡ Ok steps → length steps ≡ length (filter counts lines)) →
    team_line number said later read ≡ Ok (count, steps) → length (filter counts (line ∷ lines)) ≡ suc (length steps)
team_counted (Err why) line lines number later read count steps some none behind here is = absurd (cc)
team_counted (Ok None) line lines number later read count steps some none behind here is = no_more_lines line lines (none refl) ∙ behind is
team_counted (Ok (Some team)) line lines number later read count steps some none behind here is = one_more_line line lines (some team refl) ∙ ap suc (sym (here (steps_of_team team count read steps is)))

text_counted : (lines : List (List ℕ)) (number count : ℕ) (steps : List Step) → text_from number lines ≡ Ok (count, steps) → length (filter counts lines) ≡ suc (length steps)
text_counted [] number count steps read = absurd (cc)
text_counted (line ∷ lines) number count steps read =
    let next = shown_number (number + 1) in
    team_counted (read_line team_of line) line lines number (text_from next lines) (steps_from next lines) count steps (said_counts team_of line) (unsaid_counts team_of line) (text_counted lines next count steps) (steps_each_line lines next steps) read

-- the steps of a text are as many as its later lines
pub steps_by_lines : (text : List ℕ) (count : ℕ) (steps : List Step) → steps_of text ≡ Ok (count, steps) → length steps ≡ later_lines text
steps_by_lines text count steps read =
    let all = text_counted (lines_of text) 1 count steps read in
    omega (arith, all)

-- Statements

abbrev Later : Type 0
Later = List OpenBlock → Result (List ScriptLine) BadScript

kept_counted : (statement : Statement) (nested : Result (List OpenBlock) ScriptWhy) (line : List ℕ) (lines : List (List ℕ)) (number : ℕ) (later : Later) (all : List ScriptLine) → counts line ≡ true →
    ((inside : List OpenBlock) (found : List ScriptLine) → later inside ≡ Ok found → length found ≡ length (filter counts lines)) →
    line_then number (Ok (Some statement)) nested later ≡ Ok all → length all ≡ length (filter counts (line ∷ lines))
kept_counted statement (Err why) line lines number later all counted same read = absurd (cc)
kept_counted statement (Ok behind) line lines number later all counted same read =
    let front = behind_line (record { number = number; statement = statement }) (later behind) all read in
    ap length (sym front.2) ∙ ap suc (same behind front.0 front.1) ∙ sym (one_more_line line lines counted)

statement_counted : (said : Result (Option Statement) Why) (line : List ℕ) (lines : List (List ℕ)) (number : ℕ) (blocks : List OpenBlock) (later : Later) (all : List ScriptLine) →
    ((statement : Statement) → said ≡ Ok (Some statement) → counts line ≡ true) → (said ≡ Ok None → counts line ≡ false) →
    ((inside : List OpenBlock) (found : List ScriptLine) → later inside ≡ Ok found → length found ≡ length (filter counts lines)) →
    line_then number said (line_nested number said blocks) later ≡ Ok all → length all ≡ length (filter counts (line ∷ lines))
statement_counted (Err why) line lines number blocks later all some none same read = absurd (cc)
statement_counted (Ok None) line lines number blocks later all some none same read = same blocks all (behind_none (later blocks) all read) ∙ sym (no_more_lines line lines (none refl))
statement_counted (Ok (Some statement)) line lines number blocks later all some none same read = kept_counted statement (line_nested number (Ok (Some statement)) blocks) line lines number later all (some statement refl) same read

statements_each_line : (lines : List (List ℕ)) (number : ℕ) (blocks : List OpenBlock) (all : List ScriptLine) → statements_from number blocks lines ≡ Ok all → length all ≡ length (filter counts lines)
statements_each_line [] number [] all read =
    let none : [] ≡ all = cc in
    ap length (sym none)
statements_each_line [] number (around ∷ blocks) all read = absurd (cc)
statements_each_line (line ∷ lines) number blocks all read =
    let next = shown_number (number + 1) in
    statement_counted (read_line statement_of line) line lines number blocks (λ (inside : List OpenBlock). statements_from next inside lines) all (said_counts statement_of line) (unsaid_counts statement_of line) (λ inside found. statements_each_line lines next inside found) read

lines_of_region : (size given : AskedSize) (read : Result (List ScriptLine) BadScript) (all : List ScriptLine) (ends : List ℕ) → script.with_team size read ≡ Ok (given, all, ends) → read ≡ Ok all
lines_of_region size given (Ok found) all ends is = let same : (size, found, ends_from 0 found) ≡ (given, all, ends) = cc in ap Ok (ap (λ (read : AskedSize × List ScriptLine × List ℕ). read.1) same)
lines_of_region size given (Err bad) all ends is = absurd (cc)

region_counted : (said : Result (Option AskedSize) Why) (line : List ℕ) (lines : List (List ℕ)) (number : ℕ) (later : Result (AskedSize × List ScriptLine × List ℕ) BadScript) (read : Result (List ScriptLine) BadScript) (team : AskedSize) (all : List ScriptLine) (ends : List ℕ) →
    ((size : AskedSize) → said ≡ Ok (Some size) → counts line ≡ true) → (said ≡ Ok None → counts line ≡ false) →
    (later ≡ Ok (team, all, ends) → length (filter counts lines) ≡ suc (length all)) → (read ≡ Ok all → length all ≡ length (filter counts lines)) →
    region_line number said later read ≡ Ok (team, all, ends) → length (filter counts (line ∷ lines)) ≡ suc (length all)
region_counted (Err why) line lines number later read team all ends some none behind here is = absurd (cc)
region_counted (Ok None) line lines number later read team all ends some none behind here is = no_more_lines line lines (none refl) ∙ behind is
region_counted (Ok (Some size)) line lines number later read team all ends some none behind here is = one_more_line line lines (some size refl) ∙ ap suc (sym (here (lines_of_region size team read all ends is)))

script_lines_counted : (lines : List (List ℕ)) (number : ℕ) (team : AskedSize) (all : List ScriptLine) (ends : List ℕ) → script_from number lines ≡ Ok (team, all, ends) → length (filter counts lines) ≡ suc (length all)
script_lines_counted [] number team all ends read = absurd (cc)
script_lines_counted (line ∷ lines) number team all ends read =
    let next = shown_number (number + 1) in
    region_counted (read_line region_of line) line lines number (script_from next lines) (statements_from next [] lines) team all ends (said_counts region_of line) (unsaid_counts region_of line) (script_lines_counted lines next team all ends) (statements_each_line lines next [] all) read

-- the statements of a script are as many as its later lines
pub script_counted : (text : List ℕ) (team : AskedSize) (all : List ScriptLine) (ends : List ℕ) → script_of text ≡ Ok (team, all, ends) → length all ≡ later_lines text
script_counted text team all ends read =
    let counted = script_lines_counted (lines_of text) 1 team all ends read in
    omega (arith, counted)

-- The status

script_number : (lines : ℕ) (read : Result (AskedSize × List ScriptLine × List ℕ) BadScript) → (script_checked lines read).1 ≤ 1
script_number lines (Ok found) = omega arith
script_number lines (Err bad) = omega arith

steps_number : (lines : ℕ) (read : Result (ℕ × List Step) BadLine) → (steps_checked lines read).1 ≤ 1
steps_number lines (Ok found) = omega arith
steps_number lines (Err bad) = omega arith

kind_number : (script : Bool) (one other : List ℕ × ℕ) → one.1 ≤ 1 → other.1 ≤ 1 → (if script then one else other).1 ≤ 1
kind_number true one other small also_small = small
kind_number false one other small also_small = also_small

-- it is 0 or 1
pub checked_number : (text : List ℕ) → (checked text).1 ≤ 1
checked_number text = kind_number (is_script text) (script_checked (later_lines text) (script_of text)) (steps_checked (later_lines text) (steps_of text)) (script_number (later_lines text) (script_of text)) (steps_number (later_lines text) (steps_of text))
