-- How texts are served: numbers of lines, ends, statuses and what is printed, of every list, every kind of error and every number.
use Rattle.std.proofs.Common.{◌≡◌, ◌≢◌, ℕ, ◌+◌, ◌<◌, ◌≤◌, Bool, true, false, List, [], ◌∷◌, ◌++◌, Option, Some, None, Ok, Err, codes, length, refl, arith}
use Rattle.std.specs.Prelude.{◌^◌, ◌-◌, nat_le, filter}
use Rattle.std.specs.Fmt.{decimal}
use Rattle.std.specs.declared.io.ErrorKind.{ErrorKind}
use Rattle.std.specs.declared.io.ErrorKind.TheVariants as fault
use Rattle.std.proofs.lemmas.Bool.{ne_eqb}
use Rattle.std.proofs.lemmas.Bool.Decides.{nat_tests}
use Rattle.gomp_types.specs.declared.call.Step.{Step}
use Rattle.gomp_types.specs.declared.lock.LockKind.{LockKind}
use Rattle.gomp_types.specs.Limits.{shown_number}
use Rattle.gomp_text.specs.Words.{lines_of, same_word, words_of}
use Rattle.gomp_model.specs.Team.{past_of}
use Rattle.gomp_icv.specs.Variables.{Variables}
use Rattle.gomp_core.specs.LocksMade.{locks_made}
use Rattle.gomp_core.specs.Stands.{standard_terms}
use Rattle.gomp_script.specs.declared.parse.Why.{Why}
use Rattle.gomp_script.specs.StepText.{read_line, steps_of, without_comment}
use Rattle.gomp_region.specs.ScriptText.{script_of}
use Rattle.gomp_script.specs.declared.parse.BadLine.{BadLine}
use Rattle.gomp_script.specs.Printing.{bad_line_text}
use Rattle.gomp_region.specs.declared.script.BadScript.{BadScript}
use Rattle.gomp_region.specs.declared.script.ScriptLine.{ScriptLine}
use Rattle.gomp_region.specs.declared.script.AskedSize.{AskedSize}
use Rattle.gomp_region.specs.Printing.{bad_script_text}
use Rattle.gomp_service.specs.Statuses.{is_size}
use Rattle.gomp_service.specs.Reading.{unread_as, IsUnread, Whole}
use Rattle.gomp_service.specs.declared.read.Ending.TheVariants as ending
use Rattle.gomp_check.specs.Checked.{begins_region, checked, counted, counts, has_words, is_script, is_script_from, kind_by, later_lines, line_kind, script_checked, steps_checked}
use Rattle.gomp_live.specs.Input.{with_front, input_lines, in_order}
use Rattle.gomp_live.specs.Talk.{Made, begun_with, locks_so_far, next_number}

-- Talks

-- the next line of a talk has the number of lines before it, and one, as far as numbers go
pub next_line_is_numbered_behind_those_before : (lines : List (List ℕ)) → next_number lines ≡ shown_number (length lines + 1)
next_line_is_numbered_behind_those_before lines = refl

-- whatever number that is
pub next_line_has_its_number : (lines : List (List ℕ)) → length lines + 1 < 2 ^ 64 → next_number lines ≡ length lines + 1
next_line_has_its_number lines few = omega (arith, few)

-- behind so many it stays
pub next_line_has_the_largest_number : (lines : List (List ℕ)) → 2 ^ 64 ≤ length lines + 1 → next_number lines ≡ 18446744073709551615
next_line_has_the_largest_number lines many = omega (arith, many)

-- the locks of a team are those of its record, and none before the first
pub locks_are_of_the_record : (icv : Variables) (made : Made) → (locks_so_far icv None ≡ []) × (locks_so_far icv (Some made) ≡ (past_of (standard_terms made.size icv) made.run).locks)
locks_are_of_the_record icv made = (refl, refl)

-- a new team has its size, and those locks made
pub new_team_has_its_locks : (count : ℕ) (locks : List (Option LockKind)) → ((begun_with count locks).size ≡ count) × ((begun_with count locks).run ≡ locks_made locks)
new_team_has_its_locks count locks = (refl, refl)

-- Inputs

-- a line feed ends a line, and every other byte stands in its line
pub line_feed_ends_its_line : (bytes : List ℕ) → input_lines (10 ∷ bytes) ≡ [] ∷ input_lines bytes
line_feed_ends_its_line bytes = refl

pub other_byte_stands_in_its_line : (b : ℕ) (bytes : List ℕ) → b ≢ 10 → input_lines (b ∷ bytes) ≡ with_front b (input_lines bytes)
other_byte_stands_in_its_line b bytes other = rw (ne_eqb b 10 other) refl

pub byte_stands_in_front_of_its_line : (b : ℕ) (line : List ℕ) (lines : List (List ℕ)) → (with_front b (line ∷ lines) ≡ (b ∷ line) ∷ lines) × (with_front b [] ≡ (b ∷ []) ∷ [])
byte_stands_in_front_of_its_line b line lines = (refl, refl)

-- lines come in the order in which they were read, before those to come
pub lines_come_in_their_order : (line : List ℕ) (earlier coming : List (List ℕ)) → (in_order [] coming ≡ coming) × (in_order (line ∷ earlier) coming ≡ in_order earlier (line ∷ coming))
lines_come_in_their_order line earlier coming = (refl, refl)

-- Sizes

-- from 1 to 64 members make a team
pub size_of_a_team_is_one : (count : ℕ) → 1 ≤ count → count ≤ 64 → is_size count ≡ true
size_of_a_team_is_one count some few =
    let low : nat_le 1 count ≡ true = grind (arith, nat_tests, some) in
    let high : nat_le count 64 ≡ true = grind (arith, nat_tests, few) in
    rw (low, high) refl

-- none and more than 64 do not
pub no_members_are_no_size : is_size 0 ≡ false
no_members_are_no_size = refl

pub more_members_are_no_size : (count : ℕ) → 64 < count → is_size count ≡ false
more_members_are_no_size count many =
    let low : nat_le 1 count ≡ true = grind (arith, nat_tests, many) in
    let high : nat_le count 64 ≡ false = grind (arith, nat_tests, many) in
    rw (low, high) refl

-- Reads that fail

-- want of memory is told as that
pub want_of_memory_is_no_fault : unread_as fault.OutOfMemory ≡ ending.NoMemory
want_of_memory_is_no_fault = refl

-- and every other error as a fault of the input
pub other_error_is_a_fault_of_the_input : (error : ErrorKind) → error ≢ fault.OutOfMemory → unread_as error ≡ ending.InputFault
other_error_is_a_fault_of_the_input fault.OutOfMemory other = absurd (other refl)
other_error_is_a_fault_of_the_input _ other = refl

-- a text that was not had is neither answered nor cut off, and is too long only if it is longer than the limit
pub unread_text_is_not_answered : (limit : ℕ) (remaining : Option (List ℕ)) (code : ℕ) → (IsUnread limit remaining (ending.Answered code) → ⊥) × (IsUnread limit remaining ending.OutputFault → ⊥)
unread_text_is_not_answered limit remaining code = (λ unread. unread, λ unread. unread)

pub too_long_a_text_is_longer : (limit : ℕ) (all : List ℕ) → IsUnread limit (Some all) ending.TooLong → limit < length all
too_long_a_text_is_longer limit all longer = longer

-- a text that was had is all that there was, and no longer than the limit
pub whole_text_is_all : (limit : ℕ) (all text : List ℕ) → Whole limit (Some all) text → (text ≡ all) × (length text ≤ limit)
whole_text_is_all limit all text whole = (whole.0, whole.1)

-- Checks: which kind of text

-- a line is of a script by its first word
pub line_is_of_a_script_by_its_first_word : (word : List ℕ) (words : List (List ℕ)) → (begins_region (word ∷ words) ≡ same_word word (codes "region")) × (begins_region [] ≡ false)
line_is_of_a_script_by_its_first_word word words = (refl, refl)

pub kind_of_a_line_is_of_its_words : (line : List ℕ) → line_kind line ≡ read_line (λ words. Ok (begins_region words)) line
kind_of_a_line_is_of_its_words line = refl

-- the first line that counts tells, and a bad one tells of no script
pub first_line_that_counts_tells : (region later : Bool) (why : Why) → (kind_by (Ok (Some region)) later ≡ region) × (kind_by (Ok None) later ≡ later) × (kind_by (Err why) later ≡ false)
first_line_that_counts_tells region later why = (refl, refl, refl)

pub lines_tell_one_by_one : (text line : List ℕ) (lines : List (List ℕ)) → (is_script text ≡ is_script_from (lines_of text)) × (is_script_from (line ∷ lines) ≡ kind_by (line_kind line) (is_script_from lines)) × (is_script_from [] ≡ false)
lines_tell_one_by_one text line lines = (refl, refl, refl)

-- a script is checked as one, and another text as steps
pub script_is_checked_as_one : (text : List ℕ) → is_script text ≡ true → checked text ≡ script_checked (later_lines text) (script_of text)
script_is_checked_as_one text is = rw is refl

pub other_text_is_checked_as_steps : (text : List ℕ) → is_script text ≡ false → checked text ≡ steps_checked (later_lines text) (steps_of text)
other_text_is_checked_as_steps text is = rw is refl

-- Checks: how many lines

-- a line counts if it has a word and is no comment, and the first that does is left out
pub line_with_a_word_counts : (line word : List ℕ) (words : List (List ℕ)) → (has_words (word ∷ words) ≡ true) × (has_words [] ≡ false) × (counts line ≡ has_words (without_comment (words_of line)))
line_with_a_word_counts line word words = (refl, refl, refl)

pub lines_behind_the_first_are_counted : (text : List ℕ) → later_lines text ≡ length (filter counts (lines_of text)) - 1
lines_behind_the_first_are_counted text = refl

-- Checks: what is printed

-- the number of lines is printed as it is, behind what they are, and the status is 0
pub lines_are_counted_as_they_are : (kind : List ℕ) (lines : ℕ) → counted kind lines ≡ (kind ++ (codes " " ++ (decimal lines ++ codes "\n")), 0)
lines_are_counted_as_they_are kind lines = refl

-- of steps
pub steps_are_counted : (lines : ℕ) (found : ℕ × List Step) → steps_checked lines (Ok found) ≡ (codes "steps" ++ (codes " " ++ (decimal lines ++ codes "\n")), 0)
steps_are_counted lines found = refl

-- and of a script
pub statements_are_counted : (lines : ℕ) (found : AskedSize × List ScriptLine × List ℕ) → script_checked lines (Ok found) ≡ (codes "script" ++ (codes " " ++ (decimal lines ++ codes "\n")), 0)
statements_are_counted lines found = refl

-- a bad line is printed instead, and the status is 1
pub bad_step_is_printed : (lines : ℕ) (bad : BadLine) → steps_checked lines (Err bad) ≡ (bad_line_text bad, 1)
bad_step_is_printed lines bad = refl

pub bad_statement_is_printed : (lines : ℕ) (bad : BadScript) → script_checked lines (Err bad) ≡ (bad_script_text bad, 1)
bad_statement_is_printed lines bad = refl
