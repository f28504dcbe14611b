-- How a text of a script is read, line by line, of every number of a line, every statement, every fault and all open blocks.
use Rattle.std.proofs.Common.{◌≡◌, ◌≢◌, ℕ, zero, suc, ◌+◌, ◌++◌, true, false, List, [], ◌∷◌, Option, Some, None, Result, Ok, Err, refl}
use Rattle.std.specs.Prelude.{not}
use Rattle.gomp_types.specs.Limits.{shown_number}
use Rattle.gomp_text.specs.Words.{lines_of}
use Rattle.gomp_script.specs.declared.parse.Why.{Why}
use Rattle.gomp_script.specs.declared.parse.Why.TheVariants as why
use Rattle.gomp_script.specs.StepText.{read_line}
use Rattle.gomp_region.specs.declared.nesting.OpenBlock.{OpenBlock}
use Rattle.gomp_region.specs.declared.script.BadScript.{BadScript}
use Rattle.gomp_region.specs.declared.script.ScriptLine.{ScriptLine}
use Rattle.gomp_region.specs.declared.script.ScriptWhy.{ScriptWhy}
use Rattle.gomp_region.specs.declared.script.ScriptWhy.TheVariants.{Words, NoOpenBlock, NotClosed}
use Rattle.gomp_region.specs.declared.script.AskedSize.{AskedSize}
use Rattle.gomp_region.specs.declared.statement.EndWord.{EndWord}
use Rattle.gomp_region.specs.declared.statement.EndWord.TheVariants.{EndFor, EndSections, EndSection, EndSingle, EndCopy, EndOrdered, EndCritical, EndTask, EndGroup, EndParallel, EndOnly}
use Rattle.gomp_region.specs.declared.statement.Nesting.{Nesting}
use Rattle.gomp_region.specs.declared.statement.Nesting.TheVariants.{Begins, Ends, Stands}
use Rattle.gomp_region.specs.declared.statement.Statement.{Statement}
use Rattle.gomp_region.specs.ScriptText.{statement_of, region_of, nesting_of, same_end_word, ends_innermost, may_stand, open_behind, nested, line_nested, line_said, with_lines, line_then, end_of_text, statements_from, inside_then, lines_inside, end_index, ends_from, with_team, region_line, script_from, script_of}

-- Blocks

-- a word ends the innermost block if it is that block's own, and nothing where none is open
pub word_ends_the_innermost_block : (word end : EndWord) (line : ℕ) (blocks : List OpenBlock) → (ends_innermost word (record { end = end; line = line } ∷ blocks) ≡ same_end_word word end) × (ends_innermost word [] ≡ false)
word_ends_the_innermost_block word end line blocks = (refl, refl)

-- a word is its own
pub end_word_is_itself : (word : EndWord) → same_end_word word word ≡ true
end_word_is_itself EndFor = refl
end_word_is_itself EndSections = refl
end_word_is_itself EndSection = refl
end_word_is_itself EndSingle = refl
end_word_is_itself EndCopy = refl
end_word_is_itself EndOrdered = refl
end_word_is_itself EndCritical = refl
end_word_is_itself EndTask = refl
end_word_is_itself EndGroup = refl
end_word_is_itself EndParallel = refl
end_word_is_itself EndOnly = refl

-- a section stands directly in sections, an end word behind its own block, and all else anywhere but directly in sections
pub section_stands_in_sections : (blocks : List OpenBlock) → may_stand (Begins EndSection) blocks ≡ ends_innermost EndSections blocks
section_stands_in_sections blocks = refl

pub end_stands_behind_its_block : (word : EndWord) (blocks : List OpenBlock) → may_stand (Ends word) blocks ≡ ends_innermost word blocks
end_stands_behind_its_block word blocks = refl

pub statement_stands_outside_sections : (blocks : List OpenBlock) → may_stand Stands blocks ≡ not (ends_innermost EndSections blocks)
statement_stands_outside_sections blocks = refl

pub other_block_stands_outside_sections : (word : EndWord) (blocks : List OpenBlock) → word ≢ EndSection → may_stand (Begins word) blocks ≡ not (ends_innermost EndSections blocks)
other_block_stands_outside_sections EndSection blocks other = absurd (other refl)
other_block_stands_outside_sections _ blocks other = refl

-- what may not stand is told, and what may leaves the blocks that it leaves
pub statement_that_may_not_stand_is_told : (number : ℕ) (nesting : Nesting) (blocks : List OpenBlock) → may_stand nesting blocks ≡ false → nested number nesting blocks ≡ Err NoOpenBlock
statement_that_may_not_stand_is_told number nesting blocks never = rw never refl

pub statement_that_may_stand_leaves_its_blocks : (number : ℕ) (nesting : Nesting) (blocks : List OpenBlock) → may_stand nesting blocks ≡ true → nested number nesting blocks ≡ open_behind number nesting blocks
statement_that_may_stand_leaves_its_blocks number nesting blocks may = rw may refl

-- an end word ends one block, and a statement none
pub end_word_ends_one_block : (number : ℕ) (word : EndWord) (block : OpenBlock) (blocks : List OpenBlock) → (open_behind number (Ends word) (block ∷ blocks) ≡ Ok blocks) × (open_behind number Stands blocks ≡ Ok blocks)
end_word_ends_one_block number word block blocks = (refl, refl)

-- Lines

-- a fault of the words comes before one of the blocks, and a line that says nothing leaves them
pub fault_of_words_comes_first : (number : ℕ) (fault : Why) (statement : Statement) (blocks : List OpenBlock) →
    (line_nested number (Err fault) blocks ≡ Err (Words fault)) × (line_nested number (Ok None) blocks ≡ Ok blocks) × (line_nested number (Ok (Some statement)) blocks ≡ nested number (nesting_of statement) blocks)
fault_of_words_comes_first number fault statement blocks = (refl, refl, refl)

-- a line that says nothing gives no statement
pub line_says_its_statement : (number : ℕ) (statement : Statement) → (line_said number (Ok (Some statement)) ≡ record { number = number; statement = statement } ∷ []) × (line_said number (Ok None) ≡ [])
line_says_its_statement number statement = (refl, refl)

-- a line comes before later ones, unless one of these is bad; a bad line is told by its number, whatever comes behind it
pub line_comes_before_later_ones : (lines later : List ScriptLine) (bad : BadScript) → (with_lines lines (Ok later) ≡ Ok (lines ++ later)) × (with_lines lines (Err bad) ≡ Err bad)
line_comes_before_later_ones lines later bad = (refl, refl)

pub first_bad_statement_is_told : (number : ℕ) (read : Result (Option Statement) Why) (fault : ScriptWhy) (blocks : List OpenBlock) (later : List OpenBlock → Result (List ScriptLine) BadScript) →
    (line_then number read (Err fault) later ≡ Err (record { line = number; why = fault })) × (line_then number read (Ok blocks) later ≡ with_lines (line_said number read) (later blocks))
first_bad_statement_is_told number read fault blocks later = (refl, refl)

-- at the end the innermost open block is told by its line
pub open_block_is_told_at_the_end : (word : EndWord) (line : ℕ) (blocks : List OpenBlock) → (end_of_text [] ≡ Ok []) × (end_of_text (record { end = word; line = line } ∷ blocks) ≡ Err (record { line = line; why = NotClosed }))
open_block_is_told_at_the_end word line blocks = (refl, refl)

-- lines are read in their turn, each by the next number, in the blocks that are open there
pub lines_of_a_script_are_read_in_turn : (number : ℕ) (blocks : List OpenBlock) (line : List ℕ) (lines : List (List ℕ)) →
    (statements_from number blocks [] ≡ end_of_text blocks)
    × (statements_from number blocks (line ∷ lines) ≡ line_then number (read_line statement_of line) (line_nested number (read_line statement_of line) blocks) (λ behind. statements_from (shown_number (number + 1)) behind lines))
lines_of_a_script_are_read_in_turn number blocks line lines = (refl, refl)

-- the region is that of the first line that says something
pub first_line_is_of_the_region : (number : ℕ) (fault : Why) (team : AskedSize) (later : Result (AskedSize × List ScriptLine × List ℕ) BadScript) (lines : Result (List ScriptLine) BadScript) →
    (region_line number (Err fault) later lines ≡ Err (record { line = number; why = Words fault })) × (region_line number (Ok None) later lines ≡ later) × (region_line number (Ok (Some team)) later lines ≡ with_team team lines)
first_line_is_of_the_region number fault team later lines = (refl, refl, refl)

pub region_has_the_statements_behind_it : (team : AskedSize) (lines : List ScriptLine) (bad : BadScript) → (with_team team (Ok lines) ≡ Ok (team, lines, ends_from 0 lines)) × (with_team team (Err bad) ≡ Err bad)
region_has_the_statements_behind_it team lines bad = (refl, refl)

pub lines_before_the_region_are_read_in_turn : (number : ℕ) (line : List ℕ) (lines : List (List ℕ)) →
    (script_from number [] ≡ Err (record { line = 1; why = Words why.FirstLine }))
    × (script_from number (line ∷ lines) ≡ region_line number (read_line region_of line) (script_from (shown_number (number + 1)) lines) (statements_from (shown_number (number + 1)) [] lines))
lines_before_the_region_are_read_in_turn number line lines = (refl, refl)

pub text_of_a_script_is_read_from_line_one : (text : List ℕ) → script_of text ≡ script_from 1 (lines_of text)
text_of_a_script_is_read_from_line_one text = refl

-- Ends

-- a block ends behind all that stands in it, and every other line where it stands
pub block_ends_behind_what_stands_in_it : (index : ℕ) (word : EndWord) (later : List ScriptLine) → (end_index index (Begins word) later ≡ index + 1 + lines_inside 0 later) × (end_index index (Ends word) later ≡ index) × (end_index index Stands later ≡ index)
block_ends_behind_what_stands_in_it index word later = (refl, refl, refl)

-- a block in it is counted with its end, and its own end is not
pub each_line_inside_is_counted : (depth : ℕ) (word : EndWord) (later : ℕ → ℕ) →
    (inside_then depth (Begins word) later ≡ later (depth + 1) + 1) × (inside_then zero (Ends word) later ≡ 0) × (inside_then (suc depth) (Ends word) later ≡ later depth + 1) × (inside_then depth Stands later ≡ later depth + 1)
each_line_inside_is_counted depth word later = (refl, refl, refl, stands_are_counted depth later)
  where
    stands_are_counted : (depth : ℕ) (later : ℕ → ℕ) → inside_then depth Stands later ≡ later depth + 1
    stands_are_counted zero later = refl
    stands_are_counted (suc depth) later = refl

pub lines_inside_are_counted_in_turn : (depth index : ℕ) (line : ScriptLine) (lines : List ScriptLine) →
    (lines_inside depth [] ≡ 0)
    × (lines_inside depth (line ∷ lines) ≡ inside_then depth (nesting_of line.statement) (λ depth. lines_inside depth lines))
    × (ends_from index [] ≡ [])
    × (ends_from index (line ∷ lines) ≡ end_index index (nesting_of line.statement) lines ∷ ends_from (index + 1) lines)
lines_inside_are_counted_in_turn depth index line lines = (refl, refl, refl, refl)
