-- The text of a script: a line `region` or `region N`, and then a line for each statement; blocks nest. (own)
use Rattle.std.specs.Prelude.{ℕ, ◌≡◌, ◌≢◌, ◌+◌, ◌++◌, ◌==◌, nat_lt, not, Bool, true, false, if◌then◌else◌, List, [], ◌∷◌, length, drop, Option, Some, None, option_map, Result, Ok, Err, codes}
use Rattle.std.proofs.Common.{zero, suc}
use Rattle.gomp_types.specs.Limits.{shown_number}
use Rattle.gomp_text.specs.Words.{lines_of, same_word}
use Rattle.gomp_script.specs.declared.parse.Why.{Why}
use Rattle.gomp_script.specs.declared.parse.Why.TheVariants.{FirstLine, UnknownWord, MissingWord, BadNumber}
use Rattle.gomp_script.specs.declared.parse.LineError.{LineError}
use Rattle.gomp_script.specs.declared.parse.LineError.TheVariants.{NoMemory, Fault}
use Rattle.gomp_script.specs.StepText.{◌>>=◌, or_why, next_word, no_more_words, member_named, count_of, number_of, sched_of, end_of, cancel_kind_of, ordered_of, critical_name_of, behind_items, items_of, if0_of, final_of, read_line, lines_left}
use Rattle.gomp_region.specs.declared.parse.Stop.{Stop}
use Rattle.gomp_region.specs.declared.parse.Stop.TheVariants.{OutOfMemory, BadHere}
use Rattle.gomp_region.specs.declared.nesting.OpenBlock.{OpenBlock}
use Rattle.gomp_region.specs.declared.nesting.TheConstants.{MAX_BLOCKS}
use Rattle.gomp_region.specs.declared.script.BadScript.{BadScript}
use Rattle.gomp_region.specs.declared.script.ScriptError.{ScriptError}
use Rattle.gomp_region.specs.declared.script.ScriptError.TheVariants.{Memory, Bad}
use Rattle.gomp_region.specs.declared.script.ScriptLine.{ScriptLine}
use Rattle.gomp_region.specs.declared.script.ScriptWhy.{ScriptWhy}
use Rattle.gomp_region.specs.declared.script.ScriptWhy.TheVariants.{Words, NoOpenBlock, TooDeep, NotClosed}
use Rattle.gomp_region.specs.declared.script.AskedSize.{AskedSize}
use Rattle.gomp_region.specs.declared.script.AskedSize.TheVariants.{Unstated, Stated}
use Rattle.gomp_region.specs.declared.statement.Addend.{Addend}
use Rattle.gomp_region.specs.declared.statement.Addend.TheVariants.{Number, Iteration}
use Rattle.gomp_region.specs.declared.statement.BlockConstruct.{BlockConstruct}
use Rattle.gomp_region.specs.declared.statement.BlockConstruct.TheVariants.{Loop, Sections, Section, Single, Copy, Ordered, Critical, Task, Group, Parallel, Only}
use Rattle.gomp_region.specs.declared.statement.EndWord.{EndWord}
use Rattle.gomp_region.specs.declared.statement.EndWord.TheVariants.{EndFor, EndSections, EndSection, EndSingle, EndCopy, EndOrdered, EndCritical, EndTask, EndGroup, EndParallel, EndOnly}
use Rattle.gomp_region.specs.declared.statement.Nesting.{Nesting}
use Rattle.gomp_region.specs.declared.statement.Nesting.TheVariants.{Begins, Ends, Stands}
use Rattle.gomp_region.specs.declared.statement.Statement.{Statement}
use Rattle.gomp_region.specs.declared.statement.Statement.TheVariants.{Begin, End, Taskwait, Barrier, Cancel, Point, Add}

-- The lines that begin a block, by the words behind the first

-- `for KIND CHUNK START END INCR ENDKIND [ordered]`
unfoldable pub for_line : List (List ℕ) → Result Statement Why
for_line words = do
  kind ← next_word words
  sched ← or_why UnknownWord (sched_of kind.0)
  chunk ← next_word kind.1
  start ← next_word chunk.1
  end ← next_word start.1
  incr ← next_word end.1
  ending ← next_word incr.1
  end_kind ← or_why UnknownWord (end_of ending.0)
  size ← number_of chunk.0
  first ← number_of start.0
  bound ← number_of end.0
  step ← number_of incr.0
  ordered ← ordered_of ending.1
  Ok (Begin (Loop (record { start = first; end = bound; incr = step; sched = sched; chunk = size; ordered = ordered; end_kind = end_kind })))

-- `sections ENDKIND`
unfoldable pub sections_line : List (List ℕ) → Result Statement Why
sections_line words = do
  ending ← next_word words
  end_kind ← or_why UnknownWord (end_of ending.0)
  done ← no_more_words ending.1
  Ok (Begin (Sections end_kind))

-- `copy K`
unfoldable pub copy_line : List (List ℕ) → Result Statement Why
copy_line words = do
  sent ← next_word words
  number ← number_of sent.0
  done ← no_more_words sent.1
  Ok (Begin (Copy number))

-- `critical [NAME]`
unfoldable pub critical_line : List (List ℕ) → Result Statement Why
critical_line words = do
  name ← critical_name_of words
  Ok (Begin (Critical name))

-- `task [if0] [final] [DEP ADDR]..`
unfoldable pub task_line : List (List ℕ) → Result Statement Why
task_line words = do
  behind ← behind_items (final_of words).1
  items ← items_of (final_of words).1
  done ← no_more_words behind
  Ok (Begin (Task (record { undeferred = (if0_of words).0; final_task = (final_of words).0; deps = items })))

-- the size of a team, a u32 from 1
abbrev pub size_of : List ℕ → Result ℕ Why
size_of word = do
  count ← count_of word
  if count == 0 then Err BadNumber else Ok count

-- `parallel N`
unfoldable pub parallel_line : List (List ℕ) → Result Statement Why
parallel_line words = do
  count ← next_word words
  size ← size_of count.0
  done ← no_more_words count.1
  Ok (Begin (Parallel size))

-- `only M`
unfoldable pub only_line : List (List ℕ) → Result Statement Why
only_line words = do
  number ← next_word words
  member ← member_named number.0
  done ← no_more_words number.1
  Ok (Begin (Only member))

-- The other lines with words behind the first

-- `cancel CANCEL`. OpenMP API 5.2, section 16.1.
unfoldable pub cancel_line : List (List ℕ) → Result Statement Why
cancel_line words = do
  named ← next_word words
  kind ← or_why UnknownWord (cancel_kind_of named.0)
  done ← no_more_words named.1
  Ok (Cancel kind)

-- `point CANCEL`. OpenMP API 5.2, section 16.2.
unfoldable pub point_line : List (List ℕ) → Result Statement Why
point_line words = do
  named ← next_word words
  kind ← or_why UnknownWord (cancel_kind_of named.0)
  done ← no_more_words named.1
  Ok (Point kind)

-- what is added: the iteration's value, or a number
abbrev pub addend_of : List ℕ → Result Addend Why
addend_of word = if same_word word (codes "it") then Ok Iteration else (number_of word >>= λ number. Ok (Number number))

-- `add K` or `add it`
unfoldable pub add_line : List (List ℕ) → Result Statement Why
add_line words = do
  added ← next_word words
  addend ← addend_of added.0
  done ← no_more_words added.1
  Ok (Add addend)

-- The lines of one word

-- the words that end a block
abbrev pub end_word : List ℕ → Option EndWord
end_word word =
    if same_word word (codes "endfor") then Some EndFor
    else if same_word word (codes "endsections") then Some EndSections
    else if same_word word (codes "endsection") then Some EndSection
    else if same_word word (codes "endsingle") then Some EndSingle
    else if same_word word (codes "endcopy") then Some EndCopy
    else if same_word word (codes "endordered") then Some EndOrdered
    else if same_word word (codes "endcritical") then Some EndCritical
    else if same_word word (codes "endtask") then Some EndTask
    else if same_word word (codes "endgroup") then Some EndGroup
    else if same_word word (codes "endparallel") then Some EndParallel
    else if same_word word (codes "endonly") then Some EndOnly
    else None

-- the statements of one word
abbrev pub statement_alone : List ℕ → Option Statement
statement_alone word =
    if same_word word (codes "section") then Some (Begin Section)
    else if same_word word (codes "single") then Some (Begin Single)
    else if same_word word (codes "ordered") then Some (Begin Ordered)
    else if same_word word (codes "group") then Some (Begin Group)
    else if same_word word (codes "taskwait") then Some Taskwait
    else if same_word word (codes "barrier") then Some Barrier
    else option_map End (end_word word)

-- a line of one word
unfoldable pub plain_line : List ℕ → List (List ℕ) → Result Statement Why
plain_line word words = do
  statement ← or_why UnknownWord (statement_alone word)
  done ← no_more_words words
  Ok statement

-- Statements

-- a statement that takes no memory, by its first word and those that follow
abbrev pub other_line : List ℕ → List (List ℕ) → Result Statement Why
other_line word words =
    if same_word word (codes "for") then for_line words
    else if same_word word (codes "sections") then sections_line words
    else if same_word word (codes "copy") then copy_line words
    else if same_word word (codes "critical") then critical_line words
    else if same_word word (codes "parallel") then parallel_line words
    else if same_word word (codes "only") then only_line words
    else if same_word word (codes "cancel") then cancel_line words
    else if same_word word (codes "point") then point_line words
    else if same_word word (codes "add") then add_line words
    else plain_line word words

-- the statement of a line, by its words
abbrev pub statement_of : List (List ℕ) → Result Statement Why
statement_of [] = Err MissingWord
statement_of (word ∷ words) = if same_word word (codes "task") then task_line words else other_line word words

-- The first line: `region` or `region N`

-- the size that is stated, if one is
abbrev pub team_size_of : List (List ℕ) → Result AskedSize Why
team_size_of [] = Ok Unstated
team_size_of (word ∷ words) = do
  size ← size_of word
  done ← no_more_words words
  Ok (Stated size)

unfoldable pub region_of : List (List ℕ) → Result AskedSize Why
region_of words = do
  first ← next_word words
  named ← or_why FirstLine (if same_word first.0 (codes "region") then Some (tt {0}) else None)
  team_size_of first.1

-- Blocks: a structured block (OpenMP API 5.2, section 1.2.2) begins with a line and ends with that of its end word

-- the word that ends the block of a construct
abbrev pub end_word_of : BlockConstruct → EndWord
end_word_of (Loop desc) = EndFor
end_word_of (Sections end_kind) = EndSections
end_word_of Section = EndSection
end_word_of Single = EndSingle
end_word_of (Copy number) = EndCopy
end_word_of Ordered = EndOrdered
end_word_of (Critical name) = EndCritical
end_word_of (Task clauses) = EndTask
end_word_of Group = EndGroup
end_word_of (Parallel size) = EndParallel
end_word_of (Only member) = EndOnly

-- what a statement does to the blocks around it
abbrev pub nesting_of : Statement → Nesting
nesting_of (Begin construct) = Begins (end_word_of construct)
nesting_of (End word) = Ends word
nesting_of _ = Stands

abbrev pub same_end_word : EndWord → EndWord → Bool
same_end_word EndFor EndFor = true
same_end_word EndSections EndSections = true
same_end_word EndSection EndSection = true
same_end_word EndSingle EndSingle = true
same_end_word EndCopy EndCopy = true
same_end_word EndOrdered EndOrdered = true
same_end_word EndCritical EndCritical = true
same_end_word EndTask EndTask = true
same_end_word EndGroup EndGroup = true
same_end_word EndParallel EndParallel = true
same_end_word EndOnly EndOnly = true
same_end_word _ _ = false

-- whether this word ends the innermost of the open blocks, which comes first
abbrev pub ends_innermost : EndWord → List OpenBlock → Bool
ends_innermost word [] = false
ends_innermost word (block ∷ blocks) = same_end_word word block.end

-- a block ends by its own word; sections stand directly in `sections`, and nothing else does
abbrev pub may_stand : Nesting → List OpenBlock → Bool
may_stand (Begins EndSection) blocks = ends_innermost EndSections blocks
may_stand (Ends word) blocks = ends_innermost word blocks
may_stand _ blocks = not (ends_innermost EndSections blocks)

-- the open blocks behind a statement on the line of this number; a block begins in fewer than 32 others
abbrev pub open_behind : ℕ → Nesting → List OpenBlock → Result (List OpenBlock) ScriptWhy
open_behind number (Begins word) blocks = if nat_lt (length blocks) MAX_BLOCKS then Ok (record { end = word; line = number } ∷ blocks) else Err TooDeep
open_behind number (Ends word) blocks = Ok (drop 1 blocks)
open_behind number Stands blocks = Ok blocks

-- the same, or that the statement may not stand in the blocks around it
abbrev pub nested : ℕ → Nesting → List OpenBlock → Result (List OpenBlock) ScriptWhy
nested number nesting blocks = if may_stand nesting blocks then open_behind number nesting blocks else Err NoOpenBlock

-- the open blocks behind a line, or why it is bad in those around it: a fault of its words comes first
abbrev pub line_nested : ℕ → Result (Option Statement) Why → List OpenBlock → Result (List OpenBlock) ScriptWhy
line_nested number (Err why) blocks = Err (Words why)
line_nested number (Ok None) blocks = Ok blocks
line_nested number (Ok (Some statement)) blocks = nested number (nesting_of statement) blocks

-- Texts

abbrev pub bad_script : {A : Type 0} → ℕ → ScriptWhy → Result A BadScript
bad_script number why = Err (record { line = number; why = why })

-- what a line says of the script
abbrev pub line_said : ℕ → Result (Option Statement) Why → List ScriptLine
line_said number (Ok (Some statement)) = record { number = number; statement = statement } ∷ []
line_said number _ = []

-- this part of a script, before what is read later
abbrev pub with_lines : List ScriptLine → Result (List ScriptLine) BadScript → Result (List ScriptLine) BadScript
with_lines lines (Ok later) = Ok (lines ++ later)
with_lines lines (Err bad) = Err bad

-- a line, then those behind it in the blocks that are open there
abbrev pub line_then : ℕ → Result (Option Statement) Why → Result (List OpenBlock) ScriptWhy → (List OpenBlock → Result (List ScriptLine) BadScript) → Result (List ScriptLine) BadScript
line_then number read (Err why) later = bad_script number why
line_then number read (Ok blocks) later = with_lines (line_said number read) (later blocks)

-- at the end of a text no block is open; else the line that began the innermost one is bad
abbrev pub end_of_text : List OpenBlock → Result (List ScriptLine) BadScript
end_of_text [] = Ok []
end_of_text (block ∷ blocks) = bad_script block.line NotClosed

-- the statements of the lines from this one on, in these open blocks; lines are numbered from 1, up to the largest number
abbrev pub statements_from : ℕ → List OpenBlock → List (List ℕ) → Result (List ScriptLine) BadScript
statements_from number blocks [] = end_of_text blocks
statements_from number blocks (line ∷ lines) =
    line_then number (read_line statement_of line) (line_nested number (read_line statement_of line) blocks) (λ behind. statements_from (shown_number (number + 1)) behind lines)

-- Where blocks end

-- how many lines stand before the one that ends the block around these, so many blocks being open in it
abbrev pub inside_then : ℕ → Nesting → (ℕ → ℕ) → ℕ
inside_then depth (Begins word) later = later (depth + 1) + 1
inside_then zero (Ends word) later = 0
inside_then (suc depth) (Ends word) later = later depth + 1
inside_then depth Stands later = later depth + 1

abbrev pub lines_inside : ℕ → List ScriptLine → ℕ
lines_inside depth [] = 0
lines_inside depth (line ∷ lines) = inside_then depth (nesting_of line.statement) (λ depth. lines_inside depth lines)

-- the index of the line that ends the block of a line with this index, and its own if it begins none
abbrev pub end_index : ℕ → Nesting → List ScriptLine → ℕ
end_index index (Begins word) later = index + 1 + lines_inside 0 later
end_index index _ later = index

abbrev pub ends_from : ℕ → List ScriptLine → List ℕ
ends_from index [] = []
ends_from index (line ∷ lines) = end_index index (nesting_of line.statement) lines ∷ ends_from (index + 1) lines

-- Scripts

-- the size of the team, the statements, and where their blocks end
abbrev pub with_team : AskedSize → Result (List ScriptLine) BadScript → Result (AskedSize × List ScriptLine × List ℕ) BadScript
with_team team (Ok lines) = Ok (team, lines, ends_from 0 lines)
with_team team (Err bad) = Err bad

abbrev pub region_line : ℕ → Result (Option AskedSize) Why → Result (AskedSize × List ScriptLine × List ℕ) BadScript → Result (List ScriptLine) BadScript → Result (AskedSize × List ScriptLine × List ℕ) BadScript
region_line number (Err why) later lines = bad_script number (Words why)
region_line number (Ok None) later lines = later
region_line number (Ok (Some team)) later lines = with_team team lines

-- a text without a line that counts has no first line
abbrev pub script_from : ℕ → List (List ℕ) → Result (AskedSize × List ScriptLine × List ℕ) BadScript
script_from number [] = bad_script 1 (Words FirstLine)
script_from number (line ∷ lines) = region_line number (read_line region_of line) (script_from (shown_number (number + 1)) lines) (statements_from (shown_number (number + 1)) [] lines)

-- the script of a text, or its first bad line
abbrev pub script_of : List ℕ → Result (AskedSize × List ScriptLine × List ℕ) BadScript
script_of text = script_from 1 (lines_of text)

-- What a function gives of a line

-- a statement that has an item of a `depend` clause: only such a line takes memory to be read
abbrev pub HasItems : Result Statement Why → Type 0
HasItems (Ok (Begin (Task clauses))) = clauses.deps ≢ []
HasItems _ = ⊥

abbrev pub LineHasItems : Result (Option Statement) Why → Type 0
LineHasItems (Ok (Some statement)) = HasItems (Ok statement)
LineHasItems _ = ⊥

-- what a line does to the blocks around it, if it has a statement
abbrev pub line_nesting : Result (Option Statement) Why → Result (Option Nesting) Why
line_nesting (Ok said) = Ok (option_map nesting_of said)
line_nesting (Err why) = Err why

-- the innermost of the open blocks
abbrev pub innermost : List OpenBlock → Option OpenBlock
innermost [] = None
innermost (block ∷ blocks) = Some block

-- these are the open blocks behind what was passed, or it is told why it may not stand there
abbrev pub Nests : Result (Unit {0}) ScriptWhy → Result (List OpenBlock) ScriptWhy → List OpenBlock → Type 0
Nests (Ok done) found behind = found ≡ Ok behind
Nests (Err why) found behind = found ≡ Err why

-- the same of a line that is kept, unless memory is refused
abbrev pub Passes : Result (Unit {0}) Stop → Result (List OpenBlock) ScriptWhy → List OpenBlock → Type 0
Passes (Ok done) found behind = found ≡ Ok behind
Passes (Err (BadHere why)) found behind = found ≡ Err why
Passes (Err OutOfMemory) found behind = Unit {0}

-- the line has a statement, and these are the blocks around it still: memory was refused for it
abbrev pub IsRefused : Result (Option Statement) Why → List OpenBlock → List OpenBlock → Type 0
IsRefused (Ok (Some statement)) before behind = behind ≡ before
IsRefused _ before behind = ⊥

-- the same error of a line that is kept
abbrev pub stop_of : LineError → Stop
stop_of NoMemory = OutOfMemory
stop_of (Fault why) = BadHere (Words why)

-- What a function gives of a text

-- an error is that of the reading, or want of memory
abbrev pub Fails : {Y : Type 0} → ScriptError → Result Y BadScript → Type 0
Fails Memory read = Unit {0}
Fails (Bad bad) read = read ≡ Err bad

-- what is given, seen by `view`, is what reading gives, unless memory is refused
abbrev pub Gives : {X Y : Type 0} → (X → Y) → Result X ScriptError → Result Y BadScript → Type 0
Gives view (Ok value) read = read ≡ Ok (view value)
Gives view (Err error) read = Fails error read

-- there is a statement, and no bad line: only then does a script take memory
abbrev pub HasStatement : Result (AskedSize × List ScriptLine × List ℕ) BadScript → Type 0
HasStatement (Ok found) = found.1 ≢ []
HasStatement (Err bad) = ⊥

-- the same of the lines behind the first
abbrev pub HasLine : Result (List ScriptLine) BadScript → Type 0
HasLine (Ok lines) = lines ≢ []
HasLine (Err bad) = ⊥

-- whether there is a fault, and which
abbrev pub without_lines : Result (List ScriptLine) BadScript → Result (Unit {0}) BadScript
without_lines (Ok lines) = Ok tt
without_lines (Err bad) = Err bad

-- the error once memory was refused: the first bad line of those that are left, if one is bad
abbrev pub refused_by : Result (List ScriptLine) BadScript → ScriptError
refused_by (Ok lines) = Memory
refused_by (Err bad) = Bad bad

-- the statements of what is left of a text, by the number of its first line and the blocks that are open there
abbrev pub statements_left : ℕ → List OpenBlock → Option (List ℕ) → Result (List ScriptLine) BadScript
statements_left number blocks text = statements_from number blocks (lines_left text)
