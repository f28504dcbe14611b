-- Where a member stands in its script and where it is led into a block, of every place, line and script.
use Rattle.std.proofs.Common.{◌≡◌, ◌≢◌, ◌<◌, ℕ, ◌+◌, ◌*◌, zero, suc, Bool, true, false, List, [], ◌∷◌, ◌++◌, Option, Some, None, length, refl, arith}
use Rattle.std.specs.Prelude.{ℤ, ◌-◌, ◌^◌, ◌==◌, drop, take, option_map, slice_get}
use Rattle.std.specs.Int.{cast_signed, w64}
use Rattle.std.specs.List.{position_from}
use Rattle.std.proofs.lemmas.Bool.{ne_eqb}
use Rattle.gomp_types.specs.Limits.{shown_number}
use Rattle.gomp_region.specs.declared.script.Script.{Script}
use Rattle.gomp_region.specs.declared.script.ScriptLine.{ScriptLine}
use Rattle.gomp_region.specs.declared.statement.EndWord.{EndWord}
use Rattle.gomp_region.specs.declared.statement.Nesting.TheVariants.{Begins, Ends, Stands}
use Rattle.gomp_region.specs.ScriptText.{nesting_of}
use Rattle.gomp_program.specs.declared.frame.Block.{Block}
use Rattle.gomp_program.specs.declared.frame.Block.TheVariants as block
use Rattle.gomp_program.specs.declared.frame.Exit.{Exit}
use Rattle.gomp_program.specs.declared.frame.Frame.{Frame}
use Rattle.gomp_program.specs.declared.frame.Iteration.{Iteration}
use Rattle.gomp_program.specs.declared.frame.Stage.{Stage}
use Rattle.gomp_program.specs.declared.frame.Stage.TheVariants as stage
use Rattle.gomp_program.specs.declared.progress.Progress.{Progress}
use Rattle.gomp_program.specs.Places.{Place, place_in, statement_at, behind_end, line_behind, next_line, innermost, outer_blocks, lines_ahead, blocks_then, blocks_inside, block_line_then, block_line}
use Rattle.gomp_program.specs.Moves.{Executes, Calls, Leaving, Resumes, Stops, behind_line, behind_block, into, into_once, into_chunk, into_section, into_task, into_found, to_end, behind_groups, out_of, back_to, out_of_task, behind_task, behind_section, line_numbered}

-- Places

-- a place is where the member stands, in all its parts
pub place_is_where_a_member_stands : (progress : Progress) → ((place_in progress).line ≡ progress.line) × ((place_in progress).stage ≡ progress.stage) × ((place_in progress).iteration ≡ progress.iteration) × ((place_in progress).frames ≡ progress.frames.items)
place_is_where_a_member_stands progress = (refl, refl, refl, refl)

-- at a line stands that line's own statement, and none at a line that the script has not
pub statement_is_that_of_its_line : (script : Script) (line : ℕ) → statement_at script line ≡ option_map (λ (found : ScriptLine). found.statement) (slice_get script.lines.items line)
statement_is_that_of_its_line script line = refl

-- the next line has the next number, as far as numbers go
pub next_line_is_one_further : (line : ℕ) → next_line line ≡ shown_number (line + 1)
next_line_is_one_further line = refl

pub next_line_has_the_next_number : (line : ℕ) → line + 1 < 2 ^ 64 → next_line line ≡ line + 1
next_line_has_the_next_number line few = omega (arith, few)

pub next_line_of_each_line : (line : ℕ) → (next_line zero ≡ 1) × (next_line (suc line) ≡ shown_number (suc line + 1))
next_line_of_each_line line = (refl, refl)

pub line_behind_is_told_by_the_ends : (script : Script) (line : ℕ) → line_behind script line ≡ behind_end (length script.lines.items) line (slice_get script.ends.items line)
line_behind_is_told_by_the_ends script line = refl

-- the innermost block is the last, and those around it all before it
pub innermost_block_is_the_last : (frames : List Frame) → (innermost frames ≡ slice_get frames (length frames - 1)) × (outer_blocks frames ≡ take (length frames - 1) frames)
innermost_block_is_the_last frames = (refl, refl)

-- all lines are ahead for each iteration that is left, and those behind its own
pub lines_ahead_are_counted : (script : Script) (progress : Progress) → lines_ahead script progress ≡ progress.iteration.left * (length script.lines.items + 1) + (length script.lines.items - progress.line)
lines_ahead_are_counted script progress = refl

-- Blocks of a block

-- one that begins directly there counts, and what stands in it does not
pub blocks_that_begin_there_count : (depth : ℕ) (word : EndWord) (later : ℕ → ℕ) → (blocks_then zero (Begins word) later ≡ later 1 + 1) × (blocks_then (suc depth) (Begins word) later ≡ later (depth + 2))
blocks_that_begin_there_count depth word later = (refl, refl)

pub blocks_end_with_theirs : (depth : ℕ) (word : EndWord) (later : ℕ → ℕ) → (blocks_then zero (Ends word) later ≡ 0) × (blocks_then (suc depth) (Ends word) later ≡ later depth)
blocks_end_with_theirs depth word later = (refl, refl)

pub lines_without_a_block_do_not_count : (depth : ℕ) (later : ℕ → ℕ) → (blocks_then zero Stands later ≡ later zero) × (blocks_then (suc depth) Stands later ≡ later (suc depth))
lines_without_a_block_do_not_count depth later = (refl, refl)

pub blocks_are_counted_line_by_line : (depth : ℕ) (line : ScriptLine) (lines : List ScriptLine) → (blocks_inside depth [] ≡ 0) × (blocks_inside depth (line ∷ lines) ≡ blocks_then depth (nesting_of line.statement) (λ depth. blocks_inside depth lines))
blocks_are_counted_line_by_line depth line lines = (refl, refl)

-- a block is found by its number among those that begin directly there
pub block_is_found_by_its_number : (number index depth : ℕ) (word : EndWord) (later : ℕ → ℕ → Option ℕ) →
    (block_line_then 1 zero index (Begins word) later ≡ Some index) × (number ≢ 1 → block_line_then number zero index (Begins word) later ≡ later (number - 1) 1) × (block_line_then number (suc depth) index (Begins word) later ≡ later number (depth + 2))
block_is_found_by_its_number number index depth word later = (refl, λ other. rw (ne_eqb number 1 other) refl, refl)

pub no_block_is_found_behind_the_end : (number index depth : ℕ) (word : EndWord) (later : ℕ → ℕ → Option ℕ) → (block_line_then number zero index (Ends word) later ≡ None) × (block_line_then number (suc depth) index (Ends word) later ≡ later number depth)
no_block_is_found_behind_the_end number index depth word later = (refl, refl)

pub no_block_is_found_at_another_line : (number index depth : ℕ) (later : ℕ → ℕ → Option ℕ) → (block_line_then number zero index Stands later ≡ later number zero) × (block_line_then number (suc depth) index Stands later ≡ later number (suc depth))
no_block_is_found_at_another_line number index depth later = (refl, refl)

pub block_is_found_line_by_line : (number depth index : ℕ) (line : ScriptLine) (lines : List ScriptLine) → (block_line number depth index [] ≡ None) × (block_line number depth index (line ∷ lines) ≡ block_line_then number depth index (nesting_of line.statement) (λ number depth. block_line number depth (index + 1) lines))
block_is_found_line_by_line number depth index line lines = (refl, refl)

-- Moves

-- behind its line or its block a member goes on in its iteration and its blocks
pub member_goes_on_behind_its_line : (script : Script) (place : Place) → (behind_line place ≡ Executes (next_line place.line) place.iteration place.frames) × (behind_block script place ≡ Executes (line_behind script place.line) place.iteration place.frames)
member_goes_on_behind_its_line script place = (refl, refl)

-- in a block it executes the lines behind the first, and the block is the innermost; it keeps the iteration around it
pub block_is_entered_behind_its_line : (line before : ℕ) (entered : Block) (iteration : Iteration) (place : Place) → into line entered iteration before place ≡ Executes (next_line before) iteration (place.frames ++ record { line = line; block = entered; around = place.iteration } ∷ [])
block_is_entered_behind_its_line line before entered iteration place = refl

-- a block that is executed once is that of its own line, in the iteration around it
pub block_is_entered_once : (place : Place) → into_once place ≡ into place.line block.Once place.iteration place.line place
block_is_entered_once place = refl

pub block_entered_once_is_innermost : (place : Place) → into_once place ≡ Executes (next_line place.line) place.iteration (place.frames ++ record { line = place.line; block = block.Once; around = place.iteration } ∷ [])
block_entered_once_is_innermost place = refl

-- a chunk is entered with its first iteration, the others being left
pub chunk_is_entered_with_its_first : (first : ℤ) (later : ℕ) (place : Place) → (into_chunk first zero place ≡ Stops) × (into_chunk first (suc later) place ≡ into place.line block.OfLoop (record { value = first; left = later }) place.line place)
chunk_is_entered_with_its_first first later place = (refl, refl)

-- a section behind its own line, if there is one
pub section_is_entered_behind_its_line : (section : ℕ) (place : Place) → (into_section (Some section) place ≡ into place.line block.OfSections place.iteration section place) × (into_section None place ≡ Stops)
section_is_entered_behind_its_line section place = (refl, refl)

pub section_is_found_by_its_number : (script : Script) (number : ℕ) (place : Place) → (behind_section script 0 place ≡ to_end place) × (number ≢ 0 → behind_section script number place ≡ into_section (block_line number 0 (place.line + 1) (drop (place.line + 1) script.lines.items)) place)
section_is_found_by_its_number script number place = (refl, λ some. rw (ne_eqb number 0 some) refl)

-- a task behind its own line, in the iteration that it was created in
pub task_is_entered_behind_its_line : (line arg : ℕ) (place : Place) → into_task line arg place ≡ into line (block.OfTask place.line place.stage) (record { value = cast_signed w64 arg; left = 0 }) line place
task_is_entered_behind_its_line line arg place = refl

pub handed_task_is_entered_if_found : (line arg : ℕ) (place : Place) → (into_found (Some line) arg place ≡ into_task line arg place) × (into_found None arg place ≡ Stops)
handed_task_is_entered_if_found line arg place = (refl, refl)

-- it is the first line with this number
pub handed_task_is_found_by_its_number : (script : Script) (number : ℕ) → line_numbered script number ≡ position_from (λ (line : ScriptLine). line.number == number) 0 script.lines.items
handed_task_is_found_by_its_number script number = refl

-- at its end a member makes the call that ends the construct, and nothing else of its place changes
pub end_is_called_where_it_stands : (place : Place) → to_end place ≡ Calls (record { line = place.line; stage = stage.Ending 0; iteration = place.iteration; frames = place.frames })
end_is_called_where_it_stands place = refl

-- groups are ended one by one, and then the block
pub groups_are_ended_one_by_one : (script : Script) (later : ℕ) (place : Place) → (behind_groups script zero place ≡ behind_block script place) × (behind_groups script (suc later) place ≡ Calls (record { line = place.line; stage = stage.EndingGroup later; iteration = place.iteration; frames = place.frames }))
groups_are_ended_one_by_one script later place = (refl, refl)

-- a member leaves by its exit, if it has one
pub member_leaves_by_its_exit : (script : Script) (exit : Exit) → (out_of script (Some exit) ≡ Leaving script exit) × (out_of script None ≡ Stops)
member_leaves_by_its_exit script exit = (refl, refl)

-- behind a task it asks about its call again, or goes on behind the block of the task
pub member_goes_back_to_its_wait : (script : Script) (place : Place) → (back_to script true place ≡ Resumes place) × (back_to script false place ≡ behind_block script place)
member_goes_back_to_its_wait script place = (refl, refl)

-- it comes out of the block of a task alone
pub member_comes_out_of_a_task : (script : Script) (waiting : Bool) (outer : List Frame) (around : Iteration) (line : ℕ) (at : Stage) →
    out_of_task script waiting outer around (block.OfTask line at) ≡ back_to script waiting (record { line = line; stage = at; iteration = around; frames = outer })
member_comes_out_of_a_task script waiting outer around line at = refl

pub member_comes_out_of_no_other_block : (script : Script) (waiting : Bool) (outer : List Frame) (around : Iteration) (entered : Block) → ((line : ℕ) (at : Stage) → entered ≢ block.OfTask line at) → out_of_task script waiting outer around entered ≡ Stops
member_comes_out_of_no_other_block script waiting outer around (block.OfTask line at) other = absurd (other line at refl)
member_comes_out_of_no_other_block script waiting outer around _ other = refl

pub task_is_left_by_its_block : (script : Script) (waiting : Bool) (outer : List Frame) (frame : Frame) → (behind_task script waiting outer (Some frame) ≡ out_of_task script waiting outer frame.around frame.block) × (behind_task script waiting outer None ≡ Stops)
task_is_left_by_its_block script waiting outer frame = (refl, refl)
