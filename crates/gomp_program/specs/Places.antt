-- Where a member stands in its script. (own)
use Rattle.std.specs.Prelude.{ℕ, ◌≡◌, ◌+◌, ◌*◌, ◌-◌, ◌==◌, nat_lt, if◌then◌else◌, List, [], ◌∷◌, length, Option, Some, None, option_map, slice_get, take}
use Rattle.std.proofs.Common.{zero, suc}
use Rattle.gomp_types.specs.Limits.{shown_number}
use Rattle.gomp_region.specs.declared.script.Script.{Script}
use Rattle.gomp_region.specs.declared.script.ScriptLine.{ScriptLine}
use Rattle.gomp_region.specs.declared.statement.Nesting.{Nesting}
use Rattle.gomp_region.specs.declared.statement.Nesting.TheVariants.{Begins, Ends, Stands}
use Rattle.gomp_region.specs.declared.statement.Statement.{Statement}
use Rattle.gomp_region.specs.ScriptText.{nesting_of}
use Rattle.gomp_program.specs.declared.frame.Frame.{Frame}
use Rattle.gomp_program.specs.declared.frame.Iteration.{Iteration}
use Rattle.gomp_program.specs.declared.frame.Stage.{Stage}
use Rattle.gomp_program.specs.declared.frame.Stage.TheVariants.{Ending}
use Rattle.gomp_program.specs.declared.progress.Progress.{Progress}
use Rattle.gomp_program.specs.declared.replies.Sequel.{Sequel}
use Rattle.gomp_program.specs.declared.replies.Sequel.TheVariants.{ItsCall}

-- a member stands at a call of the construct or statement at a line, in an iteration, inside these blocks, the innermost last
pub record Place : Type 0 where
  pub line : ℕ
  pub stage : Stage
  pub iteration : Iteration
  pub frames : List Frame

abbrev pub place_in : Progress → Place
place_in progress = record { line = progress.line; stage = progress.stage; iteration = progress.iteration; frames = progress.frames.items }

-- the statement of the line with this index
abbrev pub statement_at : Script → ℕ → Option Statement
statement_at script line = option_map (λ (found : ScriptLine). found.statement) (slice_get script.lines.items line)

-- the index behind the end of a block, by the script's list of ends, and behind the line itself if none begins there
abbrev pub behind_end : ℕ → ℕ → Option ℕ → ℕ
behind_end count line (Some end) = if nat_lt line end then (if nat_lt end count then end + 1 else shown_number (line + 1)) else shown_number (line + 1)
behind_end count line None = shown_number (line + 1)

abbrev pub line_behind : Script → ℕ → ℕ
line_behind script line = behind_end (length script.lines.items) line (slice_get script.ends.items line)

-- the index behind a line
abbrev pub next_line : ℕ → ℕ
next_line line = shown_number (line + 1)

-- the innermost block, and those around it
abbrev pub innermost : List Frame → Option Frame
innermost frames = slice_get frames (length frames - 1)

abbrev pub outer_blocks : List Frame → List Frame
outer_blocks frames = take (length frames - 1) frames

-- what a member still passes over at most before its next call: all lines for each iteration that its chunk has, and the lines behind its own
abbrev pub lines_ahead : Script → Progress → ℕ
lines_ahead script progress = progress.iteration.left * (length script.lines.items + 1) + (length script.lines.items - progress.line)

-- it stands where it stood, in the same blocks
pub record StaysPut (old new : Progress) : Type 0 where
  pub line : new.line ≡ old.line
  pub stage : new.stage ≡ old.stage
  pub iteration : new.iteration ≡ old.iteration
  pub frames : new.frames.items ≡ old.frames.items

-- it stands where it stood, and next ends the construct there
abbrev pub StandsAtEnd : Sequel → Progress → Progress → Type 0
StandsAtEnd sequel old new = (sequel ≡ ItsCall) × (new.line ≡ old.line) × (new.stage ≡ Ending 0)

-- how many blocks stand directly in the block that these lines are in, so many others being open in it
abbrev pub blocks_then : ℕ → Nesting → (ℕ → ℕ) → ℕ
blocks_then zero (Begins word) later = later 1 + 1
blocks_then (suc depth) (Begins word) later = later (depth + 2)
blocks_then zero (Ends word) later = 0
blocks_then (suc depth) (Ends word) later = later depth
blocks_then depth Stands later = later depth

abbrev pub blocks_inside : ℕ → List ScriptLine → ℕ
blocks_inside depth [] = 0
blocks_inside depth (line ∷ lines) = blocks_then depth (nesting_of line.statement) (λ depth. blocks_inside depth lines)

-- the index of the line that begins the block with this number, from 1, of those that stand directly there
abbrev pub block_line_then : ℕ → ℕ → ℕ → Nesting → (ℕ → ℕ → Option ℕ) → Option ℕ
block_line_then number zero index (Begins word) later = if number == 1 then Some index else later (number - 1) 1
block_line_then number (suc depth) index (Begins word) later = later number (depth + 2)
block_line_then number zero index (Ends word) later = None
block_line_then number (suc depth) index (Ends word) later = later number depth
block_line_then number depth index Stands later = later number depth

abbrev pub block_line : ℕ → ℕ → ℕ → List ScriptLine → Option ℕ
block_line number depth index [] = None
block_line number depth index (line ∷ lines) = block_line_then number depth index (nesting_of line.statement) (λ number depth. block_line number depth (index + 1) lines)
