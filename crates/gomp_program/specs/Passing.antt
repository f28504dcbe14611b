-- What a member executes between two calls, and at which call it then stands. (own)
use Rattle.std.specs.Prelude.{ℕ, ℤ, ◌≡◌, ◌==◌, if◌then◌else◌, List, Option, Some, None}
use Rattle.std.specs.Int.{int_wrapping_add, w64}
use Rattle.std.proofs.Common.{suc}
use Rattle.gomp_region.specs.declared.script.Script.{Script}
use Rattle.gomp_region.specs.declared.statement.Addend.{Addend}
use Rattle.gomp_region.specs.declared.statement.Addend.TheVariants.{Number, Iteration as OfIteration}
use Rattle.gomp_region.specs.declared.statement.BlockConstruct.TheVariants.{Loop, Section, Copy, Only}
use Rattle.gomp_region.specs.declared.statement.EndWord.TheVariants.{EndFor, EndOnly}
use Rattle.gomp_region.specs.declared.statement.Statement.{Statement}
use Rattle.gomp_region.specs.declared.statement.Statement.TheVariants.{Begin, End, Add}
use Rattle.gomp_program.specs.declared.frame.Block.{Block}
use Rattle.gomp_program.specs.declared.frame.Block.TheVariants.{OfLoop, OfSections, Once, OfTask}
use Rattle.gomp_program.specs.declared.frame.Frame.{Frame}
use Rattle.gomp_program.specs.declared.frame.Iteration.{Iteration}
use Rattle.gomp_program.specs.declared.frame.Stage.{Stage}
use Rattle.gomp_program.specs.declared.frame.Stage.TheVariants.{Starting, Continuing, Putting, Ending, EndingRegion}
use Rattle.gomp_program.specs.declared.progress.Progress.{Progress}
use Rattle.gomp_program.specs.Places.{Place, innermost, line_behind, next_line, outer_blocks, statement_at}
use Rattle.gomp_program.specs.Totals.{plus_number}

-- before the statement at a line, in an iteration, inside these blocks, with this total
pub record Point : Type 0 where
  pub line : ℕ
  pub iteration : Iteration
  pub frames : List Frame
  pub total : ℤ

abbrev pub point_in : Progress → ℤ → Point
point_in progress total = record { line = progress.line; iteration = progress.iteration; frames = progress.frames.items; total = total }

-- what an `add` adds
abbrev pub addend_in : Iteration → Addend → ℤ
addend_in iteration (Number number) = number
addend_in iteration OfIteration = iteration.value

-- at the end of an iteration, the first statement of the next one of the chunk, if it has one
abbrev pub later_iteration : Point → Frame → Block → Option Statement → ℕ → Option Point
later_iteration point frame OfLoop (Some (Begin (Loop desc))) (suc later) =
    Some (record point { line = next_line frame.line; iteration = record { value = int_wrapping_add w64 point.iteration.value desc.incr; left = later } })
later_iteration point frame _ _ _ = None

abbrev pub next_iteration : Script → Point → Option Frame → Option Point
next_iteration script point (Some frame) = later_iteration point frame frame.block (statement_at script frame.line) point.iteration.left
next_iteration script point None = None

-- behind the statement at a point, if it makes no call: an `add`, the block of one member, a section that no reply has begun, the end of an iteration
abbrev pub behind_statement : Script → ℕ → Point → Option Statement → Option Point
behind_statement script member point (Some (Add addend)) = Some (record point { line = next_line point.line; total = plus_number point.total (addend_in point.iteration addend) })
behind_statement script member point (Some (Begin (Only number))) = Some (record point { line = if number == member then next_line point.line else line_behind script point.line })
behind_statement script member point (Some (Begin Section)) = Some (record point { line = line_behind script point.line })
behind_statement script member point (Some (End EndOnly)) = Some (record point { line = next_line point.line })
behind_statement script member point (Some (End EndFor)) = next_iteration script point (innermost point.frames)
behind_statement script member point _ = None

abbrev pub behind_point : Script → ℕ → Point → Option Point
behind_point script member point = behind_statement script member point (statement_at script point.line)

-- the call behind the block of a construct which is executed once
abbrev pub stage_behind : Option Statement → Stage
stage_behind (Some (Begin (Copy number))) = Putting
stage_behind _ = Ending 0

-- at the end of a block: the call behind it, outside of it; a task's body is left once its end is answered
abbrev pub behind_innermost : Script → Point → Frame → Block → Place
behind_innermost script point frame (OfTask line stage) = record { line = frame.line; stage = Ending 0; iteration = point.iteration; frames = point.frames }
behind_innermost script point frame OfLoop = record { line = frame.line; stage = Continuing; iteration = frame.around; frames = outer_blocks point.frames }
behind_innermost script point frame OfSections = record { line = frame.line; stage = Continuing; iteration = frame.around; frames = outer_blocks point.frames }
behind_innermost script point frame Once = record { line = frame.line; stage = stage_behind (statement_at script frame.line); iteration = frame.around; frames = outer_blocks point.frames }

-- the place of a point at this call
abbrev pub standing_at : Point → Stage → Place
standing_at point stage = record { line = point.line; stage = stage; iteration = point.iteration; frames = point.frames }

abbrev pub at_block_end : Script → Point → Option Frame → Place
at_block_end script point (Some frame) = behind_innermost script point frame frame.block
at_block_end script point None = standing_at point EndingRegion

-- the call at which a member stands that has come to this statement
abbrev pub call_place : Script → Point → Option Statement → Place
call_place script point (Some (End word)) = at_block_end script point (innermost point.frames)
call_place script point (Some statement) = standing_at point Starting
call_place script point None = standing_at point EndingRegion

abbrev pub place_at : Script → Point → Place
place_at script point = call_place script point (statement_at script point.line)

-- from a point a member comes to a call, with this total: it executes each statement on the way that makes no call, in their order, and no other
pub data ComesTo (script : Script) (member : ℕ) : Point → Place → ℤ → Type 0 where
  arrives : (point : Point) → behind_point script member point ≡ None → ComesTo script member point (place_at script point) point.total
  executes : (point next : Point) (place : Place) (total : ℤ) → behind_point script member point ≡ Some next → ComesTo script member next place total → ComesTo script member point place total
