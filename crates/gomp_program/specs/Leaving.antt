-- How a member leaves what is cancelled. (own)
use Rattle.std.specs.Prelude.{ℕ, ◌≡◌, ◌≤◌, ◌+◌, ◌++◌, ◌⊎◌, Bool, true, false, if◌then◌else◌, min, List, [], ◌∷◌, length, Option, Some, None}
use Rattle.std.specs.List.{count_by, list_all, list_any}
use Rattle.gomp_types.specs.declared.cancel.CancelKind.{CancelKind}
use Rattle.gomp_types.specs.declared.cancel.CancelKind.TheVariants.{Parallel, Loop as CancelLoop, Sections as CancelSections, Taskgroup}
use Rattle.gomp_region.specs.declared.script.Script.{Script}
use Rattle.gomp_region.specs.declared.statement.BlockConstruct.TheVariants.{Critical, Group}
use Rattle.gomp_region.specs.declared.statement.Statement.{Statement}
use Rattle.gomp_region.specs.declared.statement.Statement.TheVariants.{Begin}
use Rattle.gomp_program.specs.declared.frame.Block.{Block}
use Rattle.gomp_program.specs.declared.frame.Block.TheVariants.{OfLoop, OfSections, Once, OfTask}
use Rattle.gomp_program.specs.declared.frame.Exit.{Exit}
use Rattle.gomp_program.specs.declared.frame.Exit.TheVariants.{FromRegion, FromConstruct}
use Rattle.gomp_program.specs.declared.frame.Frame.{Frame}
use Rattle.gomp_program.specs.declared.frame.Iteration.{Iteration}
use Rattle.gomp_program.specs.declared.frame.Stage.TheVariants.{Ending, Releasing, EndingRegion}
use Rattle.gomp_program.specs.Places.{Place, statement_at}

-- whether a block is executed once, is the body of a task, or one of a share
abbrev pub is_once : Block → Bool
is_once Once = true
is_once _ = false

abbrev pub is_task_body : Block → Bool
is_task_body (OfTask line stage) = true
is_task_body _ = false

abbrev pub is_of_share : Block → Block → Bool
is_of_share OfLoop OfLoop = true
is_of_share OfSections OfSections = true
is_of_share _ _ = false

-- whether a block is that of a group, or of a critical region
abbrev pub is_group : Option Statement → Bool
is_group (Some (Begin Group)) = true
is_group _ = false

abbrev pub is_critical : Option Statement → Bool
is_critical (Some (Begin (Critical name))) = true
is_critical _ = false

-- how many groups are open by these blocks
abbrev pub groups_in : Script → List Frame → ℕ
groups_in script frames = count_by (λ (frame : Frame). is_group (statement_at script frame.line)) frames

-- out of the region, by the blocks that a member is in; not inside a task
abbrev pub region_exit : List Frame → Option Exit
region_exit frames = if list_any (λ (frame : Frame). is_task_body frame.block) frames then None else Some FromRegion

-- out of the share in whose block a member is, with no other share or task inside of that; so many blocks are around these
abbrev pub share_exit : Script → Block → ℕ → List Frame → Option Exit
share_exit script share around [] = None
share_exit script share around (frame ∷ inner) =
    if is_of_share share frame.block
    then (if list_all (λ (other : Frame). is_once other.block) inner then Some (FromConstruct frame.line around (groups_in script (frame ∷ inner))) else share_exit script share (around + 1) inner)
    else share_exit script share (around + 1) inner

-- out of the innermost task whose body a member is in; so many blocks are around these
abbrev pub task_exit : ℕ → List Frame → Option Exit
task_exit around [] = None
task_exit around (frame ∷ inner) =
    if is_task_body frame.block
    then (if list_any (λ (other : Frame). is_task_body other.block) inner then task_exit (around + 1) inner else Some (FromConstruct frame.line (around + 1) 0))
    else task_exit (around + 1) inner

-- out of what a construct of this kind cancels
abbrev pub exit_of : Script → List Frame → CancelKind → Option Exit
exit_of script frames Parallel = region_exit frames
exit_of script frames CancelLoop = share_exit script OfLoop 0 frames
exit_of script frames CancelSections = share_exit script OfSections 0 frames
exit_of script frames Taskgroup = task_exit 0 frames

-- how many blocks stay
abbrev pub kept_in_block : Exit → ℕ
kept_in_block FromRegion = 0
kept_in_block (FromConstruct line keep groups) = keep

-- none of these blocks is critical
abbrev pub NoneCritical : Script → List Frame → Type 0
NoneCritical script [] = Unit {0}
NoneCritical script (frame ∷ inner) = (is_critical (statement_at script frame.line) ≡ false) × NoneCritical script inner

-- the iteration around the outermost of these blocks
abbrev pub iteration_around : Iteration → List Frame → Iteration
iteration_around iteration [] = iteration
iteration_around iteration (frame ∷ inner) = frame.around

-- the end of what is left: the region is ended, or the share or task
abbrev pub StandsBehindExit : Exit → ℕ → Place → Type 0
StandsBehindExit FromRegion line new = (new.line ≡ line) × (new.stage ≡ EndingRegion)
StandsBehindExit (FromConstruct line keep groups) _ new = (new.line ≡ line) × (new.stage ≡ Ending groups)

-- it releases the name of the innermost critical region that it leaves, and is then outside of that
pub record ReleasesName (script : Script) (exit : Exit) (old new : Place) : Type 0 where
  pub critical : Frame
  pub inner : List Frame
  pub blocks : old.frames ≡ new.frames ++ critical ∷ inner
  pub left : kept_in_block exit ≤ length new.frames
  pub named : is_critical (statement_at script critical.line) ≡ true
  pub innermost : NoneCritical script inner
  pub line : new.line ≡ critical.line
  pub stage : new.stage ≡ Releasing exit
  pub iteration : new.iteration ≡ critical.around

-- or leaves all blocks that do not stay, none of which is critical, and ends what it has left
pub record LeavesBlocks (script : Script) (exit : Exit) (old new : Place) : Type 0 where
  pub inner : List Frame
  pub blocks : old.frames ≡ new.frames ++ inner
  pub stay : length new.frames ≡ min (kept_in_block exit) (length old.frames)
  pub unnamed : NoneCritical script inner
  pub place : StandsBehindExit exit old.line new
  pub iteration : new.iteration ≡ iteration_around old.iteration inner

abbrev pub LeavesBlock : Script → Exit → Place → Place → Type 0
LeavesBlock script exit old new = ReleasesName script exit old new ⊎ LeavesBlocks script exit old new
