-- The levels of parallel regions, and what comes of a region that a member of each forks. (own; OpenMP API 5.2, sections 10.1 and 10.1.1)
use Rattle.std.specs.Prelude.{ℕ, ◌≡◌, List, Result}
use Rattle.gomp_types.specs.declared.refusal.Refusal.TheVariants.{TooManyLevels}
use Rattle.gomp_types.specs.declared.reply.Reply.TheVariants.{Refused}
use Rattle.gomp_ompt.specs.declared.tool.Tool.{Ghosts as ToolGhosts}
use Rattle.gomp_team.specs.Members.{TeamView}
use Rattle.gomp_course.specs.declared.program.Program.{Ghosts as ProgramGhosts}
use Rattle.gomp_fork.specs.declared.report.Report.{Report}
use Rattle.gomp_fork.specs.declared.report.RegionFault.{RegionFault}
use Rattle.gomp_fork.specs.Counts.{HoldCounts}
use Rattle.gomp_fork.specs.Reports.{LeavesAll, LeavesRegion}
use Rattle.gomp_fork.specs.Teams.{ForksRelation}
use Rattle.gomp_nested.specs.Nested.{ForksWithin}

-- within the last level none is served: one that no test of each call refuses is TooManyLevels, and its member as it was
abbrev pub NoneForked : {P T : Type 0} → ForksRelation P T
NoneForked asked before reply after = (reply ≡ Refused TooManyLevels) × (after ≡ before)

-- within the regions of the third level lie those of the fourth, which is the last; so it goes on to the first, in whose regions three levels lie
abbrev pub ForksOne : {P T : Type 0} → ProgramGhosts P → ToolGhosts T → ForksRelation P T
ForksOne program tool = ForksWithin program tool NoneForked

abbrev pub ForksTwo : {P T : Type 0} → ProgramGhosts P → ToolGhosts T → ForksRelation P T
ForksTwo program tool = ForksWithin program tool (ForksOne program tool)

-- what comes of the regions that a member of an outermost one forks
abbrev pub Forks : {P T : Type 0} → ProgramGhosts P → ToolGhosts T → ForksRelation P T
Forks program tool = ForksWithin program tool (ForksTwo program tool)

-- what an outermost region leaves whose team has n members, of these programs and tools
abbrev pub LeavesForked : {P T : Type 0} → ProgramGhosts P → ToolGhosts T → ℕ → TeamView → List P × List T → Result (Report P T) (RegionFault P T) → Type 0
LeavesForked program tool n team forked result = LeavesRegion program tool (Forks program tool) n team forked.0 forked.1 result

-- the same of one with a member for each of its programs, and what is counted on the parts of the book's ledgers before it and behind it
abbrev pub LeavesOutermost : {P T : Type 0} → ProgramGhosts P → ToolGhosts T → TeamView × List P × List T → HoldCounts × HoldCounts → Result (Report P T) (RegionFault P T) → Type 0
LeavesOutermost program tool forked counts result = LeavesAll program tool (Forks program tool) forked counts result
