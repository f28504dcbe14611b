use Rattle.std.proofs.Common.{◌≡◌, length}
use Rattle.gomp_program.specs.Programs.{totals_of}
use Rattle.gomp_program.specs.Totals.{joined_total}
use Rattle.gomp_run.proofs.program.RegionProgramProgram.join.Given as goal

-- the sum so far, with the totals that are left, is all of them; nothing else changes
abbrev pub invariant-loop-left : goal.invariant-loop-left
invariant-loop-left l = record l.self { total = joined_total l.self.total (totals_of l.left) } ≡ record l.fn.self { total = joined_total l.fn.self.total (totals_of l.fn.children.items) }

abbrev pub decreases-loop-left : goal.decreases-loop-left
decreases-loop-left l = length l.left
