use Rattle.std.proofs.Common.{◌≡◌, length}
use Rattle.gomp_program.specs.Programs.{totals_of}
use Rattle.gomp_program.specs.Totals.{joined_total}
use Rattle.gomp_program.proofs.program.ScriptProgram.join.Given as goal

-- the sum so far, with the totals that are left, is all of them; nothing else changes
abbrev pub invariant-loop-rest : goal.invariant-loop-rest
invariant-loop-rest l = record l.self { total = joined_total l.self.total (totals_of l.rest) } ≡ record l.fn.self { total = joined_total l.fn.self.total (totals_of l.fn.children.items) }

abbrev pub decreases-loop-rest : goal.decreases-loop-rest
decreases-loop-rest l = length l.rest
