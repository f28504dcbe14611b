use Rattle.std.proofs.Common.{◌≡◌, length, pos}
use Rattle.gomp_program.specs.Programs.{totals_of}
use Rattle.gomp_program.specs.Totals.{joined_total}
use Rattle.gomp_run.proofs.answer.total_of.Given as goal

-- the sum so far, with the totals that are left, is all of them
abbrev pub invariant-loop-rest : goal.invariant-loop-rest
invariant-loop-rest l = joined_total l.total (totals_of l.rest) ≡ joined_total (pos 0) (totals_of l.fn.programs)

abbrev pub decreases-loop-rest : goal.decreases-loop-rest
decreases-loop-rest l = length l.rest
