use Rattle.std.proofs.Common.{length}
use Rattle.gomp_depend.specs.Tables.{line_at}
use Rattle.gomp_depend.proofs.Freeing.{FreesSoFar}
use Rattle.gomp_depend.proofs.depends.free_all.Given as goal

abbrev pub invariant-loop-task : goal.invariant-loop-task
invariant-loop-task l = FreesSoFar l.parent l.addr l.initial.lines l.initial.rows l.lines l.rows

abbrev pub decreases-loop-task : goal.decreases-loop-task
decreases-loop-task l = length (line_at l.parent l.addr l.lines).waiting
