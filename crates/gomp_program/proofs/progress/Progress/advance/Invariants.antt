use Rattle.std.proofs.Common.{ℤ}
use Rattle.gomp_program.specs.Passing.{ComesTo, point_in}
use Rattle.gomp_program.specs.Places.{Place, lines_ahead}
use Rattle.gomp_program.proofs.progress.Progress.advance.Given as goal

-- whatever call it comes to from here, it has come to from its start
abbrev pub invariant-loop : goal.invariant-loop
invariant-loop l = (place : Place) (sum : ℤ) → ComesTo l.script l.member (point_in l.self l.total) place sum → ComesTo l.script l.member (point_in l.fn.self l.fn.total) place sum

abbrev pub decreases-loop : goal.decreases-loop
decreases-loop l = lines_ahead l.script l.self
