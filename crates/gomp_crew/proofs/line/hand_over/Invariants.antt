use Rattle.std.proofs.Common.{◌≡◌}
use Rattle.crossbeam_queue.specs.Passes.{view, IsPassOf}
use Rattle.gomp_crew.specs.declared.line.Hand.TheVariants.{Free}
use Rattle.gomp_crew.proofs.line.hand_over.Given as goal

abbrev pub invariant-loop : goal.invariant-loop
invariant-loop g l = IsPassOf l.line l.end × (view l.end ≡ Free) × (l.job ≡ l.fn.job)
