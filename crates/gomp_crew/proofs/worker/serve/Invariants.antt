use Rattle.std.proofs.Common.{◌≡◌}
use Rattle.crossbeam_queue.specs.Passes.{view, IsPassOf}
use Rattle.gomp_crew.specs.declared.line.Hand.TheVariants.{Idle}
use Rattle.gomp_crew.proofs.worker.serve.Given as goal

abbrev pub invariant-loop : goal.invariant-loop
invariant-loop g l = IsPassOf l.place.line l.end × (view l.end ≡ Idle)
