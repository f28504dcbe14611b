use Rattle.crossbeam_queue.specs.Passes.{view, IsPassOf}
use Rattle.gomp_crew.specs.Hands.{OnBusy}
use Rattle.gomp_crew.proofs.line.answer.Given as goal

abbrev pub invariant-loop : goal.invariant-loop
invariant-loop g l = IsPassOf l.line l.end × OnBusy (view l.end) (λ job. g.W.Work.kept job l.outcome)
