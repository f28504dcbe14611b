use Rattle.gomp_ompt.proofs.TraceSteps.{takes_one_more}
use Rattle.gomp_ompt.proofs.trace.TraceTool.join.Goals as goal

pub loop-child-preserved : goal.loop-child-preserved
loop-child-preserved c = takes_one_more _ _ _ _ _ c.loop-child.invariant c.take.ensures
