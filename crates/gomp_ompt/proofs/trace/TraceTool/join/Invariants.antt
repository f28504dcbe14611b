use Rattle.gomp_ompt.specs.Traces.{TakesTraces}
use Rattle.gomp_ompt.proofs.trace.TraceTool.join.Given as goal

-- the records of those so far are taken
abbrev pub invariant-loop-child : goal.invariant-loop-child
invariant-loop-child l = TakesTraces l.initial.self l.yielded l.self
