use Rattle.std.proofs.Common.{◌≡◌, replicate}
use Rattle.gomp_ompt.specs.Traces.{empty_trace}
use Rattle.gomp_ompt.proofs.trace.TraceTool.fork.Given as goal

-- so far each is empty
abbrev pub invariant-loop-member : goal.invariant-loop-member
invariant-loop-member l = l.tools.items ≡ replicate l._member empty_trace
