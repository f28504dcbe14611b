use Rattle.std.proofs.Common.{◌≡◌, ◌++◌, drop}
use Rattle.gomp_trace.specs.Runs.{lane_ends, closed}
use Rattle.gomp_trace.proofs.tracing.Tracing.finish.Given as goal

-- with the ends on the lanes that are left the trace is closed
abbrev pub invariant-loop-member : goal.invariant-loop-member
invariant-loop-member l = l.events.items ++ lane_ends l.time l.member (drop l.member l.lane-items) ≡ closed l.time l.fn.self
