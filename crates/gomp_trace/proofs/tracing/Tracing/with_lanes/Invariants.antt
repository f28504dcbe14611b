use Rattle.std.proofs.Common.{◌≡◌, ◌≤◌, List, [], replicate}
use Rattle.std.specs.Vec.{vec_capacity}
use Rattle.gomp_ompt.specs.declared.record.Record.{Record}
use Rattle.gomp_trace.proofs.tracing.Tracing.with_lanes.Given as goal

-- nothing has begun on the lanes so far
abbrev pub invariant-loop : goal.invariant-loop
invariant-loop l = record { idle : l.lanes.items ≡ replicate {A = List Record} l.counter []; room : l.fn.members ≤ vec_capacity l.lanes }
