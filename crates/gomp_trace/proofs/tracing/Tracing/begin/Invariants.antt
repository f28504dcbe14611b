use Rattle.std.proofs.Common.{◌≡◌, length}
use Rattle.gomp_trace.specs.Runs.{begun}
use Rattle.gomp_trace.proofs.tracing.Tracing.begin.Given as goal

-- the implicit tasks of the members so far have begun
abbrev pub invariant-loop-member : goal.invariant-loop-member
invariant-loop-member l = record { traced : l.tracing ≡ begun l.members l.member; lanes : length l.tracing.lanes ≡ l.members }
