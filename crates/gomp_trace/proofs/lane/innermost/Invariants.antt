use Rattle.std.proofs.Common.{◌≡◌, ◌≤◌, length, drop}
use Rattle.std.specs.Prelude.{None}
use Rattle.gomp_trace.specs.Lanes.{innermost}
use Rattle.gomp_trace.proofs.lane.innermost.Given as goal

-- none of those further in is ended
abbrev pub invariant-loop-left : goal.invariant-loop-left
invariant-loop-left l = record { within : l.left ≤ length l.begun; none : innermost l.end (drop l.left l.begun) ≡ None }

abbrev pub decreases-loop-left : goal.decreases-loop-left
decreases-loop-left l = l.left
