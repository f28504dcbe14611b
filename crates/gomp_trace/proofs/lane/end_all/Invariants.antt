use Rattle.std.proofs.Common.{◌≡◌, ◌≤◌, ◌++◌, length, drop}
use Rattle.gomp_trace.specs.Lanes.{all_at, all_ended}
use Rattle.gomp_trace.proofs.lane.end_all.Given as goal

-- those further in have ended
abbrev pub invariant-loop-left : goal.invariant-loop-left
invariant-loop-left l = record { within : l.left ≤ length l.begun; written : l.events.items ≡ l.fn.events.items ++ all_at l.time l.member (all_ended (drop l.left l.begun)) }

abbrev pub decreases-loop-left : goal.decreases-loop-left
decreases-loop-left l = l.left
