use Rattle.std.proofs.Common.{◌≡◌, ◌++◌, take}
use Rattle.gomp_trace.specs.Lanes.{all_at}
use Rattle.gomp_trace.proofs.lane.begin_again.Given as goal

-- those so far have begun again
abbrev pub invariant-loop-event : goal.invariant-loop-event
invariant-loop-event l = l.events.items ≡ l.fn.events.items ++ all_at l.time l.member (take l.event-index l.begun)
