use Rattle.std.proofs.Common.{◌-◌, ◌≤◌, max}
use Rattle.gomp_crew.proofs.crew.Crew.grow.Given as goal

abbrev pub invariant-loop-rt : goal.invariant-loop-rt
invariant-loop-rt g l = (l.fn.self ≤ l.self) × (l.self ≤ max l.fn.self l.size)

abbrev pub decreases-loop-rt : goal.decreases-loop-rt
decreases-loop-rt g l = l.size - l.self
