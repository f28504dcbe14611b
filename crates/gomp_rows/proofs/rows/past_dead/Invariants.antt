use Rattle.std.proofs.Common.{◌-◌, length}
use Rattle.gomp_rows.specs.Table.{StartsDead}
use Rattle.gomp_rows.proofs.rows.past_dead.Given as goal

-- so many keys are 0
abbrev pub invariant-loop-dead : goal.invariant-loop-dead
invariant-loop-dead l = StartsDead l.dead l.keys.items

abbrev pub decreases-loop-dead : goal.decreases-loop-dead
decreases-loop-dead l = length l.keys.items - l.dead
