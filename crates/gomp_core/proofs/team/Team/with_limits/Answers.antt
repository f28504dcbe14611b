use Rattle.std.proofs.Common.{[]}
use Rattle.gomp_core.proofs.LocksStand.{begins_empty}
use Rattle.gomp_core.proofs.team.Team.with_limits.Goals as goal

pub returns-clause-stands : goal.returns-clause-stands
returns-clause-stands g c = c.new_checked.ensures.stands [] (begins_empty _ _ c.new.ensures.names c.new.ensures.locks)

pub new_checked-requires-clause-known : goal.new_checked-requires-clause-known
new_checked-requires-clause-known g c = λ size. ([], begins_empty _ _ c.new.ensures.names c.new.ensures.locks)
