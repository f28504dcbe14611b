use Rattle.std.proofs.Common.{rules}
use Rattle.gomp_barrier.proofs.barriers.differs.Goals as goal

pub returns-in-Some : goal.returns-in-Some
returns-in-Some c = search rules
