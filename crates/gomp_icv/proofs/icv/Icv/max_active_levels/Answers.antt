use Rattle.std.proofs.Common.{rules}
use Rattle.gomp_icv.proofs.icv.Icv.max_active_levels.Goals as goal

pub returns-clause-levels : goal.returns-clause-levels
returns-clause-levels c = search rules
