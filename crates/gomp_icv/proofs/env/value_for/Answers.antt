use Rattle.std.proofs.Common.{rules}
use Rattle.gomp_icv.proofs.env.value_for.Goals as goal

pub returns-clause-value : goal.returns-clause-value
returns-clause-value c = search rules

pub returns-clause-range : goal.returns-clause-range
returns-clause-range c = search rules
