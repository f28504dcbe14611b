use Rattle.std.proofs.Common.{rules}
use Rattle.gomp_icv.proofs.values.schedule_chosen.Goals as goal

pub returns-then-is_named-4-clause-value : goal.returns-then-is_named-4-clause-value
returns-then-is_named-4-clause-value c = search rules
