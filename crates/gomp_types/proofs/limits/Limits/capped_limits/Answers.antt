use Rattle.std.proofs.Common.{rules}
use Rattle.gomp_types.proofs.limits.Limits.capped_limits.Goals as goal

pub returns : goal.returns
returns c = search rules
