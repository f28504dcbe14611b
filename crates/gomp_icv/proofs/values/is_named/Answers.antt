use Rattle.std.proofs.Common.{rules}
use Rattle.gomp_icv.proofs.values.is_named.Goals as goal

pub returns : goal.returns
returns c = search rules
