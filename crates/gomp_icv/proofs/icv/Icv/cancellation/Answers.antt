use Rattle.std.proofs.Common.{rules}
use Rattle.gomp_icv.proofs.icv.Icv.cancellation.Goals as goal

pub returns : goal.returns
returns c = search rules
