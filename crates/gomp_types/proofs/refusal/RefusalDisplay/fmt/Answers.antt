use Rattle.std.proofs.Common.{rules}
use Rattle.gomp_types.proofs.refusal.RefusalDisplay.fmt.Goals as goal

pub returns-in-Broken-clause-writes : goal.returns-in-Broken-clause-writes
returns-in-Broken-clause-writes c = search rules
