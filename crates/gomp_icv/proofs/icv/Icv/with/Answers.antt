use Rattle.std.proofs.Common.{rules}
use Rattle.gomp_icv.proofs.icv.Icv.with.Goals as goal

pub returns-in-NumThreads : goal.returns-in-NumThreads
returns-in-NumThreads c = search rules
