use Rattle.std.proofs.Common.{rules}
use Rattle.gomp_icv.proofs.num_threads.NumThreads.first.Goals as goal

pub returns-clause-size : goal.returns-clause-size
returns-clause-size c = search rules
