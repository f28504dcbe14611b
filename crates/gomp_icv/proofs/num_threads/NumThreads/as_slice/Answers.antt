use Rattle.std.proofs.Common.{rules}
use Rattle.gomp_icv.proofs.num_threads.NumThreads.as_slice.Goals as goal

pub returns-clause-sizes : goal.returns-clause-sizes
returns-clause-sizes c = search rules
