use Rattle.std.proofs.Common.{rules}
use Rattle.gomp_icv.proofs.num_threads.NumThreads.copied.Goals as goal

pub returns : goal.returns
returns c = search rules
