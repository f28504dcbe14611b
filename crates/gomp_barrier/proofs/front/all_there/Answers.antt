use Rattle.std.proofs.Common.{rules}
use Rattle.gomp_barrier.proofs.front.all_there.Goals as goal

pub returns : goal.returns
returns c = search rules
