use Rattle.std.proofs.Common.{rules}
use Rattle.gomp_chunks.proofs.guided.size_from.Goals as goal

pub returns : goal.returns
returns c = search rules
