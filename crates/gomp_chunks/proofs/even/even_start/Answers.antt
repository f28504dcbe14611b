use Rattle.std.proofs.Common.{rules}
use Rattle.gomp_chunks.proofs.even.even_start.Goals as goal

pub returns : goal.returns
returns c = search rules
