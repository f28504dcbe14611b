use Rattle.std.proofs.Common.{rules}
use Rattle.gomp_icv.proofs.icv.Icv.chunk.Goals as goal

pub returns-clause-chunk : goal.returns-clause-chunk
returns-clause-chunk c = search rules
