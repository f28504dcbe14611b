use Rattle.std.proofs.Common.{rules}
use Rattle.gomp_chunks.proofs.even.even_owner.Goals as goal

pub returns-clause-number : goal.returns-clause-number
returns-clause-number c = search rules
