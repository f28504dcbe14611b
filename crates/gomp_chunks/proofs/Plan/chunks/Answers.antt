use Rattle.std.proofs.Common.{rules}
use Rattle.gomp_chunks.proofs.Plan.chunks.Goals as goal

pub returns-in-StaticEven-clause-count : goal.returns-in-StaticEven-clause-count
returns-in-StaticEven-clause-count c = search rules
