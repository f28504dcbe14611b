use Rattle.std.proofs.Common.{rules}
use Rattle.gomp_chunks.proofs.Plan.spot_from.Goals as goal

pub returns-in-Guided-clause-there : goal.returns-in-Guided-clause-there
returns-in-Guided-clause-there c = search rules
