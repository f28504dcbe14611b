use Rattle.std.proofs.Common.{rules}
use Rattle.gomp_types.proofs.task.Owner.is_same.Goals as goal

pub returns : goal.returns
returns c = search rules
