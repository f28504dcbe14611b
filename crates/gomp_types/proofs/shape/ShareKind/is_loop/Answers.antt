use Rattle.std.proofs.Common.{rules}
use Rattle.gomp_types.proofs.shape.ShareKind.is_loop.Goals as goal

pub returns-in_default : goal.returns-in_default
returns-in_default c = search rules
