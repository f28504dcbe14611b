use Rattle.std.proofs.Common.{rules}
use Rattle.gomp_types.proofs.payload.Payload.copied.Goals as goal

pub returns : goal.returns
returns c = search rules
