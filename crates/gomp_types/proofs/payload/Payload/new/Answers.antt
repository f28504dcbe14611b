use Rattle.std.proofs.Common.{rules}
use Rattle.gomp_types.proofs.payload.Payload.new.Goals as goal

pub returns : goal.returns
returns c = search rules
