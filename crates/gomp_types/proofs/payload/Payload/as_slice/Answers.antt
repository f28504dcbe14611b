use Rattle.std.proofs.Common.{rules}
use Rattle.gomp_types.proofs.payload.Payload.as_slice.Goals as goal

pub returns-clause-words : goal.returns-clause-words
returns-clause-words c = search rules
