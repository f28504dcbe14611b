use Rattle.std.proofs.Common.{rules}
use Rattle.gomp_icv.proofs.values.kind_and_chunk.Goals as goal

pub returns-in-None-number_of-clause-value : goal.returns-in-None-number_of-clause-value
returns-in-None-number_of-clause-value c = search rules

pub returns-in-Some-number_of-clause-value : goal.returns-in-Some-number_of-clause-value
returns-in-Some-number_of-clause-value c = search rules
