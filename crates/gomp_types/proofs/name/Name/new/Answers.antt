use Rattle.std.proofs.Common.{rules}
use Rattle.gomp_types.proofs.name.Name.new.Goals as goal

pub returns-clause-name : goal.returns-clause-name
returns-clause-name c = search rules

pub returns-clause-empty : goal.returns-clause-empty
returns-clause-empty c = search rules
