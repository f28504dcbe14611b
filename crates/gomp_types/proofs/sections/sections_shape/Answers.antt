use Rattle.std.proofs.Common.{rules}
use Rattle.gomp_types.proofs.sections.sections_shape.Goals as goal

pub returns-clause-shape : goal.returns-clause-shape
returns-clause-shape c = search rules
