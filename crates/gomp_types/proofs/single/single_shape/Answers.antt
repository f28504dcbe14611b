use Rattle.std.proofs.Common.{rules}
use Rattle.gomp_types.proofs.single.single_shape.Goals as goal

pub returns-then-copies-clause-shape : goal.returns-then-copies-clause-shape
returns-then-copies-clause-shape c = search rules

pub returns-else-copies-clause-shape : goal.returns-else-copies-clause-shape
returns-else-copies-clause-shape c = search rules
