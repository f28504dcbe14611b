use Rattle.std.proofs.Common.{arith, rules}
use Rattle.std.proofs.lemmas.Grind.{common_steps}
use Rattle.gomp_types.proofs.shape.Shape.is_same.Goals as goal

pub returns-then-self-other-5 : goal.returns-then-self-other-5
returns-then-self-other-5 c = search rules

pub returns-else-self-other-5 : goal.returns-else-self-other-5
returns-else-self-other-5 c = grind (arith, common_steps)
