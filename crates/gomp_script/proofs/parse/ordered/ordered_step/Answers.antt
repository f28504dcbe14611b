use Rattle.std.proofs.Common.{rules}
use Rattle.gomp_script.specs.StepText.{ordered_step}
use Rattle.gomp_script.proofs.parse.ordered.ordered_step.Goals as goal

pub returns : goal.returns
unfolding ordered_step
returns c = search rules
