use Rattle.std.proofs.Common.{rules}
use Rattle.gomp_script.specs.StepText.{sections_step}
use Rattle.gomp_script.proofs.parse.sections.sections_step.Goals as goal

pub returns-in_err-member : goal.returns-in_err-member
unfolding sections_step
returns-in_err-member c = search rules

pub returns-in_err-finish : goal.returns-in_err-finish
unfolding sections_step
returns-in_err-finish c = search rules
