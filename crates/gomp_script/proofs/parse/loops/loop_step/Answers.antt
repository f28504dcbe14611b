use Rattle.std.proofs.Common.{rules}
use Rattle.gomp_script.specs.StepText.{loop_step}
use Rattle.gomp_script.proofs.parse.loops.loop_step.Goals as goal

pub returns-in_err-sched : goal.returns-in_err-sched
unfolding loop_step
returns-in_err-sched c = search rules
