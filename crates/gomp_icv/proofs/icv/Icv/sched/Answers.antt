use Rattle.std.proofs.Common.{rules}
use Rattle.gomp_icv.proofs.icv.Icv.sched.Goals as goal

pub returns-clause-schedule : goal.returns-clause-schedule
returns-clause-schedule c = search rules
