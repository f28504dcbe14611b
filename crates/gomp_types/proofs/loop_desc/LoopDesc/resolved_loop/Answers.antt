use Rattle.std.proofs.Common.{rules}
use Rattle.gomp_types.proofs.loop_desc.LoopDesc.resolved_loop.Goals as goal

pub returns-in-Runtime-clause-schedule : goal.returns-in-Runtime-clause-schedule
returns-in-Runtime-clause-schedule c = search rules

pub returns-in_default-clause-schedule : goal.returns-in_default-clause-schedule
returns-in_default-clause-schedule c = search rules

pub returns-in_default-clause-counts : goal.returns-in_default-clause-counts
returns-in_default-clause-counts c = search rules
