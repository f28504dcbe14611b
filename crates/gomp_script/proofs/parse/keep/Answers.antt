use Rattle.std.proofs.Common.{rules}
use Rattle.gomp_script.proofs.parse.keep.Goals as goal

pub returns-in-None-clause-step : goal.returns-in-None-clause-step
returns-in-None-clause-step c = search rules

pub returns-in-None-clause-full : goal.returns-in-None-clause-full
returns-in-None-clause-full c = search rules
