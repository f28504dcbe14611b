use Rattle.std.proofs.Common.{rules}
use Rattle.gomp_steps.proofs.serve.serve_steps.Goals as goal

pub returns : goal.returns
returns g c = search rules

pub returns-in-Err : goal.returns-in-Err
returns-in-Err g c = search rules

pub returns-in_default : goal.returns-in_default
returns-in_default g c = search rules
