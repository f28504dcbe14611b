use Rattle.std.proofs.Common.{rules}
use Rattle.gomp_serve.proofs.status.no_equals.Goals as goal

pub returns-in-Err : goal.returns-in-Err
returns-in-Err c = search rules
