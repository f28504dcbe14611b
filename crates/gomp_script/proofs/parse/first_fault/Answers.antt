use Rattle.std.proofs.Common.{rules}
use Rattle.gomp_script.proofs.parse.first_fault.Goals as goal

pub loop-rest-preserved : goal.loop-rest-preserved
loop-rest-preserved c = search rules
