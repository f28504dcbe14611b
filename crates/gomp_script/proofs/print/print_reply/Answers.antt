use Rattle.std.proofs.Common.{rules}
use Rattle.gomp_script.proofs.print.print_reply.Goals as goal

pub returns : goal.returns
returns c = search rules
