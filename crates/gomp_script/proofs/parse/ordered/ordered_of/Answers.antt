use Rattle.std.proofs.Common.{rules}
use Rattle.gomp_script.proofs.parse.ordered.ordered_of.Goals as goal

pub returns : goal.returns
returns c = search rules
