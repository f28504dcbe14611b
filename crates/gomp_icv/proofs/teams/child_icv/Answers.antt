use Rattle.std.proofs.Common.{rules}
use Rattle.gomp_icv.proofs.teams.child_icv.Goals as goal

pub returns : goal.returns
returns c = search rules
