use Rattle.std.proofs.Common.{rules}
use Rattle.gomp_types.proofs.refusal.PlaceDisplay.fmt.Goals as goal

pub returns-in-Share-clause-writes : goal.returns-in-Share-clause-writes
returns-in-Share-clause-writes c = search rules
