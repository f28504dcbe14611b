use Rattle.std.proofs.Common.{rules}
use Rattle.gomp_script.proofs.print.WhyDisplay.fmt.Goals as goal

pub returns-in-MissingWord-clause-writes : goal.returns-in-MissingWord-clause-writes
returns-in-MissingWord-clause-writes g c = search rules
