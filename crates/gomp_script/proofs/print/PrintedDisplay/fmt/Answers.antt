use Rattle.std.proofs.Common.{rules}
use Rattle.gomp_script.proofs.print.PrintedDisplay.fmt.Goals as goal

pub returns-in-Chunk-clause-writes : goal.returns-in-Chunk-clause-writes
returns-in-Chunk-clause-writes g c = search rules

pub returns-in-Wait-clause-writes : goal.returns-in-Wait-clause-writes
returns-in-Wait-clause-writes g c = search rules
