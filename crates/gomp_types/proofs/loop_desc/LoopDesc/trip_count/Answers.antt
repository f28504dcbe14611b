use Rattle.std.proofs.Common.{rules}
use Rattle.gomp_types.proofs.loop_desc.LoopDesc.trip_count.Goals as goal

pub returns-then-ahead : goal.returns-then-ahead
returns-then-ahead c = search rules

pub returns-else-ahead : goal.returns-else-ahead
returns-else-ahead c = search rules
