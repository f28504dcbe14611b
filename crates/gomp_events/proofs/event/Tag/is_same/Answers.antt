use Rattle.std.proofs.Common.{rules}
use Rattle.gomp_events.proofs.event.Tag.is_same.Goals as goal

pub returns : goal.returns
returns c = search rules
