use Rattle.std.proofs.Common.{rules}
use Rattle.gomp_slots.proofs.singles.pass_single.Goals as goal

pub pass_found-requires-clause-looks : goal.pass_found-requires-clause-looks
pass_found-requires-clause-looks g c = search rules
