use Rattle.gomp_crew.proofs.Hands.{taking_keeps_line}
use Rattle.gomp_crew.proofs.line.take.Goals as goal

pub try_pop_as-found-requires-clause-rule : goal.try_pop_as-found-requires-clause-rule
try_pop_as-found-requires-clause-rule g c = taking_keeps_line _ _ _ c.requires.idle
