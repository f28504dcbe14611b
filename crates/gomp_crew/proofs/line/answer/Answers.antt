use Rattle.gomp_crew.proofs.Hands.{answering_keeps_line}
use Rattle.gomp_crew.proofs.line.answer.Goals as goal

pub try_push_as-requires-clause-rule : goal.try_push_as-requires-clause-rule
try_push_as-requires-clause-rule g c = answering_keeps_line _ _ _ _ _ c.loop.invariant.1
