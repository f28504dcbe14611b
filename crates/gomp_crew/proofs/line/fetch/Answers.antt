use Rattle.gomp_crew.proofs.Hands.{fetching_keeps_line}
use Rattle.gomp_crew.proofs.line.fetch.Goals as goal

pub try_pop_as-requires-clause-rule : goal.try_pop_as-requires-clause-rule
try_pop_as-requires-clause-rule g c = fetching_keeps_line _ _ _ (rw (c.loop.invariant.1) c.requires.asked)
