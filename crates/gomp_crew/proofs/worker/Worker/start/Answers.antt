use Rattle.std.proofs.Common.{rules}
use Rattle.gomp_crew.proofs.Hands.{line_begins, line_gets_two_ends}
use Rattle.gomp_crew.proofs.worker.Worker.start.Goals as goal

pub ruled-requires-clause-rule : goal.ruled-requires-clause-rule
ruled-requires-clause-rule g c = line_begins g.W.Work.kept

pub another-theirs-requires-clause-rule : goal.another-theirs-requires-clause-rule
another-theirs-requires-clause-rule g c = line_gets_two_ends g.W.Work.kept _ _ (search rules)
