use Rattle.std.proofs.Common.{rules}
use Rattle.gomp_chunks.proofs.cursor.Cursor.new.Goals as goal

pub returns-clause-start : goal.returns-clause-start
returns-clause-start c = search rules

pub returns-clause-plan : goal.returns-clause-plan
returns-clause-plan c = search rules
