use Rattle.std.proofs.Common.{rules}
use Rattle.gomp_serve.proofs.status.status_without_words.Goals as goal

pub returns-in-OutOfMemory-clause-notes : goal.returns-in-OutOfMemory-clause-notes
returns-in-OutOfMemory-clause-notes c = search rules

pub returns-in-Ok-clause-notes : goal.returns-in-Ok-clause-notes
returns-in-Ok-clause-notes c = search rules

pub returns-in-Err-clause-notes : goal.returns-in-Err-clause-notes
returns-in-Err-clause-notes c = search rules
