use Rattle.std.proofs.Common.{rules}
use Rattle.gomp_serve.proofs.process.run_process.Goals as goal

pub returns-clause-words : goal.returns-clause-words
returns-clause-words g c = search rules

pub returns-clause-none : goal.returns-clause-none
returns-clause-none g c = search rules

pub returns-in_err-finish-clause-words : goal.returns-in_err-finish-clause-words
returns-in_err-finish-clause-words g c = search rules

pub returns-in_err-finish-clause-none : goal.returns-in_err-finish-clause-none
returns-in_err-finish-clause-none g c = search rules
