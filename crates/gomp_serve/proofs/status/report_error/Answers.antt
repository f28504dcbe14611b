use Rattle.std.proofs.Common.{rules}
use Rattle.gomp_serve.proofs.status.report_error.Goals as goal

pub returns : goal.returns
returns g c = search rules

pub returns-in-OutOfMemory : goal.returns-in-OutOfMemory
returns-in-OutOfMemory g c = search rules

pub returns-in_default-to_string : goal.returns-in_default-to_string
returns-in_default-to_string g c = search rules

pub returns-then-use_stderr : goal.returns-then-use_stderr
returns-then-use_stderr g c = search rules
