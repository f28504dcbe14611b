use Rattle.std.proofs.Common.{rules}
use Rattle.gomp_script.proofs.parse.words.member_of.Goals as goal

pub overflow_cast-result : goal.overflow_cast-result
overflow_cast-result c = search rules

pub returns-in-Some : goal.returns-in-Some
returns-in-Some c = search rules
