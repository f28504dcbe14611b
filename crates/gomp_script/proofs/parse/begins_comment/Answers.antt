use Rattle.std.proofs.Common.{rules}
use Rattle.gomp_script.proofs.parse.begins_comment.Goals as goal

pub returns-in_default-2 : goal.returns-in_default-2
returns-in_default-2 c = search rules
