use Rattle.std.proofs.Common.{rules}
use Rattle.gomp_text.proofs.blanks.is_blank.Goals as goal

pub returns-in_default : goal.returns-in_default
returns-in_default c = search rules
