use Rattle.std.proofs.Common.{rules}
use Rattle.gomp_text.proofs.blanks.without_blanks.Goals as goal

pub returns : goal.returns
returns c = search rules
