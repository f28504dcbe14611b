use Rattle.std.proofs.Common.{rules}
use Rattle.gomp_text.proofs.words.is_word.Goals as goal

pub returns : goal.returns
returns c = search rules
