use Rattle.std.proofs.Common.{arith}
use Rattle.std.proofs.lemmas.Str.Pattern.{contains_char}
use Rattle.gomp_command.proofs.SettingLemmas.{tells_equals}
use Rattle.gomp_command.proofs.settings.has_equals.Goals as goal

pub returns : goal.returns
returns c = tells_equals c.args.word.now c.contains.result (contains_char 61 c.args.word.now c.contains.result c.contains.ensures.cases (omega arith))
