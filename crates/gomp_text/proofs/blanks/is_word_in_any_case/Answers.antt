use Rattle.gomp_text.specs.Blanks.{in_small_letters}
use Rattle.gomp_text.proofs.WordLemmas.{same_word_of}
use Rattle.gomp_text.proofs.blanks.is_word_in_any_case.Goals as goal

pub returns : goal.returns
returns c = same_word_of _ (in_small_letters c.args.word.now) (in_small_letters c.args.name.now) c.eq_ignore_ascii_case.ensures.test
