use Rattle.std.proofs.Common.{◌≡◌, length}
use Rattle.gomp_text.specs.Words.{past_spaces}
use Rattle.gomp_text.proofs.words.past_spaces.Given as goal

abbrev pub invariant-loop-text : goal.invariant-loop-text
invariant-loop-text l = past_spaces l.text ≡ past_spaces l.fn.text

abbrev pub decreases-loop-text : goal.decreases-loop-text
decreases-loop-text l = length l.text
