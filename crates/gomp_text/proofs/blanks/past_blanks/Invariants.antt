use Rattle.std.proofs.Common.{◌≡◌, length}
use Rattle.gomp_text.specs.Blanks.{past_blanks}
use Rattle.gomp_text.proofs.blanks.past_blanks.Given as goal

abbrev pub invariant-loop-text : goal.invariant-loop-text
invariant-loop-text l = past_blanks l.text ≡ past_blanks l.fn.text

abbrev pub decreases-loop-text : goal.decreases-loop-text
decreases-loop-text l = length l.text
