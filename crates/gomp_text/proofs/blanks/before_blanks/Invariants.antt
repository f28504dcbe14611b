use Rattle.std.proofs.Common.{◌≡◌, length}
use Rattle.gomp_text.specs.Blanks.{before_blanks}
use Rattle.gomp_text.proofs.blanks.before_blanks.Given as goal

abbrev pub invariant-loop-text : goal.invariant-loop-text
invariant-loop-text l = before_blanks l.text ≡ before_blanks l.fn.text

abbrev pub decreases-loop-text : goal.decreases-loop-text
decreases-loop-text l = length l.text
