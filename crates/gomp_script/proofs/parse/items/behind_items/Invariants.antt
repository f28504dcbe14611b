use Rattle.std.proofs.Common.{◌≡◌, length}
use Rattle.gomp_text.specs.Words.{words_of}
use Rattle.gomp_script.specs.StepText.{behind_items}
use Rattle.gomp_script.proofs.parse.items.behind_items.Given as goal

-- the same follows the items that are left
abbrev pub invariant-loop-item : goal.invariant-loop-item
invariant-loop-item l = behind_items (words_of l.rest) ≡ behind_items (words_of l.fn.line)

abbrev pub decreases-loop-item : goal.decreases-loop-item
decreases-loop-item l = length (words_of l.rest)
