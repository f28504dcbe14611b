use Rattle.std.proofs.Common.{◌≡◌, length}
use Rattle.gomp_text.specs.Words.{words_of}
use Rattle.gomp_script.specs.StepText.{items_of, without_value}
use Rattle.gomp_script.proofs.parse.items.test_items.Given as goal

-- no item so far is bad
abbrev pub invariant-loop-item : goal.invariant-loop-item
invariant-loop-item l = without_value (items_of (words_of l.rest)) ≡ without_value (items_of (words_of l.fn.line))

abbrev pub decreases-loop-item : goal.decreases-loop-item
decreases-loop-item l = length (words_of l.rest)
