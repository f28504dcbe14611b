use Rattle.std.proofs.Common.{◌≡◌, length}
use Rattle.gomp_text.specs.Words.{words_of}
use Rattle.gomp_script.specs.StepText.{items_of}
use Rattle.gomp_script.proofs.ItemLemmas.{with_items}
use Rattle.gomp_script.proofs.parse.items.items_of.Given as goal

-- the items so far, and those that are read of the rest, are those of the line
abbrev pub invariant-loop-items : goal.invariant-loop-items
invariant-loop-items l = with_items l.items (items_of (words_of l.rest)) ≡ items_of (words_of l.fn.line)

abbrev pub decreases-loop-items : goal.decreases-loop-items
decreases-loop-items l = length (words_of l.rest)
