use Rattle.std.proofs.Common.{◌≡◌, is_some, length}
use Rattle.gomp_words.specs.Calls.{items_of}
use Rattle.gomp_words.proofs.items.are_items.Given as goal

abbrev pub invariant-loop-rest : goal.invariant-loop-rest
invariant-loop-rest l = is_some (items_of l.words) ≡ is_some (items_of l.rest)

abbrev pub decreases-loop-rest : goal.decreases-loop-rest
decreases-loop-rest l = length l.rest
