use Rattle.std.proofs.Common.{sym, ◌∙◌}
use Rattle.gomp_seat_calls.proofs.OwnPlace.{executor_leaves}
use Rattle.gomp_seat_calls.proofs.singles.single_copy_end_refusal.Goals as goal

pub returns-clause-place : goal.returns-clause-place
returns-clause-place c = λ none. executor_leaves c.args.seat.now c.seen.ensures.stands (sym none ∙ (rw c.seen.ensures.value at c.single_copy_end_refusal.ensures.first))
