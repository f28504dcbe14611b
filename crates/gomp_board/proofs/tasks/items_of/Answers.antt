use Rattle.std.proofs.Common.{reverse, ◌∙◌}
use Rattle.gomp_board.proofs.StoredKeeps.{kept_items}
use Rattle.gomp_board.proofs.tasks.items_of.Goals as goal

pub returns : goal.returns
returns c = record { value = λ h kept. rw c.in-Explicit.is (c.as_slice.ensures ∙ kept_items c.in-Explicit.number c.desc.result.now h (reverse c.args.history.now.events) kept c.desc.ensures.value) }
