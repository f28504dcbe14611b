use Rattle.std.proofs.Common.{◌∙◌, refl}
use Rattle.gomp_book_calls.proofs.HolderLemmas.{names_held_in_past}
use Rattle.gomp_book_calls.proofs.critical_refusal.Goals as goal

pub returns-then-holds_critical : goal.returns-then-holds_critical
returns-then-holds_critical c = λ p stands rule. rw (names_held_in_past c.args.owner c.args.book.now p stands rule c.holds_critical.result c.holds_critical.ensures.name ∙ c.if-holds_critical.true) refl

pub returns-else-holds_critical : goal.returns-else-holds_critical
returns-else-holds_critical c = λ p stands rule. rw (names_held_in_past c.args.owner c.args.book.now p stands rule c.holds_critical.result c.holds_critical.ensures.name ∙ c.if-holds_critical.false) refl
