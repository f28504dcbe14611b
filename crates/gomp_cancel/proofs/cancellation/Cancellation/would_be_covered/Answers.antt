use Rattle.gomp_events.specs.Cancels.{groups_within}
use Rattle.gomp_cancel.proofs.Marked.{marks_answer}
use Rattle.gomp_cancel.proofs.cancellation.Cancellation.would_be_covered.Goals as goal

pub returns-else-self : goal.returns-else-self
returns-else-self c = record {
  value = λ h st stands. marks_answer _ _ _ h (groups_within c.args.parent h) _ st c.self.view_is c.if-self.false c.deref.ensures.value (c.is_marked_within.ensures.value h stands);
}
