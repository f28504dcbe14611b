use Rattle.gomp_events.specs.Cancels.{groups_over}
use Rattle.gomp_cancel.proofs.Marked.{marks_answer}
use Rattle.gomp_cancel.proofs.cancellation.Cancellation.is_task_cancelled.Goals as goal

pub returns-else-self : goal.returns-else-self
returns-else-self c = record {
  value = λ h st stands. marks_answer _ _ _ h (groups_over c.args.task h) _ st c.self.view_is c.if-self.false c.deref.ensures.value (c.is_marked_around.ensures.value h stands);
}
