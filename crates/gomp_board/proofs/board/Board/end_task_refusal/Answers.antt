use Rattle.std.proofs.Common.{refl, sym, ◌∙◌}
use Rattle.gomp_events.specs.TaskCalls.{group_is_open}
use Rattle.gomp_board.proofs.RefusalOrder.{given_up_is}
use Rattle.gomp_board.proofs.BoardEvents.{scheduler_too}
use Rattle.gomp_board.proofs.board.Board.end_task_refusal.Goals as goal

pub returns-then-is_busy : goal.returns-then-is_busy
returns-then-is_busy c = record { value = λ h st. rw (sym (c.is_busy.ensures.value h (scheduler_too _ _ h c.self.view_is st)) ∙ c.if-is_busy.true) refl }

pub returns-then-not-in_task : goal.returns-then-not-in_task
returns-then-not-in_task c = record {
  value = λ h st.
      let there = scheduler_too _ _ h c.self.view_is st in
      rw (sym (c.is_busy.ensures.value h there) ∙ c.if-is_busy.false, sym (c.in_task.ensures.value h there) ∙ c.if-not-in_task.true) refl;
}

pub returns : goal.returns
returns c = record {
  value = λ h st.
      let there = scheduler_too _ _ h c.self.view_is st in
      rw (sym (c.is_busy.ensures.value h there) ∙ c.if-is_busy.false, sym (c.in_task.ensures.value h there) ∙ c.if-not-in_task.false, c.first.ensures, c.keeps_group_open.ensures.value h there) (given_up_is c.args.leaving (group_is_open c.args.member h));
}
