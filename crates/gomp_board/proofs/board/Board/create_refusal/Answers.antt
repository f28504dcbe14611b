use Rattle.std.proofs.Common.{◌≡◌, ◌∙◌, refl, sym, subst}
use Rattle.std.specs.Prelude.{nat_le}
use Rattle.gomp_types.specs.Tests.{first_holding}
use Rattle.gomp_events.specs.CancelCalls.{creates_covered}
use Rattle.gomp_events.specs.Tasks.{tasks_created}
use Rattle.gomp_board.specs.Ops.{creation_room_tests}
use Rattle.gomp_board.specs.Boards.{BoardView}
use Rattle.gomp_board.proofs.RefusalOrder.{creation_room_is}
use Rattle.gomp_board.proofs.BoardEvents.{scheduler_too}
use Rattle.gomp_board.proofs.board.Board.create_refusal.Goals as goal

pub returns-then-is_busy : goal.returns-then-is_busy
returns-then-is_busy c = record { value = λ h st. rw (sym (c.is_busy.ensures.value h (scheduler_too _ _ h c.self.view_is st)) ∙ c.if-is_busy.true) refl }

pub returns-then-is_deepest : goal.returns-then-is_deepest
returns-then-is_deepest c = record {
  value = λ h st.
      let there = scheduler_too _ _ h c.self.view_is st in
      rw (sym (c.is_busy.ensures.value h there) ∙ c.if-is_busy.false, sym (c.is_deepest.ensures.value h there) ∙ c.if-is_deepest.true) refl;
}

pub returns-then-has_created : goal.returns-then-has_created
returns-then-has_created c = record {
  value = λ h st.
      let there = scheduler_too _ _ h c.self.view_is st in
      let all_created : c.has_created.result ≡ nat_le c.args.self.now.limits.tasks (tasks_created h) = subst (λ (v : BoardView). c.has_created.result ≡ nat_le v.limits.tasks (tasks_created h)) c.self.view_is (c.has_created.ensures.value h there) in
      rw (sym (c.is_busy.ensures.value h there) ∙ c.if-is_busy.false, sym (c.is_deepest.ensures.value h there) ∙ c.if-is_deepest.false, sym all_created ∙ c.if-has_created.true) refl;
}

pub returns : goal.returns
returns c = record {
  value = λ h st.
      let now = c.args.self.now in let m = c.args.member in let there = scheduler_too _ _ h c.self.view_is st in
      let all_created : c.has_created.result ≡ nat_le now.limits.tasks (tasks_created h) = subst (λ (v : BoardView). c.has_created.result ≡ nat_le v.limits.tasks (tasks_created h)) c.self.view_is (c.has_created.ensures.value h there) in
      let full : c.first-full.result ≡ first_holding (creation_room_tests (creates_covered m h) now.limits now.room) =
      rw (c.first-full.ensures, c.lacks_task_room.ensures.value h st) (creation_room_is (creates_covered m h) now.limits now.room) in
      rw (c.first.ensures, full, c.has_too_many.ensures, sym (c.is_busy.ensures.value h there) ∙ c.if-is_busy.false, sym (c.is_deepest.ensures.value h there) ∙ c.if-is_deepest.false, sym all_created ∙ c.if-has_created.false) refl;
}
