use Rattle.std.proofs.Common.{◌≡◌, refl, subst}
use Rattle.gomp_events.specs.TaskCalls.{create_tests}
use Rattle.gomp_types.proofs.LeastTests.{first_is_least}
use Rattle.std.specs.Prelude.{nat_le}
use Rattle.gomp_events.specs.Tasks.{tasks_created}
use Rattle.gomp_board.specs.Boards.{BoardView}
use Rattle.gomp_board.proofs.BoardEvents.{scheduler_too}
use Rattle.gomp_board.proofs.board.Board.create_place_refusal.Goals as goal

pub returns : goal.returns
returns c = record {
  value = λ h st.
      let all_created : c.has_created.result ≡ nat_le c.args.self.now.limits.tasks (tasks_created h) = subst (λ (v : BoardView). c.has_created.result ≡ nat_le v.limits.tasks (tasks_created h)) c.self.view_is (c.has_created.ensures.value h (scheduler_too _ _ h c.self.view_is st)) in
      rw (c.first.ensures, c.first-many.ensures, c.items_refusal-named.ensures, all_created, c.is_deepest.ensures.value h (scheduler_too _ _ h c.self.view_is st)) (first_is_least 0 (create_tests c.args.self.now.limits c.args.items.now c.args.member h) refl);
}
