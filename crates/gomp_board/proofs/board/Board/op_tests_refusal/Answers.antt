use Rattle.std.proofs.Common.{ℕ, List, ap, sym, ◌∙◌, ◌++◌}
use Rattle.gomp_types.specs.declared.depend.Dep.{Dep}
use Rattle.gomp_events.specs.CancelCalls.{creates_covered}
use Rattle.gomp_events.specs.TaskCalls.{create_tests, outside_tasks_tests, room_tests}
use Rattle.gomp_types.specs.Tests.{first_holding}
use Rattle.gomp_board.specs.declared.op.Op.{Op}
use Rattle.gomp_board.specs.Ops.{op_tests, busy_tests, creation_room_tests}
use Rattle.gomp_board.specs.Boards.{kept_by}
use Rattle.gomp_board.proofs.board.Board.op_tests_refusal.Goals as goal

pub returns-in-Create : goal.returns-in-Create
returns-in-Create c = record {
  value = λ h st.
      let m = c.args.member in let limits = c.args.self.now.limits in let room = c.args.self.now.room in
      c.create_refusal.ensures.value h st
      ∙ ap (λ (items : List Dep). first_holding (busy_tests m h ++ (create_tests limits items m h ++ creation_room_tests (creates_covered m h) limits room))) c.as_slice.ensures
      ∙ ap (λ (op : Op). first_holding (op_tests limits room (kept_by m c.args.self.now) m op h)) (sym c.in-Create.is);
}

pub returns-in-Put : goal.returns-in-Put
returns-in-Put c = record {
  value = λ h st.
      let m = c.args.member in let limits = c.args.self.now.limits in let room = c.args.self.now.room in
      c.reserve_refusal-in-Put.ensures.value h st
      ∙ ap (λ (more : ℕ). first_holding (busy_tests m h ++ (outside_tasks_tests m h ++ room_tests limits room more))) c.words_room.ensures
      ∙ ap (λ (op : Op). first_holding (op_tests limits room (kept_by m c.args.self.now) m op h)) (sym c.in-Put.is);
}

pub returns-in-Got : goal.returns-in-Got
returns-in-Got c = record {
  value = λ h st.
      let m = c.args.member in let limits = c.args.self.now.limits in let room = c.args.self.now.room in
      c.growth_refusal-in-Got.ensures.value h st
      ∙ ap (λ (more : ℕ). first_holding (busy_tests m h ++ room_tests limits room more)) c.words_room-in-Got.ensures
      ∙ ap (λ (op : Op). first_holding (op_tests limits room (kept_by m c.args.self.now) m op h)) (sym c.in-Got.is);
}
