use Rattle.std.proofs.Common.{◌≡◌, ◌∙◌, Bool, List, ◌++◌, Option, Some, ap, sym, subst}
use Rattle.gomp_events.specs.declared.event.Event.{Event}
use Rattle.gomp_types.specs.declared.refusal.Refusal.{Refusal}
use Rattle.gomp_types.specs.Least.{lesser}
use Rattle.gomp_types.proofs.LeastTests.{least_append}
use Rattle.gomp_board.specs.Ops.{op_member_tests, op_tests, op_refusal}
use Rattle.gomp_board.specs.Boards.{Stands, kept_by}
use Rattle.gomp_waits.specs.Waits.{WaitBoardView, is_waiting, open_wait_tests, open_wait_refusal}
use Rattle.gomp_waits.proofs.wait_board.WaitBoard.first_refusal.Goals as goal

pub returns-in-Some : goal.returns-in-Some
returns-in-Some c = record {
  value = λ h st.
      let now = c.args.self.now in let m = c.args.member in let op = c.args.op.now in let found = c.first_refusal-found.result in
      let board = subst (λ (v : WaitBoardView). (g : List Event) → Stands v.board g → found ≡ op_refusal v.board.limits v.board.room (kept_by m v.board) m op g) c.self.view_is c.first_refusal-found.ensures.value in
      let own : Some c.in-Some.refusal ≡ open_wait_refusal (is_waiting m now) op = sym c.in-Some.is ∙ c.wait_refusal.ensures ∙ ap (λ (b : Bool). open_wait_refusal b op) c.is_waiting.ensures.value in
      c.lesser_refusal.ensures ∙ ap (λ (one : Option Refusal). lesser one found) own ∙ ap (lesser (open_wait_refusal (is_waiting m now) op)) (board h st)
      ∙ sym (least_append (open_wait_tests (is_waiting m now) op) (op_member_tests m h ++ op_tests now.board.limits now.board.room (kept_by m now.board) m op h));
}
