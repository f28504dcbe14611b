use Rattle.std.proofs.Common.{◌≡◌, None, sym, subst}
use Rattle.gomp_waits.specs.Waits.{WaitBoardView, is_waiting, open_wait_refusal, PerformsOrWaits}
use Rattle.gomp_waits.proofs.Answered.{performed_amid_waits}
use Rattle.gomp_waits.proofs.wait_board.WaitBoard.perform.Goals as goal

pub returns : goal.returns
returns c =
    let view : WaitBoardView = record { board = c.self.inside.board; waiting = c.self.inside.waiting.items } in
    let m = c.args.member in let reply = c.step-reply.result in
    let none = subst (λ (v : WaitBoardView). open_wait_refusal (is_waiting m v) c.args.op.now ≡ None) (sym c.self.view_is) c.requires.open in
    record {
      performs = subst (λ (v : WaitBoardView). PerformsOrWaits c.args.op.now m v c.note.new.self reply) c.self.view_is
          (performed_amid_waits c.args.op.now m view c.note.new.self _ reply none c.step-reply.ensures.performs c.note.ensures);
    }
