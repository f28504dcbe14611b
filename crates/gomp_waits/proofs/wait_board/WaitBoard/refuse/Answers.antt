use Rattle.std.proofs.Common.{◌≡◌, Some, sym, subst, ap, ◌∙◌, Option}
use Rattle.gomp_types.specs.declared.refusal.Refusal.{Refusal}
use Rattle.gomp_types.specs.declared.reply.Reply.TheVariants.{Refused}
use Rattle.gomp_types.specs.Least.{lesser}
use Rattle.gomp_waits.specs.Waits.{WaitBoardView, is_waiting, open_wait_refusal, PerformsOrWaits}
use Rattle.gomp_waits.proofs.Answered.{refused_amid_waits}
use Rattle.gomp_waits.proofs.wait_board.WaitBoard.refuse.Goals as goal

pub returns : goal.returns
returns c =
    let view : WaitBoardView = record { board = c.self.inside.board; waiting = c.self.inside.waiting.items } in
    let m = c.args.member in let op = c.args.op.now in let found = c.lesser_refusal.result in
    let refuses = subst (λ (v : WaitBoardView). open_wait_refusal (is_waiting m v) op ≡ Some c.args.refusal) (sym c.self.view_is) c.requires.refused in
    record {
      performs = subst (λ (v : WaitBoardView). PerformsOrWaits op m v v (Refused found)) c.self.view_is
          (refused_amid_waits op m view c.args.refusal found refuses (λ h st. c.lesser_refusal.ensures ∙ ap (λ (other : Option Refusal). lesser (Some c.args.refusal) other) (c.first_refusal-found.ensures.value h st)));
    }
