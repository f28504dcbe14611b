use Rattle.std.proofs.Common.{refl, ◌∙◌, sym, arith}
use Rattle.std.specs.Prelude.{reverse}
use Rattle.std.proofs.lemmas.List.{set-get_or}
use Rattle.gomp_events.specs.Goals.{may_pass}
use Rattle.gomp_board.specs.declared.op.Op.TheVariants.{AwaitBarrier}
use Rattle.gomp_board.proofs.AdmittedArrivals.{awaits_is_reply}
use Rattle.gomp_board.specs.Boards.{members_of}
use Rattle.gomp_board.proofs.Waiting.{IsReply}
use Rattle.gomp_board.proofs.Performed.{op_performed}
use Rattle.gomp_board.proofs.ArrivalPerformed.{wait_cancelled, wait_uncut}
use Rattle.gomp_board.proofs.BoardEvents.{scheduler_too}
use Rattle.gomp_board.proofs.board.Board.await_barrier.Goals as goal

pub returns-then-is_cut_short : goal.returns-then-is_cut_short
returns-then-is_cut_short c = record { performs = wait_cancelled c.args.member c.args.self.now c.requires.admitted (λ h st. sym (c.is_cut_short.ensures.value h (scheduler_too _ _ h c.self.view_is st)) ∙ c.if-is_cut_short.true) }

pub returns : goal.returns
returns c = record {
  performs =
      let room = c.await_pass.ensures.room in
      let own = reverse c.args.self.now.history in
      let reply : IsReply c.await_pass.result = awaits_is_reply c.args.member (may_pass (members_of c.args.self.now) c.args.member own) own c.await_pass.result (c.await_pass.ensures.answer own c.await_pass.ensures.known) in
      op_performed AwaitBarrier c.args.member c.args.self.now c.await_pass.new.self c.await_pass.result reply refl c.requires.admitted (λ h st. wait_uncut (members_of c.args.self.now) c.args.member h c.await_pass.result (sym (c.is_cut_short.ensures.value h (scheduler_too _ _ h c.self.view_is st)) ∙ c.if-is_cut_short.false) (c.await_pass.ensures.answer h st)) c.await_pass.ensures.stands c.await_pass.ensures.limits (omega (arith, room))
      (c.await_pass.ensures.kept ∙ sym (set-get_or c.args.self.now.kept c.args.member 0)) (λ wait goes. c.await_pass.ensures.waits wait);
}
