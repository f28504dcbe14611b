use Rattle.std.proofs.Common.{◌≡◌, ap, inr, rules}
use Rattle.gomp_team.specs.Members.{MemberView}
use Rattle.gomp_team.proofs.AnswerLaws.{taskwait_answered_again}
use Rattle.gomp_team.proofs.SeatMoves.{taskwait_asks_no_seat, stays_same}
use Rattle.gomp_team.proofs.member.Member.await_items.Goals as goal

pub returns-clause-moves : goal.returns-clause-moves
returns-clause-moves g c =
    let (items, waits) = c.requires.waits in
    let was : c.self.inside.parts.seat ≡ c.args.self.now.seat = ap (λ (m : MemberView g.row.T.Denot). m.seat) c.self.view_is in
    record {
      events = search rules;
      held = search rules;
      freed = search rules;
      seat = taskwait_asks_no_seat c.args.self.now.own c.args.self.now.icv.cancellation items c.args.self.now.seat c.await_op-reply.result c.self.inside.parts.seat waits was;
      stays = stays_same c.args.self.now.seat c.self.inside.parts.seat was;
      answers = inr (taskwait_answered_again c.args.self.now.icv.cancellation c.args.self.now.own items c.args.self.now.seat c.await_op-reply.result waits (search rules));
      own = search rules;
      tool = search rules;
      icv = search rules;
      ring = search rules;
    }
