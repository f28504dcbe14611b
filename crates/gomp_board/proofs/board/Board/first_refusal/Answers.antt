use Rattle.std.proofs.Common.{sym, ◌∙◌}
use Rattle.gomp_board.specs.Boards.{kept_by}
use Rattle.gomp_board.proofs.RefusalOrder.{team_refusal_first, own_refusal_next}
use Rattle.gomp_board.proofs.board.Board.first_refusal.Goals as goal

pub returns-in-Some : goal.returns-in-Some
returns-in-Some c = record {
  known = c.member_refusal.ensures.known;
  value = λ h st. let now = c.args.self.now in team_refusal_first now.limits now.room (kept_by c.args.member now) c.args.member c.args.op.now c.in-Some.refusal h (sym c.in-Some.is ∙ c.member_refusal.ensures.value h st);
}

pub returns-in-None : goal.returns-in-None
returns-in-None c = record {
  known = c.member_refusal.ensures.known;
  value = λ h st. let now = c.args.self.now in own_refusal_next now.limits now.room (kept_by c.args.member now) c.args.member c.args.op.now c.op_tests_refusal.result h (sym c.in-None.is ∙ c.member_refusal.ensures.value h st) (c.op_tests_refusal.ensures.value h st);
}
