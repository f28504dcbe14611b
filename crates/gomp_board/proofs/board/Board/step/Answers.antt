use Rattle.std.proofs.Common.{reverse, sym, ◌∙◌}
use Rattle.gomp_board.proofs.board.Board.step.Goals as goal

pub answer-requires : goal.answer-requires
answer-requires c = record {
  member = c.requires.member;
  admitted = let own = reverse c.args.self.now.history in let known = c.first_refusal.ensures.known in (own, known, sym (c.first_refusal.ensures.value own known) ∙ c.in-None.is);
}

pub refuse-requires : goal.refuse-requires
refuse-requires c = record { member = c.requires.member; refused = λ h st. sym (c.first_refusal.ensures.value h st) ∙ c.in-Some.is }
