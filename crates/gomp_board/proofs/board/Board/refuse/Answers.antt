use Rattle.std.proofs.Common.{ap, Some, ◌∙◌}
use Rattle.gomp_types.specs.declared.refusal.Refusal.{Refusal}
use Rattle.gomp_board.proofs.Refused.{op_refused}
use Rattle.gomp_board.proofs.board.Board.refuse.Goals as goal

pub break_at-requires : goal.break_at-requires
break_at-requires c = record { member = c.requires.member; differs = λ h st. c.requires.refused h st ∙ ap (λ (r : Refusal). Some r) c.in-Mismatch.is }

pub returns-in_default : goal.returns-in_default
returns-in_default c = record { performs = op_refused c.args.op.now c.args.member c.args.self.now c.args.refusal c.requires.refused c.in_default.not-Mismatch }
