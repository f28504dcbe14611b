use Rattle.std.proofs.Common.{[], refl, ◌∙◌}
use Rattle.gomp_board.proofs.RefusalOrder.{cancel_is_least}
use Rattle.gomp_board.proofs.board.Board.cancel_place_refusal.Goals as goal

pub returns : goal.returns
returns c = record { value = λ h st. c.cancel_place_or.ensures.value h [] st refl ∙ cancel_is_least c.args.named c.args.member h }
