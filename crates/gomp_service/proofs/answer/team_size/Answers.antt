use Rattle.std.proofs.Common.{◌∙◌}
use Rattle.gomp_service.proofs.SizeLemmas.{size_or_largest}
use Rattle.gomp_service.proofs.answer.team_size.Goals as goal

pub returns : goal.returns
returns c = c.unwrap_or.ensures ∙ size_or_largest c.try_from.result c.args.count c.try_from.ensures
