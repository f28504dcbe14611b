use Rattle.std.proofs.Common.{sym, ◌∙◌}
use Rattle.gomp_seat_calls.proofs.AnsweredAlone.{admitted_has_its_shape, shaped_is_admitted}
use Rattle.gomp_seat_calls.proofs.alone.single_alone.Goals as goal

pub returns-in_default-clause-why : goal.returns-in_default-clause-why
returns-in_default-clause-why c = λ none admitted. absurd (c.in_default.not-Ok _ (c.start_shape.ensures.first ∙ admitted_has_its_shape _ _ admitted))

pub returns-clause-admitted : goal.returns-clause-admitted
returns-clause-admitted c = λ some. shaped_is_admitted _ _ _ (sym c.in-Ok.is ∙ c.start_shape.ensures.first)
