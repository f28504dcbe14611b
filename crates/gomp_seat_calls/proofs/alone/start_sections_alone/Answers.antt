use Rattle.std.proofs.Common.{◌≡◌, sym, subst, ◌∙◌}
use Rattle.gomp_types.specs.declared.shape.Shape.{Shape}
use Rattle.gomp_types.specs.Sections.{sections_shape}
use Rattle.gomp_shares.specs.declared.admission.Construct.TheVariants.{Sections as OfSections}
use Rattle.gomp_team_shares.specs.declared.start.ShareStart.TheVariants.{Sections}
use Rattle.gomp_seat_calls.specs.Alone.{StaysOutside}
use Rattle.gomp_seat_calls.proofs.AnsweredAlone.{admitted_has_its_shape, shaped_is_admitted}
use Rattle.gomp_seat_calls.proofs.OwnPlace.{started_shape}
use Rattle.gomp_seat_calls.proofs.alone.start_sections_alone.Goals as goal

pub returns-in_default-clause-why : goal.returns-in_default-clause-why
returns-in_default-clause-why c = λ none admitted. absurd (c.in_default.not-Ok _ (c.start_shape.ensures.first ∙ admitted_has_its_shape _ _ admitted))

pub returns-clause-why : goal.returns-clause-why
returns-clause-why c = λ none admitted.
    let is : c.in-Ok.shape ≡ sections_shape c.args.count c.args.end_kind = started_shape (Sections c.args.count c.args.end_kind) c.args.limits.now c.args.seat.now.seen c.in-Ok.shape (sym c.start_shape.ensures.first ∙ c.in-Ok.is) in
    subst (λ (shape : Shape). StaysOutside OfSections shape c.args.seat.now c.enter_sections_alone.new.seat) is (c.enter_sections_alone.ensures.why none)

pub returns-clause-admitted : goal.returns-clause-admitted
returns-clause-admitted c = λ some. shaped_is_admitted _ _ _ (sym c.in-Ok.is ∙ c.start_shape.ensures.first)
