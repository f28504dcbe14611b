use Rattle.gomp_shares.specs.declared.admission.Construct.TheVariants.{Sections}
use Rattle.gomp_seat_calls.proofs.AnsweredAlone.{not_entered_in_another_shape, not_entered_yet, taken_inside}
use Rattle.gomp_seat_calls.proofs.OwnSteps.{entered_inside}
use Rattle.gomp_seat_calls.proofs.alone.enter_sections_alone.Goals as goal

pub returns-in-Entered-clause-inside : goal.returns-in-Entered-clause-inside
returns-in-Entered-clause-inside c =
    taken_inside Sections c.try_open.new.self c.take_section_alone.new.seat _ c.args.shape.now c.current.ensures.stands c.take_section_alone.ensures.takes (entered_inside c.args.seat.now c.try_open.new.self _ c.args.shape.now c.in-Entered.ensures.opened)

pub returns-in-NotYet-clause-why : goal.returns-in-NotYet-clause-why
returns-in-NotYet-clause-why c = λ none. not_entered_yet Sections c.args.shape.now c.args.seat.now c.try_open.new.self c.in-NotYet.field-0 c.in-NotYet.ensures.opened

pub returns-in-Differs-clause-why : goal.returns-in-Differs-clause-why
returns-in-Differs-clause-why c = λ none. not_entered_in_another_shape Sections c.args.shape.now c.args.seat.now c.try_open.new.self c.in-Differs.ensures.opened
