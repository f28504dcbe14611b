use Rattle.gomp_seat_calls.proofs.OwnSteps.{entered_inside}
use Rattle.gomp_shares.specs.declared.admission.Construct.TheVariants.{Loop}
use Rattle.gomp_seat_calls.proofs.AnsweredAlone.{not_entered_yet, not_entered_in_another_shape}
use Rattle.gomp_seat_calls.proofs.alone.enter_loop_alone.Goals as goal

pub take_chunk_alone-requires-clause-inside : goal.take_chunk_alone-requires-clause-inside
take_chunk_alone-requires-clause-inside c = entered_inside c.args.seat.now c.try_open.new.self _ c.args.shape.now c.in-Entered.ensures.opened

pub returns-in-NotYet-clause-why : goal.returns-in-NotYet-clause-why
returns-in-NotYet-clause-why c = λ none. not_entered_yet Loop c.args.shape.now c.args.seat.now c.try_open.new.self c.in-NotYet.field-0 c.in-NotYet.ensures.opened

pub returns-in-Differs-clause-why : goal.returns-in-Differs-clause-why
returns-in-Differs-clause-why c = λ none. not_entered_in_another_shape Loop c.args.shape.now c.args.seat.now c.try_open.new.self c.in-Differs.ensures.opened
