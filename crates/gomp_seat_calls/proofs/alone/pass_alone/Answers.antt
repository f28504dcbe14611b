use Rattle.gomp_seat_calls.proofs.AnsweredAlone.{not_passed_yet, not_passed_as_another_share}
use Rattle.gomp_seat_calls.proofs.alone.pass_alone.Goals as goal

pub returns-in-NotYet-clause-why : goal.returns-in-NotYet-clause-why
returns-in-NotYet-clause-why c = λ none. not_passed_yet c.args.seat.now c.single.new.self c.in-NotYet.field-0 c.in-NotYet.ensures.passed

pub returns-in-Differs-clause-why : goal.returns-in-Differs-clause-why
returns-in-Differs-clause-why c = λ none. not_passed_as_another_share c.args.seat.now c.single.new.self c.in-Differs.ensures.passed
