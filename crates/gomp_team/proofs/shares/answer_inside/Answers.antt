use Rattle.gomp_team.proofs.AnswerLaws.{answers_inside}
use Rattle.gomp_team.proofs.SeatMoves.{asks_own_share, replies_inside}
use Rattle.gomp_team.proofs.shares.answer_inside.Goals as goal

pub returns-clause-seat : goal.returns-clause-seat
returns-clause-seat c = asks_own_share c.args.found c.args.call.now c.args.cancelled c.args.seat.now c.call_inside.result c.call_inside.new.seat c.call_inside.ensures.refused c.call_inside.ensures.serves

pub returns-clause-answer : goal.returns-clause-answer
returns-clause-answer c = replies_inside c.args.found c.args.call.now c.args.cancelled c.args.seat.now c.call_inside.result c.call_inside.new.seat c.call_inside.ensures.refused c.call_inside.ensures.serves

pub returns-clause-inside : goal.returns-clause-inside
returns-clause-inside c = answers_inside c.args.found c.args.call.now c.args.cancelled c.args.seat.now c.call_inside.result c.call_inside.new.seat c.call_inside.ensures.refused c.call_inside.ensures.serves
