use Rattle.std.proofs.Common.{ℕ, true, refl, sym, subst}
use Rattle.gomp_team_board.specs.Locked.{IsAnsweredUnderLock}
use Rattle.gomp_team.specs.Seats.{AsksSeat, SeatAsk}
use Rattle.gomp_team.proofs.AnswerLaws.{answered_under_lock}
use Rattle.gomp_team.proofs.SeatMoves.{seat_asked_nothing}
use Rattle.gomp_team.proofs.team.SharedTeam.answer_whole.Goals as goal

pub returns-in-Some-clause-seat : goal.returns-in-Some-clause-seat
returns-in-Some-clause-seat g c =
    let seat = c.args.parts.now.seat in
    subst (λ (ask : SeatAsk). AsksSeat true ask seat c.await_op.result seat) (sym (c.in-Some.ensures.goes_on.unseated c.args.self.now.team.icv.cancellation)) (seat_asked_nothing true seat c.await_op.result seat refl)

pub returns-in-Some-clause-answers : goal.returns-in-Some-clause-answers
returns-in-Some-clause-answers g c =
    let seat = c.args.parts.now.seat in
    c.in-Some.ensures.goes_on.answers c.args.self.now.team.icv.cancellation c.args.state.now.own seat c.await_op.result (answered_under_lock seat.member c.in-Some.op c.await_op.result
    (subst (λ (m : ℕ). IsAnsweredUnderLock c.in-Some.op m c.await_op.result) c.member-member.ensures c.await_op.ensures.answer))
