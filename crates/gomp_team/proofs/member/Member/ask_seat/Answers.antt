use Rattle.std.proofs.Common.{◌≡◌, Bool, true, false, ap, subst, ◌∙◌}
use Rattle.gomp_ring.specs.RingSeats.{SeatView}
use Rattle.gomp_seat_calls.specs.Stays.{StaysSeat}
use Rattle.gomp_team.specs.Members.{MemberView, SharedView}
use Rattle.gomp_team.specs.Seats.{MovesBy, inside_of, seat_ask, waits_for_turns}
use Rattle.gomp_team.proofs.AnswerLaws.{answers_of_the_same}
use Rattle.gomp_team.proofs.ItsShare.{called_by_seat}
use Rattle.gomp_team.proofs.member.Member.ask_seat.Goals as goal

pub returns-clause-called : goal.returns-clause-called
returns-clause-called g c =
    let now = c.answer_by_seat-reply.new.seat in
    let reply = c.answer_by_seat-reply.result in
    let allowed : c.deref.result.now.team.icv.cancellation ≡ c.args.self.now.icv.cancellation =
    ap (λ (shared : SharedView). shared.team.icv.cancellation) c.deref.ensures ∙ ap (λ (m : MemberView g.row.T.Denot). m.icv.cancellation) c.self.view_is in
    let seat : c.self.inside.parts.seat ≡ c.args.self.now.seat = ap (λ (m : MemberView g.row.T.Denot). m.seat) c.self.view_is in
    let moves = subst (λ (before : SeatView). MovesBy (seat_ask c.args.self.now.icv.cancellation false c.args.call) before reply now) seat
    (subst (λ (may : Bool). MovesBy (seat_ask may false c.args.call) c.self.inside.parts.seat reply now) allowed c.answer_by_seat-reply.ensures.seat) in
    called_by_seat g.T.Tool.on_gives c.args.call reply c.args.self.now _ c.take_reply.new.self c.requires.asks
    (answers_of_the_same false c.args.call reply _ _ _ _ _ _ allowed (ap (λ (m : MemberView g.row.T.Denot). m.own) c.self.view_is) seat c.answer_by_seat-reply.ensures.answers)
    (ap (λ (m : MemberView g.row.T.Denot). record m { seat = now }) c.self.view_is) moves
    (subst (λ (before : SeatView). StaysSeat before now) seat c.answer_by_seat-reply.ensures.stays)
    c.take_reply.ensures.own c.take_reply.ensures.tool c.take_reply.ensures.parts

pub returns-clause-turns : goal.returns-clause-turns
returns-clause-turns g c = λ inside is waits.
    let allowed : c.deref.result.now.team.icv.cancellation ≡ c.args.self.now.icv.cancellation =
    ap (λ (shared : SharedView). shared.team.icv.cancellation) c.deref.ensures ∙ ap (λ (m : MemberView g.row.T.Denot). m.icv.cancellation) c.self.view_is in
    let turns = (c.answer_by_seat-reply.ensures.answer inside (ap (λ (may : Bool). inside_of may c.args.call) allowed ∙ is)).turns waits in
    subst (λ (seat : SeatView). waits_for_turns inside seat.seen ≡ true) (ap (λ (m : MemberView g.row.T.Denot). m.seat) c.self.view_is) turns
