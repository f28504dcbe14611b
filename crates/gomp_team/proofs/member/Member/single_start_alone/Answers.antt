use Rattle.std.proofs.Common.{◌≡◌, ap, refl, subst}
use Rattle.gomp_types.specs.declared.reply.Reply.TheVariants.{Executor}
use Rattle.gomp_team_shares.specs.declared.start.ShareStart.TheVariants.{Single}
use Rattle.gomp_ring.specs.RingSeats.{SeatView}
use Rattle.gomp_seat_calls.specs.Starts.{StartsBySeat}
use Rattle.gomp_seat_calls.specs.Stays.{StaysSeat}
use Rattle.gomp_team.specs.Members.{MemberView}
use Rattle.gomp_team.proofs.ItsShare.{called_start}
use Rattle.gomp_team.proofs.LoopStarts.{outside_awaits_no_words}
use Rattle.gomp_team.proofs.member.Member.single_start_alone.Goals as goal

pub returns-in-Some-clause-called : goal.returns-in-Some-clause-called
returns-in-Some-clause-called g c =
    let now = c.single_alone.new.seat in
    let reply = Executor c.in-Some.executes in
    let seat : c.self.inside.parts.seat ≡ c.args.self.now.seat = ap (λ (m : MemberView g.row.T.Denot). m.seat) c.self.view_is in
    called_start g.T.Tool.on_gives Single reply c.args.self.now _ c.tell_records.new.self refl refl (c.may_start_alone.ensures.free c.if-not-may_start_alone.false)
    (ap (λ (m : MemberView g.row.T.Denot). record m { seat = now }) c.self.view_is)
    (subst (λ (before : SeatView). StartsBySeat Single before reply now) seat c.in-Some.ensures.starts)
    (outside_awaits_no_words now.seen c.in-Some.ensures.outside)
    (subst (λ (before : SeatView). StaysSeat before now) seat c.in-Some.ensures.stays)
    c.tell_records.ensures.own c.tell_records.ensures.tool c.tell_records.ensures.parts
