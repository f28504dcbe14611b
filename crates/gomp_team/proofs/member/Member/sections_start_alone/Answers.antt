use Rattle.std.proofs.Common.{◌≡◌, ap, refl, rules, subst}
use Rattle.gomp_types.specs.declared.reply.Reply.TheVariants.{Section}
use Rattle.gomp_team_shares.specs.declared.start.ShareStart.TheVariants.{Sections}
use Rattle.gomp_ring.specs.RingSeats.{SeatView}
use Rattle.gomp_seat_calls.specs.Starts.{StartsBySeat}
use Rattle.gomp_seat_calls.specs.Stays.{StaysSeat}
use Rattle.gomp_team.specs.Members.{MemberView}
use Rattle.gomp_team.proofs.ItsShare.{called_start}
use Rattle.gomp_team.proofs.LoopStarts.{sections_await_no_words}
use Rattle.gomp_team.proofs.member.Member.sections_start_alone.Goals as goal

pub returns-in-Some-clause-called : goal.returns-in-Some-clause-called
returns-in-Some-clause-called g c =
    let now = c.start_sections_alone.new.seat in
    let reply = Section c.in-Some.number in
    let seat : c.self.inside.parts.seat ≡ c.args.self.now.seat = ap (λ (m : MemberView g.row.T.Denot). m.seat) c.self.view_is in
    called_start g.T.Tool.on_gives (Sections c.args.count c.args.end_kind) reply c.args.self.now _ c.tell_records.new.self refl (search rules) (c.may_start_alone.ensures.free c.if-not-may_start_alone.false)
    (ap (λ (m : MemberView g.row.T.Denot). record m { seat = now }) c.self.view_is)
    (subst (λ (before : SeatView). StartsBySeat (Sections c.args.count c.args.end_kind) before reply now) seat c.in-Some.ensures.starts)
    (sections_await_no_words c.args.count c.args.end_kind now.seen c.in-Some.ensures.inside)
    (subst (λ (before : SeatView). StaysSeat before now) seat c.in-Some.ensures.stays)
    c.tell_records.ensures.own c.tell_records.ensures.tool c.tell_records.ensures.parts
