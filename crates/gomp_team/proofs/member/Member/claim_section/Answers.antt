use Rattle.std.proofs.Common.{◌≡◌, ap, refl, subst}
use Rattle.gomp_types.specs.declared.call.Call.TheVariants.{SectionsNext}
use Rattle.gomp_types.specs.declared.reply.Reply.TheVariants.{Section}
use Rattle.gomp_types.proofs.Booleans.{and_left}
use Rattle.gomp_shares.specs.declared.admission.Construct.TheVariants.{Sections}
use Rattle.gomp_member.specs.Own.{is_free}
use Rattle.gomp_member.proofs.Free.{next_moves_nothing}
use Rattle.gomp_team_shares.specs.declared.inside.InsideCall.TheVariants.{Next}
use Rattle.gomp_ring.specs.RingSeats.{SeatView}
use Rattle.gomp_seat_calls.specs.Alone.{sections_alone}
use Rattle.gomp_seat_calls.specs.Next.{AnswersNext}
use Rattle.gomp_seat_calls.specs.Stays.{StaysSeat}
use Rattle.gomp_team.specs.Members.{MemberView}
use Rattle.gomp_team.proofs.ItsShare.{called_unnoted}
use Rattle.gomp_team.proofs.member.Member.claim_section.Goals as goal

pub returns-clause-called : goal.returns-clause-called
returns-clause-called g c =
    let member = c.args.self.now in
    let now = c.claim_section-number.new.seat in
    let reply = Section c.claim_section-number.result in
    let seat : c.self.inside.parts.seat ≡ member.seat = ap (λ (m : MemberView g.row.T.Denot). m.seat) c.self.view_is in
    let free = and_left (is_free member.own) (sections_alone member.seat.seen) c.requires.alone in
    called_unnoted g.T.Tool.on_gives SectionsNext (Next Sections) reply member _ c.tell_records.new.self refl refl refl refl refl free
    (ap (λ (m : MemberView g.row.T.Denot). record m { seat = now }) c.self.view_is)
    (subst (λ (before : SeatView). AnswersNext Sections before reply now) seat c.claim_section-number.ensures.answers)
    (subst (λ (before : SeatView). StaysSeat before now) seat c.claim_section-number.ensures.stays)
    (next_moves_nothing reply SectionsNext member.own refl free)
    c.tell_records.ensures.own c.tell_records.ensures.tool c.tell_records.ensures.parts
