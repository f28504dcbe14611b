use Rattle.std.proofs.Common.{◌≡◌, ◌∙◌, true, ap, refl, rules, subst, sym}
use Rattle.gomp_types.specs.declared.reply.Reply.TheVariants.{Finished}
use Rattle.gomp_member.specs.Own.{is_free}
use Rattle.gomp_member.proofs.Free.{done_moves_nothing}
use Rattle.gomp_team_shares.specs.declared.inside.InsideCall.TheVariants.{EndPart}
use Rattle.gomp_ring.specs.RingSeats.{SeatView}
use Rattle.gomp_seat_calls.specs.Parts.{AnswersPartEnd}
use Rattle.gomp_seat_calls.specs.Stays.{StaysSeat}
use Rattle.gomp_team.specs.Members.{MemberView}
use Rattle.gomp_team.proofs.ItsShare.{called_unnoted}
use Rattle.gomp_team.proofs.member.Member.ordered_end_alone.Goals as goal

pub returns-clause-called : goal.returns-clause-called
returns-clause-called g c = λ done.
    let member = c.args.self.now in
    let now = c.end_part_alone.new.seat in
    let seat : c.self.inside.parts.seat ≡ member.seat = ap (λ (m : MemberView g.row.T.Denot). m.seat) c.self.view_is in
    let free : is_free member.own ≡ true = sym (ap (λ (m : MemberView g.row.T.Denot). is_free m.own) c.self.view_is) ∙ (sym c.is_free.ensures ∙ c.if-not-is_free.false) in
    called_unnoted g.T.Tool.on_gives _ EndPart Finished member _ c.tell_records.new.self refl refl refl refl refl free
    (ap (λ (m : MemberView g.row.T.Denot). record m { seat = now }) c.self.view_is)
    (subst (λ (before : SeatView). AnswersPartEnd before Finished now) seat (c.end_part_alone.ensures.ended c.if-not-end_part_alone.false))
    (subst (λ (before : SeatView). StaysSeat before now) seat c.end_part_alone.ensures.stays)
    (search (done_moves_nothing, free, rules))
    c.tell_records.ensures.own c.tell_records.ensures.tool c.tell_records.ensures.parts
