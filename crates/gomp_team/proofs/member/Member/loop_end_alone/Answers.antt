use Rattle.std.proofs.Common.{◌≡◌, ◌∙◌, true, ap, refl, subst, sym}
use Rattle.gomp_types.specs.declared.call.Call.TheVariants.{LoopEndNowait}
use Rattle.gomp_types.specs.declared.reply.Reply.TheVariants.{Finished}
use Rattle.gomp_shares.specs.declared.admission.Construct.TheVariants.{Loop}
use Rattle.gomp_member.specs.Own.{is_free}
use Rattle.gomp_member.proofs.Free.{done_moves_nothing}
use Rattle.gomp_team_shares.specs.declared.inside.InsideCall.TheVariants.{EndNowait}
use Rattle.gomp_ring.specs.RingSeats.{SeatView}
use Rattle.gomp_seat_calls.specs.Ends.{EndsAtOnce}
use Rattle.gomp_seat_calls.specs.Stays.{StaysSeat}
use Rattle.gomp_team.specs.Members.{MemberView}
use Rattle.gomp_team.proofs.ItsShare.{called_unnoted}
use Rattle.gomp_team.proofs.member.Member.loop_end_alone.Goals as goal

pub returns-clause-called : goal.returns-clause-called
returns-clause-called g c = λ done.
    let member = c.args.self.now in
    let now = c.end_alone.new.seat in
    let seat : c.self.inside.parts.seat ≡ member.seat = ap (λ (m : MemberView g.row.T.Denot). m.seat) c.self.view_is in
    let free : is_free member.own ≡ true = sym (ap (λ (m : MemberView g.row.T.Denot). is_free m.own) c.self.view_is) ∙ (sym c.is_free.ensures ∙ c.if-not-is_free.false) in
    called_unnoted g.T.Tool.on_gives LoopEndNowait (EndNowait Loop) Finished member _ c.tell_records.new.self refl refl refl refl refl free
    (ap (λ (m : MemberView g.row.T.Denot). record m { seat = now }) c.self.view_is)
    (subst (λ (before : SeatView). EndsAtOnce Loop before Finished now) seat (c.end_alone.ensures.ends c.if-not-end_alone.false))
    (subst (λ (before : SeatView). StaysSeat before now) seat c.end_alone.ensures.stays)
    (done_moves_nothing LoopEndNowait member.own free refl refl refl)
    c.tell_records.ensures.own c.tell_records.ensures.tool c.tell_records.ensures.parts
