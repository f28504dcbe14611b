use Rattle.std.proofs.Common.{◌≡◌, ◌∙◌, true, ap, refl, subst, sym}
use Rattle.gomp_types.specs.declared.call.Call.TheVariants.{LoopNext}
use Rattle.gomp_types.specs.declared.reply.Reply.{Reply}
use Rattle.gomp_shares.specs.declared.admission.Construct.TheVariants.{Loop}
use Rattle.gomp_ompt.specs.Table.{records_of}
use Rattle.gomp_ompt.specs.Tools.{AfterEach}
use Rattle.gomp_member.specs.Own.{is_free}
use Rattle.gomp_member.proofs.Free.{next_moves_nothing}
use Rattle.gomp_team_shares.specs.declared.inside.InsideCall.TheVariants.{Next}
use Rattle.gomp_ring.specs.RingSeats.{SeatView}
use Rattle.gomp_seat_calls.specs.Chunks.{reply_of_chunk}
use Rattle.gomp_seat_calls.specs.Next.{AnswersNext}
use Rattle.gomp_seat_calls.specs.Stays.{StaysSeat}
use Rattle.gomp_team.specs.Members.{MemberView}
use Rattle.gomp_team.proofs.ClaimsAlone.{chunk_is_next}
use Rattle.gomp_team.proofs.ItsShare.{called_unnoted}
use Rattle.gomp_team.proofs.member.Member.ordered_next_alone.Goals as goal

pub returns-in-Some-clause-called : goal.returns-in-Some-clause-called
returns-in-Some-clause-called g c =
    let member = c.args.self.now in
    let now = c.claim_ordered_chunk.new.seat in
    let reply = reply_of_chunk c.in-Some.chunk.first c.in-Some.chunk.count in
    let seat : c.self.inside.parts.seat ≡ member.seat = ap (λ (m : MemberView g.row.T.Denot). m.seat) c.self.view_is in
    let free : is_free member.own ≡ true = sym (ap (λ (m : MemberView g.row.T.Denot). is_free m.own) c.self.view_is) ∙ (sym c.is_free.ensures ∙ c.if-not-is_free.false) in
    called_unnoted g.T.Tool.on_gives LoopNext (Next Loop) reply member _ c.tell_records.new.self refl refl refl refl refl free
    (ap (λ (m : MemberView g.row.T.Denot). record m { seat = now }) c.self.view_is)
    (subst (λ (before : SeatView). AnswersNext Loop before reply now) seat c.in-Some.ensures.answers)
    (subst (λ (before : SeatView). StaysSeat before now) seat c.in-Some.ensures.stays)
    (next_moves_nothing reply LoopNext member.own (chunk_is_next c.in-Some.chunk.first c.in-Some.chunk.count) free)
    c.tell_records.ensures.own
    (subst (λ (told : Reply). AfterEach g.T.Tool.on_gives c.self.inside.tool (records_of LoopNext true told) c.tell_records.new.self.tool) c.into_reply.ensures c.tell_records.ensures.tool)
    c.tell_records.ensures.parts
