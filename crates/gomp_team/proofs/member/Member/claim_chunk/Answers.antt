use Rattle.std.proofs.Common.{◌≡◌, true, ap, subst, ◌∙◌}
use Rattle.gomp_types.specs.declared.call.Call.TheVariants.{LoopNext}
use Rattle.gomp_types.specs.declared.reply.Reply.{Reply}
use Rattle.gomp_ompt.specs.Table.{records_of}
use Rattle.gomp_ompt.specs.Tools.{AfterEach}
use Rattle.gomp_shares.specs.declared.admission.Construct.TheVariants.{Loop}
use Rattle.gomp_ring.specs.RingSeats.{SeatView}
use Rattle.gomp_seat_calls.specs.Chunks.{claims_alone, reply_of_chunk}
use Rattle.gomp_seat_calls.specs.Next.{AnswersNext}
use Rattle.gomp_seat_calls.specs.Stays.{StaysSeat}
use Rattle.gomp_team.specs.Members.{MemberView}
use Rattle.gomp_team.proofs.ClaimsAlone.{called_alone, chunk_is_next, seat_claims_alone}
use Rattle.gomp_team.proofs.member.Member.claim_chunk.Goals as goal

pub claim_chunk-chunk-requires-clause-alone : goal.claim_chunk-chunk-requires-clause-alone
claim_chunk-chunk-requires-clause-alone g c =
    ap (λ (m : MemberView g.row.T.Denot). claims_alone m.seat.seen) c.self.view_is ∙ seat_claims_alone c.args.self.now c.requires.alone

pub returns-clause-called : goal.returns-clause-called
returns-clause-called g c =
    let now = c.claim_chunk-chunk.new.seat in
    let first = c.claim_chunk-chunk.result.first in
    let count = c.claim_chunk-chunk.result.count in
    let seat : c.self.inside.parts.seat ≡ c.args.self.now.seat = ap (λ (m : MemberView g.row.T.Denot). m.seat) c.self.view_is in
    called_alone g.T.Tool.on_gives (reply_of_chunk first count) c.args.self.now _ c.tell_records.new.self c.requires.alone
    (chunk_is_next first count)
    (ap (λ (m : MemberView g.row.T.Denot). record m { seat = now }) c.self.view_is)
    (subst (λ (before : SeatView). AnswersNext Loop before (reply_of_chunk first count) now) seat c.claim_chunk-chunk.ensures.answers)
    (subst (λ (before : SeatView). StaysSeat before now) seat c.claim_chunk-chunk.ensures.stays)
    c.tell_records.ensures.own
    (subst (λ (reply : Reply). AfterEach g.T.Tool.on_gives c.self.inside.tool (records_of LoopNext true reply) c.tell_records.new.self.tool) c.into_reply.ensures c.tell_records.ensures.tool)
    c.tell_records.ensures.parts
