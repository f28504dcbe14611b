use Rattle.std.proofs.Common.{◌≡◌, true, ap, rules, subst}
use Rattle.gomp_types.specs.declared.call.Call.TheVariants.{LoopStart}
use Rattle.gomp_types.specs.declared.loop_desc.LoopDesc.{LoopDesc}
use Rattle.gomp_types.specs.declared.reply.Reply.{Reply}
use Rattle.gomp_ompt.specs.Table.{records_of}
use Rattle.gomp_ompt.specs.Tools.{AfterEach}
use Rattle.gomp_team_shares.specs.declared.start.ShareStart.TheVariants.{Loop}
use Rattle.gomp_ring.specs.RingSeats.{SeatView}
use Rattle.gomp_seat_calls.specs.Chunks.{reply_of_chunk}
use Rattle.gomp_seat_calls.specs.Starts.{StartsBySeat}
use Rattle.gomp_seat_calls.specs.Stays.{StaysSeat}
use Rattle.gomp_team.specs.Members.{Called, MemberView}
use Rattle.gomp_team.proofs.ItsShare.{called_start}
use Rattle.gomp_team.proofs.LoopStarts.{chunk_is_given, loop_awaits_no_words, loop_has_no_room}
use Rattle.gomp_team.proofs.member.Member.loop_start_alone.Goals as goal

pub returns-in-Some-clause-called : goal.returns-in-Some-clause-called
returns-in-Some-clause-called g c =
    let desc = c.scheduled-desc.result in
    let reply = reply_of_chunk c.in-Some.chunk.first c.in-Some.chunk.count in
    let now = c.start_loop_alone.new.seat in
    let seat : c.self.inside.parts.seat ≡ c.args.self.now.seat = ap (λ (m : MemberView g.row.T.Denot). m.seat) c.self.view_is in
    let called : Called g.T.Tool.on_gives (LoopStart desc) reply c.args.self.now c.tell_records.new.self =
    called_start g.T.Tool.on_gives (Loop desc) reply c.args.self.now _ c.tell_records.new.self
    (chunk_is_given c.in-Some.chunk.first c.in-Some.chunk.count)
    (loop_has_no_room c.args.self.now.icv.sched c.args.self.now.icv.chunk c.args.desc desc c.scheduled-desc.ensures (search rules))
    (c.may_start_alone.ensures.free c.if-not-may_start_alone.false)
    (ap (λ (m : MemberView g.row.T.Denot). record m { seat = now }) c.self.view_is)
    (subst (λ (before : SeatView). StartsBySeat (Loop desc) before reply now) seat c.in-Some.ensures.starts)
    (loop_awaits_no_words desc now.seen c.in-Some.ensures.inside)
    (subst (λ (before : SeatView). StaysSeat before now) seat c.in-Some.ensures.stays)
    c.tell_records.ensures.own
    (subst (λ (told : Reply). AfterEach g.T.Tool.on_gives c.self.inside.tool (records_of (LoopStart desc) true told) c.tell_records.new.self.tool) c.into_reply.ensures c.tell_records.ensures.tool)
    c.tell_records.ensures.parts in
    subst (λ (meant : LoopDesc). Called g.T.Tool.on_gives (LoopStart meant) reply c.args.self.now c.tell_records.new.self) c.scheduled-desc.ensures called

pub returns-in-Some-clause-free : goal.returns-in-Some-clause-free
returns-in-Some-clause-free g c = λ some. c.may_start_alone.ensures.admitted c.if-not-may_start_alone.false
