use Rattle.gomp_types.specs.declared.reply.Reply.TheVariants.{Executor, Section}
use Rattle.gomp_team_shares.specs.declared.start.ShareStart.TheVariants.{Loop, Sections, Single}
use Rattle.gomp_seat_calls.specs.Chunks.{reply_of_chunk}
use Rattle.std.proofs.Common.{refl}
use Rattle.gomp_team.proofs.ItsShare.{starts_alone_as}
use Rattle.gomp_team.proofs.LoopStarts.{loop_awaits_no_words, outside_awaits_no_words, sections_await_no_words}
use Rattle.gomp_team.proofs.team.SharedTeam.start_by_seat.Goals as goal

pub returns-in-Some-clause-seat : goal.returns-in-Some-clause-seat
returns-in-Some-clause-seat g c =
    let chunk = c.in-Some.chunk in
    starts_alone_as c.args.repeated c.args.start.now (Loop c.in-Loop.desc) c.args.seat.now c.into_reply.result (reply_of_chunk chunk.first chunk.count) c.start_loop_alone.new.seat
    c.if-repeated.false c.in-Loop.is c.into_reply.ensures c.in-Some.ensures.starts (loop_awaits_no_words c.in-Loop.desc c.start_loop_alone.new.seat.seen c.in-Some.ensures.inside)

pub returns-in-Some-start_sections_alone-clause-seat : goal.returns-in-Some-start_sections_alone-clause-seat
returns-in-Some-start_sections_alone-clause-seat g c =
    let number = c.in-Some-start_sections_alone.number in
    starts_alone_as c.args.repeated c.args.start.now (Sections c.in-Sections.count c.in-Sections.end_kind) c.args.seat.now (Section number) (Section number) c.start_sections_alone.new.seat
    c.if-repeated.false c.in-Sections.is refl c.in-Some-start_sections_alone.ensures.starts (sections_await_no_words c.in-Sections.count c.in-Sections.end_kind c.start_sections_alone.new.seat.seen c.in-Some-start_sections_alone.ensures.inside)

pub returns-in-Some-single_alone-clause-seat : goal.returns-in-Some-single_alone-clause-seat
returns-in-Some-single_alone-clause-seat g c =
    let executes = c.in-Some-single_alone.executes in
    starts_alone_as c.args.repeated c.args.start.now Single c.args.seat.now (Executor executes) (Executor executes) c.single_alone.new.seat
    c.if-repeated.false c.in-Single.is refl c.in-Some-single_alone.ensures.starts (outside_awaits_no_words c.single_alone.new.seat.seen c.in-Some-single_alone.ensures.outside)
