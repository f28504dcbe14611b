use Rattle.std.proofs.Common.{sym, ◌∙◌}
use Rattle.gomp_seat_calls.proofs.AnsweredAlone.{drained_may_leave}
use Rattle.gomp_seat_calls.proofs.alone.end_alone.Goals as goal

pub leave_share-requires-clause-place : goal.leave_share-requires-clause-place
leave_share-requires-clause-place c =
    drained_may_leave c.args.construct c.args.seat.now.members c.args.seat.now.member c.args.seat.now.seen c.current.ensures.stands.member (sym c.may_end_alone.ensures ∙ c.if-not-may_end_alone.false)
