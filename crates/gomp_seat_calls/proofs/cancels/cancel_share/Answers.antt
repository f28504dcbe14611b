use Rattle.std.proofs.Common.{sym, ◌∙◌}
use Rattle.gomp_seat_calls.proofs.OwnSteps.{cancel_answered}
use Rattle.gomp_seat_calls.proofs.cancels.cancel_share.Goals as goal

pub returns-clause-answers : goal.returns-clause-answers
returns-clause-answers c =
    cancel_answered c.args.construct c.args.allowed c.see.result c.args.seat.now c.cancel.new.self c.see.new.self c.cancel_share_refusal.ensures.stands (sym c.cancel_share_refusal.ensures.least ∙ c.in_default.is) c.if-not-allowed.false c.cancel.ensures.cancelled c.see.ensures.seen
