use Rattle.std.proofs.Common.{sym, ◌∙◌}
use Rattle.std.specs.Prelude.{true, false}
use Rattle.gomp_seat_calls.proofs.OwnPlace.{finds_start_by_place, finds_start_compared, started_shape}
use Rattle.gomp_seat_calls.proofs.starts.compared_shape.Goals as goal

pub returns-in-Err-clause-finds : goal.returns-in-Err-clause-finds
returns-in-Err-clause-finds c = finds_start_by_place c.args.start.now c.args.limits.now c.args.seat.now c.in-Err.refusal c.start_shape.ensures.stands (sym c.start_shape.ensures.first ∙ c.in-Err.is)

pub returns-then-differs-clause-finds : goal.returns-then-differs-clause-finds
returns-then-differs-clause-finds c =
    finds_start_compared c.args.start.now c.args.limits.now c.args.seat.now c.differs.new.self c.in-Ok.shape true c.start_shape.ensures.stands (sym c.start_shape.ensures.first ∙ c.in-Ok.is) (rw c.if-differs.true at c.differs.ensures.compared)

pub returns-else-differs-clause-finds : goal.returns-else-differs-clause-finds
returns-else-differs-clause-finds c =
    finds_start_compared c.args.start.now c.args.limits.now c.args.seat.now c.differs.new.self c.in-Ok.shape false c.start_shape.ensures.stands (sym c.start_shape.ensures.first ∙ c.in-Ok.is) (rw c.if-differs.false at c.differs.ensures.compared)

pub returns-else-differs-clause-shape : goal.returns-else-differs-clause-shape
returns-else-differs-clause-shape c = started_shape c.args.start.now c.args.limits.now c.args.seat.now.seen c.in-Ok.shape (sym c.start_shape.ensures.first ∙ c.in-Ok.is)
