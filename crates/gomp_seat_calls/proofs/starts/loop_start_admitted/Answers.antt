use Rattle.gomp_seat_calls.proofs.OwnSteps.{entered_inside}
use Rattle.gomp_seat_calls.proofs.starts.loop_start_admitted.Goals as goal

pub take_chunk-requires-clause-inside : goal.take_chunk-requires-clause-inside
take_chunk-requires-clause-inside c = entered_inside c.args.seat.now c.try_open.new.self _ c.args.shape.now c.in-Entered.ensures.opened
