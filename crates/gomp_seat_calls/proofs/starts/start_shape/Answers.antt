use Rattle.gomp_seat_calls.proofs.OwnPlace.{opens_by_place}
use Rattle.gomp_seat_calls.proofs.starts.start_shape.Goals as goal

pub returns-in-Loop-clause-place : goal.returns-in-Loop-clause-place
returns-in-Loop-clause-place c = opens_by_place c.loop_start_shape.result c.args.seat.now c.seen-seen.result c.seen-seen.ensures.stands c.seen-seen.ensures.value c.loop_start_shape.ensures.place

pub returns-in-Sections-clause-place : goal.returns-in-Sections-clause-place
returns-in-Sections-clause-place c = opens_by_place c.sections_start_shape.result c.args.seat.now c.seen-seen.result c.seen-seen.ensures.stands c.seen-seen.ensures.value c.sections_start_shape.ensures.place

pub returns-in-Single-clause-place : goal.returns-in-Single-clause-place
returns-in-Single-clause-place c = opens_by_place c.single_start_shape.result c.args.seat.now c.seen-seen.result c.seen-seen.ensures.stands c.seen-seen.ensures.value c.single_start_shape.ensures.place

pub returns-in-SingleCopy-clause-place : goal.returns-in-SingleCopy-clause-place
returns-in-SingleCopy-clause-place c = opens_by_place c.single_start_shape-in-SingleCopy.result c.args.seat.now c.seen-seen.result c.seen-seen.ensures.stands c.seen-seen.ensures.value c.single_start_shape-in-SingleCopy.ensures.place
