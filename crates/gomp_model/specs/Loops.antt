-- The rows of the calls on loops. OpenMP API 5.2, section 11.5.
use Rattle.std.specs.Prelude.{true}
use Rattle.gomp_types.specs.declared.loop_desc.LoopDesc.{LoopDesc}
use Rattle.gomp_types.specs.declared.loop_desc.EndKind.TheVariants.{Wait, Nowait, Cancellable}
use Rattle.gomp_events.specs.declared.event.Arrival.TheVariants.{ShareEnd}
use Rattle.gomp_types.specs.Iterations.{loop_tests}
use Rattle.gomp_types.specs.Pieces.{shape_of}
use Rattle.gomp_events.specs.Events.{open_share}
use Rattle.gomp_shares.specs.Loops.{DealsOut, DealsNext, piece_given, next_given, next_tests, end_tests}
use Rattle.gomp_shares.specs.Starts.{leaves}
use Rattle.gomp_model.specs.Row.{Row, outside_row, at_once, waits_uncancelled}
use Rattle.gomp_model.specs.Starts.{start_row}
use Rattle.gomp_model.specs.Arrivals.{arrival_row, cut_short_row, ending}

-- the start of a loop
abbrev pub loop_start_row : LoopDesc → Row
loop_start_row loop = start_row (loop_tests loop) (shape_of loop) DealsOut piece_given

-- the next piece; of an ordered loop a member may wait for the turn first
abbrev pub loop_next_row : Row
loop_next_row = waits_uncancelled (record outside_row {
  by_place = λ limits seen. next_tests seen;
  stays = true;
  may_reply = λ m p reply. DealsNext p.terms.members m (open_share m p.events) reply p.events;
  gives = λ m p reply. next_given p.terms.members (open_share m p.events) m p.events reply;
})

-- a loop's end with a barrier
abbrev pub loop_end_row : Row
loop_end_row = ending (end_tests Wait) (cut_short_row (arrival_row ShareEnd))

-- with a barrier, of a loop that may be cancelled
abbrev pub loop_end_cancel_row : Row
loop_end_cancel_row = ending (end_tests Cancellable) (cut_short_row (arrival_row ShareEnd))

-- a loop's end without one
abbrev pub loop_end_nowait_row : Row
loop_end_nowait_row = record (at_once (end_tests Nowait) leaves) { drains = true }
