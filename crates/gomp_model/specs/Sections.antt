-- The rows of the calls on sections. OpenMP API 5.2, section 11.3.
use Rattle.std.specs.Prelude.{ℕ, true}
use Rattle.gomp_types.specs.declared.loop_desc.EndKind.{EndKind}
use Rattle.gomp_types.specs.declared.loop_desc.EndKind.TheVariants.{Wait, Nowait, Cancellable}
use Rattle.gomp_events.specs.declared.event.Arrival.TheVariants.{ShareEnd}
use Rattle.gomp_types.specs.Sections.{sections_shape, sections_tests}
use Rattle.gomp_events.specs.Events.{open_share}
use Rattle.gomp_shares.specs.Sections.{DealsSections, section_given, section_next_given, section_next_tests, sections_end_tests}
use Rattle.gomp_shares.specs.Starts.{leaves}
use Rattle.gomp_model.specs.Row.{Row, outside_row, at_once}
use Rattle.gomp_model.specs.Starts.{start_row}
use Rattle.gomp_model.specs.Arrivals.{arrival_row, cut_short_row, ending}

-- the start of a sections construct
abbrev pub sections_start_row : ℕ → EndKind → Row
sections_start_row count end_kind = start_row (sections_tests count) (sections_shape count end_kind) DealsSections section_given

-- the next section
abbrev pub sections_next_row : Row
sections_next_row = record outside_row {
  by_place = λ limits seen. section_next_tests seen;
  stays = true;
  may_reply = λ m p reply. DealsSections p.terms.members m (open_share m p.events) reply p.events;
  gives = λ m p reply. section_next_given (open_share m p.events) m reply;
}

-- its end with a barrier
abbrev pub sections_end_row : Row
sections_end_row = ending (sections_end_tests Wait) (cut_short_row (arrival_row ShareEnd))

-- with a barrier, of a construct that may be cancelled
abbrev pub sections_end_cancel_row : Row
sections_end_cancel_row = ending (sections_end_tests Cancellable) (cut_short_row (arrival_row ShareEnd))

-- its end without one
abbrev pub sections_end_nowait_row : Row
sections_end_nowait_row = record (at_once (sections_end_tests Nowait) leaves) { drains = true }
