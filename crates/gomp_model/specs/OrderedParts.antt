-- The rows of the calls on ordered parts. OpenMP API 5.2, section 15.10.2.
use Rattle.std.specs.Prelude.{ℤ, true}
use Rattle.gomp_events.specs.Events.{open_share}
use Rattle.gomp_shares.specs.OrderedParts.{BeginsPart, part_given, part_tests, part_end_tests, part_end_events}
use Rattle.gomp_model.specs.Row.{Row, outside_row, at_once, waits_uncancelled}

-- the start of an ordered part, at the iteration with this value
abbrev pub ordered_start_row : ℤ → Row
ordered_start_row value = waits_uncancelled (record outside_row {
  by_place = λ limits seen. part_tests value seen;
  stays = true;
  may_reply = λ m p reply. BeginsPart p.terms.members m (open_share m p.events) reply p.events;
  gives = λ m p reply. part_given (open_share m p.events) m value reply;
})

-- its end
abbrev pub ordered_end_row : Row
ordered_end_row = at_once part_end_tests part_end_events
