-- What the events say of a member's place among the work-shares. (own)
use Rattle.std.specs.Prelude.{ℕ, List}
use Rattle.gomp_events.specs.declared.event.Event.{Event}
use Rattle.gomp_events.specs.declared.seen.Seen.{Seen}
use Rattle.gomp_events.specs.Events.{shares_entered, open_share, has_drained, last_piece, next_part, in_part}
use Rattle.gomp_events.specs.Cancels.{leaves_share}

-- what these events say of a member's place
abbrev pub seen_of : ℕ → List Event → Seen
seen_of m h = record { entered = shares_entered m h; current = open_share m h; drained = has_drained m h; piece = last_piece m h; next_part = next_part m h; in_part = in_part m h; leaving = leaves_share m h }
