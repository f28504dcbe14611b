-- The rows of calls that arrive at a barrier, and of the ends of shares. OpenMP API 5.2, section 15.3.
use Rattle.std.specs.Prelude.{ℕ, is_some, is_none, ◌&&◌, ◌||◌, not, Bool, true, false, List, [], ◌∷◌, ◌++◌, Some}
use Rattle.gomp_types.specs.declared.refusal.Refusal.TheVariants.{InsideShare, Mismatch}
use Rattle.gomp_events.specs.declared.seen.Seen.{Seen}
use Rattle.gomp_types.specs.declared.reply.Reply.{Reply}
use Rattle.gomp_types.specs.declared.reply.Reply.TheVariants.{Passed}
use Rattle.gomp_events.specs.declared.event.Arrival.{Arrival}
use Rattle.gomp_events.specs.declared.event.Arrival.TheVariants.{Barrier as BarrierArrival, RegionEnd as RegionEndArrival}
use Rattle.gomp_events.specs.declared.event.Event.{Event}
use Rattle.gomp_events.specs.declared.event.Event.TheVariants.{Arrive, Pass}
use Rattle.gomp_types.specs.Tests.{Test}
use Rattle.gomp_events.specs.Tags.{tag_differs, tag_with}
use Rattle.gomp_events.specs.Events.{shares_entered, barriers_passed, tag_at}
use Rattle.gomp_events.specs.Goals.{may_pass}
use Rattle.gomp_events.specs.TaskCalls.{end_region_tests, AwaitsTasks, starts_task}
use Rattle.gomp_events.specs.declared.room.TheConstants.{ARRIVAL_ROOM}
use Rattle.gomp_types.specs.Least.{least}
use Rattle.gomp_events.specs.Seen.{seen_of}
use Rattle.gomp_events.specs.Cancels.{is_cancelled, leaves_region, leaves_share, leaves_task}
use Rattle.gomp_events.specs.CancelCalls.{unless_cancelled, OrIsCancelled, sees_cancelled}
use Rattle.gomp_shares.specs.Starts.{leaves}
use Rattle.gomp_model.specs.Row.{Row, outside_row}

-- an arrival is compared once with those of the other members at the same barrier; not in a cancelled region, whose members go to its end from wherever they are
abbrev pub compared_arrival : Arrival → Bool → ℕ → List Event → List Test
compared_arrival kind true m h = []
compared_arrival kind false m h = (not (is_cancelled h) && tag_differs (tag_with kind (shares_entered m h)) (tag_at (barriers_passed m h) h), Mismatch) ∷ []

-- the member's next barrier is passed, or a task is started there
abbrev pub passes : ℕ → List Event → Reply → List Event
passes m h Passed = Pass (barriers_passed m h) m ∷ []
passes m h reply = starts_task m reply

-- a call that arrives at a barrier, and passes it once all have arrived and the tasks bound to it are complete; until then it runs tasks
abbrev pub arrival_row : Arrival → Row
arrival_row kind = record outside_row {
  compared = λ repeated m p. compared_arrival kind repeated m p.events;
  arrives = Some kind;
  begins = λ m p. Arrive (barriers_passed m p.events) m (tag_with kind (shares_entered m p.events)) ∷ [];
  may_reply = λ m p reply. AwaitsTasks m (may_pass p.terms.members m p.events) p.events reply;
  gives = λ m p reply. passes m p.events reply;
}

-- one that a cancelled region has nobody arrive at: its member is answered that the region is cancelled, and sees that (OpenMP API 5.2, section 16.1)
abbrev pub cut_short_row : Row → Row
cut_short_row row = record row {
  begins = λ m p. unless_cancelled (is_cancelled p.events) (row.begins m p);
  may_reply = λ m p reply. OrIsCancelled (is_cancelled p.events) (row.may_reply m p) reply;
  gives = λ m p reply. sees_cancelled m reply (row.gives m p reply);
}

-- whether a member leaves its share, and that alone, and none of these tests of the call holds: so it is the end of the share's kind and end kind, made in no ordered part
abbrev pub ends_its_own : (Seen → List Test) → ℕ → List Event → Bool
ends_its_own tests m h = leaves_share m h && not (leaves_region m h || leaves_task m h) && is_none (least (tests (seen_of m h)))

-- a call that leaves its share, by these tests, before it does what it does else
abbrev pub ending : (Seen → List Test) → Row → Row
ending tests row = record row {
  by_place = λ limits seen. tests seen;
  drains = true;
  lets_leave = ends_its_own tests;
  begins = λ m p. row.begins m p ++ leaves m p.events;
}

-- a barrier, and the region's end, stand outside of every share
abbrev pub outside_tests : Seen → List Test
outside_tests seen = (is_some seen.current, InsideShare) ∷ []

-- a barrier; it asks for the room of its events
abbrev pub barrier_row : Row
barrier_row = record (cut_short_row (arrival_row BarrierArrival)) { by_place = λ limits seen. outside_tests seen; room = ARRIVAL_ROOM }

-- the region's end, which leaves no group open; a member that leaves a cancelled region gives up its share and its groups
abbrev pub region_end_row : Row
region_end_row = record (arrival_row RegionEndArrival) {
  by_place = λ limits seen. outside_tests seen;
  gives_up = leaves_region;
  by_task = λ m p. end_region_tests (leaves_region m p.events) m p.events;
  lets_leave = leaves_region;
}
