-- A member's arrival at a barrier, at the end of its region, or at the barrier at its share's end. OpenMP API 5.2, sections 10.1 and 15.3.
use Rattle.std.specs.Prelude.{ℕ, ◌≡◌, ◌&&◌, Bool, List}
use Rattle.gomp_types.specs.declared.refusal.Refusal.{Refusal}
use Rattle.gomp_types.specs.declared.reply.Reply.{Reply}
use Rattle.gomp_types.specs.declared.reply.Reply.TheVariants.{Refused}
use Rattle.gomp_types.specs.Tests.{Test}
use Rattle.gomp_events.specs.declared.event.Arrival.{Arrival}
use Rattle.gomp_events.specs.declared.seen.Seen.{Seen}
use Rattle.gomp_events.specs.Events.{is_region_end}
use Rattle.gomp_events.specs.Tags.{tag_with}
use Rattle.gomp_events.specs.TaskCalls.{unless_given_up}
use Rattle.gomp_board.specs.declared.op.Op.{Op}
use Rattle.gomp_board.specs.declared.op.Op.TheVariants.{Arrive}
use Rattle.gomp_model.specs.Arrivals.{outside_tests}

-- an arrival of a member that has entered so many shares
abbrev pub arrival_with : Arrival → Bool → ℕ → Op
arrival_with kind leaving entered = Arrive (tag_with kind entered) leaving

-- it stands outside of every share, unless the member gives that up at the region's end
abbrev pub arrival_place_tests : Arrival → Bool → Seen → List Test
arrival_place_tests kind leaving seen = unless_given_up (leaving && is_region_end kind) (outside_tests seen)

-- a reply that refuses nothing
abbrev pub IsAccepted : Reply → Type 0
IsAccepted reply = (refusal : Refusal) → reply ≡ Refused refusal → ⊥
