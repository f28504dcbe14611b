-- What a record says: what its members wait for, and which events it gives, in their order.
use Rattle.std.proofs.Common.{◌≡◌, ℕ, true, false, [], ◌∷◌, refl}
use Rattle.std.specs.Prelude.{pos, take, ◌++◌}
use Rattle.gomp_types.specs.declared.call.Call.TheVariants.{SingleStart, SingleCopyStart, Barrier as BarrierCall, Stop}
use Rattle.gomp_types.specs.declared.loop_desc.EndKind.TheVariants.{Wait as WaitEnd, Nowait}
use Rattle.gomp_types.specs.declared.refusal.Place.TheVariants.{Share, Barrier as AtBarrier, Stopped as AtStop}
use Rattle.gomp_types.specs.declared.refusal.Refusal.TheVariants.{Mismatch}
use Rattle.gomp_types.specs.declared.reply.Reply.TheVariants.{Wait, Stopped, Refused}
use Rattle.gomp_types.specs.declared.shape.Shape.{Shape}
use Rattle.gomp_types.specs.declared.shape.ShareKind.TheVariants.{Dynamic}
use Rattle.gomp_events.specs.declared.event.Arrival.TheVariants.{Barrier, ShareEnd, RegionEnd}
use Rattle.gomp_events.specs.declared.event.Event.TheVariants.{Enter, Take, Drained, End, HandOn, Part, PartEnd, Put, Got, Arrive, Pass, Break}
use Rattle.gomp_types.specs.Sections.{sections_shape}
use Rattle.gomp_types.specs.Singles.{single_shape}
use Rattle.gomp_model.specs.Team.{record_after, events}
use Rattle.gomp_model.specs.Examples.{run_recorded, team_of, asks, loop_of_two, loop_alone, empty_loops, differing_loop, stopped_team}
use Rattle.gomp_model.specs.ShareExamples.{sections_of_two, no_sections, single_of_two, ordered_of_two, handed_of_two, differing_copy, differing_sections}
use Rattle.gomp_model.specs.RegionExamples.{region_of_two, later_barrier, later_share, differing_at_resume, copied_at_once}
use Rattle.gomp_events.specs.EventLists.{newest_first, at}

-- What a member waits for

-- a record has the steps with their replies, the newest first, and what was before
pub record_of_two : record_after (asks 0 BarrierCall ∷ asks 1 Stop ∷ []) (Wait ∷ Stopped ∷ []) ((asks 1 BarrierCall, Wait) ∷ [])
    ≡ (asks 1 Stop, Stopped) ∷ (asks 0 BarrierCall, Wait) ∷ (asks 1 BarrierCall, Wait) ∷ []
record_of_two = refl

-- a step without a reply, and a reply without a step, change nothing
pub record_of_one :
    (record_after (asks 0 BarrierCall ∷ asks 1 Stop ∷ []) (Wait ∷ []) ((asks 1 BarrierCall, Wait) ∷ []) ≡ (asks 0 BarrierCall, Wait) ∷ (asks 1 BarrierCall, Wait) ∷ [])
    × (record_after [] (Wait ∷ []) ((asks 1 BarrierCall, Wait) ∷ []) ≡ (asks 1 BarrierCall, Wait) ∷ [])
record_of_one = (refl, refl)

-- Which events a run gives

-- ten iterations in chunks of three
abbrev loop_shape : Shape
loop_shape = record { start = pos 0; incr = pos 1; trips = 10; kind = Dynamic; chunk = 3; ordered = false; end_kind = WaitEnd }

-- a loop with its barrier
pub loop_events : events (team_of 2) (run_recorded loop_of_two []) ≡ newest_first
    (Enter 0 0 loop_shape ∷ Take 0 0 0 3 ∷ Enter 0 1 loop_shape ∷ Take 0 1 3 6 ∷ Take 0 0 6 9 ∷ Take 0 1 9 10 ∷ Drained 0 0 ∷ Drained 0 1
    ∷ End 0 0 ∷ Arrive 0 0 (at ShareEnd 1) ∷ End 0 1 ∷ Arrive 0 1 (at ShareEnd 1) ∷ Pass 0 1 ∷ Pass 0 0 ∷ [])
    []
loop_events = refl

-- one iteration
abbrev nowait_shape : Shape
nowait_shape = record { start = pos 0; incr = pos 1; trips = 1; kind = Dynamic; chunk = 1; ordered = false; end_kind = Nowait }

-- two loops without a barrier, the second of which the member stops in
pub nowait_events : events (team_of 1) (run_recorded (loop_alone ++ take 1 loop_alone ++ (asks 0 Stop, Stopped) ∷ []) []) ≡ newest_first
    (Enter 0 0 nowait_shape ∷ Take 0 0 0 1 ∷ Drained 0 0 ∷ End 0 0 ∷ Enter 1 0 nowait_shape ∷ Take 1 0 0 1 ∷ Break 0 AtStop ∷ [])
    []
nowait_events = refl

-- a loop without iterations
abbrev empty_shape : ℕ → Shape
empty_shape start = record { start = pos start; incr = pos 1; trips = 0; kind = Dynamic; chunk = 3; ordered = false; end_kind = Nowait }

-- two of them
pub empty_events : events (team_of 1) (run_recorded empty_loops []) ≡ newest_first
    (Enter 0 0 (empty_shape 5) ∷ Drained 0 0 ∷ End 0 0 ∷ Enter 1 0 (empty_shape 10) ∷ Drained 1 0 ∷ End 1 0 ∷ [])
    []
empty_events = refl

-- sections
pub section_events : events (team_of 2) (run_recorded sections_of_two []) ≡ newest_first
    (Enter 0 0 (sections_shape 3 WaitEnd) ∷ Take 0 0 0 1 ∷ Enter 0 1 (sections_shape 3 WaitEnd) ∷ Take 0 1 1 2 ∷ Take 0 0 2 3 ∷ Drained 0 0 ∷ Drained 0 1
    ∷ End 0 0 ∷ Arrive 0 0 (at ShareEnd 1) ∷ End 0 1 ∷ Arrive 0 1 (at ShareEnd 1) ∷ Pass 0 1 ∷ Pass 0 0 ∷ [])
    []
section_events = refl

-- and a construct without any
pub no_section_events : events (team_of 1) (run_recorded no_sections []) ≡ newest_first (Enter 0 0 (sections_shape 0 Nowait) ∷ Drained 0 0 ∷ End 0 0 ∷ []) []
no_section_events = refl

-- a single without words
pub single_events : events (team_of 2) (run_recorded single_of_two []) ≡ newest_first
    (Enter 0 0 (single_shape false) ∷ Take 0 0 0 1 ∷ End 0 0 ∷ Enter 0 1 (single_shape false) ∷ Drained 0 1 ∷ End 0 1 ∷ [])
    []
single_events = refl

-- singles with words, and a barrier
pub copy_events : events (team_of 2) (run_recorded copied_at_once []) ≡ newest_first
    (Enter 0 0 (single_shape true) ∷ Take 0 0 0 1 ∷ Put 0 0 (11 ∷ []) ∷ End 0 0
    ∷ Enter 0 1 (single_shape true) ∷ Drained 0 1 ∷ Got 0 1 (11 ∷ []) ∷ End 0 1
    ∷ Enter 1 1 (single_shape true) ∷ Take 1 1 0 1 ∷ Put 1 1 [] ∷ End 1 1
    ∷ Enter 1 0 (single_shape true) ∷ Drained 1 0 ∷ Got 1 0 [] ∷ End 1 0
    ∷ Arrive 0 0 (at Barrier 2) ∷ Arrive 0 1 (at Barrier 2) ∷ Pass 0 1 ∷ [])
    []
copy_events = refl

-- two ordered iterations
abbrev ordered_shape : Shape
ordered_shape = record { start = pos 0; incr = pos 1; trips = 2; kind = Dynamic; chunk = 1; ordered = true; end_kind = Nowait }

-- an ordered loop with parts
pub ordered_events : events (team_of 2) (run_recorded ordered_of_two []) ≡ newest_first
    (Enter 0 0 ordered_shape ∷ Take 0 0 0 1 ∷ Enter 0 1 ordered_shape ∷ Take 0 1 1 2 ∷ Part 0 0 0 ∷ PartEnd 0 0 ∷ HandOn 0 0 0 ∷ Drained 0 0
    ∷ Part 0 1 1 ∷ PartEnd 0 1 ∷ HandOn 0 1 1 ∷ Drained 0 1 ∷ End 0 0 ∷ End 0 1 ∷ [])
    []
ordered_events = refl

-- and without
pub handed_events : events (team_of 2) (run_recorded handed_of_two []) ≡ newest_first
    (Enter 0 0 ordered_shape ∷ Take 0 0 0 1 ∷ Enter 0 1 ordered_shape ∷ Take 0 1 1 2 ∷ HandOn 0 0 0 ∷ Drained 0 0 ∷ HandOn 0 1 1 ∷ Drained 0 1 ∷ [])
    []
handed_events = refl

-- a region to its end; the calls after it give none
pub region_events : events (team_of 2) (run_recorded region_of_two []) ≡ newest_first
    (Enter 0 0 (sections_shape 1 WaitEnd) ∷ Take 0 0 0 1 ∷ Enter 0 1 (sections_shape 1 WaitEnd) ∷ Drained 0 1 ∷ Drained 0 0
    ∷ End 0 0 ∷ Arrive 0 0 (at ShareEnd 1) ∷ End 0 1 ∷ Arrive 0 1 (at ShareEnd 1) ∷ Pass 0 1 ∷ Pass 0 0
    ∷ Arrive 1 0 (at RegionEnd 1) ∷ Arrive 1 1 (at RegionEnd 1) ∷ Pass 1 1 ∷ Pass 1 0 ∷ [])
    []
region_events = refl

-- a team breaks at a loop
pub loop_break : take 1 (events (team_of 2) (run_recorded differing_loop [])) ≡ Break 1 (Share 0) ∷ []
loop_break = refl

-- at sections
pub sections_break : take 1 (events (team_of 2) (run_recorded later_share [])) ≡ Break 1 (Share 1) ∷ []
sections_break = refl

-- at a single, and at a loop in place of sections
pub single_break : (take 1 (events (team_of 2) (run_recorded differing_copy [])) ≡ Break 1 (Share 0) ∷ []) × (take 1 (events (team_of 2) (run_recorded differing_sections [])) ≡ Break 1 (Share 0) ∷ [])
single_break = (refl, refl)

-- at a single with words
pub copy_break : take 1 (events (team_of 1) (run_recorded ((asks 0 SingleStart, Wait) ∷ (asks 0 SingleCopyStart, Refused Mismatch) ∷ []) [])) ≡ Break 0 (Share 0) ∷ []
copy_break = refl

-- at a resume
pub resume_break : take 1 (events (team_of 2) (run_recorded differing_at_resume [])) ≡ Break 0 (Share 8) ∷ []
resume_break = refl

-- at a barrier
pub barrier_break : take 1 (events (team_of 2) (run_recorded later_barrier [])) ≡ Break 1 (AtBarrier 1) ∷ []
barrier_break = refl

-- by a stop; the calls after that give no event
pub stop_break : events (team_of 2) (run_recorded stopped_team []) ≡ newest_first (Arrive 0 0 (at Barrier 0) ∷ Break 1 AtStop ∷ []) []
stop_break = refl
