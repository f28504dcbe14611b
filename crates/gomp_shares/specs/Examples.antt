-- Calls, runs and events that the examples share. Each run has the oldest call first. (own)
use Rattle.std.specs.Prelude.{ℕ, ℤ, pos, Bool, true, false, List, [], ◌∷◌, ◌++◌, map, Option, Some, None}
use Rattle.gomp_types.specs.declared.loop_desc.EndKind.TheVariants.{Wait as WaitEnd, Cancellable}
use Rattle.gomp_types.specs.declared.loop_desc.LoopDesc.{LoopDesc}
use Rattle.gomp_types.specs.declared.loop_desc.Sched.{Sched}
use Rattle.gomp_types.specs.declared.loop_desc.Sched.TheVariants.{Static, Dynamic, Guided}
use Rattle.gomp_types.specs.declared.shape.Shape.{Shape}
use Rattle.gomp_types.specs.declared.shape.ShareKind.TheVariants as kind
use Rattle.gomp_events.specs.declared.event.Event.{Event}
use Rattle.gomp_events.specs.declared.event.Event.TheVariants.{Enter, Take, Cancel as CancelEvent, See as SeeEvent}
use Rattle.gomp_types.specs.declared.cancel.CancelKind.TheVariants.{Loop as LoopKind}
use Rattle.gomp_types.specs.declared.cancel.Scope.TheVariants.{OneShare}
use Rattle.gomp_types.specs.Sections.{sections_shape}
use Rattle.gomp_types.specs.Pieces.{Piece, shape_of}
use Rattle.gomp_types.specs.Singles.{single_shape}
use Rattle.gomp_events.specs.declared.seen.Seen.{Seen}
use Rattle.gomp_shares.specs.declared.Opening.TheVariants.{Entered, NotYet, Differs}
use Rattle.gomp_shares.specs.declared.calls.ShareCall.{ShareCall}
use Rattle.gomp_shares.specs.declared.calls.ShareCall.TheVariants.{Open, OpenSections, OpenSingle, Claim, Leave, Begin, EndPart, HandOn, Cancel, See}
use Rattle.gomp_shares.specs.declared.calls.ShareStep.{ShareStep}
use Rattle.gomp_shares.specs.declared.calls.ShareAnswer.{ShareAnswer}
use Rattle.gomp_shares.specs.declared.calls.ShareAnswer.TheVariants.{Opened, Claimed, Left, Turned, Ended, Cancelled, Saw, NotMade}
use Rattle.gomp_shares.specs.Runs.{IsAnswer, AreAnswers, events_of_run}

-- calls with their answers
abbrev pub Run : Type 0
Run = List (ShareStep × ShareAnswer)

-- the calls of a run
abbrev pub steps_of : Run → List ShareStep
steps_of run = map (λ pair. pair.0) run

-- the answers of a run
abbrev pub answers_of : Run → List ShareAnswer
answers_of run = map (λ pair. pair.1) run

-- each answer of the run is that of its call, in a new team of this size
abbrev pub IsRun : ℕ → Run → Type 0
IsRun members run = AreAnswers members (steps_of run) (answers_of run) []

-- the events that it gives in a team of this size
abbrev pub events_of : ℕ → Run → List Event
events_of members run = events_of_run members (steps_of run) (answers_of run) []

-- this is no answer to the step after the run
abbrev pub IsWrong : ℕ → Run → ShareStep → ShareAnswer → Type 0
IsWrong members run step answer = IsAnswer members step answer (events_of members run) → ⊥

-- the step in which a member makes this call
abbrev pub asks : ℕ → ShareCall → ShareStep
asks m call = record { member = m; call = call }

-- Loops, from 0 in steps of 1

-- a loop of step 1 from 0 on
abbrev pub loop_of : Bool → Sched → ℤ → ℤ → LoopDesc
loop_of ordered sched trips chunk = record { start = pos 0; end = trips; incr = pos 1; sched = sched; chunk = chunk; ordered = ordered; end_kind = WaitEnd }

-- ten iterations in chunks of three
abbrev pub ten : LoopDesc
ten = loop_of false Dynamic (pos 10) (pos 3)

-- and nine
abbrev pub nine : LoopDesc
nine = loop_of false Dynamic (pos 9) (pos 3)

-- ten whose chunks are assigned beforehand
abbrev pub static_ten : LoopDesc
static_ten = loop_of false Static (pos 10) (pos 3)

-- one iteration, by the static schedule without a chunk
abbrev pub even_one : LoopDesc
even_one = loop_of false Static (pos 1) (pos 0)

-- ten iterations by the guided schedule, in chunks of two or more
abbrev pub guided_ten : LoopDesc
guided_ten = loop_of false Guided (pos 10) (pos 2)

-- two iterations with ordered parts
abbrev pub ordered_two : LoopDesc
ordered_two = loop_of true Dynamic (pos 2) (pos 1)

-- and four in chunks of two
abbrev pub ordered_four : LoopDesc
ordered_four = loop_of true Dynamic (pos 4) (pos 2)

-- a loop that is refused: it has no step
abbrev pub no_step : LoopDesc
no_step = record { start = pos 0; end = pos 10; incr = pos 0; sched = Dynamic; chunk = pos 3; ordered = false; end_kind = WaitEnd }

-- a shape that no construct has: its pieces would have no iteration
abbrev pub no_chunk : Shape
no_chunk = record { start = pos 0; incr = pos 1; trips = 0; kind = kind.Dynamic; chunk = 0; ordered = false; end_kind = WaitEnd }

-- and a single with ordered parts
abbrev pub ordered_single : Shape
ordered_single = record (single_shape false) { ordered = true }

-- Runs

-- a member enters a loop
abbrev pub inside_ten : Run
inside_ten = (asks 0 (Open ten), Opened Entered) ∷ []

-- and takes its first piece
abbrev pub took_one : Run
took_one = inside_ten ++ (asks 0 Claim, Claimed (Some (0, 3))) ∷ []

-- two members take all pieces
abbrev pub took_all : Run
took_all =
    took_one
    ++ (asks 1 (Open ten), Opened Entered)
    ∷ (asks 1 Claim, Claimed (Some (3, 6)))
    ∷ (asks 0 Claim, Claimed (Some (6, 9)))
    ∷ (asks 1 Claim, Claimed (Some (9, 10)))
    ∷ []

-- and one is told that nothing is left
abbrev pub told_none : Run
told_none = took_all ++ (asks 0 Claim, Claimed None) ∷ []

-- both leave the loop; calls before their time, after it and of a stranger are not made
abbrev pub left_ten : Run
left_ten =
    told_none
    ++ (asks 0 Claim, NotMade)
    ∷ (asks 0 Leave, Left)
    ∷ (asks 1 Leave, NotMade)
    ∷ (asks 1 (Open ten), NotMade)
    ∷ (asks 1 Claim, Claimed None)
    ∷ (asks 1 Leave, Left)
    ∷ (asks 0 Claim, NotMade)
    ∷ (asks 2 (Open ten), NotMade)
    ∷ (asks 0 (Open no_step), NotMade)
    ∷ []

-- two members hold the pieces of an ordered loop
abbrev pub both_hold : Run
both_hold =
    (asks 0 (Open ordered_two), Opened Entered)
    ∷ (asks 1 (Open ordered_two), Opened Entered)
    ∷ (asks 0 Claim, Claimed (Some (0, 1)))
    ∷ (asks 1 Claim, Claimed (Some (1, 2)))
    ∷ []

-- the first is in its part, and the second has no turn
abbrev pub in_the_part : Run
in_the_part =
    both_hold ++ (asks 1 (Begin 1), Turned false) ∷ (asks 1 HandOn, Turned false) ∷ (asks 0 (Begin 0), Turned true) ∷ []

-- the second has the turn when the first has handed its piece on, and not before
abbrev pub handed_on : Run
handed_on =
    in_the_part
    ++ (asks 0 HandOn, NotMade)
    ∷ (asks 0 Claim, NotMade)
    ∷ (asks 0 EndPart, Ended)
    ∷ (asks 0 EndPart, NotMade)
    ∷ (asks 1 (Begin 1), Turned false)
    ∷ (asks 0 HandOn, Turned true)
    ∷ (asks 0 HandOn, Turned false)
    ∷ []

-- and goes through its part
abbrev pub parts_over : Run
parts_over =
    handed_on
    ++ (asks 1 (Begin 1), Turned true)
    ∷ (asks 1 EndPart, Ended)
    ∷ (asks 1 HandOn, Turned true)
    ∷ (asks 1 Claim, Claimed None)
    ∷ (asks 1 Leave, Left)
    ∷ []

-- three sections; a construct with four is another one, and one with too many is refused
abbrev pub in_sections : Run
in_sections =
    (asks 0 (OpenSections 65537 WaitEnd), NotMade)
    ∷ (asks 0 (OpenSections 3 WaitEnd), Opened Entered)
    ∷ (asks 0 Claim, Claimed (Some (0, 1)))
    ∷ (asks 1 (OpenSections 4 WaitEnd), Opened Differs)
    ∷ (asks 1 (OpenSections 3 WaitEnd), Opened Entered)
    ∷ (asks 1 Claim, Claimed (Some (1, 2)))
    ∷ (asks 0 Claim, Claimed (Some (2, 3)))
    ∷ []

-- a member takes the piece of a single
abbrev pub in_single : Run
in_single = (asks 0 (OpenSingle false), Opened Entered) ∷ (asks 0 Leave, NotMade) ∷ (asks 0 Claim, Claimed (Some (0, 1))) ∷ []

-- the other is told that it is taken; a single with words is another construct
abbrev pub left_single : Run
left_single =
    in_single
    ++ (asks 0 Leave, Left)
    ∷ (asks 1 (OpenSingle true), Opened Differs)
    ∷ (asks 1 (OpenSingle false), Opened Entered)
    ∷ (asks 1 Leave, NotMade)
    ∷ (asks 1 Claim, Claimed None)
    ∷ (asks 1 Leave, Left)
    ∷ []

-- each member takes the pieces that it owns
abbrev pub in_static : Run
in_static = (asks 1 (Open static_ten), Opened Entered) ∷ (asks 1 Claim, Claimed (Some (3, 6))) ∷ []

-- member 1 is in the static loop of one iteration, and has none of it
abbrev pub in_even : Run
in_even = (asks 1 (Open even_one), Opened Entered) ∷ (asks 1 Claim, Claimed None) ∷ []

-- member 0 has the first piece of the guided loop
abbrev pub in_guided : Run
in_guided = (asks 0 (Open guided_ten), Opened Entered) ∷ (asks 0 Claim, Claimed (Some (0, 5))) ∷ []

-- a member goes through a single alone
abbrev pub single_alone : Run
single_alone = (asks 0 (OpenSingle false), Opened Entered) ∷ (asks 0 Claim, Claimed (Some (0, 1))) ∷ (asks 0 Leave, Left) ∷ []

-- a member goes through four singles alone
abbrev pub four_ahead : Run
four_ahead = single_alone ++ single_alone ++ single_alone ++ single_alone

-- and through eight
abbrev pub eight_ahead : Run
eight_ahead = four_ahead ++ four_ahead

-- and has to wait at the ninth until the other has left the first
abbrev pub ninth_share : Run
ninth_share =
    eight_ahead
    ++ (asks 0 (OpenSingle false), Opened NotYet)
    ∷ (asks 1 (OpenSingle false), Opened Entered)
    ∷ (asks 1 Claim, Claimed None)
    ∷ (asks 0 (OpenSingle false), Opened NotYet)
    ∷ (asks 1 Leave, Left)
    ∷ []

-- What a member sees of its place

-- what a member sees of its place, field by field
abbrev pub sees : ℕ → Option (ℕ × Shape) → Bool → Option Piece → ℕ → Bool → Seen
sees entered current drained piece next_part in_part =
    record { entered = entered; current = current; drained = drained; piece = piece; next_part = next_part; in_part = in_part; leaving = false }

-- outside, after so many shares
abbrev pub sees_outside : ℕ → Seen
sees_outside entered = sees entered None false None 0 false

-- in a loop: with nothing, with a piece, told that nothing is left, and in a part
abbrev pub sees_loop : LoopDesc → Bool → Option Piece → ℕ → Bool → Seen
sees_loop loop drained piece next_part in_part = sees 1 (Some (0, shape_of loop)) drained piece next_part in_part

-- and in a single
abbrev pub sees_single : Bool → Option Piece → Seen
sees_single copies piece = sees 1 (Some (0, single_shape copies)) false piece 0 false

-- one that has seen that its share is cancelled
abbrev pub sees_leaving : Seen → Seen
sees_leaving seen = record seen { leaving = true }

-- Loops and sections that may be cancelled

-- ten iterations in chunks of three
abbrev pub cancellable_ten : LoopDesc
cancellable_ten = record ten { end_kind = Cancellable }

-- two members are in that loop, each with its first piece
abbrev pub in_cancellable : List Event
in_cancellable = Take 0 1 3 6 ∷ Enter 0 1 (shape_of cancellable_ten) ∷ Take 0 0 0 3 ∷ Enter 0 0 (shape_of cancellable_ten) ∷ []

-- the first cancels it
abbrev pub loop_cancelled : List Event
loop_cancelled = CancelEvent 0 (OneShare 0) ∷ in_cancellable

-- and has seen that it is cancelled
abbrev pub loop_seen : List Event
loop_seen = SeeEvent 0 LoopKind ∷ loop_cancelled

-- a member alone is in sections, and cancels them
abbrev pub sections_cancelled : List Event
sections_cancelled = CancelEvent 0 (OneShare 0) ∷ Take 0 0 0 1 ∷ Enter 0 0 (sections_shape 3 Cancellable) ∷ []

-- a member leaves a loop that is cancelled when it has seen that; the other is handed pieces until then
abbrev pub left_cancelled : Run
left_cancelled =
    (asks 0 (Open cancellable_ten), Opened Entered)
    ∷ (asks 1 (Open cancellable_ten), Opened Entered)
    ∷ (asks 0 Claim, Claimed (Some (0, 3)))
    ∷ (asks 0 Leave, NotMade)
    ∷ (asks 1 See, Saw false)
    ∷ (asks 0 Cancel, Cancelled)
    ∷ (asks 0 Leave, NotMade)
    ∷ (asks 0 See, Saw true)
    ∷ (asks 0 Leave, Left)
    ∷ (asks 1 Claim, Claimed (Some (3, 6)))
    ∷ (asks 1 See, Saw true)
    ∷ (asks 1 Leave, Left)
    ∷ (asks 0 Cancel, NotMade)
    ∷ (asks 0 See, NotMade)
    ∷ []
