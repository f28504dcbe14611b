-- Where words lie, what the gate of a share is after some events, what the first seat knows, and what two seats do once it is split.
use Rattle.std.proofs.Common.{◌≡◌, true, false, List, [], ◌∷◌, Some, None, refl, pos}
use Rattle.gomp_types.specs.declared.shape.Shape.{Shape}
use Rattle.gomp_types.specs.declared.shape.ShareKind.TheVariants.{StaticEven, Dynamic}
use Rattle.gomp_types.specs.declared.loop_desc.EndKind.TheVariants.{Cancellable}
use Rattle.gomp_events.specs.declared.event.Event.{Event}
use Rattle.gomp_events.specs.declared.event.Event.TheVariants.{Enter, Take, Drained, End, Cancel}
use Rattle.gomp_types.specs.declared.cancel.Scope.TheVariants.{OneShare}
use Rattle.gomp_slots.specs.Words.{gate_at, was_drained, tickets, left_count, gate_of}
use Rattle.gomp_slots.specs.Rule.{first_view}
use Rattle.gomp_slots.specs.Calls.{piece_of, claim_event}
use Rattle.gomp_slots.specs.Seats.{kept_view, dealt_view, both_view}

-- slot 0 begins behind word 0, and slot 7 ends the 49 words; share 8 is in slot 0 again
pub gates_of_slots : (gate_at 0 ≡ 1) × (gate_at 1 ≡ 7) × (gate_at 7 ≡ 43) × (gate_at 8 ≡ 1) × (gate_at 131071 ≡ 43)
gates_of_slots = (refl, refl, refl, refl, refl)

-- a loop of two iterations, in pieces of one, that may be cancelled
abbrev loop_of_two : Shape
loop_of_two = record { start = pos 0; incr = pos 1; trips = 2; kind = Dynamic; chunk = 1; ordered = false; end_kind = Cancellable }

-- three members enter share 0; members 0 and 1 take its pieces, member 2 and then member 0 find none, and member 2 leaves
abbrev events_of_three : List Event
events_of_three = End 0 2 ∷ Drained 0 0 ∷ Drained 0 2 ∷ Take 0 1 1 2 ∷ Take 0 0 0 1 ∷ Enter 0 2 loop_of_two ∷ Enter 0 1 loop_of_two ∷ Enter 0 0 loop_of_two ∷ []

-- so four claims were made and one member has left; of another share none
pub claims_of_three : (tickets 3 0 Dynamic events_of_three ≡ 4) × (left_count 3 0 events_of_three ≡ 1) × (was_drained 0 2 events_of_three ≡ true) × (was_drained 0 1 events_of_three ≡ false) × (tickets 3 1 Dynamic events_of_three ≡ 0) × (left_count 3 1 events_of_three ≡ 0)
claims_of_three = (refl, refl, refl, refl, refl, refl)

-- the pieces of a static share are not claimed
pub claims_of_static : tickets 3 0 StaticEven events_of_three ≡ 0
claims_of_static = refl

-- its gate then, and once it is cancelled
pub gates_of_three : (gate_of 3 0 loop_of_two events_of_three ≡ 1689949371891716) × (gate_of 3 0 loop_of_two (Cancel 1 (OneShare 0) ∷ events_of_three) ≡ 1830686860247044)
gates_of_three = (refl, refl)

-- ticket 1 is the second piece, and ticket 2 is none
pub pieces_of_tickets : (claim_event 0 1 (piece_of 3 (Some (0, loop_of_two)) 1) ≡ Take 0 1 1 2) × (claim_event 0 2 (piece_of 3 (Some (0, loop_of_two)) 2) ≡ Drained 0 2) × (piece_of 3 None 0 ≡ None)
pieces_of_tickets = (refl, refl, refl)

-- the first seat acts for all three members; it gives the second away, then the next one, and takes both in again
pub seats_of_three : ((first_view (record { members = 3 })).mine ≡ 0 ∷ 1 ∷ 2 ∷ []) × ((kept_view (first_view (record { members = 3 }))).mine ≡ 0 ∷ 2 ∷ []) × ((dealt_view (first_view (record { members = 3 }))).mine ≡ 1 ∷ [])
seats_of_three = (refl, refl, refl)

pub seats_joined : (both_view (kept_view (first_view (record { members = 3 }))) (dealt_view (first_view (record { members = 3 })))).mine ≡ 0 ∷ 2 ∷ 1 ∷ []
seats_joined = refl
