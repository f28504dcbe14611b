-- What each member of a team takes next of a loop, and what was taken from a queue.
use Rattle.std.proofs.Common.{◌≡◌, List, [], ◌∷◌, Some, None, refl}
use Rattle.std.specs.Prelude.{map}
use Rattle.gomp_types.specs.declared.shape.ShareKind.TheVariants as kind
use Rattle.gomp_events.specs.declared.event.Event.{Event}
use Rattle.gomp_events.specs.declared.event.Event.TheVariants.{Take}
use Rattle.gomp_types.specs.ExampleShapes.{ten}
use Rattle.gomp_types.specs.Deals.{schedule}
use Rattle.gomp_events.specs.Takes.{next_for, taken_in, takes_in}
use Rattle.gomp_events.specs.EventLists.{newest_first}

-- what each member of three finds first: of a static loop its own pieces, of another the first
pub first_pieces :
    (map (λ m. next_for (schedule 3) (ten kind.StaticChunked) 0 m []) (0 ∷ 1 ∷ 2 ∷ []) ≡ Some (0, 2) ∷ Some (2, 4) ∷ Some (4, 6) ∷ [])
    × (map (λ m. next_for (schedule 3) (ten kind.StaticEven) 0 m []) (0 ∷ 1 ∷ 2 ∷ []) ≡ Some (0, 4) ∷ Some (4, 7) ∷ Some (7, 10) ∷ [])
    × (map (λ m. next_for (schedule 3) (ten kind.Dynamic) 0 m []) (0 ∷ 1 ∷ 2 ∷ []) ≡ Some (0, 2) ∷ Some (0, 2) ∷ Some (0, 2) ∷ [])
first_pieces = (refl, refl, refl)

-- two takes of the share, and one of another
abbrev two_takes : List Event
two_takes = newest_first (Take 0 0 0 2 ∷ Take 0 1 2 4 ∷ Take 1 0 0 2 ∷ []) []

-- what each member finds after them
pub next_pieces :
    (map (λ m. next_for (schedule 3) (ten kind.StaticChunked) 0 m two_takes) (0 ∷ 1 ∷ 2 ∷ []) ≡ Some (6, 8) ∷ Some (8, 10) ∷ Some (4, 6) ∷ [])
    × (map (λ m. next_for (schedule 3) (ten kind.StaticEven) 0 m two_takes) (0 ∷ 1 ∷ 2 ∷ []) ≡ None ∷ None ∷ Some (7, 10) ∷ [])
    × (map (λ m. next_for (schedule 3) (ten kind.Dynamic) 0 m two_takes) (0 ∷ 1 ∷ 2 ∷ []) ≡ Some (4, 6) ∷ Some (4, 6) ∷ Some (4, 6) ∷ [])
next_pieces = (refl, refl, refl)

-- the takes from one queue, in their order, and of one member's
pub takes_from_queues :
    (takes_in (λ m. 0) 0 0 two_takes ≡ (0, 2) ∷ (2, 4) ∷ []) × (takes_in (λ m. m) 0 1 two_takes ≡ (2, 4) ∷ []) × (takes_in (λ m. m) 1 1 two_takes ≡ [])
    × (taken_in (λ m. 0) 0 0 two_takes ≡ 2) × (taken_in (λ m. m) 0 1 two_takes ≡ 1) × (taken_in (λ m. m) 1 1 two_takes ≡ 0)
takes_from_queues = (refl, refl, refl, refl, refl, refl)
