-- Worked parts of lists of events: which events stay, in which order, and whose.
use Rattle.std.proofs.Common.{◌≡◌, ℕ, true, List, [], ◌∷◌, refl}
use Rattle.gomp_types.specs.declared.refusal.Place.{Place}
use Rattle.gomp_events.specs.declared.event.Tag.{Tag}
use Rattle.gomp_events.specs.declared.event.Event.TheVariants.{Enter, Take, Drained, End, HandOn, Part, PartEnd, Put, Got, Arrive, Pass, Break}
use Rattle.gomp_types.specs.Pieces.{shape_of}
use Rattle.gomp_types.specs.Singles.{single_shape}
use Rattle.gomp_shares.specs.Examples.{ordered_two, events_of, parts_over, left_single}
use Rattle.gomp_shares.specs.Only.{shares_only, own_of}

-- The events of the shares

-- words, arrivals and breaks are dropped, and the others stay in their order
pub only_a_single : (m k : ℕ) (words : List ℕ) (tag : Tag) (place : Place) →
    shares_only (Break m place ∷ Pass 0 m ∷ Arrive 0 m tag ∷ End 0 m ∷ Got 0 k words ∷ Put 0 m words ∷ Take 0 m 0 1 ∷ Enter 0 m (single_shape true) ∷ []) ≡ End 0 m ∷ Take 0 m 0 1 ∷ Enter 0 m (single_shape true) ∷ []
only_a_single m k words tag place = refl

-- an ordered loop whose calls gave all kinds of events of the shares keeps them all
pub only_an_ordered_loop : shares_only (events_of 2 parts_over) ≡ events_of 2 parts_over
only_an_ordered_loop = refl

-- if nothing but arrivals happened nothing stays
pub only_arrivals : (tag : Tag) → shares_only (Pass 0 1 ∷ Pass 0 0 ∷ Arrive 0 1 tag ∷ Arrive 0 0 tag ∷ []) ≡ []
only_arrivals tag = refl

-- Those of a member

-- the calls of the member that handed its piece on first
pub own_of_the_first : own_of 0 (events_of 2 parts_over) ≡ HandOn 0 0 0 ∷ PartEnd 0 0 ∷ Part 0 0 0 ∷ Take 0 0 0 1 ∷ Enter 0 0 (shape_of ordered_two) ∷ []
own_of_the_first = refl

-- and of the other
pub own_of_the_second : own_of 1 (events_of 2 parts_over) ≡ End 0 1 ∷ Drained 0 1 ∷ HandOn 0 1 1 ∷ PartEnd 0 1 ∷ Part 0 1 1 ∷ Take 0 1 1 2 ∷ Enter 0 1 (shape_of ordered_two) ∷ []
own_of_the_second = refl

-- a stranger has none
pub own_of_a_stranger : own_of 2 (events_of 2 left_single) ≡ []
own_of_a_stranger = refl

-- its words, arrivals and breaks are a member's own too
pub own_of_all_kinds : (words : List ℕ) (tag : Tag) (place : Place) → own_of 1 (Break 1 place ∷ Pass 0 0 ∷ Arrive 0 1 tag ∷ Got 0 1 words ∷ Put 0 0 words ∷ []) ≡ Break 1 place ∷ Arrive 0 1 tag ∷ Got 0 1 words ∷ []
own_of_all_kinds words tag place = refl
