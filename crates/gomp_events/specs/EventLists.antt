-- Tags and lists of events that the examples share. (own)
use Rattle.std.specs.Prelude.{ℕ, List, [], ◌∷◌, false}
use Rattle.gomp_events.specs.declared.event.Arrival.{Arrival}
use Rattle.gomp_events.specs.declared.event.Tag.{Tag}
use Rattle.gomp_events.specs.declared.event.Event.{Event}
use Rattle.gomp_events.specs.declared.event.Event.TheVariants.{Enter, End}
use Rattle.gomp_types.specs.ExampleShapes.{four}

-- the events, the newest first
abbrev pub newest_first : List Event → List Event → List Event
newest_first [] before = before
newest_first (event ∷ later) before = newest_first later (event ∷ before)

-- the tag of an arrival of this kind, by a member that has entered so many shares
abbrev pub at : Arrival → ℕ → Tag
at kind shares = record { kind = kind; shares = shares }

-- a member has entered eight shares, and left the last
abbrev pub eight_entered : List Event
eight_entered =
    Enter 0 0 (four false) ∷ Enter 1 0 (four false) ∷ Enter 2 0 (four false) ∷ Enter 3 0 (four false)
    ∷ Enter 4 0 (four false) ∷ Enter 5 0 (four false) ∷ Enter 6 0 (four false) ∷ Enter 7 0 (four false) ∷ End 7 0 ∷ []
