-- How a law of a team's events is said: of each event, given those before it.
use Rattle.std.specs.Prelude.{◌≡◌, List, [], ◌∷◌, ◌⊎◌}
use Rattle.gomp_events.specs.declared.event.Event.{Event}

-- a law holds of each event, given the events before it
abbrev pub Always : (Event → List Event → Type 0) → List Event → Type 0
Always Law [] = Unit {0}
Always Law (event ∷ earlier) = Law event earlier × Always Law earlier

-- the event is among them
abbrev pub Happened : Event → List Event → Type 0
Happened event [] = ⊥
Happened event (other ∷ earlier) = (other ≡ event) ⊎ Happened event earlier
