-- From one law of each event to another.
use Rattle.std.specs.Prelude.{List, [], ◌∷◌}
use Rattle.gomp_events.specs.declared.event.Event.{Event}
use Rattle.gomp_events.specs.Laws.{Always}

-- a law of each event follows from one that gives it of each
pub always_so : (P Q : Event → List Event → Type 0) → ((event : Event) (earlier : List Event) → P event earlier → Always P earlier → Q event earlier) → (h : List Event) → Always P h → Always Q h
always_so P Q each [] all = tt
always_so P Q each (event ∷ earlier) all = (each event earlier all.0 all.1, always_so P Q each earlier all.1)

-- and from two laws
pub both_so : (P R Q : Event → List Event → Type 0) → ((event : Event) (earlier : List Event) → P event earlier → Always R earlier → Q event earlier) → (h : List Event) → Always P h → Always R h → Always Q h
both_so P R Q each [] one other = tt
both_so P R Q each (event ∷ earlier) one other = (each event earlier one.0 other.1, both_so P R Q each earlier one.1 other.1)
