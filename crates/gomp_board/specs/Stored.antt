-- Which events a board stores. (own)
use Rattle.std.specs.Prelude.{Bool, true, false, if◌then◌else◌, List, [], ◌∷◌}
use Rattle.std.specs.Bool.{OnTrue}
use Rattle.gomp_events.specs.declared.event.Event.{Event}
use Rattle.gomp_events.specs.declared.event.Event.TheVariants.{Put, Got, Arrive, Pass, Create, Start, Done, Group, GroupEnd, Waited, Cancel, Discard, Break}
use Rattle.gomp_types.specs.declared.cancel.Scope.TheVariants.{OneShare}

-- whether a board stores the event: not what a member does in its shares, nor a taskwait, nor what names and locks keep, nor that a member sees a cancellation
abbrev pub is_stored : Event → Bool
is_stored (Put share m payload) = true
is_stored (Got share m payload) = true
is_stored (Arrive barrier m tag) = true
is_stored (Pass barrier m) = true
is_stored (Create task m parent desc) = true
is_stored (Start task m) = true
is_stored (Done task m) = true
is_stored (Group group m) = true
is_stored (GroupEnd group m) = true
is_stored (Cancel m (OneShare share)) = false
is_stored (Cancel m scope) = true
is_stored (Discard task m) = true
is_stored (Break m place) = true
is_stored _ = false

-- those that it stores
abbrev pub stored : List Event → List Event
stored [] = []
stored (event ∷ earlier) = if is_stored event then event ∷ stored earlier else stored earlier

-- an event that changes nothing for a board: it is not stored, and it ends no taskwait
abbrev pub IsNotStored : Event → Type 0
IsNotStored (Waited m items) = ⊥
IsNotStored event = OnTrue (is_stored event) ⊥

-- each of these
abbrev pub AreAside : List Event → Type 0
AreAside [] = Unit {0}
AreAside (event ∷ earlier) = IsNotStored event × AreAside earlier
