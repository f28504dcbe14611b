-- What the calls on a team's tasks ask for. (own)
use Rattle.gomp_events.specs.declared.event.Event.{Event}
use Rattle.gomp_events.specs.declared.event.Event.TheVariants.{Create, Done, Discard}

-- an event that neither creates, ends nor discards a task
abbrev pub IsNoDependEvent : Event → Type 0
IsNoDependEvent (Create t m parent desc) = ⊥
IsNoDependEvent (Done t m) = ⊥
IsNoDependEvent (Discard t m) = ⊥
IsNoDependEvent _ = Unit {0}
