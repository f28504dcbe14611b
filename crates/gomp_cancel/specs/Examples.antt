-- Events, and what of a team is cancelled after them or is not, that the examples share. Each list has the newest event first. (own)
use Rattle.std.specs.Prelude.{Bool, List, [], ◌∷◌}
use Rattle.gomp_types.specs.declared.cancel.Scope.TheVariants.{Region, OneGroup}
use Rattle.gomp_types.specs.declared.task.Task.TheVariants.{Implicit}
use Rattle.gomp_events.specs.declared.event.Event.{Event}
use Rattle.gomp_events.specs.declared.event.Event.TheVariants.{Create, Start, Group, Cancel}
use Rattle.gomp_groups.specs.Examples.{some_desc}
use Rattle.gomp_cancel.specs.Cancellations.{CancelView}

-- what is cancelled, with room for one more group
abbrev pub cancelled_with : Bool → List Bool → CancelView
cancelled_with region marks = record { region = region; marks = marks; room = 1 }

-- member 0 opens a group and creates task 1 in it, and task 2 after it has opened a second group
abbrev pub two_groups : List Event
two_groups = Create 2 0 (Implicit 0) some_desc ∷ Group 1 0 ∷ Create 1 0 (Implicit 0) some_desc ∷ Group 0 0 ∷ []

-- it starts task 2, and cancels the second group there
abbrev pub second_cancelled : List Event
second_cancelled = Cancel 0 (OneGroup 1) ∷ Start 2 0 ∷ two_groups

-- or another member cancels the region
abbrev pub region_cancelled : List Event
region_cancelled = Cancel 1 Region ∷ two_groups
