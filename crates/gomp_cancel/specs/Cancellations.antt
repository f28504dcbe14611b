-- What of a team is cancelled, as data, and when that stands for a list of events. OpenMP API 5.2, sections 16.1 and 16.2.
use Rattle.std.specs.Prelude.{ℕ, ◌≡◌, ◌||◌, Bool, false, List, length, slice_index_or}
use Rattle.gomp_types.specs.declared.cancel.Scope.TheVariants.{Region, OneGroup}
use Rattle.gomp_types.specs.declared.task.Task.{Task}
use Rattle.gomp_events.specs.declared.event.Event.{Event}
use Rattle.gomp_events.specs.declared.event.Event.TheVariants.{Cancel, Group}
use Rattle.gomp_events.specs.Groups.{groups_opened}
use Rattle.gomp_events.specs.Cancels.{was_cancelled, is_cancelled, some_cancelled, groups_over}

-- what of a team is cancelled, as data
pub record CancelView : Type 0 where
  -- whether the region is
  pub region : Bool
  -- whether each group is, by its number
  pub marks : List Bool
  -- so many more groups find room in memory
  pub room : ℕ

-- what is cancelled is what the events say
pub record CancelStands (cancelled : CancelView) (h : List Event) : Type 0 where
  pub region : is_cancelled h ≡ cancelled.region
  -- each group that was opened has its mark
  pub opened : groups_opened h ≡ length cancelled.marks
  -- a group that was not opened is not cancelled
  pub marked : (q : ℕ) → was_cancelled (OneGroup q) h ≡ slice_index_or cancelled.marks q false

-- whether the task is cancelled: the region is, or a group whose end waits for the task
abbrev pub task_cancelled : Task → List Event → Bool
task_cancelled task h = is_cancelled h || some_cancelled (groups_over task h) h

-- an event that neither cancels the region or a group nor opens a group
abbrev pub IsNoCancelEvent : Event → Type 0
IsNoCancelEvent (Group q m) = ⊥
IsNoCancelEvent (Cancel m Region) = ⊥
IsNoCancelEvent (Cancel m (OneGroup q)) = ⊥
IsNoCancelEvent _ = Unit {0}
