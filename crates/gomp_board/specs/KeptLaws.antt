-- What the stored events of a board keep, whoever made the calls. OpenMP API 5.2, sections 12.5, 15.3 to 15.5, 15.9.5 and 16.1.
use Rattle.std.specs.Prelude.{ℕ, List}
use Rattle.gomp_events.specs.declared.event.Event.{Event}
use Rattle.gomp_events.specs.Arrivals.{ArrivalLaws}
use Rattle.gomp_events.specs.TaskLaws.{TaskLaws, BoundIsDone}

-- the laws of a team of so many members
pub record KeepsLaws (members : ℕ) (h : List Event) : Type 0 where
  -- of tasks, groups and cancellation
  pub tasks : TaskLaws h
  -- at a pass of a barrier all tasks bound to it are done
  pub bound : BoundIsDone h
  -- of barriers
  pub arrivals : ArrivalLaws members h
