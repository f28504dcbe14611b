-- Which lists of events are read: tasks are created by their numbers, and one that ends was open. The newest event stands first. (own)
use Rattle.std.specs.Prelude.{ℕ, ◌≡◌, ◌==◌, true, false, if◌then◌else◌, List, [], ◌∷◌}
use Rattle.std.proofs.Common.{suc}
use Rattle.gomp_types.specs.declared.task.Task.{Task}
use Rattle.gomp_types.specs.declared.task.Task.TheVariants.{Implicit}
use Rattle.gomp_events.specs.declared.event.Event.{Event}
use Rattle.gomp_events.specs.declared.event.Event.TheVariants.{Create, Done, Discard}
use Rattle.gomp_events.specs.Tasks.{tasks_created, is_created, is_complete}

-- the task in which a task was created
abbrev pub task_parent : ℕ → List Event → Task
task_parent t [] = Implicit 0
task_parent t (Create task member parent desc ∷ earlier) = if task == t then parent else task_parent t earlier
task_parent t (_ ∷ earlier) = task_parent t earlier

-- the task is open: it was created, and is not complete
pub record IsOpen (t : ℕ) (h : List Event) : Type 0 where
  pub created : is_created t h ≡ true
  pub incomplete : is_complete t h ≡ false

-- tasks are created one after another by their numbers, and one that ends or is discarded was open
abbrev pub InOrder : Event → List Event → Type 0
InOrder (Create t m parent desc) earlier = t ≡ suc (tasks_created earlier)
InOrder (Done t m) earlier = IsOpen t earlier
InOrder (Discard t m) earlier = IsOpen t earlier
InOrder _ earlier = Unit {0}
