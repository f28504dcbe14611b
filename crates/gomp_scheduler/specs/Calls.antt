-- What a scheduler is lent at the end of a task, and which events it does not see. OpenMP API 5.2, section 15.9.5.
use Rattle.std.specs.Prelude.{ℕ, List, []}
use Rattle.gomp_types.specs.declared.depend.Dep.{Dep}
use Rattle.gomp_types.specs.declared.task.Task.{Task}
use Rattle.gomp_types.specs.declared.task.Task.TheVariants.{Implicit, Explicit}
use Rattle.gomp_events.specs.declared.event.Event.{Event}
use Rattle.gomp_events.specs.declared.event.Event.TheVariants.{Arrive, Pass, Create, Start, Done, Group, GroupEnd, Cancel, Discard}
use Rattle.gomp_types.specs.declared.cancel.Scope.TheVariants.{Region, OneGroup}
use Rattle.gomp_events.specs.Tasks.{executed_task}
use Rattle.gomp_events.specs.Depends.{task_items}

-- the items of an explicit task; an implicit one has none
abbrev pub items_of_task : Task → List Event → List Dep
items_of_task (Implicit m) h = []
items_of_task (Explicit t) h = task_items t h

-- those of the task that the member executes
abbrev pub executed_items : ℕ → List Event → List Dep
executed_items m h = items_of_task (executed_task m h) h

-- an event that no call of a scheduler puts in front
abbrev pub IsNoSchedulerEvent : Event → Type 0
IsNoSchedulerEvent (Arrive barrier m tag) = ⊥
IsNoSchedulerEvent (Pass barrier m) = ⊥
IsNoSchedulerEvent (Create t m parent desc) = ⊥
IsNoSchedulerEvent (Start t m) = ⊥
IsNoSchedulerEvent (Done t m) = ⊥
IsNoSchedulerEvent (Group q m) = ⊥
IsNoSchedulerEvent (GroupEnd q m) = ⊥
IsNoSchedulerEvent (Cancel m Region) = ⊥
IsNoSchedulerEvent (Cancel m (OneGroup q)) = ⊥
IsNoSchedulerEvent (Discard t m) = ⊥
IsNoSchedulerEvent _ = Unit {0}
