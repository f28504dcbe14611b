-- What the laws of arrivals and of tasks never let happen, each in the whole generality of the law in Laws.antt that it cites.
use Rattle.std.proofs.Common.{ℕ, List}
use Rattle.gomp_events.specs.declared.event.Event.{Event}
use Rattle.gomp_events.specs.Laws.{Always}
use Rattle.gomp_events.specs.Arrivals.{ArrivalRule, ArrivalLaws}
use Rattle.gomp_events.specs.TaskRules.{TaskRule}
use Rattle.gomp_events.specs.TaskLaws.{TaskLaws, BoundIsDone}
use Rattle.gomp_events.proofs.Laws.{arrival_rule_keeps_laws, task_rule_keeps_laws, bound_tasks_are_done}

-- no events that keep the rule of arrivals break their laws, whether the region is cancelled or not
pub arrival_rule_never_breaks_laws : (members : ℕ) (h : List Event) → Always (ArrivalRule members) h → (ArrivalLaws members h → ⊥) → ⊥
arrival_rule_never_breaks_laws members h rule broken = broken (arrival_rule_keeps_laws members h rule)

-- nor those that keep the rules of arrivals and tasks the laws of tasks
pub task_rule_never_breaks_laws : (members : ℕ) (h : List Event) → Always (ArrivalRule members) h → Always (TaskRule members) h → (TaskLaws h → ⊥) → ⊥
task_rule_never_breaks_laws members h arrivals tasks broken = broken (task_rule_keeps_laws members h arrivals tasks)

-- no task that is bound to a barrier is undone when a member passes it
pub bound_tasks_never_undone : (h : List Event) → TaskLaws h → (BoundIsDone h → ⊥) → ⊥
bound_tasks_never_undone h laws undone = undone (bound_tasks_are_done h laws)
