-- What holds of arrivals and of tasks, from the definitions alone: the laws that the crates above cite.
use Rattle.std.proofs.Common.{ℕ, List}
use Rattle.gomp_events.specs.declared.event.Event.{Event}
use Rattle.gomp_events.specs.Laws.{Always}
use Rattle.gomp_events.specs.Arrivals.{ArrivalRule, ArrivalLaws}
use Rattle.gomp_events.specs.TaskRules.{TaskRule}
use Rattle.gomp_events.specs.TaskLaws.{TaskLaws, BoundIsDone}
use Rattle.gomp_events.proofs.ArrivalsKeep.{arrivals_keep}
use Rattle.gomp_events.proofs.TasksKeep.{tasks_keep}
use Rattle.gomp_events.proofs.BoundTasks.{bound_is_done}

-- however the arrivals are kept, events that keep their rule keep their laws: all members arrive alike, at one barrier after
-- another, and none passes before all arrived
pub arrival_rule_keeps_laws : (members : ℕ) (h : List Event) → Always (ArrivalRule members) h → ArrivalLaws members h
arrival_rule_keeps_laws = arrivals_keep

-- however tasks and groups are kept, events that keep their rule and that of the arrivals keep their laws: each task is started
-- once, only as a descendant of those that its member has not ended, and whoever waits for tasks goes on when they are done
pub task_rule_keeps_laws : (members : ℕ) (h : List Event) → Always (ArrivalRule members) h → Always (TaskRule members) h → TaskLaws h
task_rule_keeps_laws = tasks_keep

-- so before a member passes a barrier every task of the whole list that is bound to it, or to an earlier one, is done
pub bound_tasks_are_done : (h : List Event) → TaskLaws h → BoundIsDone h
bound_tasks_are_done = bound_is_done
