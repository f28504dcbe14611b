-- What the calls on a team's tasks ask for and answer. OpenMP API 5.2, chapter 12.
use Rattle.std.specs.Prelude.{ℕ, ◌≡◌, ◌&&◌, ◌||◌, Bool, List, Option, Some, None}
use Rattle.std.proofs.Common.{suc}
use Rattle.gomp_types.specs.declared.task.Task.{Task}
use Rattle.gomp_types.specs.declared.task.Task.TheVariants.{Implicit, Explicit}
use Rattle.gomp_events.specs.declared.event.Event.{Event}
use Rattle.gomp_events.specs.declared.event.Event.TheVariants.{Create, Start, Done, Discard}
use Rattle.gomp_events.specs.Tasks.{same_task, of_explicit, executed_task, epoch_of_child, is_odd, is_ancestor}
use Rattle.gomp_events.specs.Goals.{each_of, is_unstarted, may_descend}
use Rattle.gomp_events.specs.TaskRules.{MayCreate}
use Rattle.gomp_tasks.specs.declared.tasks.Ended.{Ended}
use Rattle.gomp_tasks.specs.Stands.{TasksView, task_members, count_of}

-- the member may create the next task in the one that it executes, bound to a barrier whose number is odd or not
pub record MayCreateNext (tasks : TasksView) (m : ℕ) (odd : Bool) (h : List Event) : Type 0 where
  pub rule : MayCreate (task_members tasks) (suc (count_of tasks)) m (executed_task m h) h
  pub odd_is : odd ≡ is_odd (epoch_of_child (executed_task m h) h)

-- the explicit task, or the member's implicit one if there is none
abbrev pub task_or_implicit : ℕ → Option ℕ → Task
task_or_implicit m None = Implicit m
task_or_implicit m (Some t) = Explicit t

-- the number of the task that has ended, if one has
abbrev pub ended_task : Option Ended → Option ℕ
ended_task None = None
ended_task (Some ended) = Some ended.task

-- whether the task is the one above, or descends from it
abbrev pub is_within : Task → Task → List Event → Bool
is_within above task h = same_task task above || of_explicit (λ t. is_ancestor above t h) task

-- whether the task descends from all of these
abbrev pub is_under_all : List ℕ → ℕ → List Event → Bool
is_under_all ss t h = each_of (λ s. is_ancestor (Explicit s) t h) ss

-- whether the member may start the task, if it waits for no other and no cancellation reaches it: nobody has started it, and it descends so
abbrev pub may_run : ℕ → ℕ → List Event → Bool
may_run m t h = is_unstarted t h && may_descend m t h

-- an event that creates, starts, ends or discards no task
abbrev pub IsNoTaskEvent : Event → Type 0
IsNoTaskEvent (Create t m parent desc) = ⊥
IsNoTaskEvent (Start t m) = ⊥
IsNoTaskEvent (Done t m) = ⊥
IsNoTaskEvent (Discard t m) = ⊥
IsNoTaskEvent _ = Unit {0}
