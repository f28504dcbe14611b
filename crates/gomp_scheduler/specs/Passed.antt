-- What members have looked at in vain at a wait, so that they need not look again. (own)
use Rattle.std.specs.Prelude.{ℕ, ◌<◌, ◌≤◌, ◌≡◌, ◌&&◌, nat_lt, if◌then◌else◌, Bool, true, false, List, [], ◌∷◌, length}
use Rattle.gomp_types.specs.declared.task.Task.{Task}
use Rattle.gomp_types.specs.declared.task.Task.TheVariants.{Implicit, Explicit}
use Rattle.gomp_events.specs.declared.event.Event.{Event}
use Rattle.gomp_events.specs.Tasks.{contains, tasks_created, task_stack, executed_task, is_ancestor}
use Rattle.gomp_events.specs.Goals.{is_unstarted}
use Rattle.gomp_tasks.specs.Calls.{may_run}
use Rattle.gomp_tasks.specs.Stands.{TasksView, Stands as TasksStand}
use Rattle.gomp_ready.specs.Ready.{ReadyView, passed_at}

-- a member's task at a level: its implicit one at 0, else so many up of those that it has started and not ended; they stand the innermost first
abbrev pub task_at_level : ℕ → ℕ → List ℕ → Task
task_at_level m l [] = Implicit m
task_at_level m l (t ∷ ts) = if nat_lt (length ts) l then Explicit t else task_at_level m l ts

-- that of the member after these events
abbrev pub level_task : ℕ → ℕ → List Event → Task
level_task m l h = task_at_level m l (task_stack m h)

-- whether nobody has started the task, and it is under that one
abbrev pub awaits_under : Task → ℕ → List Event → Bool
awaits_under above t h = is_unstarted t h && is_ancestor above t h

-- the member looks at the task at this level in vain: it was created, and is started, or not under the member's task of that level
pub record LooksInVain (m l t : ℕ) (h : List Event) : Type 0 where
  pub created : t ≤ tasks_created h
  pub apart : awaits_under (level_task m l h) t h ≡ false

-- so are all that the members have passed over at their levels
abbrev pub HavePassed : ReadyView → List Event → Type 0
HavePassed ready h = (m l t : ℕ) → m < ready.members → l ≤ length (task_stack m h) → contains t (passed_at m l ready) ≡ true → LooksInVain m l t h

-- after whatever events the tasks stand for
abbrev pub HaveLooked : TasksView → ReadyView → Type 0
HaveLooked tasks ready = (h : List Event) → TasksStand tasks h → HavePassed ready h

-- the member looks for a task at a wait at this level, that of the task that it executes: it may run just those under that which nobody has started
pub record IsWaitLevel (m l : ℕ) (h : List Event) : Type 0 where
  pub level : l ≡ length (task_stack m h)
  pub runs : (t : ℕ) → may_run m t h ≡ awaits_under (executed_task m h) t h

-- the ready tasks, without what was passed over
abbrev pub shown : ReadyView → ReadyView
shown ready = record ready { passed = [] }
