-- Which tasks a member may start. OpenMP API 5.2, sections 12.5 and 12.9.
use Rattle.std.specs.Prelude.{ℕ, ◌≡◌, true, false, List}
use Rattle.std.proofs.Common.{suc}
use Rattle.gomp_events.specs.declared.event.Event.{Event}
use Rattle.gomp_events.specs.Tasks.{tasks_created, executed_task, is_undeferred}
use Rattle.gomp_events.specs.Goals.{is_startable, some_startable}
use Rattle.gomp_events.specs.TaskRules.{MayCreate, MayStart}
use Rattle.gomp_scheduler.specs.Schedulers.{SchedulerView, Stands, AreSealed, scheduler_members}

-- the member may start the task at a wait, after whatever events the scheduler stands for, if what a cancellation reaches was discarded
abbrev pub IsFound : ℕ → SchedulerView → ℕ → Type 0
IsFound m scheduler t = (h : List Event) → Stands scheduler h → AreSealed h → is_startable m t h ≡ true

-- it may start none
abbrev pub MayStartNone : ℕ → SchedulerView → Type 0
MayStartNone m scheduler = (h : List Event) → Stands scheduler h → AreSealed h → some_startable m h ≡ false

-- the rule lets the member start the task, which is undeferred
pub record MayStartOwn (m t : ℕ) (scheduler : SchedulerView) (h : List Event) : Type 0 where
  pub rule : MayStart (scheduler_members scheduler) t m h
  pub undeferred : is_undeferred t h ≡ true

-- the rule lets the member create the next task, in the one that it executes
abbrev pub CreatesNext : ℕ → SchedulerView → List Event → Type 0
CreatesNext m scheduler h = MayCreate (scheduler_members scheduler) (suc (tasks_created h)) m (executed_task m h) h
