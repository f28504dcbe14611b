-- When a scheduler stands for a list of all events of its team. (own)
use Rattle.std.specs.Prelude.{ℕ, ◌<◌, ◌≤◌, ◌≡◌, true, false, List}
use Rattle.std.proofs.Common.{suc}
use Rattle.gomp_types.specs.declared.depend.Dep.{Dep}
use Rattle.gomp_events.specs.declared.event.Event.{Event}
use Rattle.gomp_types.specs.declared.cancel.Scope.{Scope}
use Rattle.gomp_types.specs.declared.cancel.Scope.TheVariants.{Region, OneShare, OneGroup}
use Rattle.gomp_types.specs.Limits.{IsTeamSize}
use Rattle.gomp_events.specs.Tasks.{tasks_created, executed_task}
use Rattle.gomp_events.specs.Cancels.{is_covered}
use Rattle.gomp_events.specs.Goals.{is_unstarted}
use Rattle.gomp_tasks.specs.declared.tasks.TheConstants.{MAX_TASKS}
use Rattle.gomp_tasks.specs.Stands.{TasksView, Stands as TasksStand, count_of, task_members}
use Rattle.gomp_groups.specs.Stands.{GroupsView, Stands as GroupsStand, group_members}
use Rattle.gomp_depend.specs.declared.depends.Depends.{Depends}
use Rattle.gomp_depend.specs.Stands.{HasDependRoom, NoneIsFreed, Stands as DependsStand, waiting_count}
use Rattle.gomp_barrier.specs.Stands.{BarriersView, Stands as BarriersStand, barrier_members}
use Rattle.gomp_cancel.specs.Cancellations.{CancelView, CancelStands}
use Rattle.gomp_ready.specs.Ready.{ReadyView}
use Rattle.gomp_scheduler.specs.Passed.{HaveLooked}
use Rattle.gomp_scheduler.specs.ReadyTasks.{AreReady}

-- a scheduler, as data
pub record SchedulerView : Type 0 where
  pub tasks : TasksView
  pub groups : GroupsView
  pub barriers : BarriersView
  -- for which open tasks the tasks with items wait
  pub depends : Depends
  -- what is cancelled: the region, and which groups
  pub cancelled : CancelView
  -- the tasks that nobody has started, that are deferred and wait for no open task; what members have passed over is not seen
  pub ready : ReadyView

-- how many members the team has
abbrev pub scheduler_members : SchedulerView → ℕ
scheduler_members scheduler = task_members scheduler.tasks

-- each part stands for the events
pub record Stands (scheduler : SchedulerView) (h : List Event) : Type 0 where
  pub tasks : TasksStand scheduler.tasks h
  pub groups : GroupsStand scheduler.groups h
  pub barriers : BarriersStand scheduler.barriers h
  pub depends : DependsStand scheduler.depends h
  pub cancelled : CancelStands scheduler.cancelled h
  pub ready : AreReady scheduler.ready.ids h

-- a team of so many members, 1 to 64, and one place for each of them in every part
pub record SchedulerHasMembers (count : ℕ) (scheduler : SchedulerView) : Type 0 where
  pub size : IsTeamSize count
  pub tasks : task_members scheduler.tasks ≡ count
  pub groups : group_members scheduler.groups ≡ count
  pub barriers : barrier_members scheduler.barriers ≡ count
  pub ready : scheduler.ready.members ≡ count

-- what holds of every scheduler: it stands for some list, and all parts have the same number of members; its ready tasks are these, with what members have passed over among them
pub record IsScheduler (scheduler : SchedulerView) (ready : ReadyView) : Type 0 where
  pub known : (h : List Event) × Stands scheduler h
  pub members : SchedulerHasMembers (scheduler_members scheduler) scheduler
  -- what an event frees stands among the ready tasks at once, and there is room there for each task that waits
  pub freed : NoneIsFreed scheduler.depends
  pub waiting : waiting_count scheduler.depends ≤ scheduler.ready.room
  -- a member has passed over no task that it may start at its level
  pub looked : HaveLooked scheduler.tasks ready

-- there is memory for one more task, in each part that keeps something of it, if a number is left: the member creates it with these items in the task that it executes
pub record HasTaskRoom (m : ℕ) (items : List Dep) (scheduler : SchedulerView) : Type 0 where
  pub tasks : 0 < scheduler.tasks.room
  pub groups : 0 < scheduler.groups.task_room
  pub depends : count_of scheduler.tasks < MAX_TASKS → (h : List Event) → Stands scheduler h → HasDependRoom (suc (tasks_created h)) (executed_task m h) items scheduler.depends
  pub ready : waiting_count scheduler.depends < scheduler.ready.room

-- and for one more group
pub record HasGroupRoom (scheduler : SchedulerView) : Type 0 where
  pub groups : 0 < scheduler.groups.group_room
  pub marks : 0 < scheduler.cancelled.room

-- nothing that a list of events says has changed: it stands for the same lists; there may be more memory
pub record HasGrown (scheduler after : SchedulerView) : Type 0 where
  pub stands : (h : List Event) → Stands scheduler h → Stands after h
  pub stood : (h : List Event) → Stands after h → Stands scheduler h
  pub members : SchedulerHasMembers (scheduler_members scheduler) after

-- what a team may cancel, if so many groups were opened: the region, or one of these
abbrev pub IsOfTeam : Scope → ℕ → Type 0
IsOfTeam Region groups = Unit {0}
IsOfTeam (OneGroup q) groups = q < groups
IsOfTeam (OneShare share) groups = ⊥

-- no task that nobody has started is reached by a cancellation: each was discarded
abbrev pub AreSealed : List Event → Type 0
AreSealed h = (t : ℕ) → is_unstarted t h ≡ true → is_covered t h ≡ false
