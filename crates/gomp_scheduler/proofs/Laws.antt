-- What holds of every list of events that a scheduler stands for: the law that the crates above cite.
use Rattle.std.proofs.Common.{List, ◌∷◌}
use Rattle.gomp_events.specs.declared.event.Event.{Event}
use Rattle.gomp_events.specs.declared.event.Event.TheVariants.{Arrive, Pass, Create, Start, Done, Group, GroupEnd, Cancel, Discard}
use Rattle.gomp_types.specs.declared.cancel.Scope.TheVariants.{Region, OneShare, OneGroup}
use Rattle.gomp_events.specs.TaskRules.{TaskRule}
use Rattle.gomp_tasks.specs.Calls.{IsNoTaskEvent as TasksAside}
use Rattle.gomp_tasks.specs.Stands.{task_members}
use Rattle.gomp_tasks.proofs.Laws.{events_aside_keep_tasks}
use Rattle.gomp_groups.specs.Calls.{IsNoGroupEvent as GroupsAside}
use Rattle.gomp_groups.specs.Stands.{group_members}
use Rattle.gomp_groups.proofs.Laws.{events_aside_keep_groups}
use Rattle.gomp_barrier.specs.Calls.{IsNoBarrierEvent as BarriersAside}
use Rattle.gomp_barrier.proofs.Laws.{events_aside_keep_barriers}
use Rattle.gomp_depend.specs.Calls.{IsNoDependEvent as DependsAside}
use Rattle.gomp_depend.proofs.Laws.{events_aside_keep_depends}
use Rattle.gomp_cancel.specs.Cancellations.{IsNoCancelEvent as CancelledAside}
use Rattle.gomp_cancel.proofs.Laws.{events_aside_keep_cancelled}
use Rattle.gomp_scheduler.specs.Calls.{IsNoSchedulerEvent}
use Rattle.gomp_scheduler.specs.Schedulers.{SchedulerView, Stands}
use Rattle.gomp_scheduler.proofs.ReadyKeeps.{IsNoReadyEvent as ReadyAside, aside_ready}

-- no part sees an event that is aside
aside_of_tasks : (event : Event) → IsNoSchedulerEvent event → TasksAside event
aside_of_tasks (Create t m parent desc) is = is
aside_of_tasks (Start t m) is = is
aside_of_tasks (Done t m) is = is
aside_of_tasks (Discard t m) is = is
aside_of_tasks _ is = tt

aside_of_groups : (event : Event) → IsNoSchedulerEvent event → GroupsAside event
aside_of_groups (Create t m parent desc) is = is
aside_of_groups (Done t m) is = is
aside_of_groups (Discard t m) is = is
aside_of_groups (Group q m) is = is
aside_of_groups (GroupEnd q m) is = is
aside_of_groups _ is = tt

aside_of_barriers : (event : Event) → IsNoSchedulerEvent event → BarriersAside event
aside_of_barriers (Arrive barrier m tag) is = is
aside_of_barriers (Pass barrier m) is = is
aside_of_barriers (Create t m parent desc) is = is
aside_of_barriers (Done t m) is = is
aside_of_barriers (Discard t m) is = is
aside_of_barriers (Cancel m Region) is = is
aside_of_barriers (Cancel m (OneShare share)) is = tt
aside_of_barriers (Cancel m (OneGroup q)) is = tt
aside_of_barriers _ is = tt

aside_of_depends : (event : Event) → IsNoSchedulerEvent event → DependsAside event
aside_of_depends (Create t m parent desc) is = is
aside_of_depends (Done t m) is = is
aside_of_depends (Discard t m) is = is
aside_of_depends _ is = tt

aside_of_ready : (event : Event) → IsNoSchedulerEvent event → ReadyAside event
aside_of_ready (Create t m parent desc) is = is
aside_of_ready (Start t m) is = is
aside_of_ready (Done t m) is = is
aside_of_ready (Discard t m) is = is
aside_of_ready _ is = tt

aside_of_cancelled : (event : Event) → IsNoSchedulerEvent event → CancelledAside event
aside_of_cancelled (Group q m) is = is
aside_of_cancelled (Cancel m Region) is = is
aside_of_cancelled (Cancel m (OneShare share)) is = tt
aside_of_cancelled (Cancel m (OneGroup q)) is = is
aside_of_cancelled _ is = tt

-- so a scheduler stands for it as before, if the rule of tasks lets it happen
pub events_aside_keep_scheduler : (scheduler : SchedulerView) (h : List Event) (event : Event) → IsNoSchedulerEvent event → TaskRule (task_members scheduler.tasks) event h → TaskRule (group_members scheduler.groups) event h → Stands scheduler h → Stands scheduler (event ∷ h)
events_aside_keep_scheduler scheduler h event is tasks groups st = record {
  tasks = events_aside_keep_tasks scheduler.tasks h event (aside_of_tasks event is) tasks st.tasks;
  groups = events_aside_keep_groups scheduler.groups h event (aside_of_groups event is) groups st.groups;
  barriers = events_aside_keep_barriers scheduler.barriers h event (aside_of_barriers event is) st.barriers;
  depends = events_aside_keep_depends scheduler.depends h event (aside_of_depends event is) st.depends;
  cancelled = events_aside_keep_cancelled scheduler.cancelled h event (aside_of_cancelled event is) st.cancelled;
  ready = aside_ready event scheduler.ready.ids h (aside_of_ready event is) st.ready;
}
