-- A scheduler after each event: for what its parts stand, and that they have as many members as before; and what its calls ask of the parts.
use Rattle.std.proofs.Common.{◌≡◌, ℕ, ◌+◌, ◌<◌, ◌≤◌, Bool, true, false, List, [], ◌∷◌, Option, Some, None, length, refl, ap, ◌∙◌, sym, subst, arith, suc}
use Rattle.std.specs.Prelude.{◌&&◌, ◌==◌, not, filter, IfSome, Result, Ok, Err, OnOk, min, ◌^◌, ◌-◌, if◌then◌else◌}
use Rattle.std.proofs.lemmas.List.Filters.{length-filter_both}
use Rattle.gomp_types.specs.declared.depend.Dep.{Dep}
use Rattle.gomp_types.specs.declared.task.Task.{Task}
use Rattle.gomp_types.specs.declared.task.Task.TheVariants.{Explicit}
use Rattle.gomp_types.specs.declared.task.TaskDesc.{TaskDesc}
use Rattle.gomp_types.specs.declared.cancel.Scope.{Scope}
use Rattle.gomp_types.specs.declared.cancel.Scope.TheVariants.{OneGroup}
use Rattle.gomp_events.specs.declared.event.Tag.{Tag}
use Rattle.gomp_events.specs.declared.event.Event.{Event}
use Rattle.gomp_events.specs.declared.event.Event.TheVariants.{Arrive, Pass, Create, Start, Done, Group, GroupEnd, Cancel, Discard}
use Rattle.gomp_types.specs.Limits.{IsTeamSize}
use Rattle.gomp_events.specs.Events.{barriers_passed}
use Rattle.gomp_events.specs.Tasks.{tasks_created, executed_task, after_first, is_odd, epoch, epoch_of_child, becomes_undeferred}
use Rattle.gomp_events.specs.Depends.{task_items}
use Rattle.gomp_events.specs.Groups.{groups_opened, open_groups}
use Rattle.gomp_events.specs.Cancels.{first_in, groups_over}
use Rattle.gomp_events.specs.Goals.{is_unstarted}
use Rattle.gomp_events.specs.TaskCalls.{has_some, last_complete}
use Rattle.gomp_events.specs.TaskRules.{MayCreate, MayStart, MayDiscard, MayEndGroup}
use Rattle.gomp_types.proofs.Booleans.{and_left, not_both, other_number}
use Rattle.gomp_events.proofs.Suspended.{unstarted_is_fresh, startable_is_fresh}
use Rattle.gomp_tasks.specs.Calls.{MayCreateNext}
use Rattle.gomp_tasks.specs.Stands.{TasksView, Stands as TasksStand, IsKept, task_members, count_of}
use Rattle.gomp_tasks.proofs.Laws.{events_aside_keep_tasks, open_tasks_are_kept}
use Rattle.gomp_groups.specs.Calls.{last_open}
use Rattle.gomp_groups.specs.Stands.{GroupsView, Stands as GroupsStand, IsSeated, group_members}
use Rattle.gomp_groups.proofs.Laws.{events_aside_keep_groups, executed_is_seated, open_tasks_are_seated}
use Rattle.gomp_barrier.specs.Stands.{BarriersView, Stands as BarriersStand, barrier_members}
use Rattle.gomp_barrier.specs.Calls.{MayBind, MayRelease, arrived_after, turn_after}
use Rattle.gomp_barrier.proofs.Laws.{events_aside_keep_barriers}
use Rattle.gomp_depend.specs.declared.depends.Depends.{Depends}
use Rattle.gomp_depend.specs.Stands.{HasDependRoom, IsOpen, NoneIsFreed, IsFreedBy, Stands as DependsStand, has_items, is_free_with_items, is_freed, waiting_count}
use Rattle.gomp_depend.proofs.Laws.{created_without_items, discarded_without_items, ended_without_items, events_aside_keep_depends}
use Rattle.gomp_cancel.specs.Cancellations.{CancelView, CancelStands, IsNoCancelEvent as CancelledAside}
use Rattle.gomp_cancel.proofs.Laws.{each_group_has_a_mark, events_aside_keep_cancelled}
use Rattle.gomp_ready.specs.Ready.{ReadyView, passed_at, with_task}
use Rattle.gomp_scheduler.specs.Passed.{HaveLooked, shown}
use Rattle.gomp_scheduler.specs.ReadyTasks.{AreReady, listed_with}
use Rattle.gomp_scheduler.specs.Schedulers.{SchedulerView, Stands, HasGrown, SchedulerHasMembers, HasTaskRoom, IsOfTeam, IsScheduler, scheduler_members}
use Rattle.gomp_scheduler.specs.Startable.{CreatesNext, MayStartOwn}
use Rattle.gomp_scheduler.proofs.CurrentTasks.{executed_is_parent}
use Rattle.gomp_scheduler.proofs.PassedOver.{none_passed}
use Rattle.gomp_scheduler.proofs.ReadyKeeps.{HasFreed, none_is_put, none_ready, aside_ready, created_ready, ended_ready, discarded_ready, own_started_ready, started_ready, unstarted_alone_ready, free_is_open}

-- Members

-- each part has as many as before
pub members_with : (s after : SchedulerView) → SchedulerHasMembers (scheduler_members s) s → task_members after.tasks ≡ task_members s.tasks → group_members after.groups ≡ group_members s.groups → barrier_members after.barriers ≡ barrier_members s.barriers → after.ready.members ≡ s.ready.members → SchedulerHasMembers (scheduler_members s) after
members_with s after has tasks groups barriers ready = record { size = has.size; tasks = tasks; groups = groups ∙ has.groups; barriers = barriers ∙ has.barriers; ready = ready ∙ has.ready }

-- so it is a scheduler, if it stands for a list, no task was freed and not put to the ready ones, and there is room for those that wait
pub scheduler_with : (s after : SchedulerView) (ready : ReadyView) (h : List Event) → SchedulerHasMembers (scheduler_members s) after → Stands after h → NoneIsFreed after.depends → waiting_count after.depends ≤ after.ready.room → HaveLooked after.tasks ready → IsScheduler after ready
scheduler_with s after ready h has st freed waiting looked = record { known = (h, st); members = subst (λ (n : ℕ). SchedulerHasMembers n after) (sym has.tasks) has; freed = freed; waiting = waiting; looked = looked }

-- a member of the team is one in each part
pub group_member : (s : SchedulerView) (m : ℕ) → SchedulerHasMembers (scheduler_members s) s → m < scheduler_members s → m < group_members s.groups
group_member s m has low = let e = has.groups in omega (arith, low, e)

pub barrier_member : (s : SchedulerView) (m : ℕ) → SchedulerHasMembers (scheduler_members s) s → m < scheduler_members s → m < barrier_members s.barriers
barrier_member s m has low = let e = has.barriers in omega (arith, low, e)

pub ready_member : (s : SchedulerView) (m : ℕ) → SchedulerHasMembers (scheduler_members s) s → m < scheduler_members s → m < s.ready.members
ready_member s m has low = let e = has.ready in omega (arith, low, e)

-- A task is started

-- the rule is one for every size of a team that has the member
pub rule_for : (n k m t : ℕ) (h : List Event) → m < k → MayStart n t m h → MayStart k t m h
rule_for n k m t h low rule = record { member = low; may = rule.may; own = rule.own }

pub parts_started : (s : SchedulerView) (tasks : TasksView) (ready : ReadyView) (t m : ℕ) (h : List Event) → SchedulerHasMembers (scheduler_members s) s → MayStart (scheduler_members s) t m h → AreReady ready.ids (Start t m ∷ h) →
    TasksStand tasks (Start t m ∷ h) → Stands s h → Stands (record s { tasks = tasks; ready = ready }) (Start t m ∷ h)
parts_started s tasks ready t m h has rule are next st = record {
  tasks = next;
  groups = events_aside_keep_groups s.groups h (Start t m) tt (rule_for (scheduler_members s) (group_members s.groups) m t h (group_member s m has rule.member) rule) st.groups;
  barriers = events_aside_keep_barriers s.barriers h (Start t m) tt st.barriers;
  depends = events_aside_keep_depends s.depends h (Start t m) tt st.depends;
  cancelled = events_aside_keep_cancelled s.cancelled h (Start t m) tt st.cancelled;
  ready = are;
}

-- it was taken out of the ready ones
pub ready_started : (s : SchedulerView) (tasks : TasksView) (ready : ReadyView) (t m : ℕ) (h : List Event) → SchedulerHasMembers (scheduler_members s) s → MayStart (scheduler_members s) t m h → s.ready.ids ≡ with_task t ready.ids →
    TasksStand tasks (Start t m ∷ h) → Stands s h → Stands (record s { tasks = tasks; ready = ready }) (Start t m ∷ h)
ready_started s tasks ready t m h has rule taken next st = parts_started s tasks ready t m h has rule (started_ready t m s.ready.ids h st.ready ready.ids taken) next st

-- or it is undeferred
pub own_entered : (s : SchedulerView) (tasks : TasksView) (ready : ReadyView) (t m : ℕ) (h : List Event) → SchedulerHasMembers (scheduler_members s) s → MayStartOwn m t s h → ready.ids ≡ s.ready.ids → TasksStand tasks (Start t m ∷ h) → Stands s h → Stands (record s { tasks = tasks; ready = ready }) (Start t m ∷ h)
own_entered s tasks ready t m h has may same next st =
    parts_started s tasks ready t m h has may.rule (subst (λ (ids : List ℕ). AreReady ids (Start t m ∷ h)) (sym same) (own_started_ready t m s.ready.ids h st.ready may.undeferred (startable_is_fresh m t h may.rule.may).2)) next st

-- there is as much room as before
pub own_room : (ready after : ReadyView) → after ≡ record ready { passed = after.passed } → {waiting : ℕ} → waiting ≤ ready.room → waiting ≤ after.room
own_room ready after same some = let room = ap (λ (v : ReadyView). v.room) same in omega (arith, room, some)

-- Discarded tasks are taken out of the ready ones

pub parts_retained : (s : SchedulerView) (ready : ReadyView) (h : List Event) → ready.ids ≡ filter (λ (t : ℕ). is_unstarted t h) s.ready.ids → Stands s h → Stands (record s { ready = ready }) h
parts_retained s ready h kept st = record {
  tasks = st.tasks;
  groups = st.groups;
  barriers = st.barriers;
  depends = st.depends;
  cancelled = st.cancelled;
  ready = subst (λ (ids : List ℕ). AreReady ids h) (sym kept) (unstarted_alone_ready s.ready.ids h st.ready);
}

filtered_is_shorter : (test : ℕ → Bool) (ids : List ℕ) → length (filter test ids) ≤ length ids
filtered_is_shorter test ids = let both = length-filter_both test (λ (t : ℕ). not (test t)) (λ t. refl) ids in omega (arith, both)

-- and there is as much room
pub retained_room : (waiting : ℕ) (before after : ReadyView) (test : ℕ → Bool) → after.ids ≡ filter test before.ids → after.room + length after.ids ≡ before.room + length before.ids → waiting ≤ before.room → waiting ≤ after.room
retained_room waiting before after test kept room some =
    let shorter = filtered_is_shorter test before.ids in let same = ap (λ (ids : List ℕ). length ids) kept in omega (arith, shorter, same, room, some)

-- A task is created, ended or discarded

parts_changed : (s : SchedulerView) (tasks : TasksView) (groups : GroupsView) (barriers : BarriersView) (depends : Depends) (ready : ReadyView) (event : Event) (h : List Event) → CancelledAside event → AreReady ready.ids (event ∷ h) →
    TasksStand tasks (event ∷ h) → GroupsStand groups (event ∷ h) → BarriersStand barriers (event ∷ h) → DependsStand depends (event ∷ h) → Stands s h →
    Stands (record s { tasks = tasks; groups = groups; barriers = barriers; depends = depends; ready = ready }) (event ∷ h)
parts_changed s tasks groups barriers depends ready event h is are next_tasks next_groups next_barriers next_depends st = record {
  tasks = next_tasks;
  groups = next_groups;
  barriers = next_barriers;
  depends = next_depends;
  cancelled = events_aside_keep_cancelled s.cancelled h event is st.cancelled;
  ready = are;
}

pub parts_created : (s : SchedulerView) (tasks : TasksView) (groups : GroupsView) (barriers : BarriersView) (e depends : Depends) (before : List ℕ) (ready : ReadyView) (t m : ℕ) (listed : Bool) (p : Task) (desc : TaskDesc) (h : List Event) → before ≡ listed_with listed t s.ready.ids → t ≡ suc (tasks_created h) →
    listed ≡ (not (becomes_undeferred desc p h) && not (has_items desc.deps)) → TasksStand tasks (Create t m p desc ∷ h) → GroupsStand groups (Create t m p desc ∷ h) → BarriersStand barriers (Create t m p desc ∷ h) → DependsStand e (Create t m p desc ∷ h) → DependsStand depends (Create t m p desc ∷ h) →
    IsFreedBy (Create t m p desc) h e → HasFreed (Create t m p desc) h e before ready.ids → Stands s h → Stands (record s { tasks = tasks; groups = groups; barriers = barriers; depends = depends; ready = ready }) (Create t m p desc ∷ h)
parts_created s tasks groups barriers e depends before ready t m listed p desc h put number plain next_tasks next_groups next_barriers next_depends last_depends freed has st =
    parts_changed s tasks groups barriers depends ready (Create t m p desc) h tt
    (created_ready (task_members s.tasks) t m listed p desc s.ready.ids h s.depends e st.tasks.rule number plain st.depends next_depends st.ready ready.ids freed (subst (λ (ids : List ℕ). HasFreed (Create t m p desc) h e ids ready.ids) put has))
    next_tasks next_groups next_barriers last_depends st

pub parts_ended : (s : SchedulerView) (tasks : TasksView) (groups : GroupsView) (barriers : BarriersView) (e depends : Depends) (ready : ReadyView) (t m : ℕ) (h : List Event) →
    TasksStand tasks (Done t m ∷ h) → GroupsStand groups (Done t m ∷ h) → BarriersStand barriers (Done t m ∷ h) → DependsStand depends (Done t m ∷ h) →
    IsFreedBy (Done t m) h e → HasFreed (Done t m) h e s.ready.ids ready.ids → Stands s h → Stands (record s { tasks = tasks; groups = groups; barriers = barriers; depends = depends; ready = ready }) (Done t m ∷ h)
parts_ended s tasks groups barriers e depends ready t m h next_tasks next_groups next_barriers last_depends freed has st =
    parts_changed s tasks groups barriers depends ready (Done t m) h tt (ended_ready (task_members s.tasks) t m s.ready.ids h s.depends st.tasks.rule st.depends st.ready e ready.ids freed has) next_tasks next_groups next_barriers last_depends st

pub parts_discarded : (s : SchedulerView) (tasks : TasksView) (groups : GroupsView) (barriers : BarriersView) (e depends : Depends) (ready : ReadyView) (t m : ℕ) (h : List Event) →
    TasksStand tasks (Discard t m ∷ h) → GroupsStand groups (Discard t m ∷ h) → BarriersStand barriers (Discard t m ∷ h) → DependsStand depends (Discard t m ∷ h) →
    IsFreedBy (Discard t m) h e → HasFreed (Discard t m) h e s.ready.ids ready.ids → Stands s h → Stands (record s { tasks = tasks; groups = groups; barriers = barriers; depends = depends; ready = ready }) (Discard t m ∷ h)
parts_discarded s tasks groups barriers e depends ready t m h next_tasks next_groups next_barriers last_depends freed has st =
    parts_changed s tasks groups barriers depends ready (Discard t m) h tt (discarded_ready (task_members s.tasks) t m s.ready.ids h s.depends st.tasks.rule st.depends st.ready e ready.ids freed has) next_tasks next_groups next_barriers last_depends st

-- and if it has no items, the tables of dependences are not asked

pub parts_created_bare : (s : SchedulerView) (tasks : TasksView) (groups : GroupsView) (barriers : BarriersView) (ready : ReadyView) (t m : ℕ) (listed : Bool) (p : Task) (desc : TaskDesc) (h : List Event) → NoneIsFreed s.depends → desc.deps ≡ [] → ready.ids ≡ listed_with listed t s.ready.ids → t ≡ suc (tasks_created h) →
    listed ≡ (not (becomes_undeferred desc p h) && not (has_items desc.deps)) → TasksStand tasks (Create t m p desc ∷ h) → GroupsStand groups (Create t m p desc ∷ h) → BarriersStand barriers (Create t m p desc ∷ h) → Stands s h →
    Stands (record s { tasks = tasks; groups = groups; barriers = barriers; ready = ready }) (Create t m p desc ∷ h)
parts_created_bare s tasks groups barriers ready t m listed p desc h none bare put number plain next_tasks next_groups next_barriers st =
    let same = created_without_items s.depends t m p desc h st.depends none number bare in
    parts_created s tasks groups barriers s.depends s.depends ready.ids ready t m listed p desc h put number plain next_tasks next_groups next_barriers same.0 same.0 same.1 (none_is_put (Create t m p desc) h s.depends ready.ids none) st

pub parts_ended_bare : (s : SchedulerView) (tasks : TasksView) (groups : GroupsView) (barriers : BarriersView) (t m : ℕ) (h : List Event) → NoneIsFreed s.depends → IsOpen t h → task_items t h ≡ [] →
    TasksStand tasks (Done t m ∷ h) → GroupsStand groups (Done t m ∷ h) → BarriersStand barriers (Done t m ∷ h) → Stands s h → Stands (record s { tasks = tasks; groups = groups; barriers = barriers }) (Done t m ∷ h)
parts_ended_bare s tasks groups barriers t m h none is bare next_tasks next_groups next_barriers st =
    let same = ended_without_items s.depends t m h st.depends none is bare in
    parts_ended s tasks groups barriers s.depends s.depends s.ready t m h next_tasks next_groups next_barriers same.0 same.1 (none_is_put (Done t m) h s.depends s.ready.ids none) st

pub parts_discarded_bare : (s : SchedulerView) (tasks : TasksView) (groups : GroupsView) (barriers : BarriersView) (t m : ℕ) (h : List Event) → NoneIsFreed s.depends → IsOpen t h → task_items t h ≡ [] →
    TasksStand tasks (Discard t m ∷ h) → GroupsStand groups (Discard t m ∷ h) → BarriersStand barriers (Discard t m ∷ h) → Stands s h → Stands (record s { tasks = tasks; groups = groups; barriers = barriers }) (Discard t m ∷ h)
parts_discarded_bare s tasks groups barriers t m h none is bare next_tasks next_groups next_barriers st =
    let same = discarded_without_items s.depends t m h st.depends none is bare in
    parts_discarded s tasks groups barriers s.depends s.depends s.ready t m h next_tasks next_groups next_barriers same.0 same.1 (none_is_put (Discard t m) h s.depends s.ready.ids none) st

-- a test has found that it has none
pub found_bare : (items others : List Dep) (empty : Bool) → items ≡ others → empty ≡ (length items == 0) → empty ≡ true → others ≡ []
found_bare [] others empty same is on = sym same
found_bare (item ∷ items) others empty same is on = absurd (let off : empty ≡ false = is ∙ other_number (length (item ∷ items)) 0 (λ none. omega (arith, none)) in not_both empty on off)

-- the room among the ready tasks is for those that wait, once the new one was put there or was not
pub room_once_put : (view now : SchedulerView) (m : ℕ) (items : List Dep) (listed : Bool) (room : ℕ) → view ≡ now → HasTaskRoom m items now → view.ready.room ≤ room + (if listed then 1 else 0) → waiting_count view.depends ≤ room
room_once_put view now m items listed room e has more =
    let some : waiting_count view.depends < view.ready.room = subst (λ (v : SchedulerView). waiting_count v.depends < v.ready.room) (sym e) has.ready in
    by listed more some
  where
    by : (b : Bool) → view.ready.room ≤ room + (if b then 1 else 0) → waiting_count view.depends < view.ready.room → waiting_count view.depends ≤ room
    by true more some = omega (arith, more, some)
    by false more some = omega (arith, more, some)

-- what the event frees is open, so something is kept of it
pub freed_is_kept : (tasks : TasksView) (e : Depends) (event : Event) (h : List Event) → TasksStand tasks (event ∷ h) → DependsStand e (event ∷ h) → IsFreedBy event h e → (t : ℕ) → is_freed t e ≡ true → IsKept t tasks
freed_is_kept tasks e event h next next_depends by t freed =
    let now = and_left (is_free_with_items t (event ∷ h)) (not (is_free_with_items t h)) (sym (by t) ∙ freed) in
    let is = free_is_open e t (event ∷ h) next_depends now in
    open_tasks_are_kept tasks (event ∷ h) t next is.created is.incomplete

-- A group is opened and ended

pub parts_opened : (s : SchedulerView) (groups : GroupsView) (cancelled : CancelView) (q m : ℕ) (h : List Event) → m < scheduler_members s → q ≡ groups_opened h →
    GroupsStand groups (Group q m ∷ h) → CancelStands cancelled (Group q m ∷ h) → Stands s h → Stands (record s { groups = groups; cancelled = cancelled }) (Group q m ∷ h)
parts_opened s groups cancelled q m h low number next next_cancelled st = record {
  tasks = events_aside_keep_tasks s.tasks h (Group q m) tt (record { member = low; number = number }) st.tasks;
  groups = next;
  barriers = events_aside_keep_barriers s.barriers h (Group q m) tt st.barriers;
  depends = events_aside_keep_depends s.depends h (Group q m) tt st.depends;
  cancelled = next_cancelled;
  ready = aside_ready (Group q m) s.ready.ids h tt st.ready;
}

pub parts_closed : (s : SchedulerView) (groups : GroupsView) (q m : ℕ) (h : List Event) → MayEndGroup (task_members s.tasks) q m h →
    GroupsStand groups (GroupEnd q m ∷ h) → Stands s h → Stands (record s { groups = groups }) (GroupEnd q m ∷ h)
parts_closed s groups q m h may next st = record {
  tasks = events_aside_keep_tasks s.tasks h (GroupEnd q m) tt may st.tasks;
  groups = next;
  barriers = events_aside_keep_barriers s.barriers h (GroupEnd q m) tt st.barriers;
  depends = events_aside_keep_depends s.depends h (GroupEnd q m) tt st.depends;
  cancelled = events_aside_keep_cancelled s.cancelled h (GroupEnd q m) tt st.cancelled;
  ready = aside_ready (GroupEnd q m) s.ready.ids h tt st.ready;
}

-- Something is cancelled

pub parts_marked : (s : SchedulerView) (cancelled : CancelView) (barriers : BarriersView) (m : ℕ) (scope : Scope) (h : List Event) → CancelStands cancelled (Cancel m scope ∷ h) → BarriersStand barriers (Cancel m scope ∷ h) → Stands s h →
    Stands (record s { cancelled = cancelled; barriers = barriers }) (Cancel m scope ∷ h)
parts_marked s cancelled barriers m scope h next next_barriers st = record {
  tasks = events_aside_keep_tasks s.tasks h (Cancel m scope) tt tt st.tasks;
  groups = events_aside_keep_groups s.groups h (Cancel m scope) tt tt st.groups;
  barriers = next_barriers;
  depends = events_aside_keep_depends s.depends h (Cancel m scope) tt st.depends;
  cancelled = next;
  ready = aside_ready (Cancel m scope) s.ready.ids h tt st.ready;
}

-- Arrivals and passes, each if it is one

pub parts_arrived : (s : SchedulerView) (barriers : BarriersView) (accepted : Bool) (m : ℕ) (tag : Tag) (h : List Event) → BarriersStand barriers (arrived_after accepted m tag h) → Stands s h → Stands (record s { barriers = barriers }) (arrived_after accepted m tag h)
parts_arrived s barriers true m tag h next st = record {
  tasks = events_aside_keep_tasks s.tasks h (Arrive (barriers_passed m h) m tag) tt tt st.tasks;
  groups = events_aside_keep_groups s.groups h (Arrive (barriers_passed m h) m tag) tt tt st.groups;
  barriers = next;
  depends = events_aside_keep_depends s.depends h (Arrive (barriers_passed m h) m tag) tt st.depends;
  cancelled = events_aside_keep_cancelled s.cancelled h (Arrive (barriers_passed m h) m tag) tt st.cancelled;
  ready = aside_ready (Arrive (barriers_passed m h) m tag) s.ready.ids h tt st.ready;
}
parts_arrived s barriers false m tag h next st = record { tasks = st.tasks; groups = st.groups; barriers = next; depends = st.depends; cancelled = st.cancelled; ready = st.ready }

pub parts_passed : (s : SchedulerView) (barriers : BarriersView) (may : Bool) (m : ℕ) (h : List Event) → BarriersStand barriers (turn_after may m h) → Stands s h → Stands (record s { barriers = barriers }) (turn_after may m h)
parts_passed s barriers true m h next st = record {
  tasks = events_aside_keep_tasks s.tasks h (Pass (barriers_passed m h) m) tt tt st.tasks;
  groups = events_aside_keep_groups s.groups h (Pass (barriers_passed m h) m) tt tt st.groups;
  barriers = next;
  depends = events_aside_keep_depends s.depends h (Pass (barriers_passed m h) m) tt st.depends;
  cancelled = events_aside_keep_cancelled s.cancelled h (Pass (barriers_passed m h) m) tt st.cancelled;
  ready = aside_ready (Pass (barriers_passed m h) m) s.ready.ids h tt st.ready;
}
parts_passed s barriers false m h next st = record { tasks = st.tasks; groups = st.groups; barriers = next; depends = st.depends; cancelled = st.cancelled; ready = st.ready }

-- What memory was made changes nothing of what the parts stand for

pub grown_by_a_task : (s after : SchedulerView) → SchedulerHasMembers (scheduler_members s) s → after.tasks ≡ record s.tasks { room = after.tasks.room } → after.groups ≡ record s.groups { task_room = after.groups.task_room } → ((h : List Event) → DependsStand s.depends h → DependsStand after.depends h) → ((h : List Event) → DependsStand after.depends h → DependsStand s.depends h) → after.ready.ids ≡ s.ready.ids → after.ready.members ≡ s.ready.members → after.barriers ≡ s.barriers → after.cancelled ≡ s.cancelled → HasGrown s after
grown_by_a_task s after has tasks groups stands stood ids members barriers cancelled = record {
  stands = λ h st. record {
    tasks = subst (λ (v : TasksView). TasksStand v h) (sym tasks) st.tasks;
    groups = subst (λ (v : GroupsView). GroupsStand v h) (sym groups) st.groups;
    barriers = subst (λ (v : BarriersView). BarriersStand v h) (sym barriers) st.barriers;
    depends = stands h st.depends;
    cancelled = subst (λ (v : CancelView). CancelStands v h) (sym cancelled) st.cancelled;
    ready = subst (λ (v : List ℕ). AreReady v h) (sym ids) st.ready;
  };
  stood = λ h st. record {
    tasks = subst (λ (v : TasksView). TasksStand v h) tasks st.tasks;
    groups = subst (λ (v : GroupsView). GroupsStand v h) groups st.groups;
    barriers = subst (λ (v : BarriersView). BarriersStand v h) barriers st.barriers;
    depends = stood h st.depends;
    cancelled = subst (λ (v : CancelView). CancelStands v h) cancelled st.cancelled;
    ready = subst (λ (v : List ℕ). AreReady v h) ids st.ready;
  };
  members = members_with s after has (ap task_members tasks) (ap group_members groups) (ap barrier_members barriers) members;
}

-- it is what the next task asks for
pub room_for_a_task : {E : Type 0} (result : Result Unit E) (s after : SchedulerView) (m task count : ℕ) (p : Task) (items : List Dep) → HasGrown s after → count_of after.tasks ≡ count_of s.tasks →
    count ≡ count_of s.tasks → task ≡ min (count + 1) (2 ^ 32 - 1) → ((h : List Event) → TasksStand s.tasks h → p ≡ executed_task m h) →
    OnOk result (0 < after.tasks.room) → OnOk result (0 < after.groups.task_room) → OnOk result (HasDependRoom task p items after.depends) → OnOk result (waiting_count after.depends < after.ready.room) → OnOk result (HasTaskRoom m items after)
room_for_a_task (Err error) s after m task count p items grown same counted number current tasks groups depends ready = tasks
room_for_a_task (Ok done) s after m task count p items grown same counted number current tasks groups depends ready = record {
  tasks = tasks;
  groups = groups;
  depends = λ few h st.
      let before = grown.stood h st in let rows = before.tasks.count in
      let next : task ≡ suc (tasks_created h) = omega (arith, number, counted, rows, few, same) in
      subst (λ (q : Task). HasDependRoom (suc (tasks_created h)) q items after.depends) (current h before.tasks) (subst (λ (n : ℕ). HasDependRoom n p items after.depends) next depends);
  ready = ready;
}

-- the room among the ready tasks is for those that wait after it too
pub ready_with_items : {E : Type 0} (before after room : ℕ) (result : Result Unit E) → after ≡ before → OnOk result (before < room) → OnOk result (after < room)
ready_with_items before after room (Err error) same some = some
ready_with_items before after room (Ok done) same some = omega (arith, same, some)

more_marks : (marks : CancelView) (room : ℕ) (h : List Event) → CancelStands marks h → CancelStands (record marks { room = room }) h
more_marks marks room h st = record { region = st.region; opened = st.opened; marked = st.marked }

fewer_marks : (marks : CancelView) (room : ℕ) (h : List Event) → CancelStands (record marks { room = room }) h → CancelStands marks h
fewer_marks marks room h st = record { region = st.region; opened = st.opened; marked = st.marked }

pub grown_by_a_group : (s : SchedulerView) (groups : GroupsView) (cancelled : CancelView) → SchedulerHasMembers (scheduler_members s) s → groups ≡ record s.groups { group_room = groups.group_room } → cancelled ≡ record s.cancelled { room = cancelled.room } → HasGrown s (record s { groups = groups; cancelled = cancelled })
grown_by_a_group s groups cancelled has more marks = record {
  stands = λ h st. record {
    tasks = st.tasks;
    groups = subst (λ (v : GroupsView). GroupsStand v h) (sym more) st.groups;
    barriers = st.barriers;
    depends = st.depends;
    cancelled = subst (λ (v : CancelView). CancelStands v h) (sym marks) (more_marks s.cancelled cancelled.room h st.cancelled);
    ready = st.ready;
  };
  stood = λ h st. record {
    tasks = st.tasks;
    groups = subst (λ (v : GroupsView). GroupsStand v h) more st.groups;
    barriers = st.barriers;
    depends = st.depends;
    cancelled = fewer_marks s.cancelled cancelled.room h (subst (λ (v : CancelView). CancelStands v h) marks st.cancelled);
    ready = st.ready;
  };
  members = members_with s (record s { groups = groups; cancelled = cancelled }) has refl (ap group_members more) refl refl;
}

-- What stands for a list, and who is a member, stays so under an equal view

pub scheduler_stands_inside : (view now : SchedulerView) (h : List Event) → view ≡ now → Stands now h → Stands view h
scheduler_stands_inside view now h e st = subst (λ (v : SchedulerView). Stands v h) (sym e) st

pub scheduler_member_inside : (view now : SchedulerView) (m : ℕ) → view ≡ now → m < scheduler_members now → m < scheduler_members view
scheduler_member_inside view now m e low = subst (λ (v : SchedulerView). m < scheduler_members v) (sym e) low

-- The last open group of a task

first_is : (q : ℕ) (qs : List ℕ) → first_in qs ≡ Some q → qs ≡ q ∷ after_first qs
first_is q [] e = absurd (cc)
first_is q (x ∷ xs) e = let same : x ≡ q = cc in rw same refl

none_complete : (qs : List ℕ) (h : List Event) → first_in qs ≡ None → last_complete qs h ≡ true → ⊥
none_complete [] h none done = cc
none_complete (q ∷ qs) h none done = cc

-- it is ended once its tasks are complete
pub may_end_group : (n m q : ℕ) (h : List Event) → m < n → first_in (open_groups (executed_task m h) h) ≡ Some q → last_complete (open_groups (executed_task m h) h) h ≡ true → MayEndGroup n q m h
may_end_group n m q h low first done =
    let all = first_is q (open_groups (executed_task m h) h) first in
    record { member = low; outer = after_first (open_groups (executed_task m h) h); last = all; complete = subst (λ (qs : List ℕ). last_complete qs h ≡ true) all done }

pub last_found : (m : ℕ) (task : Task) (found : Option ℕ) (h : List Event) → task ≡ executed_task m h → found ≡ last_open task h → first_in (open_groups (executed_task m h) h) ≡ found
last_found m task found h current last = rw (last, current) refl

pub never_closed_without_group : (m : ℕ) (task : Task) (found : Option ℕ) (h : List Event) → task ≡ executed_task m h → found ≡ last_open task h → found ≡ None → last_complete (open_groups (executed_task m h) h) h ≡ true → ⊥
never_closed_without_group m task found h current last none done = none_complete (open_groups (executed_task m h) h) h (last_found m task found h current last ∙ none) done

-- A discard

pub discard_inside : (view now : SchedulerView) (t m : ℕ) (h : List Event) → view ≡ now → MayDiscard (scheduler_members now) t m h → MayDiscard (scheduler_members view) t m h
discard_inside view now t m h e may = subst (λ (v : SchedulerView). MayDiscard (scheduler_members v) t m h) (sym e) may

pub discard_of_groups : (s : SchedulerView) (t m : ℕ) (h : List Event) → SchedulerHasMembers (scheduler_members s) s → MayDiscard (scheduler_members s) t m h → MayDiscard (group_members s.groups) t m h
discard_of_groups s t m h has may = record { member = group_member s m has may.member; unstarted = may.unstarted; covered = may.covered }

pub discard_releases : (t : ℕ) (odd : Bool) (h : List Event) → is_unstarted t h ≡ true → odd ≡ is_odd (epoch t h) → MayRelease t odd h
discard_releases t odd h un parity = let fresh = unstarted_is_fresh t h un in record { is_open = (fresh.0, fresh.2); parity = parity }

-- The next task

pub creates_inside : (view now : SchedulerView) (m : ℕ) (h : List Event) → view ≡ now → CreatesNext m now h → CreatesNext m view h
creates_inside view now m h e may = subst (λ (v : SchedulerView). CreatesNext m v h) (sym e) may

-- each part lets it be created
pub tasks_create : (s : SchedulerView) (m : ℕ) (odd : Bool) (h : List Event) → CreatesNext m s h → odd ≡ is_odd (epoch_of_child (executed_task m h) h) → Stands s h → MayCreateNext s.tasks m odd h
tasks_create s m odd h may parity st = record { rule = subst (λ (n : ℕ). MayCreate (task_members s.tasks) (suc n) m (executed_task m h) h) st.tasks.count may; odd_is = parity }

pub groups_create : (s : SchedulerView) (m : ℕ) (p : Task) (h : List Event) → SchedulerHasMembers (scheduler_members s) s → CreatesNext m s h → p ≡ executed_task m h → MayCreate (group_members s.groups) (suc (tasks_created h)) m p h
groups_create s m p h has may current = rw current (record { member = group_member s m has may.member; number = may.number; current = may.current; away = may.away; shallow = may.shallow; uncovered = may.uncovered })

pub barriers_bind : (s : SchedulerView) (m : ℕ) (p : Task) (odd : Bool) (h : List Event) → SchedulerHasMembers (scheduler_members s) s → CreatesNext m s h → p ≡ executed_task m h → odd ≡ is_odd (epoch_of_child (executed_task m h) h) → Stands s h → MayBind (barrier_members s.barriers) (suc (tasks_created h)) p odd h
barriers_bind s m p odd h has may current parity st = record { number = refl; parent_is = executed_is_parent (barrier_members s.barriers) (task_members s.tasks) m p h st.tasks.rule (barrier_member s m has may.member) current; parity = rw current parity }

-- to a barrier of this parity
pub child_parity : (odd : Bool) (m : ℕ) (p : Task) (h : List Event) → p ≡ executed_task m h → odd ≡ is_odd (epoch_of_child p h) → odd ≡ is_odd (epoch_of_child (executed_task m h) h)
child_parity odd m p h current is = rw current at is

-- its number
pub next_task_number : (tasks after : TasksView) (t : ℕ) (h : List Event) → TasksStand tasks h → t ≡ count_of after → count_of after ≡ count_of tasks + 1 → t ≡ suc (tasks_created h)
next_task_number tasks after t h st number more = let count = st.count in omega (arith, count, number, more)

-- whether it is to stand in the list
pub listed_so : (listed undeferred : Bool) (items : List Dep) (desc : TaskDesc) (p : Task) (h : List Event) → listed ≡ (not undeferred && not (has_items items)) → undeferred ≡ becomes_undeferred desc p h → items ≡ desc.deps → listed ≡ (not (becomes_undeferred desc p h) && not (has_items desc.deps))
listed_so listed undeferred items desc p h is becomes same = is ∙ rw (becomes, same) refl

-- A task that the member creates itself

pub own_inside : (view now : SchedulerView) (m t : ℕ) (h : List Event) → view ≡ now → MayStartOwn m t now h → MayStartOwn m t view h
own_inside view now m t h e may = subst (λ (v : SchedulerView). MayStartOwn m t v h) (sym e) may

pub scheduler_stands_outside : (view now : SchedulerView) (h : List Event) → view ≡ now → Stands view h → Stands now h
scheduler_stands_outside view now h e st = subst (λ (v : SchedulerView). Stands v h) e st

-- The groups around a task

first_has_some : (qs : List ℕ) (q : ℕ) → first_in qs ≡ Some q → true ≡ has_some qs
first_has_some [] q e = absurd (cc)
first_has_some (x ∷ xs) q e = refl

first_has_none : (qs : List ℕ) → first_in qs ≡ None → false ≡ has_some qs
first_has_none [] e = refl
first_has_none (x ∷ xs) e = absurd (cc)

pub group_found : (m : ℕ) (task : Task) (found : Option ℕ) (q : ℕ) (h : List Event) → task ≡ executed_task m h → found ≡ first_in (groups_over task h) → found ≡ Some q → true ≡ has_some (groups_over (executed_task m h) h)
group_found m task found q h current first some = first_has_some (groups_over (executed_task m h) h) q (rw (← current) (sym first ∙ some))

pub group_missing : (m : ℕ) (task : Task) (found : Option ℕ) (h : List Event) → task ≡ executed_task m h → found ≡ first_in (groups_over task h) → found ≡ None → false ≡ has_some (groups_over (executed_task m h) h)
group_missing m task found h current first none = first_has_none (groups_over (executed_task m h) h) (rw (← current) (sym first ∙ none))

-- the task that a member executes is one of those that the groups know
pub current_is_seated : (s : SchedulerView) (m : ℕ) (task : Task) (h : List Event) → SchedulerHasMembers (scheduler_members s) s → Stands s h → m < scheduler_members s → task ≡ executed_task m h → IsSeated s.groups task
current_is_seated s m task h has st low current = rw current (executed_is_seated s.groups h m (group_member s m has low) st.groups)

pub unstarted_is_seated : (s : SchedulerView) (t : ℕ) (h : List Event) → Stands s h → is_unstarted t h ≡ true → IsSeated s.groups (Explicit t)
unstarted_is_seated s t h st un = let fresh = unstarted_is_fresh t h un in open_tasks_are_seated s.groups h t st.groups fresh.0 fresh.2

-- each group has a mark, and so has one that was found
pub groups_have_marks : (s : SchedulerView) (h : List Event) → Stands s h → length s.cancelled.marks ≡ length s.groups.groups
groups_have_marks s h st = each_group_has_a_mark s.cancelled s.groups h st.cancelled st.groups

pub found_has_mark : (s now : SchedulerView) (h : List Event) (found : Option ℕ) → s ≡ now → Stands s h → IfSome found (λ q. q < length s.groups.groups) → IfSome found (λ q. q < length now.cancelled.marks)
found_has_mark s now h found e st low =
    subst (λ (v : SchedulerView). IfSome found (λ q. q < length v.cancelled.marks)) e (subst (λ (n : ℕ). IfSome found (λ q. q < n)) (sym (groups_have_marks s h st)) low)

-- and one that the team may cancel
pub scope_has_row : (view now : SchedulerView) (h : List Event) (scope : Scope) (q : ℕ) → view ≡ now → Stands view h → scope ≡ OneGroup q → IsOfTeam scope (length now.cancelled.marks) → q < length view.groups.groups
scope_has_row view now h scope q e st is of_team =
    let own : q < length now.cancelled.marks = subst (λ (named : Scope). IsOfTeam named (length now.cancelled.marks)) is of_team in
    let low : q < length view.cancelled.marks = subst (λ (v : SchedulerView). q < length v.cancelled.marks) (sym e) own in
    let marks = groups_have_marks view h st in omega (arith, low, marks)

-- A new team

module _ (tasks : TasksView) (groups : GroupsView) (barriers : BarriersView) (depends : Depends) (cancelled : CancelView) (ready : ReadyView)
    (tasks_stand : TasksStand tasks []) (groups_stand : GroupsStand groups []) (barriers_stand : BarriersStand barriers []) (depends_stand : DependsStand depends []) (nothing : CancelStands cancelled []) (none : ready.ids ≡ []) where
  pub new_stands : Stands (record { tasks = tasks; groups = groups; barriers = barriers; depends = depends; cancelled = cancelled; ready = ready }) []
  new_stands = record { tasks = tasks_stand; groups = groups_stand; barriers = barriers_stand; depends = depends_stand; cancelled = nothing; ready = rw none none_ready }

  pub new_scheduler : (count : ℕ) → IsTeamSize count → task_members tasks ≡ count → group_members groups ≡ count → barrier_members barriers ≡ count → ready.members ≡ count → NoneIsFreed depends → waiting_count depends ≤ ready.room → (whole : ReadyView) → ((m l : ℕ) → passed_at m l whole ≡ []) →
      IsScheduler (record { tasks = tasks; groups = groups; barriers = barriers; depends = depends; cancelled = cancelled; ready = ready }) whole
  new_scheduler count size in_tasks in_groups in_barriers in_ready freed waiting whole passed = record {
    known = ([], new_stands);
    members = record { size = subst IsTeamSize (sym in_tasks) size; tasks = refl; groups = in_groups ∙ sym in_tasks; barriers = in_barriers ∙ sym in_tasks; ready = in_ready ∙ sym in_tasks };
    freed = freed;
    waiting = waiting;
    looked = λ h st. none_passed whole h passed;
  }

-- It is a scheduler with more memory too

pub scheduler_grown : (s after : SchedulerView) (before ready : ReadyView) → IsScheduler s before → HasGrown s after → NoneIsFreed after.depends → waiting_count after.depends ≤ after.ready.room → HaveLooked after.tasks ready → IsScheduler after ready
scheduler_grown s after before ready is grown freed waiting looked = let (h, st) = is.known in scheduler_with s after ready h grown.members (grown.stands h st) freed waiting looked

pub grown_outside : (view now after : SchedulerView) → view ≡ now → HasGrown view after → HasGrown now after
grown_outside view now after e grown = subst (λ (v : SchedulerView). HasGrown v after) e grown

-- What was passed over is not seen

pub unseen_scheduler : (s : SchedulerView) (ready after : ReadyView) → after ≡ record ready { passed = after.passed } → IsScheduler (record s { ready = shown ready }) ready → HaveLooked s.tasks after → IsScheduler (record s { ready = shown after }) after
unseen_scheduler s ready after same is looked =
    subst (λ (v : ReadyView). IsScheduler (record s { ready = v }) after) (sym (ap shown same)) (record { known = is.known; members = is.members; freed = is.freed; waiting = is.waiting; looked = looked })
