-- What a scheduler is never, whatever it keeps and whatever happened: for each line of a definition what it alone refuses.
use Rattle.std.proofs.Common.{◌≡◌, ◌≢◌, ℕ, ◌+◌, ◌<◌, ◌≤◌, true, false, List, [], ◌∷◌, length, refl, sym, subst, ◌∙◌, arith, suc, inl, inr}
use Rattle.std.specs.Prelude.{◌||◌, nat_lt}
use Rattle.std.proofs.lemmas.Bool.Decides.{nat_tests}
use Rattle.gomp_types.specs.declared.task.Task.{Task}
use Rattle.gomp_types.specs.declared.task.Task.TheVariants.{Implicit, Explicit}
use Rattle.gomp_types.specs.declared.task.TaskDesc.{TaskDesc}
use Rattle.gomp_events.specs.declared.event.Event.{Event}
use Rattle.gomp_events.specs.declared.event.Event.TheVariants.{Arrive, Pass, Create, Start, Done, Group, GroupEnd, Cancel, Discard}
use Rattle.gomp_events.specs.declared.event.Tag.{Tag}
use Rattle.gomp_types.specs.declared.cancel.Scope.TheVariants.{Region, OneShare, OneGroup}
use Rattle.gomp_types.specs.declared.depend.Dep.{Dep}
use Rattle.gomp_events.specs.Tasks.{tasks_created, task_stack, executed_task, is_ancestor, contains, has_started, is_complete, is_undeferred}
use Rattle.gomp_events.specs.Depends.{is_free}
use Rattle.gomp_tasks.specs.declared.tasks.TheConstants.{MAX_TASKS}
use Rattle.gomp_events.specs.Groups.{groups_opened}
use Rattle.gomp_events.specs.Cancels.{is_cancelled, is_covered}
use Rattle.gomp_events.specs.Goals.{is_unstarted, is_startable, some_startable, may_start, is_own}
use Rattle.gomp_events.specs.TaskRules.{TaskRule}
use Rattle.gomp_types.proofs.Booleans.{not_both, or_tells}
use Rattle.gomp_ready.specs.Ready.{AreOnce, ReadyView, passed_at, with_task}
use Rattle.gomp_ready.proofs.Laws.{once_without}
use Rattle.gomp_tasks.specs.Calls.{may_run}
use Rattle.gomp_tasks.specs.Stands.{Stands as TasksStand, count_of, task_members}
use Rattle.gomp_depend.specs.Stands.{HasDependRoom, Stands as DependsStand, is_freed, waiting_count}
use Rattle.gomp_groups.specs.Stands.{group_members}
use Rattle.gomp_barrier.specs.Stands.{barrier_members}
use Rattle.gomp_scheduler.specs.ReadyTasks.{is_listed, was_discarded}
use Rattle.gomp_scheduler.specs.Calls.{IsNoSchedulerEvent}
use Rattle.gomp_scheduler.specs.Passed.{IsWaitLevel, LooksInVain, awaits_under, level_task, shown, task_at_level}
use Rattle.gomp_scheduler.specs.Schedulers.{SchedulerView, Stands, SchedulerHasMembers, HasGrown, HasTaskRoom, HasGroupRoom, IsOfTeam, IsScheduler, AreSealed, scheduler_members}
use Rattle.gomp_scheduler.specs.Startable.{IsFound, MayStartNone, MayStartOwn}
use Rattle.gomp_scheduler.proofs.Laws.{events_aside_keep_scheduler}
use Rattle.gomp_scheduler.proofs.ReadyKeeps.{listed_tells, discarded_tells}

-- What it stands for

-- it keeps as many tasks, and as many groups and marks, as the events have
pub never_of_other_tasks : (s : SchedulerView) (h : List Event) → tasks_created h ≢ count_of s.tasks → Stands s h → ⊥
never_of_other_tasks s h other st = other st.tasks.count

pub never_of_other_groups : (s : SchedulerView) (h : List Event) → groups_opened h ≢ length s.groups.groups → Stands s h → ⊥
never_of_other_groups s h other st = other st.groups.opened

pub never_of_other_marks : (s : SchedulerView) (h : List Event) → groups_opened h ≢ length s.cancelled.marks → Stands s h → ⊥
never_of_other_marks s h other st = other st.cancelled.opened

pub never_of_other_dependences : (s : SchedulerView) (h : List Event) → (DependsStand s.depends h → ⊥) → Stands s h → ⊥
never_of_other_dependences s h other st = other st.depends

-- the region is cancelled by the events if it is, and else not
pub never_otherwise_cancelled : (s : SchedulerView) (h : List Event) → is_cancelled h ≢ s.cancelled.region → Stands s h → ⊥
never_otherwise_cancelled s h other st = other st.cancelled.region

pub never_otherwise_cancelled_at_barriers : (s : SchedulerView) (h : List Event) → is_cancelled h ≢ s.barriers.cancelled → Stands s h → ⊥
never_otherwise_cancelled_at_barriers s h other st = other st.barriers.cancelled

-- each ready task stands among those that it keeps
pub never_without_a_ready_task : (s : SchedulerView) (t : ℕ) (h : List Event) → is_listed t h ≡ true → contains t s.ready.ids ≡ false → Stands s h → ⊥
never_without_a_ready_task s t h is away st = not_both (contains t s.ready.ids) (st.ready.listed t is) away

-- and no other, unless it was discarded: none that was started, that is undeferred, or that waits
pub never_with_a_task_not_ready : (s : SchedulerView) (t : ℕ) (h : List Event) → contains t s.ready.ids ≡ true → is_listed t h ≡ false → was_discarded t h ≡ false → Stands s h → ⊥
never_with_a_task_not_ready s t h there unlisted kept st = not_both (is_listed t h || was_discarded t h) (st.ready.ready t there) (rw (unlisted, kept) refl)

pub never_with_a_started_task : (s : SchedulerView) (t : ℕ) (h : List Event) → contains t s.ready.ids ≡ true → has_started t h ≡ true → Stands s h → ⊥
never_with_a_started_task s t h there on st = elim (or_tells (is_listed t h) (was_discarded t h) (st.ready.ready t there)) [
  | inl is ↦ not_both (has_started t h) on (listed_tells t h is).unstarted
  | inr over ↦ not_both (has_started t h) on (discarded_tells t h over).1
]

pub never_with_an_undeferred_task : (s : SchedulerView) (t : ℕ) (h : List Event) → contains t s.ready.ids ≡ true → is_undeferred t h ≡ true → is_complete t h ≡ false → Stands s h → ⊥
never_with_an_undeferred_task s t h there undeferred incomplete st = elim (or_tells (is_listed t h) (was_discarded t h) (st.ready.ready t there)) [
  | inl is ↦ not_both (is_undeferred t h) undeferred (listed_tells t h is).deferred
  | inr over ↦ not_both (is_complete t h) (discarded_tells t h over).0 incomplete
]

pub never_with_a_task_that_waits : (s : SchedulerView) (t : ℕ) (h : List Event) → contains t s.ready.ids ≡ true → is_free t h ≡ false → is_complete t h ≡ false → Stands s h → ⊥
never_with_a_task_that_waits s t h there held incomplete st = elim (or_tells (is_listed t h) (was_discarded t h) (st.ready.ready t there)) [
  | inl is ↦ not_both (is_free t h) (listed_tells t h is).free held
  | inr over ↦ not_both (is_complete t h) (discarded_tells t h over).0 incomplete
]

-- and none twice
pub never_with_a_task_twice : (s : SchedulerView) (t : ℕ) (others : List ℕ) (h : List Event) → s.ready.ids ≡ with_task t others → contains t others ≡ true → Stands s h → ⊥
never_with_a_task_twice s t others h are there st = not_both (contains t others) there (once_without t others (subst (λ (ids : List ℕ). AreOnce ids) are st.ready.once)).0

-- Members

pub never_of_other_members : (s : SchedulerView) (count : ℕ) → SchedulerHasMembers count s → (task_members s.tasks ≡ count → group_members s.groups ≡ count → barrier_members s.barriers ≡ count → s.ready.members ≡ count → ⊥) → ⊥
never_of_other_members s count has other = other has.tasks has.groups has.barriers has.ready

pub never_of_no_member : (s : SchedulerView) → SchedulerHasMembers 0 s → ⊥
never_of_no_member s has = let some = has.size.0 in omega (arith, some)

pub never_of_too_many : (s : SchedulerView) (n : ℕ) → SchedulerHasMembers (n + 65) s → ⊥
never_of_too_many s n has = let few = has.size.1 in omega (arith, few)

pub never_without_a_list : (s : SchedulerView) (ready : ReadyView) → ((h : List Event) → Stands s h → ⊥) → IsScheduler s ready → ⊥
never_without_a_list s ready none is = let (h, st) = is.known in none h st

-- each task that was freed stands among the ready ones, and there is room there for each that waits
pub never_with_a_freed_task : (s : SchedulerView) (ready : ReadyView) (t : ℕ) → is_freed t s.depends ≡ true → IsScheduler s ready → ⊥
never_with_a_freed_task s ready t freed is = not_both (is_freed t s.depends) freed (is.freed t)

pub never_without_room_for_those_that_wait : (s : SchedulerView) (ready : ReadyView) → s.ready.room < waiting_count s.depends → IsScheduler s ready → ⊥
never_without_room_for_those_that_wait s ready less is = let some = is.waiting in omega (arith, less, some)

-- What members have passed over

-- a member passes over no task that it may look for at its level, nor one that is not created
pub never_in_vain_if_it_waits_there : (m l t : ℕ) (h : List Event) → is_unstarted t h ≡ true → is_ancestor (level_task m l h) t h ≡ true → LooksInVain m l t h → ⊥
never_in_vain_if_it_waits_there m l t h un under is = not_both (awaits_under (level_task m l h) t h) (rw (un, under) refl) is.apart

pub never_in_vain_if_not_created : (m l t : ℕ) (h : List Event) → tasks_created h < t → LooksInVain m l t h → ⊥
never_in_vain_if_not_created m l t h late is = let old = is.created in omega (arith, late, old)

-- nor does it in a scheduler, at any of its levels
pub never_passes_over_one_that_waits : (s : SchedulerView) (ready : ReadyView) (m l t : ℕ) (h : List Event) → TasksStand s.tasks h → m < ready.members → l ≤ length (task_stack m h) → contains t (passed_at m l ready) ≡ true → is_unstarted t h ≡ true → is_ancestor (level_task m l h) t h ≡ true → IsScheduler s ready → ⊥
never_passes_over_one_that_waits s ready m l t h st low within there un under is = never_in_vain_if_it_waits_there m l t h un under (is.looked h st m l t low within there)

-- the task of level 0 is the member's implicit one, that of each further level the next that it has started
pub never_another_task_at_level_0 : (m : ℕ) (ts : List ℕ) → task_at_level m 0 ts ≢ Implicit m → ⊥
never_another_task_at_level_0 m [] wrong = wrong refl
never_another_task_at_level_0 m (t ∷ ts) wrong = never_another_task_at_level_0 m ts (λ same. wrong (let before : nat_lt (length ts) 0 ≡ false = grind (arith, nat_tests) in rw before same))

pub never_another_task_at_its_level : (m t : ℕ) (ts : List ℕ) → task_at_level m (suc (length ts)) (t ∷ ts) ≢ Explicit t → ⊥
never_another_task_at_its_level m t ts wrong = wrong (let past : nat_lt (length ts) (suc (length ts)) ≡ true = grind (arith, nat_tests) in rw past refl)

pub never_moved_by_an_inner_task : (m l t : ℕ) (ts : List ℕ) → l ≤ length ts → task_at_level m l (t ∷ ts) ≢ task_at_level m l ts → ⊥
never_moved_by_an_inner_task m l t ts low wrong = wrong (let before : nat_lt (length ts) l ≡ false = grind (arith, nat_tests, low) in rw before refl)

-- a member waits at the level of the task that it executes, and only if it may run just what waits under that
pub never_waits_at_another_level : (m l : ℕ) (h : List Event) → l ≢ length (task_stack m h) → IsWaitLevel m l h → ⊥
never_waits_at_another_level m l h other is = other is.level

pub never_waits_there_if_it_may_run_another : (m l t : ℕ) (h : List Event) → may_run m t h ≡ true → awaits_under (executed_task m h) t h ≡ false → IsWaitLevel m l h → ⊥
never_waits_there_if_it_may_run_another m l t h runs apart is = not_both (may_run m t h) runs (is.runs t ∙ apart)

pub never_waits_there_if_it_may_not_run_one : (m l t : ℕ) (h : List Event) → may_run m t h ≡ false → awaits_under (executed_task m h) t h ≡ true → IsWaitLevel m l h → ⊥
never_waits_there_if_it_may_not_run_one m l t h fails under is = not_both (may_run m t h) (is.runs t ∙ under) fails

-- none of it is seen, and all else is
pub never_seen_as_passed_over : (ready : ReadyView) (m l t : ℕ) → contains t (passed_at m l (shown ready)) ≡ true → ⊥
never_seen_as_passed_over ready m l t there = let e : false ≡ true = there in cc

pub never_seen_as_another : (ready : ReadyView) → (((shown ready).members ≡ ready.members) × ((shown ready).ids ≡ ready.ids) × ((shown ready).room ≡ ready.room) → ⊥) → ⊥
never_seen_as_another ready wrong = wrong (refl, refl, refl)

-- What a team may cancel

pub never_a_group_to_come : (q : ℕ) → IsOfTeam (OneGroup q) q → ⊥
never_a_group_to_come q is = omega (arith, is)

pub never_a_share : (share groups : ℕ) → IsOfTeam (OneShare share) groups → ⊥
never_a_share share groups is = is

-- What was to be discarded

pub never_sealed_with_one_reached : (t : ℕ) (h : List Event) → is_unstarted t h ≡ true → is_covered t h ≡ true → AreSealed h → ⊥
never_sealed_with_one_reached t h un covered sealed = let both = sym covered ∙ sealed t un in cc

-- Which task a member may start

-- one that it takes it may start at a wait
pub never_found_unless_startable : (m t : ℕ) (s : SchedulerView) (h : List Event) → Stands s h → AreSealed h → is_startable m t h ≡ false → IsFound m s t → ⊥
never_found_unless_startable m t s h st sealed not_it is = not_both (is_startable m t h) (is h st sealed) not_it

-- if it takes none there is none
pub never_none_with_a_startable_task : (m : ℕ) (s : SchedulerView) (h : List Event) → Stands s h → AreSealed h → some_startable m h ≡ true → MayStartNone m s → ⊥
never_none_with_a_startable_task m s h st sealed some none = not_both (some_startable m h) some (none h st sealed)

-- its own is undeferred, the rule lets it start that, and it created it in the task that it executes
pub never_its_own_if_deferred : (m t : ℕ) (s : SchedulerView) (h : List Event) → is_undeferred t h ≡ false → MayStartOwn m t s h → ⊥
never_its_own_if_deferred m t s h deferred may = not_both (is_undeferred t h) may.undeferred deferred

pub never_its_own_unless_it_may_start : (m t : ℕ) (s : SchedulerView) (h : List Event) → may_start m t h ≡ false → MayStartOwn m t s h → ⊥
never_its_own_unless_it_may_start m t s h not_it may = not_both (may_start m t h) may.rule.may not_it

pub never_its_own_of_another : (m t : ℕ) (s : SchedulerView) (h : List Event) → is_own m t h ≡ false → MayStartOwn m t s h → ⊥
never_its_own_of_another m t s h other may = not_both (is_own m t h) (may.rule.own may.undeferred) other

pub never_started_by_a_stranger : (m t : ℕ) (s : SchedulerView) (h : List Event) → (m < scheduler_members s → ⊥) → MayStartOwn m t s h → ⊥
never_started_by_a_stranger m t s h stranger may = stranger may.rule.member

-- Memory

pub never_room_without_a_row : (m : ℕ) (items : List Dep) (s : SchedulerView) → s.tasks.room ≡ 0 → HasTaskRoom m items s → ⊥
never_room_without_a_row m items s none has = let some = has.tasks in omega (arith, none, some)

pub never_room_without_a_seat : (m : ℕ) (items : List Dep) (s : SchedulerView) → s.groups.task_room ≡ 0 → HasTaskRoom m items s → ⊥
never_room_without_a_seat m items s none has = let some = has.groups in omega (arith, none, some)

pub never_room_without_items : (m : ℕ) (items : List Dep) (s : SchedulerView) (h : List Event) → Stands s h → count_of s.tasks < MAX_TASKS → (HasDependRoom (suc (tasks_created h)) (executed_task m h) items s.depends → ⊥) → HasTaskRoom m items s → ⊥
never_room_without_items m items s h st few none has = none (has.depends few h st)

-- among the ready tasks there is room for those that wait and for one more
pub never_room_without_a_place : (m : ℕ) (items : List Dep) (s : SchedulerView) → s.ready.room ≤ waiting_count s.depends → HasTaskRoom m items s → ⊥
never_room_without_a_place m items s none has = let some = has.ready in omega (arith, none, some)

pub never_room_without_a_group : (s : SchedulerView) → s.groups.group_room ≡ 0 → HasGroupRoom s → ⊥
never_room_without_a_group s none has = let some = has.groups in omega (arith, none, some)

pub never_room_without_a_mark : (s : SchedulerView) → s.cancelled.room ≡ 0 → HasGroupRoom s → ⊥
never_room_without_a_mark s none has = let some = has.marks in omega (arith, none, some)

pub never_grown_to_another_list : (s after : SchedulerView) (h : List Event) → HasGrown s after → Stands s h → (Stands after h → ⊥) → ⊥
never_grown_to_another_list s after h grown st none = none (grown.stands h st)

pub never_grown_from_another_list : (s after : SchedulerView) (h : List Event) → HasGrown s after → Stands after h → (Stands s h → ⊥) → ⊥
never_grown_from_another_list s after h grown st none = none (grown.stood h st)

pub never_grown_by_a_member : (s after : SchedulerView) → HasGrown s after → scheduler_members after ≡ scheduler_members s + 1 → ⊥
never_grown_by_a_member s after grown more = let same = grown.members.tasks in omega (arith, more, same)

-- Events that it does not see

pub aside_event_never_ends_it : (s : SchedulerView) (h : List Event) (event : Event) → IsNoSchedulerEvent event → TaskRule (task_members s.tasks) event h → TaskRule (group_members s.groups) event h → Stands s h → (Stands s (event ∷ h) → ⊥) → ⊥
aside_event_never_ends_it s h event is tasks groups st ends = ends (events_aside_keep_scheduler s h event is tasks groups st)

-- it sees these
pub seen_events : (t m n : ℕ) (p : Task) (desc : TaskDesc) (tag : Tag) → (IsNoSchedulerEvent (Create t m p desc) → ⊥) × (IsNoSchedulerEvent (Start t m) → ⊥) × (IsNoSchedulerEvent (Done t m) → ⊥) × (IsNoSchedulerEvent (Discard t m) → ⊥) × (IsNoSchedulerEvent (Group t m) → ⊥) × (IsNoSchedulerEvent (GroupEnd t m) → ⊥) × (IsNoSchedulerEvent (Arrive n m tag) → ⊥) × (IsNoSchedulerEvent (Pass n m) → ⊥) × (IsNoSchedulerEvent (Cancel m Region) → ⊥) × (IsNoSchedulerEvent (Cancel m (OneGroup n)) → ⊥)
seen_events t m n p desc tag = (λ is. is, λ is. is, λ is. is, λ is. is, λ is. is, λ is. is, λ is. is, λ is. is, λ is. is, λ is. is)

-- and a cancelled share not
pub scheduler_ignores_share_cancels : (m share : ℕ) → IsNoSchedulerEvent (Cancel m (OneShare share))
scheduler_ignores_share_cancels m share = tt
