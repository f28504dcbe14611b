-- What holds of every list of events that the groups of a team's tasks stand for: the laws that the crates above cite.
use Rattle.std.proofs.Common.{◌≡◌, ℕ, ◌<◌, ◌≤◌, true, false, List, ◌∷◌, ◌++◌, length, refl, subst, sym, arith}
use Rattle.gomp_types.specs.declared.task.Task.{Task}
use Rattle.gomp_types.specs.declared.task.Task.TheVariants.{Implicit, Explicit}
use Rattle.gomp_events.specs.declared.event.Event.{Event}
use Rattle.gomp_events.specs.declared.event.Event.TheVariants.{Create, Done, Discard, Group, GroupEnd}
use Rattle.gomp_events.specs.Tasks.{is_created, is_complete, is_child, executed_task}
use Rattle.gomp_events.specs.Groups.{open_groups, in_group}
use Rattle.gomp_events.specs.TaskRules.{TaskRule}
use Rattle.gomp_groups.specs.Rows.{pending_at, seat_at, IsChain}
use Rattle.gomp_groups.specs.Calls.{tasks_before, IsNoGroupEvent}
use Rattle.gomp_events.specs.Cancels.{groups_over}
use Rattle.gomp_groups.specs.Stands.{GroupsView, Stands, IsSeated, group_members}
use Rattle.gomp_events.proofs.OpenTasks.{open_done}
use Rattle.gomp_groups.proofs.Fields.{pending_most, children_most}
use Rattle.gomp_groups.proofs.Older.{earlier_task_is_in_no_later_group}
use Rattle.gomp_groups.proofs.Seats.{parent_seated}
use Rattle.gomp_groups.proofs.GroupsKeep.{open_task_has_row, executed_task_has_seat}

over_aside : (p : Task) (event : Event) (h : List Event) → IsNoGroupEvent event → groups_over p (event ∷ h) ≡ groups_over p h
over_aside (Implicit x) event h is = refl
over_aside (Explicit t) (Create task m parent desc) h is = absurd is
over_aside (Explicit t) _ h is = refl

-- an event that neither creates, ends nor discards a task, nor opens or ends a group, changes nothing of the groups, if the rule of tasks allows it
pub events_aside_keep_groups : (groups : GroupsView) (h : List Event) (event : Event) → IsNoGroupEvent event → TaskRule (group_members groups) event h → Stands groups h → Stands groups (event ∷ h)
events_aside_keep_groups groups h (Create task m parent desc) is rule st = absurd is
events_aside_keep_groups groups h (Done task m) is rule st = absurd is
events_aside_keep_groups groups h (Discard task m) is rule st = absurd is
events_aside_keep_groups groups h (Group q m) is rule st = absurd is
events_aside_keep_groups groups h (GroupEnd q m) is rule st = absurd is
events_aside_keep_groups groups h event is rule st =
    let same : (p : Task) → groups_over p h ≡ groups_over p (event ∷ h) = λ p. sym (over_aside p event h is) in
    record {
      opened = st.opened;
      created = st.created;
      nested = st.nested;
      pending = st.pending;
      since = st.since;
      gone = st.gone;
      complete = st.complete;
      needed = st.needed;
      parent = st.parent;
      children = st.children;
      around = λ p seated. subst (IsChain groups.groups (seat_at groups.tasks groups.members p).around) (same p) (st.around p seated);
      last = λ p seated. subst (λ (qs : List ℕ). IsChain groups.groups (seat_at groups.tasks groups.members p).last (open_groups p h ++ qs)) (same p) (st.last p seated);
      rule = (rule, st.rule);
    }

-- so many tasks were created before a group that none of them is in it
pub earlier_tasks_are_in_no_later_group : (groups : GroupsView) (h : List Event) (q t : ℕ) → Stands groups h → t ≤ tasks_before q h → in_group q t h ≡ false
earlier_tasks_are_in_no_later_group groups h q t st before = earlier_task_is_in_no_later_group (group_members groups) q t h st.rule before

-- a group's count of open tasks is that of the tasks that were created at most, and so is a task's of open children
pub counts_are_of_created_tasks : (groups : GroupsView) (h : List Event) (q : ℕ) (p : Task) → Stands groups h → (pending_at groups.groups q ≤ length groups.tasks) × ((seat_at groups.tasks groups.members p).children ≤ length groups.tasks)
counts_are_of_created_tasks groups h q p st = (pending_most groups.groups groups.tasks groups.members h q st, children_most groups.groups groups.tasks groups.members h p st)

-- the task that a member executes is one of the team's
pub executed_is_seated : (groups : GroupsView) (h : List Event) (m : ℕ) → m < group_members groups → Stands groups h → IsSeated groups (executed_task m h)
executed_is_seated groups h m member st = executed_task_has_seat groups.groups groups.tasks groups.members h m (executed_task m h) st member refl

-- and so is each explicit task that was created and is not complete
pub open_tasks_are_seated : (groups : GroupsView) (h : List Event) (t : ℕ) → Stands groups h → is_created t h ≡ true → is_complete t h ≡ false → IsSeated groups (Explicit t)
open_tasks_are_seated groups h t st made incomplete = open_task_has_row groups.groups groups.tasks groups.members t h st (record { made = made; incomplete = incomplete })

-- and the task in which such a one was created, explicit or not
pub open_parents_are_seated : (groups : GroupsView) (h : List Event) (t : ℕ) (p : Task) → Stands groups h → is_created t h ≡ true → is_complete t h ≡ false → is_child p t h ≡ true → IsSeated groups p
open_parents_are_seated groups h t p st made incomplete child =
    let done = open_done (λ u. is_child p u h) t 0 h made child incomplete in
    let count = st.children p in
    parent_seated groups.tasks groups.members p (omega (arith, done, count))
