-- Which group is not the last of some groups, what never ends what the groups stand for, and which rows stand for no events, of any groups, tasks, members and lists of events.
use Rattle.std.proofs.Common.{◌≡◌, ◌≢◌, ℕ, ◌<◌, ◌≤◌, true, false, List, ◌∷◌, Option, Some, None, ◌⊎◌, inl, inr, refl, ap, ◌∙◌, sym, arith}
use Rattle.std.proofs.lemmas.Option.{none-some}
use Rattle.gomp_rows.specs.Rows.{row_no, HasRow}
use Rattle.gomp_types.specs.declared.task.Task.{Task}
use Rattle.gomp_types.specs.declared.task.Task.TheVariants.{Explicit}
use Rattle.gomp_events.specs.declared.event.Event.{Event}
use Rattle.gomp_events.specs.declared.event.Event.TheVariants.{Group}
use Rattle.gomp_events.specs.Tasks.{contains, tasks_created, executed_task, open_tasks, is_child, is_created, is_complete}
use Rattle.gomp_events.specs.Groups.{groups_opened, in_group}
use Rattle.gomp_events.specs.TaskRules.{TaskRule}
use Rattle.gomp_types.proofs.Booleans.{not_both, same_number}
use Rattle.gomp_groups.specs.declared.rows.GroupRow.{GroupRow}
use Rattle.gomp_groups.specs.declared.rows.GroupSeat.{GroupSeat}
use Rattle.gomp_groups.specs.declared.rows.SeatedTask.{SeatedTask}
use Rattle.gomp_groups.specs.Calls.{tasks_before, IsLastOf, IsNoGroupEvent}
use Rattle.gomp_groups.specs.Rows.{pending_at, since_at, seat_at}
use Rattle.gomp_groups.specs.Stands.{GroupsView, GroupsStand, Stands, IsSeated, group_members}
use Rattle.gomp_groups.proofs.Laws.{events_aside_keep_groups, earlier_tasks_are_in_no_later_group, counts_are_of_created_tasks, executed_is_seated, open_parents_are_seated}
use Rattle.gomp_groups.proofs.Seats.{row_of_seated, seat_of_row}

-- one that is none of them
pub never_last_of_other_groups : (q : ℕ) (qs : List ℕ) → contains q qs ≡ false → IsLastOf qs q → ⊥
never_last_of_other_groups q qs apart last = not_both (contains q qs) last.0 apart

-- nor one that was opened before another of them
pub never_last_before_another_group : (q other : ℕ) (qs : List ℕ) → contains other qs ≡ true → q < other → IsLastOf qs q → ⊥
never_last_before_another_group q other qs there before last = let most = last.1 other there in absurd (omega (arith, most, before))

-- no event ends it that speaks of no group, and creates, ends and discards no task
pub event_of_no_group_never_ends_it : (groups : GroupsView) (h : List Event) (event : Event) → IsNoGroupEvent event → TaskRule (group_members groups) event h → Stands groups h → (Stands groups (event ∷ h) → ⊥) → ⊥
event_of_no_group_never_ends_it groups h event is rule st ends = ends (events_aside_keep_groups groups h event is rule st)

-- no member executes a task that is none of the team's
pub executed_task_never_of_another_team : (groups : GroupsView) (h : List Event) (m : ℕ) → m < group_members groups → Stands groups h → (IsSeated groups (executed_task m h) → ⊥) → ⊥
executed_task_never_of_another_team groups h m member st other = other (executed_is_seated groups h m member st)

-- no task is in a group that was opened after it was created
pub never_in_a_later_group : (groups : GroupsView) (h : List Event) (q t : ℕ) → t ≤ since_at groups.groups q → in_group q t h ≡ true → Stands groups h → ⊥
never_in_a_later_group groups h q t before there st =
    let since = st.since q in
    not_both (in_group q t h) there (earlier_tasks_are_in_no_later_group groups h q t st (omega (arith, before, since)))

-- no group is kept as if another number of tasks had been created before it
pub never_kept_with_another_since : (groups : List GroupRow) (tasks : List (Option SeatedTask)) (members : List GroupSeat) (h : List Event) (q m : ℕ) → q ≡ groups_opened h → since_at groups q ≢ tasks_created h → GroupsStand groups tasks members (Group q m ∷ h) → ⊥
never_kept_with_another_since groups tasks members h q m number other st =
    let before : tasks_before q (Group q m ∷ h) ≡ tasks_created h = rw (same_number q) refl in
    other (sym (st.since q) ∙ before)

-- no more tasks are counted in a group, or as a task's children, than were created
pub never_more_counted_than_created : (groups : GroupsView) (h : List Event) (q : ℕ) (p : Task) → (tasks_created h < pending_at groups.groups q) ⊎ (tasks_created h < (seat_at groups.tasks groups.members p).children) → Stands groups h → ⊥
never_more_counted_than_created groups h q p more st =
    let most = counts_are_of_created_tasks groups h q p st in
    let few = most.0 in
    let fewer = most.1 in
    let created = st.created in
    elim more [
      | inl pending ↦ absurd (omega (arith, pending, few, created))
      | inr children ↦ absurd (omega (arith, children, fewer, created))
    ]

-- no open task is without a row
pub open_task_never_without_a_row : (groups : List GroupRow) (tasks : List (Option SeatedTask)) (members : List GroupSeat) (h : List Event) (t : ℕ) → is_created t h ≡ true → is_complete t h ≡ false → row_no tasks t ≡ None → GroupsStand groups tasks members h → ⊥
open_task_never_without_a_row groups tasks members h t made incomplete none st = not_both (is_complete t h) (st.gone t made none) incomplete

-- no row says of an open task that it is complete, nor of a complete one that it is open
pub open_task_never_kept_as_complete : (groups : List GroupRow) (tasks : List (Option SeatedTask)) (members : List GroupSeat) (h : List Event) (t : ℕ) (row : SeatedTask) → row_no tasks t ≡ Some row → row.complete ≡ true → is_complete t h ≡ false → GroupsStand groups tasks members h → ⊥
open_task_never_kept_as_complete groups tasks members h t row is says incomplete st = not_both (is_complete t h) (st.complete t row is ∙ says) incomplete

pub complete_task_never_kept_as_open : (groups : List GroupRow) (tasks : List (Option SeatedTask)) (members : List GroupSeat) (h : List Event) (t : ℕ) (row : SeatedTask) → row_no tasks t ≡ Some row → row.complete ≡ false → is_complete t h ≡ true → GroupsStand groups tasks members h → ⊥
complete_task_never_kept_as_open groups tasks members h t row is says complete st = not_both (is_complete t h) complete (st.complete t row is ∙ says)

-- no complete task has a row of which no child is open
pub complete_task_never_kept_without_child : (groups : List GroupRow) (tasks : List (Option SeatedTask)) (members : List GroupSeat) (h : List Event) (t : ℕ) → is_complete t h ≡ true → open_tasks (λ u. is_child (Explicit t) u h) h ≡ 0 → HasRow tasks t → GroupsStand groups tasks members h → ⊥
complete_task_never_kept_without_child groups tasks members h t complete none there st =
    let (row, is) = row_of_seated tasks t there in
    let some = st.needed t row is (sym (st.complete t row is) ∙ complete) in
    let count = st.children (Explicit t) in
    let kept = ap (λ (s : GroupSeat). s.children) (seat_of_row tasks members t row is) in
    absurd (omega (arith, none, some, count, kept))

-- no parent of an open task is without a row
pub parent_never_without_a_row : (groups : GroupsView) (h : List Event) (t p : ℕ) → is_created t h ≡ true → is_complete t h ≡ false → is_child (Explicit p) t h ≡ true → row_no groups.tasks p ≡ None → Stands groups h → ⊥
parent_never_without_a_row groups h t p made incomplete child none st =
    let (row, is) = row_of_seated groups.tasks p (open_parents_are_seated groups h t (Explicit p) st made incomplete child) in
    none-some row (sym none ∙ is)
