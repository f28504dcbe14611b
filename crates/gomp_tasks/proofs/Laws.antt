-- What holds of every list of events that the tasks of a team stand for: the laws that the crates above cite.
use Rattle.std.proofs.Common.{◌≡◌, ℕ, ◌<◌, true, false, List, ◌∷◌, ◌++◌, Some, None, refl, ◌∙◌, sym, arith}
use Rattle.std.specs.Prelude.{nat_lt, nat_le}
use Rattle.std.proofs.lemmas.Bool.Decides.{nat_tests}
use Rattle.gomp_types.specs.declared.task.Task.{Task}
use Rattle.gomp_types.specs.declared.task.Task.TheVariants.{Explicit}
use Rattle.gomp_events.specs.declared.event.Event.{Event}
use Rattle.gomp_events.specs.Tasks.{tasks_created, executed_task, is_created, is_complete, is_child}
use Rattle.gomp_events.specs.Laws.{Always}
use Rattle.gomp_events.specs.TaskRules.{TaskRule}
use Rattle.gomp_events.specs.TaskLaws.{IsCreated}
use Rattle.gomp_events.proofs.OpenTasks.{created_low, created_high}
use Rattle.gomp_rows.specs.Rows.{row_no}
use Rattle.gomp_tasks.specs.declared.rows.TaskRow.{TaskRow}
use Rattle.gomp_tasks.specs.Rows.{Follows}
use Rattle.gomp_tasks.specs.Calls.{IsNoTaskEvent}
use Rattle.gomp_tasks.specs.Stands.{TasksView, Stands, IsNumber, IsKept, IsTask, is_row_of_child, task_members}
use Rattle.gomp_tasks.specs.States.{State, InState, MovesTo, Precedes, kept_state}
use Rattle.gomp_tasks.proofs.RowsAt.{row_given, row_is_there, row_under, some_is_counted}
use Rattle.gomp_tasks.proofs.TasksKeep.{open_has_row, executed_is_task, parent_is_task}
use Rattle.gomp_tasks.proofs.TablesKeep.{aside_keeps_tables}
use Rattle.gomp_tasks.proofs.StateMoves.{state_follows, same_kept, state_is_kept, state_is_created, created_has_state, same_state, state_moves, state_precedes}

-- whatever calls were made, the events keep the rule of tasks
pub tasks_keep_task_rule : (tasks : TasksView) (h : List Event) → Stands tasks h → Always (TaskRule (task_members tasks)) h
tasks_keep_task_rule tasks h st = st.rule

-- an event that creates, starts, ends or discards no task changes nothing of the tasks, if the rule lets it happen
pub events_aside_keep_tasks : (tasks : TasksView) (h : List Event) (event : Event) → IsNoTaskEvent event → TaskRule (task_members tasks) event h → Stands tasks h → Stands tasks (event ∷ h)
events_aside_keep_tasks tasks h event is rule st = aside_keeps_tables tasks.rows tasks.stacks tasks.roots event h is rule st

-- the numbers of the tasks are those of the tasks that were created
pub numbers_are_of_created_tasks : (tasks : TasksView) (h : List Event) (t : ℕ) → Stands tasks h → IsNumber t tasks → is_created t h ≡ true
numbers_are_of_created_tasks tasks h t st is =
    let low = is.0 in let high = is.1 in let count = st.count in
    let some : nat_lt 0 t ≡ true = grind (arith, nat_tests, low) in
    let few : nat_le t (tasks_created h) ≡ true = grind (arith, nat_tests, high, count) in
    rw (some, few) refl

pub created_tasks_have_numbers : (tasks : TasksView) (h : List Event) (t : ℕ) → Stands tasks h → is_created t h ≡ true → IsNumber t tasks
created_tasks_have_numbers tasks h t st made =
    let high = created_high t h made in let count = st.count in
    (created_low t h made, omega (arith, high, count))

-- Which tasks have a row

-- each that is not complete
pub open_tasks_are_kept : (tasks : TasksView) (h : List Event) (t : ℕ) → Stands tasks h → is_created t h ≡ true → is_complete t h ≡ false → IsKept t tasks
open_tasks_are_kept tasks h t st made open' = open_has_row tasks.rows tasks.stacks tasks.roots t h st made open'

-- so each that a member executes
pub executed_tasks_are_kept : (tasks : TasksView) (h : List Event) (m : ℕ) → m < task_members tasks → Stands tasks h → IsTask (executed_task m h) tasks
executed_tasks_are_kept tasks h m member st = executed_is_task tasks m (executed_task m h) h st refl

-- and each in which a task was created that has one
pub parents_are_kept : (tasks : TasksView) (h : List Event) (t : ℕ) (p : Task) → Stands tasks h → IsKept t tasks → is_child p t h ≡ true → IsTask p tasks
parents_are_kept tasks h t p st is child = parent_is_task tasks t p h st is child

-- one without is complete
pub tasks_without_a_row_are_complete : (tasks : TasksView) (h : List Event) (t : ℕ) → Stands tasks h → is_created t h ≡ true → row_no tasks.rows t ≡ None → is_complete t h ≡ true
tasks_without_a_row_are_complete tasks h t st made none = st.gone t made none

-- only a task that was created has one
pub kept_tasks_have_numbers : (tasks : TasksView) (t : ℕ) → IsKept t tasks → IsNumber t tasks
kept_tasks_have_numbers tasks t is = let found = row_under tasks.rows t is in row_given tasks.rows t found.0 found.1

-- a complete one has a row only while a child of it has one
pub complete_tasks_are_kept_for_a_child : (tasks : TasksView) (h : List Event) (t : ℕ) → Stands tasks h → IsKept t tasks → is_complete t h ≡ true → (x : ℕ) × IsKept x tasks × (is_child (Explicit t) x h ≡ true)
complete_tasks_are_kept_for_a_child tasks h t st is over =
    let found = row_under tasks.rows t is in
    let stands = st.kept_row t found.0 found.1 in
    let needed = st.needed t found.0 found.1 (sym stands.state.complete ∙ over) in
    let counted = st.children t found.0 found.1 in
    let child = some_is_counted (is_row_of_child t) tasks.rows refl (omega (arith, needed, counted)) in
    (child.0, row_is_there tasks.rows child.0 child.1 child.2, (st.kept_row child.0 child.1 child.2).parent.children (Explicit t) ∙ child.3)

-- whatever happens, what a row keeps of a task moves forward only, and the member that runs it is the one that ends it
pub states_move_forward : (old new : TasksView) (h : List Event) (event : Event) (t : ℕ) (row later : TaskRow) → Stands old h → Stands new (event ∷ h) →
    row_no old.rows t ≡ Some row → row_no new.rows t ≡ Some later → Follows row.state later.state
states_move_forward old new h event t row later before after at at_later =
    state_follows (task_members new) t row.state later.state event h after.rule.0 (before.kept_row t row at).state (after.kept_row t later at_later).state

-- The states of a task, by what happened

-- each task that was created has one
pub created_tasks_have_a_state : (members t : ℕ) (h : List Event) → Always (TaskRule members) h → IsCreated t h → (state : State) × InState t state h
created_tasks_have_a_state members t h all made = created_has_state members t h all made

-- and no other task has
pub tasks_with_a_state_are_created : (members t : ℕ) (state : State) (h : List Event) → Always (TaskRule members) h → InState t state h → IsCreated t h
tasks_with_a_state_are_created members t state h all is = state_is_created members t state h all is

-- it has one alone
pub states_exclude_each_other : (members t : ℕ) (one other : State) (h : List Event) → Always (TaskRule members) h → InState t one h → InState t other h → one ≡ other
states_exclude_each_other members t one other h all a b = same_state members t one other h all a b

-- whatever happens next, it stays or moves on
pub task_states_move : (members t : ℕ) (old new : State) (event : Event) (h : List Event) → Always (TaskRule members) (event ∷ h) → InState t old h → InState t new (event ∷ h) → MovesTo old new
task_states_move members t old new event h all before after = state_moves members t old new event h all before after

-- and whatever happens later, it never goes back
pub task_states_never_return : (members t : ℕ) (old new : State) (later h : List Event) → Always (TaskRule members) (later ++ h) → InState t old h → InState t new (later ++ h) → Precedes old new
task_states_never_return members t old new later h all before after = state_precedes members t old new later h all before after

-- the row of the task keeps it
pub rows_keep_states : (tasks : TasksView) (h : List Event) (t : ℕ) (row : TaskRow) (state : State) → Stands tasks h → row_no tasks.rows t ≡ Some row → InState t state h → row.state ≡ kept_state state
rows_keep_states tasks h t row state st at is =
    same_kept t row.state (kept_state state) h (st.kept_row t row at).state (state_is_kept (task_members tasks) t state h st.rule is)
