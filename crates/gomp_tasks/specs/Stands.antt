-- When the tasks of a team stand for a list of events. OpenMP API 5.2, chapter 12.
use Rattle.std.specs.Prelude.{ℕ, ◌<◌, ◌≤◌, ◌≡◌, ◌≢◌, Bool, true, false, List, Option, Some, None, length, slice_get, count_by}
use Rattle.gomp_events.specs.declared.event.Event.{Event}
use Rattle.gomp_types.specs.declared.task.Task.{Task}
use Rattle.gomp_types.specs.declared.task.Task.TheVariants.{Implicit, Explicit}
use Rattle.gomp_events.specs.Tasks.{same_task, tasks_created, task_stack, is_created, is_complete}
use Rattle.gomp_events.specs.Laws.{Always}
use Rattle.gomp_events.specs.TaskRules.{TaskRule}
use Rattle.gomp_rows.specs.Rows.{row_no, HasRow, with_row}
use Rattle.gomp_tasks.specs.declared.tasks.TheConstants.{MAX_TASKS}
use Rattle.gomp_tasks.specs.declared.rows.Newest.{Newest}
use Rattle.gomp_tasks.specs.declared.rows.TaskRow.{TaskRow}
use Rattle.gomp_tasks.specs.Rows.{RowStands, NewestIs, is_over, without_child}

-- the tasks of a team, as data
pub record TasksView : Type 0 where
  -- what is kept of each task, the oldest first; nothing once its row was taken out
  pub rows : List (Option TaskRow)
  -- the tasks that each member has started and not ended, the innermost first
  pub stacks : List (List ℕ)
  -- the task that was created last in each member's implicit task
  pub roots : List Newest
  -- for so many more tasks there is memory
  pub room : ℕ

-- how many members the team has
abbrev pub task_members : TasksView → ℕ
task_members tasks = length tasks.stacks

-- how many tasks were created
abbrev pub count_of : TasksView → ℕ
count_of tasks = length tasks.rows

-- the number is that of a task that was created
abbrev pub IsNumber : ℕ → TasksView → Type 0
IsNumber t tasks = (0 < t) × (t ≤ count_of tasks)

-- the task with this number has a row: it is not complete, or a task below it is not
abbrev pub IsKept : ℕ → TasksView → Type 0
IsKept t tasks = HasRow tasks.rows t

-- the task is an implicit one, or has a row
abbrev pub IsTask : Task → TasksView → Type 0
IsTask (Implicit m) tasks = Unit {0}
IsTask (Explicit t) tasks = IsKept t tasks

-- whether a row is of a child of this explicit task
abbrev pub is_row_of_child : ℕ → Option TaskRow → Bool
is_row_of_child p None = false
is_row_of_child p (Some row) = same_task row.parent (Explicit p)

-- the rows and the stacks are what the events say, and the events keep their rule
pub record TablesStand (rows : List (Option TaskRow)) (stacks : List (List ℕ)) (roots : List Newest) (h : List Event) : Type 0 where
  -- each task created has a number
  pub count : tasks_created h ≡ length rows
  pub kept_row : (t : ℕ) (row : TaskRow) → row_no rows t ≡ Some row → RowStands t row h
  -- a task without a row is complete
  pub gone : (t : ℕ) → is_created t h ≡ true → row_no rows t ≡ None → is_complete t h ≡ true
  -- a complete one has a row only as long as a child of it has one
  pub needed : (t : ℕ) (row : TaskRow) → row_no rows t ≡ Some row → is_over row.state ≡ true → 0 < row.kept_children
  -- so many of its children have
  pub children : (t : ℕ) (row : TaskRow) → row_no rows t ≡ Some row → count_by (is_row_of_child t) rows ≡ row.kept_children
  -- and its parent has, if that is no implicit task
  pub parent : (t p : ℕ) (row : TaskRow) → row_no rows t ≡ Some row → row.parent ≡ Explicit p → HasRow rows p
  pub stack : (m : ℕ) (ts : List ℕ) → slice_get stacks m ≡ Some ts → task_stack m h ≡ ts
  pub root : (m : ℕ) (newest : Newest) → slice_get roots m ≡ Some newest → NewestIs (Implicit m) newest h
  pub members : length roots ≡ length stacks
  pub rule : Always (TaskRule (length stacks)) h

-- the same while rows are taken out: the row of this task may not be needed any more
pub record TablesStandBut (task : ℕ) (rows : List (Option TaskRow)) (stacks : List (List ℕ)) (roots : List Newest) (h : List Event) : Type 0 where
  pub count : tasks_created h ≡ length rows
  pub kept_row : (t : ℕ) (row : TaskRow) → row_no rows t ≡ Some row → RowStands t row h
  pub gone : (t : ℕ) → is_created t h ≡ true → row_no rows t ≡ None → is_complete t h ≡ true
  pub needed : (t : ℕ) (row : TaskRow) → row_no rows t ≡ Some row → is_over row.state ≡ true → t ≢ task → 0 < row.kept_children
  pub children : (t : ℕ) (row : TaskRow) → row_no rows t ≡ Some row → count_by (is_row_of_child t) rows ≡ row.kept_children
  pub parent : (t p : ℕ) (row : TaskRow) → row_no rows t ≡ Some row → row.parent ≡ Explicit p → HasRow rows p
  pub stack : (m : ℕ) (ts : List ℕ) → slice_get stacks m ≡ Some ts → task_stack m h ≡ ts
  pub root : (m : ℕ) (newest : Newest) → slice_get roots m ≡ Some newest → NewestIs (Implicit m) newest h
  pub members : length roots ≡ length stacks
  pub rule : Always (TaskRule (length stacks)) h

-- the same once the row of a child of this task was taken out, and before the task's own row says so
abbrev pub StandBelow : ℕ → List (Option TaskRow) → List (List ℕ) → List Newest → List Event → Type 0
StandBelow p rows stacks roots h = (above : TaskRow) → row_no rows p ≡ Some above → TablesStandBut p (with_row rows p (Some (without_child above))) stacks roots h

-- the tasks stand for the events, whatever room there is for more
abbrev pub Stands : TasksView → List Event → Type 0
Stands tasks h = TablesStand tasks.rows tasks.stacks tasks.roots h

-- the same tasks, whatever room there is for more
pub record AreSame (one other : TasksView) : Type 0 where
  pub rows : one.rows ≡ other.rows
  pub stacks : one.stacks ≡ other.stacks
  pub roots : one.roots ≡ other.roots

-- they stand for some events, and no number is too large
abbrev pub AreTasks : TasksView → Type 0
AreTasks tasks = ((h : List Event) × Stands tasks h) × (count_of tasks ≤ MAX_TASKS)
