-- When the tables of a team's tasks stand for a list of events. OpenMP API 5.2, section 15.9.5.
use Rattle.std.specs.Prelude.{ℕ, ◌≡◌, ◌&&◌, not, Bool, true, false, if◌then◌else◌, List, [], ◌∷◌, Option, Some, None}
use Rattle.std.proofs.Common.{suc}
use Rattle.gomp_types.specs.declared.task.Task.{Task}
use Rattle.gomp_types.specs.declared.task.Task.TheVariants.{Implicit}
use Rattle.gomp_types.specs.declared.depend.Dep.{Dep}
use Rattle.gomp_events.specs.declared.event.Event.{Event}
use Rattle.gomp_events.specs.Laws.{Always}
use Rattle.gomp_events.specs.Tasks.{tasks_created, is_complete}
use Rattle.gomp_events.specs.Depends.{task_items, is_free}
use Rattle.gomp_lines.specs.declared.classes.Class.{Class}
use Rattle.gomp_lines.specs.Classes.{class_at}
use Rattle.gomp_lines.specs.Lines.{line_of}
use Rattle.gomp_lines.specs.Queues.{LineView, is_unblocked}
use Rattle.gomp_lines.specs.Order.{task_parent, InOrder}
use Rattle.gomp_depend.specs.declared.depends.Depends.{Depends}
use Rattle.gomp_depend.specs.FreeTasks.{is_listed_free}
use Rattle.gomp_depend.specs.Tables.{HasRow, has_entry, HasRoomAt, listed_row_count}
use Rattle.gomp_depend.specs.Books.{names, Books, NoneIsEmpty}
pub use Rattle.gomp_lines.specs.Order.{IsOpen}
pub use Rattle.gomp_depend.specs.Rows.{has_items}

-- the items of a task until it is complete
abbrev pub open_items : List Event → ℕ → List Dep
open_items h t = if is_complete t h then [] else task_items t h

-- and its parent if it has any
abbrev pub open_parent : List Event → ℕ → Task
open_parent h t = if has_items (open_items h t) then task_parent t h else Implicit 0

-- the tables stand for the events: the line of each parent and address is that of the events, and the rows are those of the open tasks that have items
pub record Stands (depends : Depends) (h : List Event) : Type 0 where
  pub order : Always InOrder h
  pub books : Books (suc (tasks_created h)) (open_parent h) (open_items h) (λ p a. line_of p a h) depends.lines depends.rows

-- there is room for a new task with these items
pub record HasDependRoom (task : ℕ) (parent : Task) (items : List Dep) (depends : Depends) : Type 0 where
  pub row : has_items items ≡ true → HasRow task depends.rows
  pub lines : (a : ℕ) (class : Class) → class_at a items ≡ Some class → HasRoomAt parent a class depends.lines

-- whether a task that names an address, if it does, is free in a line that it joins now
abbrev pub ready_at : Option Class → LineView → Bool
ready_at None line = true
ready_at (Some class) line = is_unblocked class line

-- whether the task is open, has items and waits for no open task
abbrev pub is_free_with_items : ℕ → List Event → Bool
is_free_with_items t h = has_items (task_items t h) && not (is_complete t h) && is_free t h

-- whether it is open, has items and waits for an open task
abbrev pub is_held_with_items : ℕ → List Event → Bool
is_held_with_items t h = has_items (task_items t h) && not (is_complete t h) && not (is_free t h)

-- whether the task was freed, and not handed out since (`next_freed`)
abbrev pub is_freed : ℕ → Depends → Bool
is_freed t depends = is_listed_free t depends.rows.list

-- no task was
abbrev pub NoneIsFreed : Depends → Type 0
NoneIsFreed depends = (t : ℕ) → is_freed t depends ≡ false

-- those were that the event frees: each that has items and waits for no open task after it, and did before
abbrev pub IsFreedBy : Event → List Event → Depends → Type 0
IsFreedBy event h depends = (t : ℕ) → is_freed t depends ≡ (is_free_with_items t (event ∷ h) && not (is_free_with_items t h))

-- how many tasks wait for an open task, or were freed and not handed out since
abbrev pub waiting_count : Depends → ℕ
waiting_count depends = listed_row_count depends.rows

-- of a task that is complete after these events nothing is kept: no row, and no entry of a line that has no task any more
pub record NothingIsKept (task : ℕ) (items : List Dep) (h : List Event) (depends : Depends) : Type 0 where
  pub row : has_items items ≡ true → has_entry task depends.rows ≡ false
  pub lines : (a : ℕ) → names a items ≡ true → NoneIsEmpty (task_parent task h) a (λ p b. line_of p b h) depends.lines
