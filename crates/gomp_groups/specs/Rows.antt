-- The rows of groups, tasks and members, and the chain of groups that they hold. OpenMP API 5.2, section 15.4.
use Rattle.std.specs.Prelude.{ℕ, ◌+◌, ◌-◌, ◌<◌, ◌≡◌, ◌==◌, ◌&&◌, ◌||◌, Bool, true, false, if◌then◌else◌, List, [], ◌∷◌, Option, Some, None, IfSome, length, slice_index_or, slice_set}
use Rattle.gomp_rows.specs.Rows.{row_no, HasRow, with_row}
use Rattle.gomp_types.specs.declared.task.Task.{Task}
use Rattle.gomp_types.specs.declared.task.Task.TheVariants.{Implicit, Explicit}
use Rattle.gomp_events.specs.Tasks.{contains}
use Rattle.gomp_groups.specs.declared.rows.GroupRow.{GroupRow}
use Rattle.gomp_groups.specs.declared.rows.GroupSeat.{GroupSeat}
use Rattle.gomp_groups.specs.declared.rows.SeatedTask.{SeatedTask}

-- a group with no task, in no other; a task with no child, in no group; and its row
abbrev pub no_group : GroupRow
no_group = record { outer = None; pending = 0; since = 0 }

abbrev pub no_seat : GroupSeat
no_seat = record { children = 0; around = None; last = None }

abbrev pub no_task : SeatedTask
no_task = record { parent = Implicit 0; seat = no_seat; complete = true }

-- what is kept of an explicit task, or that
abbrev pub or_no_task : Option SeatedTask → SeatedTask
or_no_task None = no_task
or_no_task (Some row) = row

abbrev pub task_at : List (Option SeatedTask) → ℕ → SeatedTask
task_at tasks t = or_no_task (row_no tasks t)

-- the group around a group, how many tasks in it are open, and how many were created before it was opened
abbrev pub outer_at : List GroupRow → ℕ → Option ℕ
outer_at groups q = (slice_index_or groups q no_group).outer

abbrev pub pending_at : List GroupRow → ℕ → ℕ
pending_at groups q = (slice_index_or groups q no_group).pending

abbrev pub since_at : List GroupRow → ℕ → ℕ
since_at groups q = (slice_index_or groups q no_group).since

-- what is kept of any task
abbrev pub seat_at : List (Option SeatedTask) → List GroupSeat → Task → GroupSeat
seat_at tasks members (Implicit m) = slice_index_or members m no_seat
seat_at tasks members (Explicit t) = (task_at tasks t).seat

-- the task is one of these
abbrev pub IsSeatedIn : List (Option SeatedTask) → List GroupSeat → Task → Type 0
IsSeatedIn tasks members (Implicit m) = m < length members
IsSeatedIn tasks members (Explicit t) = HasRow tasks t

-- the rows with this seat of the task, and the implicit tasks' seats with it
abbrev pub with_seat : List (Option SeatedTask) → Task → GroupSeat → List (Option SeatedTask)
with_seat tasks (Implicit m) seat = tasks
with_seat tasks (Explicit t) seat = with_row tasks t (Some (record (task_at tasks t) { seat = seat }))

abbrev pub members_with_seat : List GroupSeat → Task → GroupSeat → List GroupSeat
members_with_seat members (Implicit m) seat = slice_set members m seat
members_with_seat members (Explicit t) seat = members

-- the row of a task that is complete, of whose children as many are open as before
abbrev pub ended_row : SeatedTask → SeatedTask
ended_row row = record { parent = row.parent; seat = row.seat; complete = true }

-- whether its task is complete and has no open child
abbrev pub is_over : SeatedTask → Bool
is_over row = row.complete && (row.seat.children == 0)

-- a row, unless its task is so
abbrev pub needed_row : SeatedTask → Option SeatedTask
needed_row row = if is_over row then None else Some row

-- a task's seat once one child more is open
abbrev pub one_child_more : GroupSeat → GroupSeat
one_child_more seat = record seat { children = seat.children + 1 }

-- and once one child less is
abbrev pub one_child_less : GroupSeat → GroupSeat
one_child_less seat = record seat { children = seat.children - 1 }

-- the rows after that, of which the task keeps its own as long as it is needed, and the implicit tasks' seats
abbrev pub after_child : List (Option SeatedTask) → Task → List (Option SeatedTask)
after_child tasks (Implicit m) = tasks
after_child tasks (Explicit t) = with_row tasks t (needed_row (record (task_at tasks t) { seat = one_child_less (task_at tasks t).seat }))

abbrev pub members_after_child : List GroupSeat → Task → List GroupSeat
members_after_child members (Implicit m) = slice_set members m (one_child_less (slice_index_or members m no_seat))
members_after_child members (Explicit t) = members

-- these groups, and no others, are the first one, the group around it, the group around that, and so on
abbrev pub IsChain : List GroupRow → Option ℕ → List ℕ → Type 0
IsChain groups first [] = first ≡ None
IsChain groups first (q ∷ qs) = (first ≡ Some q) × (q < length groups) × IsChain groups (outer_at groups q) qs

-- a group lies in one that was opened before it
abbrev pub IsNested : List GroupRow → Type 0
IsNested groups = (q : ℕ) → IfSome (outer_at groups q) (λ outer. outer < q)

-- whether two groups, or none, are the same
abbrev pub same_group : Option ℕ → Option ℕ → Bool
same_group None None = true
same_group (Some a) (Some b) = a == b
same_group _ _ = false

-- the last group that the task has opened and not ended: the one that its children are in, unless it is in that itself
abbrev pub own_group : GroupSeat → Option ℕ
own_group seat = if same_group seat.last seat.around then None else seat.last

-- whether one of these groups has its mark
abbrev pub some_marked : List Bool → List ℕ → Bool
some_marked marks [] = false
some_marked marks (q ∷ qs) = slice_index_or marks q false || some_marked marks qs

-- one more task is open in each of these groups, and nothing else changes
pub record CountsOneMore (qs : List ℕ) (old new : List GroupRow) : Type 0 where
  pub len : length new ≡ length old
  pub outer : (q : ℕ) → outer_at new q ≡ outer_at old q
  pub pending : (q : ℕ) → pending_at new q ≡ pending_at old q + (if contains q qs then 1 else 0)
  pub since : (q : ℕ) → since_at new q ≡ since_at old q
