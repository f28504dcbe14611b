-- When the groups of a team's tasks stand for a list of events. (own)
use Rattle.std.specs.Prelude.{ℕ, ◌<◌, ◌≡◌, true, List, Option, Some, None, length}
use Rattle.gomp_types.specs.declared.task.Task.{Task}
use Rattle.gomp_events.specs.declared.event.Event.{Event}
use Rattle.gomp_events.specs.Laws.{Always}
use Rattle.gomp_events.specs.Tasks.{tasks_created, open_tasks, is_created, is_complete, is_child, same_task}
use Rattle.gomp_events.specs.Groups.{groups_opened, in_group}
use Rattle.gomp_events.specs.Cancels.{groups_over, groups_within}
use Rattle.gomp_events.specs.TaskRules.{TaskRule}
use Rattle.gomp_groups.specs.declared.rows.GroupRow.{GroupRow}
use Rattle.gomp_groups.specs.declared.rows.GroupSeat.{GroupSeat}
use Rattle.gomp_groups.specs.declared.rows.SeatedTask.{SeatedTask}
use Rattle.gomp_rows.specs.Rows.{row_no}
use Rattle.gomp_groups.specs.Rows.{pending_at, since_at, seat_at, IsSeatedIn, IsChain, IsNested}
use Rattle.gomp_groups.specs.Calls.{tasks_before}

-- the groups of a team's tasks, as data
pub record GroupsView : Type 0 where
  -- the groups by their numbers
  pub groups : List GroupRow
  -- the explicit tasks, from number 1 on; nothing once a row was taken out
  pub tasks : List (Option SeatedTask)
  -- the members' implicit tasks
  pub members : List GroupSeat
  -- so many tasks find room in memory; and so many groups do, and have a number
  pub task_room : ℕ
  pub group_room : ℕ

-- how many members the team has
abbrev pub group_members : GroupsView → ℕ
group_members groups = length groups.members

-- the task is an implicit one of the team, or has a row
abbrev pub IsSeated : GroupsView → Task → Type 0
IsSeated groups task = IsSeatedIn groups.tasks groups.members task

-- each row and seat says what the events do, and the events keep their rule
pub record GroupsStand (groups : List GroupRow) (tasks : List (Option SeatedTask)) (members : List GroupSeat) (h : List Event) : Type 0 where
  -- so many groups were opened, and so many tasks created
  pub opened : groups_opened h ≡ length groups
  pub created : tasks_created h ≡ length tasks
  -- a group lies in one that was opened before it
  pub nested : IsNested groups
  -- so many tasks in it are open
  pub pending : (q : ℕ) → open_tasks (λ t. in_group q t h) h ≡ pending_at groups q
  -- and so many were created before it was opened
  pub since : (q : ℕ) → tasks_before q h ≡ since_at groups q
  -- a task without a row is complete
  pub gone : (t : ℕ) → is_created t h ≡ true → row_no tasks t ≡ None → is_complete t h ≡ true
  -- a row says whether its task is
  pub complete : (t : ℕ) (row : SeatedTask) → row_no tasks t ≡ Some row → is_complete t h ≡ row.complete
  -- a complete one has a row only as long as a child of it is open
  pub needed : (t : ℕ) (row : SeatedTask) → row_no tasks t ≡ Some row → row.complete ≡ true → 0 < row.seat.children
  -- a task was created in its parent, and in no other
  pub parent : (t : ℕ) (row : SeatedTask) → row_no tasks t ≡ Some row → (p : Task) → is_child p t h ≡ same_task row.parent p
  -- so many children of a task are open
  pub children : (p : Task) → open_tasks (λ t. is_child p t h) h ≡ (seat_at tasks members p).children
  -- a task of the team that has a row is in these groups
  pub around : (p : Task) → IsSeatedIn tasks members p → IsChain groups (seat_at tasks members p).around (groups_over p h)
  -- a child that it creates now is in these
  pub last : (p : Task) → IsSeatedIn tasks members p → IsChain groups (seat_at tasks members p).last (groups_within p h)
  pub rule : Always (TaskRule (length members)) h

-- the groups stand for the events
abbrev pub Stands : GroupsView → List Event → Type 0
Stands groups h = GroupsStand groups.groups groups.tasks groups.members h
