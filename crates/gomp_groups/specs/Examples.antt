-- Events, and the rows of groups and tasks that stand for them or do not, that the examples share. Each list has the newest event first. (own)
use Rattle.std.specs.Prelude.{ℕ, true, false, List, [], ◌∷◌, Option, Some, None}
use Rattle.gomp_types.specs.declared.task.Task.{Task}
use Rattle.gomp_types.specs.declared.task.Task.TheVariants.{Implicit, Explicit}
use Rattle.gomp_types.specs.declared.task.TaskDesc.{TaskDesc}
use Rattle.gomp_types.specs.declared.cancel.Scope.TheVariants.{Region}
use Rattle.gomp_events.specs.declared.event.Event.{Event}
use Rattle.gomp_events.specs.declared.event.Event.TheVariants.{Create, Start, Done, Discard, Group, Cancel}
use Rattle.gomp_groups.specs.declared.rows.GroupRow.{GroupRow}
use Rattle.gomp_groups.specs.declared.rows.GroupSeat.{GroupSeat}
use Rattle.gomp_groups.specs.declared.rows.SeatedTask.{SeatedTask}

-- what some task does
abbrev pub some_desc : TaskDesc
some_desc = record { code = 1; arg = 2; undeferred = false; final_task = false; deps = [] }

abbrev pub group_with : Option ℕ → ℕ → ℕ → GroupRow
group_with outer pending since = record { outer = outer; pending = pending; since = since }

abbrev pub seat_with : ℕ → Option ℕ → Option ℕ → GroupSeat
seat_with children around last = record { children = children; around = around; last = last }

-- the row of an open task
abbrev pub task_with : Task → GroupSeat → Option SeatedTask
task_with parent seat = Some (record { parent = parent; seat = seat; complete = false })

-- and of a complete one
abbrev pub ended_with : Task → GroupSeat → Option SeatedTask
ended_with parent seat = Some (record { parent = parent; seat = seat; complete = true })

-- member 0 opens a group and creates a task in it
abbrev pub one_in_group : List Event
one_in_group = Create 1 0 (Implicit 0) some_desc ∷ Group 0 0 ∷ []

-- it cancels the region, which discards the task
abbrev pub discarded : List Event
discarded = Discard 1 0 ∷ Cancel 0 Region ∷ one_in_group

-- it opens a group in that one, and creates another task
abbrev pub one_nested : List Event
one_nested = Create 2 0 (Implicit 0) some_desc ∷ Group 1 0 ∷ one_in_group

-- it starts the second task, which opens a group and creates a task in it: a grandchild of the implicit task, in all three groups
abbrev pub grandchild : List Event
grandchild = Create 3 0 (Explicit 2) some_desc ∷ Group 2 0 ∷ Start 2 0 ∷ one_nested

-- a task creates another one, and is ended before that
abbrev pub child_left : List Event
child_left = Done 1 0 ∷ Create 2 0 (Explicit 1) some_desc ∷ Start 1 0 ∷ Create 1 0 (Implicit 0) some_desc ∷ []

-- which is ended too
abbrev pub both_ended : List Event
both_ended = Done 2 0 ∷ Start 2 0 ∷ child_left

-- the rows of one_in_group, of a team of two
abbrev pub one_group : List GroupRow
one_group = group_with None 1 0 ∷ []

abbrev pub one_task : List (Option SeatedTask)
one_task = task_with (Implicit 0) (seat_with 0 (Some 0) (Some 0)) ∷ []

abbrev pub one_member : List GroupSeat
one_member = seat_with 1 None (Some 0) ∷ seat_with 0 None None ∷ []

-- and those of the grandchild's list
abbrev pub three_groups : List GroupRow
three_groups = group_with None 3 0 ∷ group_with (Some 0) 2 1 ∷ group_with (Some 1) 1 2 ∷ []

abbrev pub three_tasks : List (Option SeatedTask)
three_tasks =
    task_with (Implicit 0) (seat_with 0 (Some 0) (Some 0)) ∷ task_with (Implicit 0) (seat_with 1 (Some 1) (Some 2))
    ∷ task_with (Explicit 2) (seat_with 0 (Some 2) (Some 2)) ∷ []

abbrev pub two_members : List GroupSeat
two_members = seat_with 2 None (Some 1) ∷ seat_with 0 None None ∷ []

-- the tasks' rows of child_left: the first has an open child
abbrev pub two_tasks : List (Option SeatedTask)
two_tasks = ended_with (Implicit 0) (seat_with 1 None None) ∷ task_with (Explicit 1) (seat_with 0 None None) ∷ []

-- and of both_ended
abbrev pub no_rows : List (Option SeatedTask)
no_rows = None ∷ None ∷ []
