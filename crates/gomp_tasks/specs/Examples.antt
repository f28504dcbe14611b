-- Events, and the tasks of a team that stand for them or do not, that the examples share. Each list has the newest event first. (own)
use Rattle.std.specs.Prelude.{ℕ, true, false, List, [], ◌∷◌, Option, Some, None}
use Rattle.gomp_types.specs.declared.cancel.Scope.TheVariants.{Region}
use Rattle.gomp_types.specs.declared.task.Task.TheVariants.{Implicit, Explicit}
use Rattle.gomp_types.specs.declared.task.TaskDesc.{TaskDesc}
use Rattle.gomp_types.specs.declared.depend.DepKind.TheVariants.{DepIn, DepOut}
use Rattle.gomp_events.specs.declared.event.Event.{Event}
use Rattle.gomp_events.specs.declared.event.Event.TheVariants.{Create, Start, Done, Cancel, Discard, Pass}
use Rattle.gomp_tasks.specs.declared.rows.Newest.{Newest}
use Rattle.gomp_tasks.specs.declared.rows.TaskState.{TaskState}
use Rattle.gomp_tasks.specs.declared.rows.TaskState.TheVariants as states
use Rattle.gomp_tasks.specs.declared.rows.TaskRow.{TaskRow}
use Rattle.gomp_tasks.specs.Rows.{no_newest}
use Rattle.gomp_tasks.specs.Stands.{TasksView}

-- two tasks as the program asks for them: the first is final
abbrev pub first_desc : TaskDesc
first_desc = record { code = 7; arg = 3; undeferred = false; final_task = true; deps = [] }

abbrev pub second_desc : TaskDesc
second_desc = record { code = 7; arg = 4; undeferred = false; final_task = false; deps = [] }

-- the first member has passed a barrier, and creates a task
abbrev pub one_created : List Event
one_created = Create 1 0 (Implicit 0) first_desc ∷ Pass 0 0 ∷ []

-- it starts the task, and creates another in it
abbrev pub two_created : List Event
two_created = Create 2 0 (Explicit 1) second_desc ∷ Start 1 0 ∷ one_created

-- it starts that as well
abbrev pub two_started : List Event
two_started = Start 2 0 ∷ two_created

-- and ends it
abbrev pub second_done : List Event
second_done = Done 2 0 ∷ two_started

-- or it cancels the region before, and the second task is discarded
abbrev pub second_discarded : List Event
second_discarded = Discard 2 0 ∷ Cancel 0 Region ∷ two_created

-- two tasks of one parent: the second reads what the first writes
abbrev pub writer_desc : TaskDesc
writer_desc = record { code = 7; arg = 3; undeferred = false; final_task = false; deps = record { kind = DepOut; addr = 9 } ∷ [] }

abbrev pub reader_desc : TaskDesc
reader_desc = record { code = 7; arg = 4; undeferred = false; final_task = false; deps = record { kind = DepIn; addr = 9 } ∷ [] }

-- both are created, the first is started, and ended
abbrev pub writer_and_reader : List Event
writer_and_reader = Create 2 0 (Implicit 0) reader_desc ∷ Create 1 0 (Implicit 0) writer_desc ∷ []

abbrev pub writer_runs : List Event
writer_runs = Start 1 1 ∷ writer_and_reader

abbrev pub writer_ended : List Event
writer_ended = Done 1 1 ∷ writer_runs

-- the task that was created last in the first member's implicit task, and in that one
abbrev pub newest_first : Newest
newest_first = record { task = 1; undeferred = false }

abbrev pub newest_second : Newest
newest_second = record { task = 2; undeferred = true }

-- what is kept of the first task, in which the second was created, if so many children have a row
abbrev pub first_with : ℕ → TaskState → TaskRow
first_with kept_children state = record { parent = Implicit 0; root = 0; newest = 2; newest_undeferred = true; kept_children = kept_children; depth = 1; odd = true; undeferred = false; final_task = true; state = state }

-- and of the second, in which none was
abbrev pub second_with : TaskState → TaskRow
second_with state = record { parent = Explicit 1; root = 0; newest = 0; newest_undeferred = false; kept_children = 0; depth = 2; odd = true; undeferred = true; final_task = true; state = state }

-- while both run
abbrev pub first_running : TaskRow
first_running = first_with 1 (states.Running 0)

abbrev pub second_running : TaskRow
second_running = second_with (states.Running 0)

abbrev pub rows_of_two : List (Option TaskRow)
rows_of_two = Some first_running ∷ Some second_running ∷ []

-- and once the second is complete
abbrev pub rows_of_first : List (Option TaskRow)
rows_of_first = Some (first_with 0 (states.Running 0)) ∷ None ∷ []

-- the tasks of two members, of which the first created the first task, with room for this many more
abbrev pub tasks_with : List (Option TaskRow) → List ℕ → List ℕ → ℕ → TasksView
tasks_with rows first second room = record { rows = rows; stacks = first ∷ second ∷ []; roots = newest_first ∷ no_newest ∷ []; room = room }

-- while both run
abbrev pub both_running : TasksView
both_running = tasks_with rows_of_two (2 ∷ 1 ∷ []) [] 3
