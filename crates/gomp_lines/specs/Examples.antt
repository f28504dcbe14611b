-- Events that the examples share, the newest first. (own)
use Rattle.std.specs.Prelude.{ℕ, true, false, List, [], ◌∷◌}
use Rattle.gomp_types.specs.declared.cancel.Scope.TheVariants.{Region}
use Rattle.gomp_types.specs.declared.task.Task.TheVariants.{Implicit, Explicit}
use Rattle.gomp_types.specs.declared.task.TaskDesc.{TaskDesc}
use Rattle.gomp_types.specs.declared.depend.Dep.{Dep}
use Rattle.gomp_types.specs.declared.depend.DepKind.{DepKind}
use Rattle.gomp_types.specs.declared.depend.DepKind.TheVariants.{DepIn, DepOut, DepInout, DepInoutset, DepMutex}
use Rattle.gomp_events.specs.declared.event.Event.{Event}
use Rattle.gomp_events.specs.declared.event.Event.TheVariants.{Create, Start, Done, Cancel, Discard}
use Rattle.gomp_lines.specs.declared.classes.Class.{Class}
use Rattle.gomp_lines.specs.declared.lines.Waiting.{Waiting}
use Rattle.gomp_lines.specs.Lines.{Entry}

-- an item, and a task with such items
abbrev pub item : DepKind → ℕ → Dep
item kind addr = record { kind = kind; addr = addr }

abbrev pub with_items : List Dep → TaskDesc
with_items items = record { code = 1; arg = 2; undeferred = false; final_task = false; deps = items }

-- an open task of a line, and one that waits there
abbrev pub entry : ℕ → Class → Entry
entry task class = record { task = task; class = class }

abbrev pub waits : ℕ → Class → Waiting
waits task class = record { task = task; class = class; is_open = true }

-- two readers of an address, the second of which names it twice, a task without items, a writer, two readers, a task with two kinds there, two tasks of a set, two that exclude each other, and one that updates two addresses
abbrev pub all_kinds : List Event
all_kinds =
    Create 11 0 (Implicit 0) (with_items (item DepInout 8 ∷ item DepInout 9 ∷ [])) ∷ Create 10 0 (Implicit 0) (with_items (item DepMutex 9 ∷ [])) ∷ Create 9 0 (Implicit 0) (with_items (item DepMutex 9 ∷ []))
    ∷ Create 8 0 (Implicit 0) (with_items (item DepInoutset 9 ∷ [])) ∷ Create 7 0 (Implicit 0) (with_items (item DepInoutset 9 ∷ [])) ∷ Create 6 0 (Implicit 0) (with_items (item DepIn 9 ∷ item DepInoutset 9 ∷ []))
    ∷ Create 5 0 (Implicit 0) (with_items (item DepIn 9 ∷ [])) ∷ Create 4 0 (Implicit 0) (with_items (item DepOut 9 ∷ [])) ∷ Create 3 0 (Implicit 0) (with_items []) ∷ Create 2 0 (Implicit 0) (with_items (item DepIn 9 ∷ item DepIn 9 ∷ []))
    ∷ Create 1 0 (Implicit 0) (with_items (item DepIn 9 ∷ [])) ∷ []

-- the first task starts, and creates a child that reads the address
abbrev pub grandchild : List Event
grandchild = Create 12 0 (Explicit 1) (with_items (item DepIn 9 ∷ [])) ∷ Start 1 0 ∷ all_kinds

-- it cancels the region, and the writer is discarded
abbrev pub writer_discarded : List Event
writer_discarded = Discard 4 0 ∷ Cancel 0 Region ∷ grandchild

-- the first task ends, and then the second
abbrev pub readers_done : List Event
readers_done = Done 2 0 ∷ Start 2 0 ∷ Done 1 0 ∷ grandchild
