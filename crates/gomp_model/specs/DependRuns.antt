-- Worked runs of tasks with the clauses `depend`, `if` and `final`. OpenMP API 5.2, sections 12.3, 12.5, 15.5 and 15.9.5. (own)
use Rattle.std.specs.Prelude.{ℕ, pos, negsuc, false, true, List, [], ◌∷◌, ◌++◌}
use Rattle.std.proofs.Common.{zero, suc}
use Rattle.gomp_types.specs.declared.call.Call.{Call}
use Rattle.gomp_types.specs.declared.call.Call.TheVariants.{LoopNext, SectionsStart, OrderedStart, Barrier, CriticalStart, CriticalEnd, TaskCreate, TaskEnd, Taskwait, GroupStart, GroupEnd, Resume, Stop}
use Rattle.gomp_types.specs.declared.depend.Dep.{Dep}
use Rattle.gomp_types.specs.declared.depend.DepKind.{DepKind}
use Rattle.gomp_types.specs.declared.depend.DepKind.TheVariants.{DepIn, DepOut, DepInout, DepInoutset, DepMutex}
use Rattle.gomp_types.specs.declared.loop_desc.EndKind.TheVariants.{Wait as WaitEnd}
use Rattle.gomp_types.specs.declared.refusal.Place.TheVariants.{Stopped as AtStop}
use Rattle.gomp_types.specs.declared.refusal.Refusal.TheVariants.{BadMember, Broken, Waiting, InsideTask, NotInTask, InsideShare, HoldsCritical, BadChunk, BadSections, NotOrdered, NotInside, NoGroup, GroupOpen, TooManyDepends, AlreadyHeld, NoMemory}
use Rattle.gomp_types.specs.declared.reply.Reply.TheVariants.{Chunk, Finished, Passed, Wait, Created, Run as RunTask, TaskDone, Stopped, Refused}
use Rattle.gomp_events.specs.TaskExamples.{job_with, item}
use Rattle.gomp_model.specs.Examples.{Run, asks, loop_by}
use Rattle.gomp_model.specs.HoldExamples.{name_a}

-- a task of this code, with these items
abbrev pub creates_with : ℕ → List Dep → Call
creates_with code items = TaskCreate (job_with code 0 items)

-- an undeferred one
abbrev pub creates_at_once : ℕ → List Dep → Call
creates_at_once code items = TaskCreate (record (job_with code 0 items) { undeferred = true })

-- a final one
abbrev pub creates_final : ℕ → Call
creates_final code = TaskCreate (record (job_with code 0 []) { final_task = true })

-- and one that is both
abbrev pub creates_final_at_once : ℕ → Call
creates_final_at_once code = TaskCreate (record (job_with code 0 []) { undeferred = true; final_task = true })

-- one item
abbrev pub one_item : DepKind → ℕ → List Dep
one_item kind addr = item kind addr ∷ []

-- Undeferred tasks

-- a member alone runs its undeferred task as the creation's own; in it no wait is open, and after it the creator goes on with none
abbrev pub undeferred_alone : Run
undeferred_alone =
    (asks 0 (creates_at_once 1 []), RunTask 1 1 0 true)
    ∷ (asks 0 Resume, Refused NotInside)
    ∷ (asks 0 Barrier, Refused InsideTask)
    ∷ (asks 0 TaskEnd, TaskDone 1 false)
    ∷ (asks 0 Resume, Refused NotInside)
    ∷ (asks 0 TaskEnd, Refused NotInTask)
    ∷ (asks 0 (Taskwait []), Passed)
    ∷ (asks 0 Barrier, Passed)
    ∷ []

-- the child of an undeferred task that is not final is deferred, and the creator of the undeferred one does not wait for it
abbrev pub child_of_an_undeferred_task : Run
child_of_an_undeferred_task =
    (asks 0 (creates_at_once 1 []), RunTask 1 1 0 true)
    ∷ (asks 0 (creates_with 2 []), Created 2)
    ∷ (asks 0 TaskEnd, TaskDone 1 false)
    ∷ (asks 0 (Taskwait []), Passed)
    ∷ (asks 0 Barrier, RunTask 2 2 0 false)
    ∷ (asks 0 TaskEnd, TaskDone 2 true)
    ∷ (asks 0 Resume, Passed)
    ∷ []

-- in the undeferred task its member waits for its child, beneath which no call of the creator lies
abbrev pub wait_in_an_undeferred_task : Run
wait_in_an_undeferred_task =
    (asks 0 (creates_with 1 []), Created 1)
    ∷ (asks 0 (Taskwait []), RunTask 1 1 0 false)
    ∷ (asks 0 (creates_at_once 2 []), RunTask 2 2 0 true)
    ∷ (asks 0 (creates_with 3 []), Created 3)
    ∷ (asks 0 (Taskwait []), RunTask 3 3 0 false)
    ∷ (asks 0 TaskEnd, TaskDone 3 true)
    ∷ (asks 0 Resume, Passed)
    ∷ (asks 0 TaskEnd, TaskDone 2 false)
    ∷ (asks 0 Resume, Refused NotInside)
    ∷ (asks 0 TaskEnd, TaskDone 1 true)
    ∷ (asks 0 Resume, Passed)
    ∷ []

-- undeferred tasks, each in the one before
abbrev pub down_at_once : ℕ → Run
down_at_once zero = []
down_at_once (suc depth) = down_at_once depth ++ (asks 0 (creates_at_once 1 []), RunTask (suc depth) 1 0 true) ∷ []

-- they end, the innermost first, with no wait between
abbrev pub up_at_once : ℕ → Run
up_at_once zero = []
up_at_once (suc depth) = (asks 0 TaskEnd, TaskDone (suc depth) false) ∷ up_at_once depth

-- down to this depth, and up again
abbrev pub nested_at_once : ℕ → Run
nested_at_once depth = down_at_once depth ++ up_at_once depth

-- an undeferred task may not begin before the writer that it names is complete: its creator runs that first, and the creation goes on after it
abbrev pub writer_before_its_own : Run
writer_before_its_own =
    (asks 0 (creates_with 1 (one_item DepOut 100)), Created 1)
    ∷ (asks 0 (creates_at_once 2 (one_item DepIn 100)), RunTask 1 1 0 false)
    ∷ (asks 0 Resume, Refused NotInside)
    ∷ (asks 0 TaskEnd, TaskDone 1 true)
    ∷ (asks 0 (Taskwait []), Refused Waiting)
    ∷ (asks 0 Resume, RunTask 2 2 0 true)
    ∷ (asks 0 Resume, Refused NotInside)
    ∷ (asks 0 TaskEnd, TaskDone 2 false)
    ∷ (asks 0 Resume, Refused NotInside)
    ∷ (asks 0 Barrier, Passed)
    ∷ []

-- another member runs the writer, and the creator waits; nobody else may run the undeferred task once it may begin
abbrev pub waits_for_its_own : Run
waits_for_its_own =
    (asks 0 (creates_with 1 (one_item DepOut 100)), Created 1)
    ∷ (asks 1 Barrier, RunTask 1 1 0 false)
    ∷ (asks 0 (creates_at_once 2 (one_item DepIn 100)), Wait)
    ∷ (asks 0 Resume, Wait)
    ∷ (asks 0 (creates_with 3 []), Refused Waiting)
    ∷ (asks 1 TaskEnd, TaskDone 1 true)
    ∷ (asks 1 Resume, Wait)
    ∷ (asks 0 Resume, RunTask 2 2 0 true)
    ∷ (asks 1 Resume, Wait)
    ∷ (asks 0 TaskEnd, TaskDone 2 false)
    ∷ (asks 0 Barrier, Passed)
    ∷ (asks 1 Resume, Passed)
    ∷ []

-- a creator that waits runs a task which no item names, and which was created before
abbrev pub another_before_its_own : Run
another_before_its_own =
    (asks 0 (creates_with 1 (one_item DepOut 100)), Created 1)
    ∷ (asks 1 Barrier, RunTask 1 1 0 false)
    ∷ (asks 0 (creates_with 2 []), Created 2)
    ∷ (asks 0 (creates_at_once 3 (one_item DepIn 100)), RunTask 2 2 0 false)
    ∷ (asks 0 (creates_with 4 []), Created 4)
    ∷ (asks 1 TaskEnd, TaskDone 1 true)
    ∷ (asks 0 TaskEnd, TaskDone 2 true)
    ∷ (asks 0 Resume, RunTask 3 3 0 true)
    ∷ (asks 0 TaskEnd, TaskDone 3 false)
    ∷ (asks 0 Barrier, RunTask 4 4 0 false)
    ∷ []

-- Final tasks

-- a task in a final task is undeferred, though it does not ask for that
abbrev pub task_in_a_final_task : Run
task_in_a_final_task =
    (asks 0 (creates_final_at_once 1), RunTask 1 1 0 true)
    ∷ (asks 0 (creates_with 2 []), RunTask 2 2 0 true)
    ∷ (asks 0 TaskEnd, TaskDone 2 false)
    ∷ (asks 0 TaskEnd, TaskDone 1 false)
    ∷ []

-- so is its child; the final task itself is deferred, and so is a later task of its parent
abbrev pub children_of_a_final_task : Run
children_of_a_final_task =
    (asks 0 (creates_final 1), Created 1)
    ∷ (asks 0 (Taskwait []), RunTask 1 1 0 false)
    ∷ (asks 0 (creates_with 2 []), RunTask 2 2 0 true)
    ∷ (asks 0 (creates_with 3 []), RunTask 3 3 0 true)
    ∷ (asks 0 TaskEnd, TaskDone 3 false)
    ∷ (asks 0 TaskEnd, TaskDone 2 false)
    ∷ (asks 0 (Taskwait []), Passed)
    ∷ (asks 0 TaskEnd, TaskDone 1 true)
    ∷ (asks 0 Resume, Passed)
    ∷ (asks 0 (creates_with 4 []), Created 4)
    ∷ []

-- Tasks with items

-- at a barrier a member runs the reader only when the other has ended the writer
abbrev pub reader_at_a_barrier : Run
reader_at_a_barrier =
    (asks 0 (creates_with 1 (one_item DepOut 100)), Created 1)
    ∷ (asks 0 (creates_with 2 (one_item DepIn 100)), Created 2)
    ∷ (asks 1 Barrier, RunTask 1 1 0 false)
    ∷ (asks 0 Barrier, Wait)
    ∷ (asks 0 Resume, Wait)
    ∷ (asks 1 TaskEnd, TaskDone 1 true)
    ∷ (asks 0 Resume, RunTask 2 2 0 false)
    ∷ (asks 1 Resume, Wait)
    ∷ (asks 0 TaskEnd, TaskDone 2 true)
    ∷ (asks 1 Resume, Passed)
    ∷ (asks 0 Resume, Passed)
    ∷ []

-- a writer, two readers that run together, one of which names its item twice, and a writer after both
abbrev pub readers_between_writers : Run
readers_between_writers =
    (asks 0 (creates_with 1 (one_item DepOut 100)), Created 1)
    ∷ (asks 0 (creates_with 2 (item DepIn 100 ∷ item DepIn 100 ∷ [])), Created 2)
    ∷ (asks 0 (creates_with 3 (one_item DepIn 100)), Created 3)
    ∷ (asks 0 (creates_with 4 (one_item DepInout 100)), Created 4)
    ∷ (asks 0 Barrier, RunTask 1 1 0 false)
    ∷ (asks 1 Barrier, Wait)
    ∷ (asks 0 TaskEnd, TaskDone 1 true)
    ∷ (asks 0 Resume, RunTask 2 2 0 false)
    ∷ (asks 1 Resume, RunTask 3 3 0 false)
    ∷ (asks 0 TaskEnd, TaskDone 2 true)
    ∷ (asks 0 Resume, Wait)
    ∷ (asks 1 TaskEnd, TaskDone 3 true)
    ∷ (asks 1 Resume, RunTask 4 4 0 false)
    ∷ (asks 0 Resume, Wait)
    ∷ (asks 1 TaskEnd, TaskDone 4 true)
    ∷ (asks 0 Resume, Passed)
    ∷ (asks 1 Resume, Passed)
    ∷ []

-- two tasks of a set run together, and a reader after both
abbrev pub sets_together : Run
sets_together =
    (asks 0 (creates_with 1 (one_item DepInoutset 100)), Created 1)
    ∷ (asks 0 (creates_with 2 (one_item DepInoutset 100)), Created 2)
    ∷ (asks 0 (creates_with 3 (one_item DepIn 100)), Created 3)
    ∷ (asks 1 Barrier, RunTask 1 1 0 false)
    ∷ (asks 0 Barrier, RunTask 2 2 0 false)
    ∷ (asks 0 TaskEnd, TaskDone 2 true)
    ∷ (asks 0 Resume, Wait)
    ∷ (asks 1 TaskEnd, TaskDone 1 true)
    ∷ (asks 0 Resume, RunTask 3 3 0 false)
    ∷ []

-- two tasks of a mutex, the first of which names another's item too: the second waits for the first (own)
abbrev pub mutexes_in_order : Run
mutexes_in_order =
    (asks 0 (creates_with 1 (one_item DepOut 200)), Created 1)
    ∷ (asks 1 Barrier, RunTask 1 1 0 false)
    ∷ (asks 0 (creates_with 2 (item DepMutex 100 ∷ item DepIn 200 ∷ [])), Created 2)
    ∷ (asks 0 (creates_with 3 (one_item DepMutex 100)), Created 3)
    ∷ (asks 0 Barrier, Wait)
    ∷ (asks 1 TaskEnd, TaskDone 1 true)
    ∷ (asks 1 Resume, RunTask 2 2 0 false)
    ∷ (asks 0 Resume, Wait)
    ∷ (asks 1 TaskEnd, TaskDone 2 true)
    ∷ (asks 0 Resume, RunTask 3 3 0 false)
    ∷ []

-- two writers of two addresses
abbrev pub two_writers : Run
two_writers = (asks 0 (creates_with 1 (one_item DepOut 100)), Created 1) ∷ (asks 0 (creates_with 2 (one_item DepOut 200)), Created 2) ∷ []

-- a creator whose own task names both runs both before it
abbrev pub both_before_its_own : Run
both_before_its_own =
    two_writers
    ++ (asks 0 (creates_at_once 3 (item DepIn 100 ∷ item DepIn 200 ∷ [])), RunTask 1 1 0 false)
    ∷ (asks 0 TaskEnd, TaskDone 1 true)
    ∷ (asks 0 Resume, RunTask 2 2 0 false)
    ∷ (asks 0 TaskEnd, TaskDone 2 true)
    ∷ (asks 0 Resume, RunTask 3 3 0 true)
    ∷ (asks 0 TaskEnd, TaskDone 3 false)
    ∷ (asks 0 (Taskwait []), Passed)
    ∷ []

-- an earlier task, which another member runs, and a later one on the same address: the creator waits at a barrier
abbrev pub pair_of_kinds : DepKind → DepKind → Run
pair_of_kinds new old =
    (asks 0 (creates_with 1 (one_item old 100)), Created 1)
    ∷ (asks 0 (creates_with 2 (one_item new 100)), Created 2)
    ∷ (asks 1 Barrier, RunTask 1 1 0 false)
    ∷ []

-- the later one is held
abbrev pub held_pair : DepKind → DepKind → Run
held_pair new old = pair_of_kinds new old ++ (asks 0 Barrier, Wait) ∷ []

-- or both run together
abbrev pub pair_together : DepKind → DepKind → Run
pair_together new old = pair_of_kinds new old ++ (asks 0 Barrier, RunTask 2 2 0 false) ∷ []

-- items order siblings alone: while a writer runs, its child reads what it writes, and another member's task writes that too
abbrev pub items_of_others : Run
items_of_others =
    (asks 0 (creates_with 1 (one_item DepOut 100)), Created 1)
    ∷ (asks 0 (Taskwait []), RunTask 1 1 0 false)
    ∷ (asks 0 (creates_with 2 (one_item DepIn 100)), Created 2)
    ∷ (asks 1 (creates_with 3 (one_item DepOut 100)), Created 3)
    ∷ (asks 1 (Taskwait []), RunTask 3 3 0 false)
    ∷ (asks 0 (Taskwait (one_item DepOut 100)), RunTask 2 2 0 false)
    ∷ []

-- Waits with items

-- a taskwait passes if no child names its items, and runs the one that does
abbrev pub waits_for_one_item : Run
waits_for_one_item =
    (asks 0 (creates_with 1 (one_item DepOut 100)), Created 1)
    ∷ (asks 0 (Taskwait (one_item DepIn 300)), Passed)
    ∷ (asks 0 (Taskwait (one_item DepIn 100)), RunTask 1 1 0 false)
    ∷ (asks 0 TaskEnd, TaskDone 1 true)
    ∷ (asks 0 Resume, Passed)
    ∷ []

-- a taskwait with items passes while another child runs, one without waits for that
abbrev pub passes_beside_another : Run
passes_beside_another =
    (asks 0 (creates_with 1 (one_item DepOut 100)), Created 1)
    ∷ (asks 0 (creates_with 2 (one_item DepOut 200)), Created 2)
    ∷ (asks 1 Barrier, RunTask 1 1 0 false)
    ∷ (asks 0 (Taskwait (one_item DepIn 200)), RunTask 2 2 0 false)
    ∷ (asks 0 TaskEnd, TaskDone 2 true)
    ∷ (asks 0 Resume, Passed)
    ∷ (asks 0 (Taskwait (one_item DepIn 200)), Passed)
    ∷ (asks 0 (Taskwait []), Wait)
    ∷ (asks 1 TaskEnd, TaskDone 1 true)
    ∷ (asks 0 Resume, Passed)
    ∷ []

-- one that waits for a child which another member runs executes a child meanwhile for which it does not wait
abbrev pub runs_the_unnamed : Run
runs_the_unnamed =
    (asks 0 (creates_with 1 (one_item DepOut 100)), Created 1)
    ∷ (asks 1 Barrier, RunTask 1 1 0 false)
    ∷ (asks 0 (creates_with 2 (one_item DepOut 200)), Created 2)
    ∷ (asks 0 (Taskwait (one_item DepIn 100)), RunTask 2 2 0 false)
    ∷ (asks 0 TaskEnd, TaskDone 2 true)
    ∷ (asks 0 Resume, Wait)
    ∷ (asks 1 TaskEnd, TaskDone 1 true)
    ∷ (asks 0 Resume, Passed)
    ∷ []

-- a child that is held is run at no wait, and is waited for: its writer is run first
abbrev pub waits_for_the_held : Run
waits_for_the_held =
    (asks 0 (creates_with 1 (one_item DepOut 100)), Created 1)
    ∷ (asks 0 (creates_with 2 (item DepIn 100 ∷ item DepOut 200 ∷ [])), Created 2)
    ∷ (asks 0 (Taskwait (one_item DepIn 200)), RunTask 1 1 0 false)
    ∷ (asks 0 TaskEnd, TaskDone 1 true)
    ∷ (asks 0 Resume, RunTask 2 2 0 false)
    ∷ (asks 0 TaskEnd, TaskDone 2 true)
    ∷ (asks 0 Resume, Passed)
    ∷ []

-- another member runs a child with an item of a kind
abbrev pub child_of_a_kind : DepKind → Run
child_of_a_kind kind = (asks 0 (creates_with 1 (one_item kind 100)), Created 1) ∷ (asks 1 Barrier, RunTask 1 1 0 false) ∷ []

-- a taskwait with an item of another kind waits for it
abbrev pub waits_on : DepKind → DepKind → Run
waits_on kind child = child_of_a_kind child ++ (asks 0 (Taskwait (one_item kind 100)), Wait) ∷ []

-- or passes
abbrev pub passes_on : DepKind → DepKind → Run
passes_on kind child = child_of_a_kind child ++ (asks 0 (Taskwait (one_item kind 100)), Passed) ∷ []

-- Numbers of items

-- so many items, each on an address of its own
abbrev pub reads : ℕ → List Dep
reads zero = []
reads (suc addr) = item DepIn addr ∷ reads addr

-- and so many times one item
abbrev pub repeats : ℕ → List Dep
repeats zero = []
repeats (suc count) = item DepIn 100 ∷ repeats count

-- sixteen items are let in, and one more is refused; items count as they are written
abbrev pub as_many_items : Run
as_many_items =
    (asks 0 (creates_with 1 (reads 17)), Refused TooManyDepends)
    ∷ (asks 0 (creates_with 1 (repeats 17)), Refused TooManyDepends)
    ∷ (asks 0 (creates_at_once 1 (reads 17)), Refused TooManyDepends)
    ∷ (asks 0 (creates_with 1 (reads 16)), Created 1)
    ∷ (asks 0 (creates_with 2 (repeats 16)), Created 2)
    ∷ (asks 0 (creates_at_once 3 (reads 16)), RunTask 3 3 0 true)
    ∷ (asks 0 (Taskwait (reads 17)), Refused TooManyDepends)
    ∷ (asks 0 (Taskwait (repeats 17)), Refused TooManyDepends)
    ∷ (asks 0 (Taskwait (reads 16)), Passed)
    ∷ (asks 0 (Taskwait (repeats 16)), Passed)
    ∷ []

-- Refusals

-- calls that an undeferred task may not make, and calls that only a task may
abbrev pub refused_in_an_undeferred_task : Run
refused_in_an_undeferred_task =
    (asks 1 Barrier, Refused BadMember)
    ∷ (asks 0 TaskEnd, Refused NotInTask)
    ∷ (asks 0 Resume, Refused NotInside)
    ∷ (asks 0 GroupEnd, Refused NoGroup)
    ∷ (asks 0 (loop_by (pos 1) (pos 4) (negsuc 0)), Refused BadChunk)
    ∷ (asks 0 (SectionsStart 65537 WaitEnd), Refused BadSections)
    ∷ (asks 0 (loop_by (pos 1) (pos 4) (pos 1)), Chunk (pos 0) 1)
    ∷ (asks 0 Barrier, Refused InsideShare)
    ∷ (asks 0 (OrderedStart (pos 0)), Refused NotOrdered)
    ∷ (asks 0 (creates_at_once 1 []), RunTask 1 1 0 true)
    ∷ (asks 0 Barrier, Refused InsideTask)
    ∷ (asks 0 GroupStart, Finished)
    ∷ (asks 0 TaskEnd, Refused GroupOpen)
    ∷ (asks 0 GroupEnd, Passed)
    ∷ (asks 0 TaskEnd, TaskDone 1 false)
    ∷ (asks 0 Stop, Stopped)
    ∷ (asks 0 LoopNext, Refused (Broken (record { member = 0; place = AtStop })))
    ∷ []

-- an undeferred task does not end with a name, and its creator's name is not its own
abbrev pub names_of_an_undeferred_task : Run
names_of_an_undeferred_task =
    (asks 0 (CriticalStart name_a), Finished)
    ∷ (asks 0 (creates_at_once 1 []), RunTask 1 1 0 true)
    ∷ (asks 0 (CriticalStart name_a), Refused AlreadyHeld)
    ∷ (asks 0 TaskEnd, TaskDone 1 false)
    ∷ (asks 0 (CriticalEnd name_a), Finished)
    ∷ (asks 0 (creates_at_once 2 []), RunTask 2 2 0 true)
    ∷ (asks 0 (CriticalStart name_a), Finished)
    ∷ (asks 0 TaskEnd, Refused HoldsCritical)
    ∷ (asks 0 (CriticalEnd name_a), Finished)
    ∷ (asks 0 TaskEnd, TaskDone 2 false)
    ∷ []

-- a creation that finds no memory creates no task, and has no wait open
abbrev pub memory_at_creation : Run
memory_at_creation =
    (asks 0 (creates_at_once 1 (one_item DepIn 100)), Refused NoMemory)
    ∷ (asks 0 Resume, Refused NotInside)
    ∷ (asks 0 (creates_at_once 1 (one_item DepIn 100)), RunTask 1 1 0 true)
    ∷ []
