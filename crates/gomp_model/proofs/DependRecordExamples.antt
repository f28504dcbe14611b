-- What a record with undeferred tasks and items says: which calls wait or lie beneath which tasks, and which events it gives, in their order.
use Rattle.std.proofs.Common.{◌≡◌, true, [], ◌∷◌, refl}
use Rattle.std.specs.Prelude.{take}
use Rattle.gomp_types.specs.declared.depend.DepKind.TheVariants.{DepIn, DepOut}
use Rattle.gomp_types.specs.declared.task.Task.TheVariants.{Implicit, Explicit}
use Rattle.gomp_events.specs.declared.event.Arrival.TheVariants.{Barrier}
use Rattle.gomp_events.specs.declared.event.Event.TheVariants.{Arrive, Pass, Create, Start, Done, Waited}
use Rattle.gomp_events.specs.EventLists.{newest_first, at}
use Rattle.gomp_events.specs.TaskExamples.{job_with}
use Rattle.gomp_model.specs.Team.{events}
use Rattle.gomp_model.specs.Examples.{run_recorded, team_of}
use Rattle.gomp_model.specs.DependRuns.{one_item, undeferred_alone, writer_before_its_own, waits_for_its_own, task_in_a_final_task, reader_at_a_barrier, passes_beside_another, as_many_items, memory_at_creation}

-- Which events a run gives

-- an undeferred task is created, and started at once
pub undeferred_events : events (team_of 1) (run_recorded undeferred_alone []) ≡ newest_first
    (Create 1 0 (Implicit 0) (record (job_with 1 0 []) { undeferred = true }) ∷ Start 1 0 ∷ Done 1 0 ∷ Waited 0 [] ∷ Arrive 0 0 (at Barrier 0) ∷ Pass 0 0 ∷ [])
    []
undeferred_events = refl

-- one that waits for a writer is created before that starts, and once
pub creation_events : events (team_of 1) (run_recorded (take 8 writer_before_its_own) []) ≡ newest_first
    (Create 1 0 (Implicit 0) (job_with 1 0 (one_item DepOut 100)) ∷ Create 2 0 (Implicit 0) (record (job_with 2 0 (one_item DepIn 100)) { undeferred = true })
    ∷ Start 1 0 ∷ Done 1 0 ∷ Start 2 0 ∷ Done 2 0 ∷ [])
    []
creation_events = refl

-- one whose creator waits is, too
pub waiting_creation_events : events (team_of 2) (run_recorded waits_for_its_own []) ≡ newest_first
    (Create 1 0 (Implicit 0) (job_with 1 0 (one_item DepOut 100)) ∷ Arrive 0 1 (at Barrier 0) ∷ Start 1 1 ∷ Create 2 0 (Implicit 0) (record (job_with 2 0 (one_item DepIn 100)) { undeferred = true })
    ∷ Done 1 1 ∷ Start 2 0 ∷ Done 2 0 ∷ Arrive 0 0 (at Barrier 0) ∷ Pass 0 0 ∷ Pass 0 1 ∷ [])
    []
waiting_creation_events = refl

-- a task in a final task
pub final_task_events : events (team_of 1) (run_recorded task_in_a_final_task []) ≡ newest_first
    (Create 1 0 (Implicit 0) (record (job_with 1 0 []) { undeferred = true; final_task = true }) ∷ Start 1 0 ∷ Create 2 0 (Explicit 1) (job_with 2 0 []) ∷ Start 2 0 ∷ Done 2 0 ∷ Done 1 0 ∷ [])
    []
final_task_events = refl

-- a reader that waits for a writer
pub reader_events : events (team_of 2) (run_recorded reader_at_a_barrier []) ≡ newest_first
    (Create 1 0 (Implicit 0) (job_with 1 0 (one_item DepOut 100)) ∷ Create 2 0 (Implicit 0) (job_with 2 0 (one_item DepIn 100)) ∷ Arrive 0 1 (at Barrier 0) ∷ Start 1 1 ∷ Arrive 0 0 (at Barrier 0)
    ∷ Done 1 1 ∷ Start 2 0 ∷ Done 2 0 ∷ Pass 0 1 ∷ Pass 0 0 ∷ [])
    []
reader_events = refl

-- a taskwait that is passed gives its items, as they are written
pub item_wait_events : take 4 (events (team_of 2) (run_recorded passes_beside_another [])) ≡ Waited 0 [] ∷ Done 1 1 ∷ Waited 0 (one_item DepIn 200) ∷ Waited 0 (one_item DepIn 200) ∷ []
item_wait_events = refl

-- calls with too many items give none, nor a creation that finds no memory
pub refused_item_events :
    (events (team_of 1) (run_recorded (take 3 as_many_items) []) ≡ []) × (take 1 (events (team_of 1) (run_recorded (take 8 as_many_items) [])) ≡ Start 3 0 ∷ [])
    × (events (team_of 1) (run_recorded (take 2 memory_at_creation) []) ≡ [])
refused_item_events = (refl, refl, refl)
