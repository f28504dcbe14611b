-- What a record with tasks says: which calls of its members lie beneath which tasks, and which events it gives, in their order.
use Rattle.std.proofs.Common.{◌≡◌, [], ◌∷◌, refl}
use Rattle.std.specs.Prelude.{take}
use Rattle.gomp_types.specs.declared.key.Key.TheVariants.{Critical, Lock, NestLock}
use Rattle.gomp_types.specs.declared.task.Task.TheVariants.{Implicit, Explicit}
use Rattle.gomp_types.specs.declared.refusal.Place.TheVariants.{Stopped as AtStop}
use Rattle.gomp_events.specs.declared.event.Arrival.TheVariants.{Barrier, RegionEnd}
use Rattle.gomp_events.specs.declared.event.Event.TheVariants.{Arrive, Pass, Hold, Free, Create, Start, Done, Group, GroupEnd, Waited, Break}
use Rattle.gomp_events.specs.EventLists.{newest_first, at}
use Rattle.gomp_events.specs.TaskExamples.{one_job, other_job, job_with}
use Rattle.gomp_model.specs.Team.{events}
use Rattle.gomp_model.specs.Examples.{run_recorded, team_of}
use Rattle.gomp_model.specs.HoldExamples.{name_b}
use Rattle.gomp_model.specs.TaskRuns.{tasks_at_barriers, task_at_a_resume, wait_for_children, wait_for_a_running_child, nested_waits, group_of_one, group_in_a_group, refused_ends_of_tasks, locks_of_tasks}

-- Which events a run gives

-- tasks that are run at a barrier and at the region's end
pub barrier_task_events : events (team_of 2) (run_recorded tasks_at_barriers []) ≡ newest_first
    (Create 1 0 (Implicit 0) (job_with 7 5 []) ∷ Arrive 0 1 (at Barrier 0) ∷ Start 1 1 ∷ Arrive 0 0 (at Barrier 0) ∷ Done 1 1 ∷ Pass 0 1
    ∷ Create 2 1 (Implicit 1) (job_with 8 0 []) ∷ Pass 0 0 ∷ Arrive 1 0 (at RegionEnd 0) ∷ Start 2 0 ∷ Arrive 1 1 (at RegionEnd 0) ∷ Done 2 0 ∷ Pass 1 0 ∷ Pass 1 1 ∷ [])
    []
barrier_task_events = refl

-- one at a resume, which arrives no second time
pub resume_task_events : events (team_of 2) (run_recorded task_at_a_resume []) ≡ newest_first
    (Arrive 0 0 (at Barrier 0) ∷ Create 1 1 (Implicit 1) one_job ∷ Start 1 0 ∷ Arrive 0 1 (at Barrier 0) ∷ Done 1 0 ∷ Pass 0 0 ∷ Pass 0 1 ∷ [])
    []
resume_task_events = refl

-- waits for children, those that have none among them
pub taskwait_events : events (team_of 2) (run_recorded wait_for_children []) ≡ newest_first
    (Create 1 0 (Implicit 0) one_job ∷ Waited 1 [] ∷ Start 1 0 ∷ Waited 0 [] ∷ Create 2 0 (Explicit 1) other_job ∷ Done 1 0 ∷ Waited 0 [] ∷ Waited 0 [] ∷ [])
    []
taskwait_events = refl

-- one that waits gives nothing until it is passed
pub waiting_taskwait_events : events (team_of 2) (run_recorded wait_for_a_running_child []) ≡ newest_first
    (Create 1 0 (Implicit 0) one_job ∷ Arrive 0 1 (at Barrier 0) ∷ Start 1 1 ∷ Done 1 1 ∷ Waited 0 [] ∷ [])
    []
waiting_taskwait_events = refl

-- a task in a task
pub nested_task_events : events (team_of 1) (run_recorded (nested_waits 2) []) ≡ newest_first
    (Create 1 0 (Implicit 0) (job_with 1 0 []) ∷ Start 1 0 ∷ Create 2 0 (Explicit 1) (job_with 1 0 []) ∷ Start 2 0 ∷ Done 2 0 ∷ Waited 0 [] ∷ Done 1 0 ∷ Waited 0 [] ∷ [])
    []
nested_task_events = refl

-- a group
pub group_events : events (team_of 1) (run_recorded group_of_one []) ≡ newest_first
    (Group 0 0 ∷ Create 1 0 (Implicit 0) (job_with 1 0 []) ∷ Start 1 0 ∷ Done 1 0 ∷ GroupEnd 0 0 ∷ [])
    []
group_events = refl

-- groups in a group and in its task; the calls that are refused give none
pub nested_group_events : events (team_of 1) (run_recorded group_in_a_group []) ≡ newest_first
    (Group 0 0 ∷ Create 1 0 (Implicit 0) one_job ∷ Group 1 0 ∷ GroupEnd 1 0 ∷ Create 2 0 (Implicit 0) other_job ∷ Start 2 0 ∷ Group 2 0 ∷ GroupEnd 2 0 ∷ Done 2 0
    ∷ Start 1 0 ∷ Done 1 0 ∷ GroupEnd 0 0 ∷ [])
    []
nested_group_events = refl

-- names and locks are held by the task that asked for them
pub held_task_events :
    (take 3 (events (team_of 1) (run_recorded (take 11 refused_ends_of_tasks) [])) ≡ Free (Critical name_b) 0 (Explicit 1) ∷ Hold (Critical name_b) 0 (Explicit 1) ∷ Start 1 0 ∷ [])
    × (events (team_of 1) (run_recorded locks_of_tasks []) ≡ newest_first
    (Hold (NestLock 1) 0 (Implicit 0) ∷ Create 1 0 (Implicit 0) one_job ∷ Start 1 0 ∷ Hold (Lock 0) 0 (Explicit 1) ∷ Create 2 0 (Explicit 1) other_job ∷ Start 2 0 ∷ Break 0 AtStop ∷ []) [])
held_task_events = (refl, refl)
