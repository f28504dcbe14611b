-- Tasks and groups that the examples share: each list has the oldest event first. (own)
use Rattle.std.specs.Prelude.{ℕ, true, false, List, [], ◌∷◌, ◌++◌, ◌≢◌}
use Rattle.gomp_types.specs.declared.depend.Dep.{Dep}
use Rattle.gomp_types.specs.declared.depend.DepKind.{DepKind}
use Rattle.gomp_types.specs.declared.task.TaskDesc.{TaskDesc}
use Rattle.gomp_types.specs.declared.task.Task.TheVariants.{Implicit, Explicit}
use Rattle.gomp_events.specs.declared.event.Arrival.TheVariants.{Barrier, RegionEnd}
use Rattle.gomp_events.specs.declared.event.Event.{Event}
use Rattle.gomp_events.specs.declared.event.Event.TheVariants.{Create, Start, Done, Group, GroupEnd, Waited, Arrive, Pass}
use Rattle.gomp_events.specs.EventLists.{newest_first, at}
use Rattle.gomp_events.specs.Laws.{Always}
use Rattle.gomp_events.specs.TaskLaws.{CreatesOnce, CreatesInItsOwn, StartsOnce, StartsAfterNamed, StartsItsOwn, StartsDescendant, EndsItsOwn, StartsUncovered, CreatesUncovered, DiscardsUnstarted, WaitsForTasks, OpensOnce, EndsItsGroup, PassesAfterTasks, CreatesLater, EndsAfterTasks}

-- after these events
abbrev pub after : List Event → List Event
after events = newest_first events []

-- a task that is to do this, with these items
abbrev pub job_with : ℕ → ℕ → List Dep → TaskDesc
job_with code arg items = record { code = code; arg = arg; undeferred = false; final_task = false; deps = items }

-- what a task is to do
abbrev pub one_job : TaskDesc
one_job = job_with 7 70 []

-- and what another is
abbrev pub other_job : TaskDesc
other_job = job_with 8 80 []

-- an undeferred one
abbrev pub at_once : TaskDesc
at_once = record one_job { undeferred = true }

-- a final one
abbrev pub last_of_all : TaskDesc
last_of_all = record one_job { final_task = true }

-- an item of a kind, on an address
abbrev pub item : DepKind → ℕ → Dep
item kind addr = record { kind = kind; addr = addr }

-- a task with these items
abbrev pub with_items : List Dep → TaskDesc
with_items items = job_with 7 70 items

-- Tasks

-- a member runs a task, in it a child of that, and in the child it has created a third; another member has created a task that nobody has started
abbrev pub task_tree : List Event
task_tree = Create 1 0 (Implicit 0) one_job ∷ Start 1 0 ∷ Create 2 0 (Explicit 1) other_job ∷ Create 3 1 (Implicit 1) one_job ∷ Start 2 0 ∷ Create 4 0 (Explicit 2) other_job ∷ []

-- the child has ended
abbrev pub child_ended : List Event
child_ended = task_tree ++ Done 2 0 ∷ []

-- a member has passed a barrier at which another still waits, and created a task, which the other runs there; in it that one has created a child
abbrev pub across_barrier : List Event
across_barrier =
    Arrive 0 0 (at Barrier 0) ∷ Arrive 0 1 (at Barrier 0) ∷ Pass 0 0 ∷ Create 1 0 (Implicit 0) one_job ∷ Start 1 1 ∷ Create 2 1 (Explicit 1) other_job ∷ []

-- Groups

-- a member has opened a group within a group, created a task in each, and opened a third group in the second task, with a child in it; another member has created a task and opened a group after it
abbrev pub nested_groups : List Event
nested_groups =
    Group 0 0 ∷ Create 1 0 (Implicit 0) one_job ∷ Group 1 0 ∷ Create 2 0 (Implicit 0) one_job ∷ Start 2 0 ∷ Group 2 0 ∷ Create 3 0 (Explicit 2) other_job ∷ Create 4 1 (Implicit 1) one_job ∷ Group 3 1 ∷ []

-- A region of two members

-- the second waits at a barrier and runs a task of the first, which waits for its child
abbrev pub first_barrier : List Event
first_barrier =
    Create 1 0 (Implicit 0) one_job ∷ Arrive 0 1 (at Barrier 0) ∷ Start 1 1 ∷ Create 2 1 (Explicit 1) other_job ∷ Start 2 1 ∷ Done 2 1 ∷ Waited 1 [] ∷ Done 1 1 ∷ []

-- the first has a group, in which a task creates another
abbrev pub one_group : List Event
one_group =
    Group 0 0 ∷ Create 3 0 (Implicit 0) one_job ∷ Start 3 0 ∷ Create 4 0 (Explicit 3) other_job ∷ Done 3 0 ∷ Start 4 0 ∷ Done 4 0 ∷ GroupEnd 0 0 ∷ []

-- it passes the barrier and creates a task, which the second runs before it passes
abbrev pub both_pass : List Event
both_pass = Arrive 0 0 (at Barrier 0) ∷ Pass 0 0 ∷ Create 5 0 (Implicit 0) one_job ∷ Start 5 1 ∷ Done 5 1 ∷ Pass 0 1 ∷ []

-- and the region ends
abbrev pub region_ends : List Event
region_ends = Create 6 1 (Implicit 1) other_job ∷ Arrive 1 0 (at RegionEnd 0) ∷ Start 6 0 ∷ Done 6 0 ∷ Arrive 1 1 (at RegionEnd 0) ∷ Pass 1 0 ∷ Pass 1 1 ∷ []

-- all of it
abbrev pub whole_region : List Event
whole_region = first_barrier ++ one_group ++ both_pass ++ region_ends

-- Rules and laws

-- after these events a rule or a law of each event allows this one
abbrev pub Allows : (Event → List Event → Type 0) → List Event → Event → Type 0
Allows Rule events event = Rule event (after events)

-- or refuses it
abbrev pub Forbids : (Event → List Event → Type 0) → List Event → Event → Type 0
Forbids Rule events event = Rule event (after events) → ⊥

-- the laws of tasks and groups
pub data TaskLaw : Type 0 where
  CreatedOnce : TaskLaw
  CreatedIn : TaskLaw
  StartedOnce : TaskLaw
  AfterNamed : TaskLaw
  OwnAlone : TaskLaw
  Descendants : TaskLaw
  EndedOnce : TaskLaw
  StartedUncovered : TaskLaw
  CreatedUncovered : TaskLaw
  Discarded : TaskLaw
  Waits : TaskLaw
  OpenedOnce : TaskLaw
  GroupsEnded : TaskLaw
  Passes : TaskLaw
  Later : TaskLaw
  AtTheEnd : TaskLaw

-- what each says
abbrev pub law_of : TaskLaw → List Event → Type 0
law_of CreatedOnce h = Always CreatesOnce h
law_of CreatedIn h = Always CreatesInItsOwn h
law_of StartedOnce h = Always StartsOnce h
law_of AfterNamed h = Always StartsAfterNamed h
law_of OwnAlone h = Always StartsItsOwn h
law_of Descendants h = Always StartsDescendant h
law_of EndedOnce h = Always EndsItsOwn h
law_of StartedUncovered h = Always StartsUncovered h
law_of CreatedUncovered h = Always CreatesUncovered h
law_of Discarded h = Always DiscardsUnstarted h
law_of Waits h = Always WaitsForTasks h
law_of OpenedOnce h = Always OpensOnce h
law_of GroupsEnded h = Always EndsItsGroup h
law_of Passes h = Always PassesAfterTasks h
law_of Later h = Always CreatesLater h
law_of AtTheEnd h = Always EndsAfterTasks h

-- this law alone refuses these events: all others hold of them
abbrev pub RefusedAlone : TaskLaw → List Event → Type 0
RefusedAlone law events = (law_of law (after events) → ⊥) × ((other : TaskLaw) → other ≢ law → law_of other (after events))
