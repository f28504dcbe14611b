-- The laws of tasks and groups, each in the words of the promise that it keeps. OpenMP API 5.2, chapter 12 and sections 15.3 to 15.5.
use Rattle.std.specs.Prelude.{ℕ, ◌<◌, ◌≤◌, ◌≡◌, true, false, List, [], ◌∷◌, ◌++◌, ◌⊎◌}
use Rattle.gomp_types.specs.declared.task.Task.{Task}
use Rattle.gomp_types.specs.declared.task.Task.TheVariants.{Implicit, Explicit}
use Rattle.gomp_types.specs.declared.task.TaskDesc.{TaskDesc}
use Rattle.gomp_events.specs.declared.event.Event.{Event}
use Rattle.gomp_events.specs.declared.event.Event.TheVariants.{Create, Start, Done, Discard, Group, GroupEnd, Waited, Pass}
use Rattle.gomp_events.specs.Laws.{Always, Happened}
use Rattle.gomp_events.specs.Events.{at_barrier, at_region_end}
use Rattle.gomp_events.specs.Tasks.{executed_task, epoch, is_child, is_ancestor, is_undeferred}
use Rattle.gomp_events.specs.Depends.{child_waits, waits_for}
use Rattle.gomp_events.specs.Groups.{open_groups, in_group}
use Rattle.gomp_events.specs.Cancels.{is_covered, would_be_covered}

-- the task was created, by some member in some task
abbrev pub IsCreated : ℕ → List Event → Type 0
IsCreated t h = (m : ℕ) × (parent : Task) × (desc : TaskDesc) × Happened (Create t m parent desc) h

-- the task is complete: some member ended it, or a cancellation discarded it (OpenMP API 5.2, section 16.1)
abbrev pub IsTaskDone : ℕ → List Event → Type 0
IsTaskDone t h = (m : ℕ) × (Happened (Done t m) h ⊎ Happened (Discard t m) h)

-- Tasks

-- Created once (OpenMP API 5.2, section 12.5): no two tasks have one number.
abbrev pub CreatesOnce : Event → List Event → Type 0
CreatesOnce (Create t m parent desc) earlier = IsCreated t earlier → ⊥
CreatesOnce _ earlier = Unit {0}

-- a member creates a task in the one that it executes, which is the parent
abbrev pub CreatesInItsOwn : Event → List Event → Type 0
CreatesInItsOwn (Create t m parent desc) earlier = parent ≡ executed_task m earlier
CreatesInItsOwn _ earlier = Unit {0}

-- Started once (OpenMP API 5.2, section 12.5): a task is started after it was created, not twice, and not after it is done.
abbrev pub StartsOnce : Event → List Event → Type 0
StartsOnce (Start t m) earlier = IsCreated t earlier × ((n : ℕ) → Happened (Start t n) earlier → ⊥) × (IsTaskDone t earlier → ⊥)
StartsOnce _ earlier = Unit {0}

-- Depend (OpenMP API 5.2, section 15.9.5): a task is started only after every task for which it waits is done.
abbrev pub StartsAfterNamed : Event → List Event → Type 0
StartsAfterNamed (Start t m) earlier = (q : ℕ) → waits_for t q earlier ≡ true → IsTaskDone q earlier
StartsAfterNamed _ earlier = Unit {0}

-- Undeferred tasks (OpenMP API 5.2, section 12.5): such a task is started only by the member that created it, in the task in which it created it.
abbrev pub StartsItsOwn : Event → List Event → Type 0
StartsItsOwn (Start t m) earlier = is_undeferred t earlier ≡ true → (desc : TaskDesc) × Happened (Create t m (executed_task m earlier) desc) earlier
StartsItsOwn _ earlier = Unit {0}

-- Descendant law (OpenMP API 5.2, section 12.9): a member starts only a descendant of every task that it has started and that is not done; of its implicit task too, unless it waits at a barrier (own).
abbrev pub StartsDescendant : Event → List Event → Type 0
StartsDescendant (Start t m) earlier =
    ((s : ℕ) → Happened (Start s m) earlier → (IsTaskDone s earlier → ⊥) → is_ancestor (Explicit s) t earlier ≡ true)
    × (at_barrier m earlier ≡ false → is_ancestor (Implicit m) t earlier ≡ true)
StartsDescendant _ earlier = Unit {0}

-- Ended once: a member ends a task that it started, and no task ends twice; all others that it has started and that are not done are its ancestors, so it is the innermost one.
abbrev pub EndsItsOwn : Event → List Event → Type 0
EndsItsOwn (Done t m) earlier =
    Happened (Start t m) earlier × ((n : ℕ) → Happened (Done t n) earlier → ⊥)
    × ((s : ℕ) → Happened (Start s m) earlier → (IsTaskDone s earlier → ⊥) → (s ≡ t) ⊎ (is_ancestor (Explicit s) t earlier ≡ true))
EndsItsOwn _ earlier = Unit {0}

-- Cancellation (OpenMP API 5.2, section 16.1)

-- after a cancellation of the region or of a group no task is started that it reaches
abbrev pub StartsUncovered : Event → List Event → Type 0
StartsUncovered (Start t m) earlier = is_covered t earlier ≡ false
StartsUncovered _ earlier = Unit {0}

-- nor is one created
abbrev pub CreatesUncovered : Event → List Event → Type 0
CreatesUncovered (Create t m parent desc) earlier = would_be_covered parent earlier ≡ false
CreatesUncovered _ earlier = Unit {0}

-- a task is discarded only if a cancellation reaches it, it was created, and nobody has started it: running tasks go on; and no task is discarded twice
abbrev pub DiscardsUnstarted : Event → List Event → Type 0
DiscardsUnstarted (Discard t m) earlier = (is_covered t earlier ≡ true) × IsCreated t earlier × ((n : ℕ) → Happened (Start t n) earlier → ⊥) × (IsTaskDone t earlier → ⊥)
DiscardsUnstarted _ earlier = Unit {0}

-- Waits

-- Taskwait and taskgroup (OpenMP API 5.2, sections 15.4 and 15.5): the children of a task that waited are done, of one that waited with items those for which a child with them waits; and so are the tasks of a group that has ended.
abbrev pub WaitsForTasks : Event → List Event → Type 0
WaitsForTasks (Waited m []) earlier = (t : ℕ) → is_child (executed_task m earlier) t earlier ≡ true → IsTaskDone t earlier
WaitsForTasks (Waited m (item ∷ items)) earlier = (t : ℕ) → child_waits (executed_task m earlier) (item ∷ items) t earlier ≡ true → IsTaskDone t earlier
WaitsForTasks (GroupEnd q m) earlier = (t : ℕ) → in_group q t earlier ≡ true → IsTaskDone t earlier
WaitsForTasks _ earlier = Unit {0}

-- Groups opened once (OpenMP API 5.2, section 15.4): no two groups have one number.
abbrev pub OpensOnce : Event → List Event → Type 0
OpensOnce (Group q m) earlier = (n : ℕ) → Happened (Group q n) earlier → ⊥
OpensOnce _ earlier = Unit {0}

-- a member ends a group that it opened, the last one that is open in the task that it executes, and no group ends twice
abbrev pub EndsItsGroup : Event → List Event → Type 0
EndsItsGroup (GroupEnd q m) earlier =
    Happened (Group q m) earlier × ((outer : List ℕ) × (open_groups (executed_task m earlier) earlier ≡ q ∷ outer)) × ((n : ℕ) → Happened (GroupEnd q n) earlier → ⊥)
EndsItsGroup _ earlier = Unit {0}

-- Barriers

-- Barrier law for tasks (OpenMP API 5.2, section 15.3.1): if a member passes a barrier, every task that is bound to it or to an earlier one is done.
abbrev pub PassesAfterTasks : Event → List Event → Type 0
PassesAfterTasks (Pass barrier m) earlier = (t : ℕ) → IsCreated t earlier → epoch t earlier ≤ barrier → IsTaskDone t earlier
PassesAfterTasks _ earlier = Unit {0}

-- no task that is bound to a barrier, or to an earlier one, is created after a member passed it
abbrev pub CreatesLater : Event → List Event → Type 0
CreatesLater (Create t m parent desc) earlier = (barrier n : ℕ) → Happened (Pass barrier n) earlier → barrier < epoch t (Create t m parent desc ∷ earlier)
CreatesLater _ earlier = Unit {0}

-- the region's end is passed only if every task is done
abbrev pub EndsAfterTasks : Event → List Event → Type 0
EndsAfterTasks (Pass barrier m) earlier = at_region_end m earlier ≡ true → (t : ℕ) → IsCreated t earlier → IsTaskDone t earlier
EndsAfterTasks _ earlier = Unit {0}

-- what the tasks of a team keep, whoever keeps them
pub record TaskLaws (h : List Event) : Type 0 where
  pub created_once : Always CreatesOnce h
  pub created_in : Always CreatesInItsOwn h
  pub started_once : Always StartsOnce h
  pub after_named : Always StartsAfterNamed h
  pub own : Always StartsItsOwn h
  pub descendants : Always StartsDescendant h
  pub ended_once : Always EndsItsOwn h
  pub started_uncovered : Always StartsUncovered h
  pub created_uncovered : Always CreatesUncovered h
  pub discarded : Always DiscardsUnstarted h
  pub waits : Always WaitsForTasks h
  pub opened_once : Always OpensOnce h
  pub groups_ended : Always EndsItsGroup h
  pub passes : Always PassesAfterTasks h
  pub later : Always CreatesLater h
  pub region : Always EndsAfterTasks h

-- It follows for the whole list: whatever happens later, every task that is bound to a barrier or to an earlier one is done before a member passes it.
abbrev pub BoundIsDone : List Event → Type 0
BoundIsDone h = (later earlier : List Event) (barrier m : ℕ) → h ≡ later ++ Pass barrier m ∷ earlier → (t : ℕ) → IsCreated t h → epoch t h ≤ barrier → IsTaskDone t earlier
