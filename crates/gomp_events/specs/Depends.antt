-- For which tasks a task waits by its `depend` clause. The newest event stands first. OpenMP API 5.2, section 15.9.5.
use Rattle.std.specs.Prelude.{ℕ, ◌==◌, ◌&&◌, Bool, false, if◌then◌else◌, List, [], ◌∷◌}
use Rattle.gomp_types.specs.declared.task.Task.{Task}
use Rattle.gomp_types.specs.declared.depend.Dep.{Dep}
use Rattle.gomp_events.specs.declared.event.Event.{Event}
use Rattle.gomp_events.specs.declared.event.Event.TheVariants.{Create}
use Rattle.gomp_events.specs.Tasks.{is_child, all_complete}
use Rattle.gomp_types.specs.DependItems.{items_wait}

-- the items of the task's clause
abbrev pub task_items : ℕ → List Event → List Dep
task_items t [] = []
task_items t (Create task member parent desc ∷ earlier) = if task == t then desc.deps else task_items t earlier
task_items t (_ ∷ earlier) = task_items t earlier

-- whether a child of p that is created now with these items waits for the task t: that is a child of p too, and an item depends on one of its items
abbrev pub child_waits : Task → List Dep → ℕ → List Event → Bool
child_waits p items t h = is_child p t h && items_wait items (task_items t h)

-- whether the task t waits for the task q: when it was created, a child of its parent with its items did
abbrev pub waits_for : ℕ → ℕ → List Event → Bool
waits_for t q [] = false
waits_for t q (Create task member parent desc ∷ earlier) =
    if task == t then child_waits parent desc.deps q earlier else waits_for t q earlier
waits_for t q (_ ∷ earlier) = waits_for t q earlier

-- whether all tasks that it waits for are complete
abbrev pub is_free : ℕ → List Event → Bool
is_free t h = all_complete (λ q. waits_for t q h) h

-- whether a taskwait in p with these items waits for the task: without items for each child of p, with items for those that a child with them waits for
abbrev pub taskwait_waits : Task → List Dep → ℕ → List Event → Bool
taskwait_waits p [] t h = is_child p t h
taskwait_waits p (item ∷ items) t h = child_waits p (item ∷ items) t h

-- When two clauses have the same items (own)
