-- What a list of events says of groups of tasks. The newest event stands first. OpenMP API 5.2, section 15.4.
use Rattle.std.specs.Prelude.{ℕ, ◌+◌, Bool, if◌then◌else◌, List, [], ◌∷◌, ◌++◌, ◌==◌}
use Rattle.gomp_types.specs.declared.task.Task.{Task}
use Rattle.gomp_types.specs.declared.task.Task.TheVariants.{Implicit, Explicit}
use Rattle.gomp_events.specs.declared.event.Event.{Event}
use Rattle.gomp_events.specs.declared.event.Event.TheVariants.{Create, Group, GroupEnd}
use Rattle.gomp_events.specs.Tasks.{same_task, executed_task, after_first, contains, all_complete}

-- how many groups were opened; they are numbered from 0
abbrev pub groups_opened : List Event → ℕ
groups_opened [] = 0
groups_opened (Group group member ∷ earlier) = groups_opened earlier + 1
groups_opened (_ ∷ earlier) = groups_opened earlier

-- the groups that a task has opened and not ended, the last one first
abbrev pub open_groups : Task → List Event → List ℕ
open_groups p [] = []
open_groups p (Group group member ∷ earlier) = if same_task (executed_task member earlier) p then group ∷ open_groups p earlier else open_groups p earlier
open_groups p (GroupEnd group member ∷ earlier) = if same_task (executed_task member earlier) p then after_first (open_groups p earlier) else open_groups p earlier
open_groups p (_ ∷ earlier) = open_groups p earlier

-- the groups whose ends wait for a task: those that were open in its parent when it was created, and those that wait for its parent
abbrev pub groups_around : ℕ → List Event → List ℕ
groups_around t [] = []
groups_around t (Create task member (Implicit x) desc ∷ earlier) = if task == t then open_groups (Implicit x) earlier else groups_around t earlier
groups_around t (Create task member (Explicit p) desc ∷ earlier) = if task == t then open_groups (Explicit p) earlier ++ groups_around p earlier else groups_around t earlier
groups_around t (_ ∷ earlier) = groups_around t earlier

-- whether the task was created in the group, or descends from a task that was
abbrev pub in_group : ℕ → ℕ → List Event → Bool
in_group q t h = contains q (groups_around t h)

-- whether all tasks of the group are complete
abbrev pub group_complete : ℕ → List Event → Bool
group_complete q h = all_complete (λ t. in_group q t h) h
