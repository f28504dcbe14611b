-- What a list of events says of tasks. The newest event stands first. OpenMP API 5.2, chapter 12.
use Rattle.std.specs.Prelude.{ℕ, ◌+◌, ◌==◌, ◌&&◌, ◌||◌, nat_lt, nat_le, not, Bool, true, false, if◌then◌else◌, List, [], ◌∷◌, Option, Some, None}
use Rattle.std.proofs.Common.{zero, suc}
use Rattle.gomp_types.specs.declared.task.Task.{Task}
use Rattle.gomp_types.specs.declared.task.Task.TheVariants.{Implicit, Explicit}
use Rattle.gomp_types.specs.declared.task.TaskDesc.{TaskDesc}
use Rattle.gomp_events.specs.declared.event.Event.{Event}
use Rattle.gomp_events.specs.declared.event.Event.TheVariants.{Create, Start, Done, Discard}
use Rattle.gomp_types.specs.Members.{every_member}
use Rattle.gomp_events.specs.Events.{barriers_passed}

-- whether two tasks are one
abbrev pub same_task : Task → Task → Bool
same_task (Implicit a) (Implicit b) = a == b
same_task (Explicit a) (Explicit b) = a == b
same_task _ _ = false

-- whether it is an explicit task of which this holds
abbrev pub of_explicit : (ℕ → Bool) → Task → Bool
of_explicit test (Implicit m) = false
of_explicit test (Explicit t) = test t

-- whether a list has this number
abbrev pub contains : ℕ → List ℕ → Bool
contains x [] = false
contains x (y ∷ ys) = y == x || contains x ys

-- a list without its first element
abbrev pub after_first : List ℕ → List ℕ
after_first [] = []
after_first (x ∷ xs) = xs

-- All tasks

-- how many tasks were created; they are numbered from 1
abbrev pub tasks_created : List Event → ℕ
tasks_created [] = 0
tasks_created (Create task member parent desc ∷ earlier) = suc (tasks_created earlier)
tasks_created (_ ∷ earlier) = tasks_created earlier

-- whether the task was created
abbrev pub is_created : ℕ → List Event → Bool
is_created t h = nat_lt 0 t && nat_le t (tasks_created h)

-- whether a test holds of every task that was created
abbrev pub every_task : (ℕ → Bool) → List Event → Bool
every_task test h = every_member (tasks_created h) (λ k. test (suc k))

-- whether it holds of some
abbrev pub some_task : (ℕ → Bool) → List Event → Bool
some_task test h = not (every_task (λ t. not (test t)) h)

-- The task that a member executes (OpenMP API 5.2, section 1.2.5)

-- the explicit tasks that the member has started and not ended, the innermost first: those after the first are suspended
abbrev pub task_stack : ℕ → List Event → List ℕ
task_stack m [] = []
task_stack m (Start task member ∷ earlier) = if member == m then task ∷ task_stack m earlier else task_stack m earlier
task_stack m (Done task member ∷ earlier) = if member == m then after_first (task_stack m earlier) else task_stack m earlier
task_stack m (_ ∷ earlier) = task_stack m earlier

-- the innermost of them, or the member's implicit task
abbrev pub innermost_task : ℕ → List ℕ → Task
innermost_task m [] = Implicit m
innermost_task m (t ∷ ts) = Explicit t

-- the task that the member executes
abbrev pub executed_task : ℕ → List Event → Task
executed_task m h = innermost_task m (task_stack m h)

-- whether that is an explicit one
abbrev pub in_task : ℕ → List Event → Bool
in_task m h = of_explicit (λ t. true) (executed_task m h)

-- What becomes of a task

-- whether some member has started the task
abbrev pub has_started : ℕ → List Event → Bool
has_started t [] = false
has_started t (Start task member ∷ earlier) = task == t || has_started t earlier
has_started t (_ ∷ earlier) = has_started t earlier

-- the member that started it
abbrev pub task_runner : ℕ → List Event → Option ℕ
task_runner t [] = None
task_runner t (Start task member ∷ earlier) = if task == t then Some member else task_runner t earlier
task_runner t (_ ∷ earlier) = task_runner t earlier

-- whether the task is complete: its member has ended it, or a cancellation has discarded it (OpenMP API 5.2, section 16.1)
abbrev pub is_complete : ℕ → List Event → Bool
is_complete t [] = false
is_complete t (Done task member ∷ earlier) = task == t || is_complete t earlier
is_complete t (Discard task member ∷ earlier) = task == t || is_complete t earlier
is_complete t (_ ∷ earlier) = is_complete t earlier

-- whether every task of which the test holds is complete
abbrev pub all_complete : (ℕ → Bool) → List Event → Bool
all_complete test h = every_task (λ t. not (test t) || is_complete t h) h

-- how many of the tasks 1 to n pass the test
abbrev pub how_many : ℕ → (ℕ → Bool) → ℕ
how_many zero test = 0
how_many (suc k) test = if test (suc k) then how_many k test + 1 else how_many k test

-- how many of the tasks of which the test holds are open: they were created and are not complete
abbrev pub open_tasks : (ℕ → Bool) → List Event → ℕ
open_tasks test h = how_many (tasks_created h) (λ t. test t && not (is_complete t h))

-- Where a task comes from

-- what was asked for when the task was created
abbrev pub task_desc : ℕ → List Event → Option TaskDesc
task_desc t [] = None
task_desc t (Create task member parent desc ∷ earlier) = if task == t then Some desc else task_desc t earlier
task_desc t (_ ∷ earlier) = task_desc t earlier

-- whether the task was created in this one
abbrev pub is_child : Task → ℕ → List Event → Bool
is_child p t [] = false
is_child p t (Create task member parent desc ∷ earlier) = if task == t then same_task parent p else is_child p t earlier
is_child p t (_ ∷ earlier) = is_child p t earlier

-- whether the first task is the parent of the second, or the parent of its parent, and so on
abbrev pub is_ancestor : Task → ℕ → List Event → Bool
is_ancestor a t [] = false
is_ancestor a t (Create task member parent desc ∷ earlier) =
    if task == t then same_task parent a || of_explicit (λ p. is_ancestor a p earlier) parent else is_ancestor a t earlier
is_ancestor a t (_ ∷ earlier) = is_ancestor a t earlier

-- whether this member created the task, in this one
abbrev pub is_created_by : ℕ → Task → ℕ → List Event → Bool
is_created_by m p t [] = false
is_created_by m p t (Create task member parent desc ∷ earlier) =
    if task == t then member == m && same_task parent p else is_created_by m p t earlier
is_created_by m p t (_ ∷ earlier) = is_created_by m p t earlier

-- the task that was created last in this one; 0 if none was
abbrev pub newest_child : Task → List Event → ℕ
newest_child p [] = 0
newest_child p (Create task member parent desc ∷ earlier) = if same_task parent p then task else newest_child p earlier
newest_child p (_ ∷ earlier) = newest_child p earlier

-- how deep an explicit task lies in the tree of tasks, whose roots are the implicit ones, at depth 0
abbrev pub task_depth : ℕ → List Event → ℕ
task_depth t [] = 0
task_depth t (Create task member (Implicit x) desc ∷ earlier) = if task == t then 1 else task_depth t earlier
task_depth t (Create task member (Explicit p) desc ∷ earlier) = if task == t then task_depth p earlier + 1 else task_depth t earlier
task_depth t (_ ∷ earlier) = task_depth t earlier

-- and any task
abbrev pub depth_of : Task → List Event → ℕ
depth_of (Implicit m) h = 0
depth_of (Explicit t) h = task_depth t h

-- the number of the barrier to which the task is bound: the next one of the member in whose implicit task its tree begins
abbrev pub epoch : ℕ → List Event → ℕ
epoch t [] = 0
epoch t (Create task member (Implicit x) desc ∷ earlier) = if task == t then barriers_passed x earlier else epoch t earlier
epoch t (Create task member (Explicit p) desc ∷ earlier) = if task == t then epoch p earlier else epoch t earlier
epoch t (_ ∷ earlier) = epoch t earlier

-- the number of the barrier to which a task is bound that is created in this one now
abbrev pub epoch_of_child : Task → List Event → ℕ
epoch_of_child (Implicit m) h = barriers_passed m h
epoch_of_child (Explicit p) h = epoch p h

-- Final and undeferred tasks (OpenMP API 5.2, sections 12.3 and 12.5)

-- whether the task is final: its `final` clause is true, or it was created in a final task
abbrev pub is_final : ℕ → List Event → Bool
is_final t [] = false
is_final t (Create task member parent desc ∷ earlier) =
    if task == t then desc.final_task || of_explicit (λ p. is_final p earlier) parent else is_final t earlier
is_final t (_ ∷ earlier) = is_final t earlier

-- whether a task of this description is undeferred if it is created in this one now: its `if` clause is false, or its parent is final
abbrev pub becomes_undeferred : TaskDesc → Task → List Event → Bool
becomes_undeferred desc parent h = desc.undeferred || of_explicit (λ p. is_final p h) parent

-- whether the task is undeferred: its creator does not go on before it is done
abbrev pub is_undeferred : ℕ → List Event → Bool
is_undeferred t [] = false
is_undeferred t (Create task member parent desc ∷ earlier) = if task == t then becomes_undeferred desc parent earlier else is_undeferred t earlier
is_undeferred t (_ ∷ earlier) = is_undeferred t earlier

-- Barriers

-- whether a number is odd; the barriers to which open tasks are bound do not differ by more than one, so this tells them apart
abbrev pub is_odd : ℕ → Bool
is_odd zero = false
is_odd (suc n) = not (is_odd n)
