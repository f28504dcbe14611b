use Rattle.std.proofs.Common.{ℕ}
use Rattle.gomp_types.specs.declared.task.Task.{Task}
use Rattle.gomp_types.specs.declared.task.Task.TheVariants.{Implicit, Explicit}
use Rattle.gomp_tasks.proofs.tasks.Tasks.+is_within.Given as goal

-- the number of an explicit task, and 0 of an implicit one
abbrev pub explicit_number : Task → ℕ
explicit_number (Implicit m) = 0
explicit_number (Explicit t) = t

abbrev pub decreases-is_within : goal.decreases-is_within
decreases-is_within l = explicit_number l.task
