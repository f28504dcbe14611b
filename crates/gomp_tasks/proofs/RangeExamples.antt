-- Rows of tasks keep whole codes, arguments and numbers: what holds of every number is stated of every number, and both ends are computed.
use Rattle.std.proofs.Common.{◌≡◌, ℕ, ◌+◌, ◌-◌, ◌≤◌, Bool, false, List, [], ◌∷◌, Some, refl, arith}
use Rattle.std.specs.Prelude.{◌||◌}
use Rattle.gomp_types.specs.declared.task.Task.{Task}
use Rattle.gomp_types.specs.declared.task.Task.TheVariants.{Implicit, Explicit}
use Rattle.gomp_types.specs.declared.depend.Dep.{Dep}
use Rattle.gomp_events.specs.declared.event.Event.{Event}
use Rattle.gomp_events.specs.Cancels.{first_in}
use Rattle.gomp_tasks.specs.declared.rows.Newest.{Newest}
use Rattle.gomp_tasks.specs.declared.rows.TaskRow.{TaskRow}
use Rattle.gomp_tasks.specs.declared.rows.TaskState.{TaskState}
use Rattle.gomp_tasks.specs.declared.rows.TaskState.TheVariants.{Unstarted, Running, Done}
use Rattle.gomp_tasks.specs.declared.tasks.TheConstants.{MAX_TASKS}
use Rattle.gomp_tasks.specs.Rows.{unstarted_row, no_newest, in_state, with_child, without_child, runner_of, IsParent}
use Rattle.gomp_tasks.specs.Calls.{task_or_implicit}

-- the largest number of a task
pub largest_task_number : MAX_TASKS ≡ 4294967295
largest_task_number = refl

-- a new row has the parent, the root and the depth, whatever they are
pub row_keeps_what_was_asked : (code arg root depth : ℕ) (parent : Task) (undeferred final_task odd in_final : Bool) (deps : List Dep) → unstarted_row (record { code = code; arg = arg; undeferred = undeferred; final_task = final_task; deps = deps }) parent root depth odd in_final ≡ record { parent = parent; root = root; newest = 0; newest_undeferred = false; kept_children = 0; state = Unstarted; depth = depth; odd = odd; undeferred = undeferred || in_final; final_task = final_task || in_final }
row_keeps_what_was_asked code arg root depth parent undeferred final_task odd in_final deps = refl

-- a state has its member, whatever its number is
pub state_keeps_its_member : (m : ℕ) → (runner_of (Running m) ≡ Some m) × (runner_of (Done m) ≡ Some m)
state_keeps_its_member m = (refl, refl)

-- and a stack its innermost task
pub stack_keeps_its_first_task : (m t : ℕ) (ts : List ℕ) → (first_in (t ∷ ts) ≡ Some t) × (task_or_implicit m (Some t) ≡ Explicit t) × (task_or_implicit m (first_in []) ≡ Implicit m)
stack_keeps_its_first_task m t ts = (refl, refl, refl)

-- no task was created in a parent with a number not below its own
pub parent_has_a_lower_number : (t p : ℕ) (h : List Event) → t ≤ p → IsParent t (Explicit p) h → ⊥
parent_has_a_lower_number t p h late is = absurd (let older = (is.older p refl).1 in omega (arith, late, older))

-- a row keeps all but what changes
pub row_in_any_state : (row : TaskRow) (state : TaskState) → in_state state row ≡ record { parent = row.parent; root = row.root; newest = row.newest; newest_undeferred = row.newest_undeferred; kept_children = row.kept_children; state = state; depth = row.depth; odd = row.odd; undeferred = row.undeferred; final_task = row.final_task }
row_in_any_state row state = refl

pub row_with_any_child : (row : TaskRow) (newest : Newest) → with_child newest row ≡ record { parent = row.parent; root = row.root; newest = newest.task; newest_undeferred = newest.undeferred; kept_children = row.kept_children + 1; state = row.state; depth = row.depth; odd = row.odd; undeferred = row.undeferred; final_task = row.final_task }
row_with_any_child row newest = refl

pub row_without_any_child : (row : TaskRow) → without_child row ≡ record { parent = row.parent; root = row.root; newest = row.newest; newest_undeferred = row.newest_undeferred; kept_children = row.kept_children - 1; state = row.state; depth = row.depth; odd = row.odd; undeferred = row.undeferred; final_task = row.final_task }
row_without_any_child row = refl

-- no task is the newest where none was created, and it is not undeferred
pub none_is_zero : no_newest ≡ record { task = 0; undeferred = false }
none_is_zero = refl
