-- What is kept of an explicit task, and when that stands for what a list of events says of it. OpenMP API 5.2, chapter 12.
use Rattle.std.specs.Prelude.{ℕ, ◌==◌, ◌+◌, ◌-◌, ◌<◌, ◌≡◌, ◌||◌, not, nat_lt, Bool, true, false, List, Option, Some, None}
use Rattle.gomp_types.specs.declared.task.Task.{Task}
use Rattle.gomp_types.specs.declared.task.Task.TheVariants.{Implicit, Explicit}
use Rattle.gomp_types.specs.declared.task.TaskDesc.{TaskDesc}
use Rattle.gomp_events.specs.declared.event.Event.{Event}
use Rattle.gomp_events.specs.Tasks.{same_task, of_explicit, has_started, task_runner, is_complete, is_child, is_ancestor, task_depth, epoch, is_odd, is_final, is_undeferred, newest_child}
use Rattle.gomp_tasks.specs.declared.rows.Newest.{Newest}
use Rattle.gomp_tasks.specs.declared.rows.TaskState.{TaskState}
use Rattle.gomp_tasks.specs.declared.rows.TaskState.TheVariants.{Unstarted, Running, Done, Discarded}
use Rattle.gomp_tasks.specs.declared.rows.TaskRow.{TaskRow}

-- whether a member has started the task
abbrev pub is_started : TaskState → Bool
is_started Unstarted = false
is_started (Running m) = true
is_started (Done m) = true
is_started Discarded = false

-- whether the task is complete
abbrev pub is_over : TaskState → Bool
is_over Unstarted = false
is_over (Running m) = false
is_over (Done m) = true
is_over Discarded = true

-- the member that started it, if one has
abbrev pub runner_of : TaskState → Option ℕ
runner_of Unstarted = None
runner_of (Running m) = Some m
runner_of (Done m) = Some m
runner_of Discarded = None

-- the state of a task after one event more: the same, or the next; the member that runs a task is the one that ends it
abbrev pub Follows : TaskState → TaskState → Type 0
Follows Unstarted Unstarted = Unit {0}
Follows Unstarted (Running m) = Unit {0}
Follows Unstarted Discarded = Unit {0}
Follows (Running m) (Running n) = m ≡ n
Follows (Running m) (Done n) = m ≡ n
Follows (Done m) (Done n) = m ≡ n
Follows Discarded Discarded = Unit {0}
Follows _ _ = ⊥

-- no task was created in a task
abbrev pub no_newest : Newest
no_newest = record { task = 0; undeferred = false }

-- a new task, which nobody has started, below this member's implicit task: created in a final task or not
abbrev pub unstarted_row : TaskDesc → Task → ℕ → ℕ → Bool → Bool → TaskRow
unstarted_row desc parent root depth odd in_final =
    record { parent = parent; root = root; newest = 0; newest_undeferred = false; kept_children = 0; state = Unstarted; depth = depth; odd = odd; undeferred = desc.undeferred || in_final; final_task = desc.final_task || in_final }

-- this task, as the one that was created last in its parent
abbrev pub newest_of : ℕ → TaskRow → Newest
newest_of t row = record { task = t; undeferred = row.undeferred }

-- the task that was created last in the one with this row
abbrev pub newest_kept : TaskRow → Newest
newest_kept row = record { task = row.newest; undeferred = row.newest_undeferred }

-- whether a row is needed: its task is not complete, or a child of that has a row
abbrev pub is_needed : TaskRow → Bool
is_needed row = not (is_over row.state) || nat_lt 0 row.kept_children

-- what is kept of a task once it is in this state
abbrev pub in_state : TaskState → TaskRow → TaskRow
in_state state row = record row { state = state }

-- once a task was created in it
abbrev pub with_child : Newest → TaskRow → TaskRow
with_child newest row = record row { newest = newest.task; newest_undeferred = newest.undeferred; kept_children = row.kept_children + 1 }

-- once the row of a child of it was taken out
abbrev pub without_child : TaskRow → TaskRow
without_child row = record row { kept_children = row.kept_children - 1 }

-- what a row keeps as this state is what the events say of the task
pub record IsState (t : ℕ) (state : TaskState) (h : List Event) : Type 0 where
  pub started : has_started t h ≡ is_started state
  pub complete : is_complete t h ≡ is_over state
  pub runner : task_runner t h ≡ runner_of state

-- the task was created in this one
pub record IsParent (t : ℕ) (parent : Task) (h : List Event) : Type 0 where
  -- and in no other
  pub children : (p : Task) → is_child p t h ≡ same_task parent p
  -- its ancestors are this one and the ancestors of this one
  pub ancestors : (a : Task) → is_ancestor a t h ≡ (same_task parent a || of_explicit (λ p. is_ancestor a p h) parent)
  -- which is older
  pub older : (p : ℕ) → parent ≡ Explicit p → (0 < p) × (p < t)

-- this is the task that was created last in a task; 0, which is not undeferred, if none was
pub record NewestIs (p : Task) (newest : Newest) (h : List Event) : Type 0 where
  pub task : newest_child p h ≡ newest.task
  pub undeferred : is_undeferred (newest_child p h) h ≡ newest.undeferred

-- the row is what the events say of the task
pub record RowStands (t : ℕ) (row : TaskRow) (h : List Event) : Type 0 where
  pub parent : IsParent t row.parent h
  -- of the implicit tasks it descends from that of this member alone
  pub root : (m : ℕ) → is_ancestor (Implicit m) t h ≡ (row.root == m)
  pub depth : task_depth t h ≡ row.depth
  pub odd : is_odd (epoch t h) ≡ row.odd
  pub undeferred : is_undeferred t h ≡ row.undeferred
  pub final_is : is_final t h ≡ row.final_task
  pub state : IsState t row.state h
  pub newest : NewestIs (Explicit t) (newest_kept row) h
