-- Which task a member may start at a wait, and what is kept of two lists of tasks that are the same: of any member, task and list of events.
use Rattle.std.proofs.Common.{◌≡◌, ℕ, Bool, true, false, List, length, refl, ap}
use Rattle.std.specs.Prelude.{◌&&◌}
use Rattle.gomp_events.specs.declared.event.Event.{Event}
use Rattle.gomp_events.specs.Depends.{is_free}
use Rattle.gomp_events.specs.Cancels.{is_covered}
use Rattle.gomp_events.specs.Goals.{is_unstarted, may_descend, may_start}
use Rattle.gomp_types.proofs.Booleans.{and_false}
use Rattle.gomp_tasks.specs.Stands.{TasksView, AreSame, task_members, count_of}
use Rattle.gomp_tasks.specs.Calls.{may_run}

-- a member may run a task that nobody has started and that descends so
pub runs_once_unstarted_below : (m t : ℕ) (h : List Event) → is_unstarted t h ≡ true → may_descend m t h ≡ true → may_run m t h ≡ true
runs_once_unstarted_below m t h fresh below = rw (fresh, below) refl

-- and no other
pub started_never_runs_again : (m t : ℕ) (h : List Event) → is_unstarted t h ≡ false → may_run m t h ≡ false
started_never_runs_again m t h started = rw started refl

pub apart_never_runs : (m t : ℕ) (h : List Event) → may_descend m t h ≡ false → may_run m t h ≡ false
apart_never_runs m t h apart = and_false (is_unstarted t h) (may_descend m t h) apart

-- so if the task waits for no other and no cancellation reaches it, it may run exactly if it may start
pub runs_as_it_starts : (m t : ℕ) (h : List Event) → is_free t h ≡ true → is_covered t h ≡ false → may_start m t h ≡ may_run m t h
runs_as_it_starts m t h free uncovered = rw (free, uncovered) (by_start (is_unstarted t h))
  where
    by_start : (b : Bool) → ((b && true) && may_descend m t h) ≡ (b && may_descend m t h)
    by_start true = refl
    by_start false = refl

-- the same tasks have as many members and as many tasks
pub same_tasks_have_as_many : (one other : TasksView) → AreSame one other → (task_members one ≡ task_members other) × (count_of one ≡ count_of other)
same_tasks_have_as_many one other same = (ap length same.stacks, ap length same.rows)
