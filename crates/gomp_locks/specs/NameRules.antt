-- When events on barriers, tasks and holds may happen, as far as critical names ask, given the events before them: no critical region
-- meets a barrier, and each is within its task. OpenMP API 5.2, section 15.2.
use Rattle.std.specs.Prelude.{ℕ, ◌<◌, ◌≡◌, false, List}
use Rattle.gomp_events.specs.declared.event.Event.{Event}
use Rattle.gomp_events.specs.declared.event.Event.TheVariants.{Hold, Arrive, Start, Done}
use Rattle.gomp_events.specs.Events.{at_barrier}
use Rattle.gomp_events.specs.Tasks.{in_task}
use Rattle.gomp_locks.specs.Holders.{asker, holds_critical}

-- a member arrives at a barrier in its implicit task, which holds no critical name
pub record ArrivesFree (m : ℕ) (earlier : List Event) : Type 0 where
  pub outside : in_task m earlier ≡ false
  pub free : holds_critical (asker m earlier) earlier ≡ false

-- the task that a member ends has left each critical region
pub record EndsFree (m : ℕ) (earlier : List Event) : Type 0 where
  pub left : holds_critical (asker m earlier) earlier ≡ false

-- a member that waits at a barrier holds nothing more in its implicit task: only the tasks that it executes meanwhile do
pub record HoldsAway (m : ℕ) (earlier : List Event) : Type 0 where
  pub away : in_task m earlier ≡ false → at_barrier m earlier ≡ false

-- explicit tasks are numbered from 1: 0 is the number of an implicit one (own)
pub record StartsNumbered (t : ℕ) : Type 0 where
  pub number : 0 < t

-- the rule of critical names at barriers and in tasks
abbrev pub NameRule : Event → List Event → Type 0
NameRule (Arrive barrier m tag) earlier = ArrivesFree m earlier
NameRule (Done t m) earlier = EndsFree m earlier
NameRule (Hold key m task) earlier = HoldsAway m earlier
NameRule (Start t m) earlier = StartsNumbered t
NameRule _ earlier = Unit {0}
