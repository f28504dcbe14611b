-- When a task may hold a critical name or a lock, and free it, given the events before it. OpenMP API 5.2, sections 15.2 and 18.9. (own)
use Rattle.std.specs.Prelude.{ℕ, ◌≡◌, ◌&&◌, not, nat_le, is_some, Bool, true, List, Option}
use Rattle.gomp_types.specs.declared.task.Task.{Task}
use Rattle.gomp_types.specs.declared.task.Owner.{Owner}
use Rattle.gomp_types.specs.declared.lock.Held.{Held}
use Rattle.gomp_types.specs.declared.lock.TheConstants.{MAX_COUNT}
use Rattle.gomp_types.specs.declared.key.Key.{Key}
use Rattle.gomp_types.specs.declared.key.Key.TheVariants.{NestLock}
use Rattle.gomp_events.specs.declared.event.Event.{Event}
use Rattle.gomp_events.specs.declared.event.Event.TheVariants.{Hold, Free}
use Rattle.gomp_locks.specs.Book.{held_by}
use Rattle.gomp_locks.specs.Locks.{times_held, held_by_another}
use Rattle.gomp_events.specs.Tasks.{executed_task}
use Rattle.gomp_locks.specs.Holders.{owner_of, holder}

-- whether an owner may hold it once more: nobody holds it, or it is a nestable lock that this owner holds less than 65,535 times
abbrev pub can_hold : Key → Owner → Option Held → Bool
can_hold (NestLock number) owner found = not (held_by_another owner found) && not (nat_le MAX_COUNT (times_held owner found))
can_hold _ owner found = not (is_some found)

-- the task that the member executes holds what it may hold
pub record MayHold (key : Key) (m : ℕ) (task : Task) (earlier : List Event) : Type 0 where
  pub current : task ≡ executed_task m earlier
  pub free : can_hold key (owner_of m task) (holder key earlier) ≡ true

-- and frees what it holds
pub record MayFree (key : Key) (m : ℕ) (task : Task) (earlier : List Event) : Type 0 where
  pub current : task ≡ executed_task m earlier
  pub held : held_by (owner_of m task) (holder key earlier) ≡ true

-- the rule of names and locks
abbrev pub HoldRule : Event → List Event → Type 0
HoldRule (Hold key m task) earlier = MayHold key m task earlier
HoldRule (Free key m task) earlier = MayFree key m task earlier
HoldRule _ earlier = Unit {0}
