-- A task that waits for a nestable lock goes on as one that sets it.
use Rattle.std.proofs.Common.{◌≡◌, ℕ, Bool, true, false, Option, Some, None, refl}
use Rattle.std.specs.Prelude.{nat_lt, not, ◌&&◌}
use Rattle.gomp_types.specs.declared.task.Owner.{Owner}
use Rattle.gomp_types.specs.declared.lock.TheConstants.{MAX_COUNT}
use Rattle.gomp_types.specs.declared.lock.Held.{Held}
use Rattle.gomp_types.specs.declared.reply.Reply.{Reply}
use Rattle.gomp_types.specs.declared.reply.Reply.TheVariants.{Wait, Count}
use Rattle.gomp_locks.specs.Book.{held_by}
use Rattle.gomp_locks.specs.Locks.{times_held, held_by_another, SetsNest, WaitsNest}

-- no other task holds what one may set
free_of_others : (another room : Bool) → (not another && room) ≡ true → another ≡ false
free_of_others false room may = refl
free_of_others true room may = absurd (cc)

-- a lock that it gets it has set once more
pub waited_sets : (owner : Owner) (count : ℕ) (found : Option (Option Held)) → WaitsNest owner found (Count count) → SetsNest owner found (Count count)
waited_sets owner count None waited = waited
waited_sets owner count (Some held) waited = (free_of_others (held_by_another owner held) (nat_lt (times_held owner held) MAX_COUNT) waited.0, waited.1)

-- and one that set_nest sets or waits for, below the limit, it sets or waits for too
pub waits_as_set : (owner : Owner) (held : Option Held) (reply : Reply) → nat_lt (times_held owner held) MAX_COUNT ≡ true → SetsNest owner (Some held) reply → WaitsNest owner (Some held) reply
waits_as_set owner held (Count count) room sets = (rw (sets.0, room) refl, sets.1)
waits_as_set owner held Wait room sets = rw sets refl
waits_as_set owner held _ room sets = sets

-- so a task that does not hold the lock sets it once, and nobody held it
pub waited_sets_once : (owner : Owner) (count : ℕ) (held : Option Held) → held_by owner held ≡ false → WaitsNest owner (Some held) (Count count) → (held ≡ None) × (count ≡ 1)
waited_sets_once owner count None differs waited = (refl, waited.1)
waited_sets_once owner count (Some held) differs waited = absurd (let never = rw differs at waited.0 in cc)
