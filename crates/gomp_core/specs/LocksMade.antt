-- The record in which one member makes the locks of an older team, and destroys at once those that are gone. (own)
use Rattle.std.specs.Prelude.{ℕ, ◌+◌, List, [], ◌∷◌, ◌++◌, Option, Some, None, option_map, map}
use Rattle.gomp_types.specs.declared.call.Call.{Call}
use Rattle.gomp_types.specs.declared.call.Call.TheVariants.{LockInit, NestInit, LockDestroy}
use Rattle.gomp_types.specs.declared.lock.LockKind.{LockKind}
use Rattle.gomp_types.specs.declared.lock.LockKind.TheVariants.{Simple, Nest}
use Rattle.gomp_types.specs.declared.reply.Reply.TheVariants.{Finished, Lock as LockMade}
use Rattle.gomp_locks.specs.declared.lock.Lock.{Lock}
use Rattle.gomp_model.specs.Team.{Record}
use Rattle.gomp_core.specs.Resolved.{step_by}

-- the kinds of the locks that stand; None in the place of one that was destroyed
abbrev pub lock_kinds_of : List (Option Lock) → List (Option LockKind)
lock_kinds_of locks = map (option_map (λ (lock : Lock). lock.kind)) locks

-- the call that makes a lock of this kind
abbrev pub init_of : LockKind → Call
init_of Simple = LockInit
init_of Nest = NestInit

-- the steps by which the lock of this number comes to be as it is
abbrev pub lock_made : ℕ → Option LockKind → Record
lock_made number (Some kind) = (step_by 0 (init_of kind), LockMade number) ∷ []
lock_made number None = (step_by 0 (LockDestroy number), Finished) ∷ (step_by 0 LockInit, LockMade number) ∷ []

-- and those of all locks from this number on, after what was before
abbrev pub made_from : ℕ → List (Option LockKind) → Record → Record
made_from number [] before = before
made_from number (place ∷ places) before = made_from (number + 1) places (lock_made number place ++ before)

-- member 0 makes these locks one after another
abbrev pub locks_made : List (Option LockKind) → Record
locks_made places = made_from 0 places []
