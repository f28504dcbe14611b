-- Who holds which critical name and which lock, and how often, by what happened. OpenMP API 5.2, sections 15.2 and 18.9.
use Rattle.std.specs.Prelude.{ℕ, ◌+◌, ◌-◌, ◌==◌, Bool, true, false, if◌then◌else◌, List, [], ◌∷◌, Option, Some, None, slice_get, bytes_eq}
use Rattle.gomp_types.specs.declared.task.Task.{Task}
use Rattle.gomp_types.specs.declared.task.Task.TheVariants.{Implicit, Explicit}
use Rattle.gomp_types.specs.declared.task.Owner.{Owner}
use Rattle.gomp_types.specs.declared.lock.Held.{Held}
use Rattle.gomp_types.specs.declared.lock.LockKind.{LockKind}
use Rattle.gomp_types.specs.declared.lock.LockKind.TheVariants.{Simple, Nest}
use Rattle.gomp_types.specs.declared.key.Key.{Key}
use Rattle.gomp_types.specs.declared.key.Key.TheVariants.{Critical, Lock, NestLock}
use Rattle.gomp_events.specs.declared.event.Event.{Event}
use Rattle.gomp_events.specs.declared.event.Event.TheVariants.{Hold, Free}
use Rattle.gomp_types.specs.Owners.{same_owner}
use Rattle.gomp_events.specs.Tasks.{executed_task}
use Rattle.gomp_locks.specs.Book.{same_lock_kind, held_times}

-- Keys: a critical name, or a lock of a kind

-- whether two keys are one; names are compared whole
abbrev pub same_key : Key → Key → Bool
same_key (Critical name) (Critical other) = bytes_eq name other
same_key (Lock number) (Lock other) = number == other
same_key (NestLock number) (NestLock other) = number == other
same_key _ _ = false

-- whether a task may hold it more than once
abbrev pub is_nestable : Key → Bool
is_nestable (NestLock number) = true
is_nestable _ = false

-- the key of a lock
abbrev pub key_of : LockKind → ℕ → Key
key_of Simple number = Lock number
key_of Nest number = NestLock number

-- Owners

-- the number of a task among its member's: 0 for the implicit one
abbrev pub task_number : Task → ℕ
task_number (Implicit m) = 0
task_number (Explicit number) = number

-- a task of a member as an owner; in what happened in a team every owner has team 0
abbrev pub owner_of : ℕ → Task → Owner
owner_of m task = record { team = 0; member = m; task = task_number task }

-- who asks if this member makes a call: the task that it executes
abbrev pub asker : ℕ → List Event → Owner
asker m h = owner_of m (executed_task m h)

-- Holders

-- held once more, by this owner if nobody held it
abbrev pub held_once_more : Owner → Option Held → Option Held
held_once_more owner None = Some (record { owner = owner; count = 1 })
held_once_more owner (Some held) = Some (record held { count = held.count + 1 })

-- held once less
abbrev pub held_once_less : Option Held → Option Held
held_once_less None = None
held_once_less (Some held) = held_times held.owner (held.count - 1)

-- by whom it is held, and how often
abbrev pub holder : Key → List Event → Option Held
holder key [] = None
holder key (Hold other m task ∷ earlier) = if same_key other key then held_once_more (owner_of m task) (holder key earlier) else holder key earlier
holder key (Free other m task ∷ earlier) = if same_key other key then held_once_less (holder key earlier) else holder key earlier
holder key (_ ∷ earlier) = holder key earlier

-- by whom alone
abbrev pub holding_owner : Option Held → Option Owner
holding_owner None = None
holding_owner (Some held) = Some held.owner

-- what of it this member holds, in any of its tasks
abbrev pub own_part : ℕ → Option Held → Option Held
own_part m None = None
own_part m (Some held) = if held.owner.member == m then Some held else None

-- these names without one of them
abbrev pub without_name : List ℕ → List (List ℕ) → List (List ℕ)
without_name name [] = []
without_name name (other ∷ names) = if bytes_eq other name then without_name name names else other ∷ without_name name names

-- the critical names that this owner holds, the newest first
abbrev pub held_names : Owner → List Event → List (List ℕ)
held_names owner [] = []
held_names owner (Hold (Critical name) m task ∷ earlier) = if same_owner (owner_of m task) owner then name ∷ held_names owner earlier else held_names owner earlier
held_names owner (Free (Critical name) m task ∷ earlier) = if same_owner (owner_of m task) owner then without_name name (held_names owner earlier) else held_names owner earlier
held_names owner (_ ∷ earlier) = held_names owner earlier

-- whether there are any
abbrev pub are_some : List (List ℕ) → Bool
are_some [] = false
are_some (name ∷ names) = true

-- whether this owner holds a critical name
abbrev pub holds_critical : Owner → List Event → Bool
holds_critical owner h = are_some (held_names owner h)

-- Locks that stand, by their kinds; None in the place of one that was destroyed

-- how a lock is held, if it stands and is of this kind
abbrev pub held_if_kind : LockKind → Option (Option LockKind) → Option Held → Option (Option Held)
held_if_kind kind (Some (Some other)) held = if same_lock_kind other kind then Some held else None
held_if_kind kind _ held = None

-- how the lock of this number and kind is held; None if there is no such lock
abbrev pub found_lock : LockKind → ℕ → List (Option LockKind) → List Event → Option (Option Held)
found_lock kind number locks h = held_if_kind kind (slice_get locks number) (holder (key_of kind number) h)

-- how a lock is held, if it stands, whatever its kind
abbrev pub held_of_either : Option (Option LockKind) → ℕ → List Event → Option (Option Held)
held_of_either (Some (Some kind)) number h = Some (holder (key_of kind number) h)
held_of_either _ number h = None

-- how the lock of this number is held, whatever its kind; None if there is no such lock
abbrev pub found_any_lock : ℕ → List (Option LockKind) → List Event → Option (Option Held)
found_any_lock number locks h = held_of_either (slice_get locks number) number h
