-- Worked examples of who holds which name and which lock by what happened, computed. OpenMP API 5.2, sections 15.2 and 18.9.
use Rattle.std.proofs.Common.{◌≡◌, ℕ, true, false, List, [], ◌∷◌, Option, Some, None, refl}
use Rattle.std.specs.Prelude.{map, ◌++◌}
use Rattle.gomp_types.specs.declared.task.Task.TheVariants.{Implicit, Explicit}
use Rattle.gomp_types.specs.declared.task.Owner.{Owner}
use Rattle.gomp_types.specs.declared.lock.Held.{Held}
use Rattle.gomp_types.specs.declared.lock.LockKind.{LockKind}
use Rattle.gomp_types.specs.declared.lock.LockKind.TheVariants.{Simple, Nest}
use Rattle.gomp_types.specs.declared.key.Key.{Key}
use Rattle.gomp_types.specs.declared.key.Key.TheVariants.{Critical, Lock, NestLock}
use Rattle.gomp_events.specs.declared.event.Event.{Event}
use Rattle.gomp_events.specs.declared.event.Event.TheVariants.{Hold, Free, Pass, Start, Done}
use Rattle.gomp_types.specs.declared.refusal.Refusal.{Refusal}
use Rattle.gomp_types.specs.declared.refusal.Refusal.TheVariants.{AlreadyHeld, NotHolder}
use Rattle.gomp_types.specs.declared.reply.Reply.TheVariants.{Wait, Count}
use Rattle.gomp_events.specs.EventLists.{newest_first}
use Rattle.gomp_types.specs.Least.{least}
use Rattle.gomp_locks.specs.CriticalNames.{critical_start_tests, critical_end_tests}
use Rattle.gomp_locks.specs.Locks.{set_tests, SetsLock, unset_tests, nest_tests, SetsNest, TestsNest}
use Rattle.gomp_locks.specs.Holders.{same_key, is_nestable, key_of, owner_of, asker, held_once_more, held_once_less, holder, holding_owner, own_part, without_name, held_names, holds_critical, found_lock, found_any_lock}
use Rattle.gomp_locks.proofs.BookExamples.{zero_owner, other_owner, task_owner}

-- What the examples are made of

-- the names 'a', 'aa' and 'b'
abbrev pub short_name : List ℕ
short_name = 97 ∷ []

abbrev pub longer_name : List ℕ
longer_name = 97 ∷ 97 ∷ []

abbrev pub other_name : List ℕ
other_name = 98 ∷ []

-- the member's implicit task holds it once more
abbrev pub hold_by : ℕ → Key → Event
hold_by m key = Hold key m (Implicit m)

-- or once less
abbrev pub free_by : ℕ → Key → Event
free_by m key = Free key m (Implicit m)

-- held by this owner so often
abbrev pub held_so : Owner → ℕ → Option Held
held_so owner count = Some (record { owner = owner; count = count })

-- after these events, the oldest first
abbrev pub after_events : List Event → List Event
after_events events = newest_first events []

-- Keys

-- names are compared whole: of 'aa' neither its beginning, nor a longer name, nor the empty name, nor 'aA' is the same
pub names_compared_whole :
    map (λ name. same_key (Critical longer_name) (Critical name)) (longer_name ∷ short_name ∷ (97 ∷ 97 ∷ 97 ∷ []) ∷ [] ∷ (97 ∷ 65 ∷ []) ∷ []) ≡ true ∷ false ∷ false ∷ false ∷ false ∷ []
names_compared_whole = refl

-- a simple lock, a nestable lock and a name are three keys, though they have one number; so are two locks of a kind
pub key_of_simple_lock : map (λ key. same_key (Lock 3) key) (Lock 3 ∷ Lock 4 ∷ NestLock 3 ∷ Critical (3 ∷ []) ∷ []) ≡ true ∷ false ∷ false ∷ false ∷ []
key_of_simple_lock = refl

pub key_of_nestable_lock : map (λ key. same_key (NestLock 3) key) (Lock 3 ∷ NestLock 4 ∷ NestLock 3 ∷ Critical (3 ∷ []) ∷ []) ≡ false ∷ false ∷ true ∷ false ∷ []
key_of_nestable_lock = refl

pub key_of_name : map (λ key. same_key (Critical (3 ∷ [])) key) (Lock 3 ∷ NestLock 3 ∷ Critical (3 ∷ []) ∷ []) ≡ false ∷ false ∷ true ∷ []
key_of_name = refl

-- a nestable lock alone may be held more than once
pub nestable_keys : map is_nestable (Critical short_name ∷ Lock 0 ∷ NestLock 0 ∷ []) ≡ false ∷ false ∷ true ∷ []
nestable_keys = refl

pub keys_of_kinds : (key_of Simple 5 ≡ Lock 5) × (key_of Nest 5 ≡ NestLock 5)
keys_of_kinds = (refl, refl)

-- Owners

-- the implicit task of a member has the number 0, and an explicit one its own
pub owners_of_tasks : (owner_of 0 (Implicit 0) ≡ zero_owner) × (owner_of 1 (Implicit 1) ≡ other_owner) × (owner_of 0 (Explicit 1) ≡ task_owner)
owners_of_tasks = (refl, refl, refl)

-- a member that has started no task asks as its implicit one, whatever it holds
pub askers_of_calls : (asker 1 [] ≡ other_owner) × (asker 1 (after_events (hold_by 0 (Lock 0) ∷ hold_by 1 (Lock 1) ∷ [])) ≡ other_owner)
askers_of_calls = (refl, refl)

-- the first member starts task 1, and in it task 2
abbrev pub started_twice : List Event
started_twice = Start 1 0 ∷ Start 2 0 ∷ []

-- one that executes an explicit task asks as that one, the innermost that it has started, until it ends it; another member asks as before
pub askers_in_tasks :
    map (λ events. asker 0 (after_events events)) ((Start 1 0 ∷ []) ∷ started_twice ∷ (started_twice ++ Done 2 0 ∷ []) ∷ (started_twice ++ Done 2 0 ∷ Done 1 0 ∷ []) ∷ []) ≡ task_owner ∷ record task_owner { task = 2 } ∷ task_owner ∷ zero_owner ∷ []
askers_in_tasks = refl

pub askers_beside_tasks : (asker 1 (after_events started_twice) ≡ other_owner) × (asker 0 (after_events (Start 1 1 ∷ [])) ≡ zero_owner)
askers_beside_tasks = (refl, refl)

-- Holders

-- the first hold has its owner and counts 1; a later one counts one more and leaves the owner
pub holds_counted_up : (held_once_more zero_owner None ≡ held_so zero_owner 1) × (held_once_more other_owner (held_so zero_owner 2) ≡ held_so zero_owner 3)
holds_counted_up = (refl, refl)

-- the last release leaves it to nobody
pub holds_counted_down : map held_once_less (None ∷ held_so zero_owner 1 ∷ held_so zero_owner 2 ∷ held_so zero_owner 3 ∷ []) ≡ None ∷ None ∷ held_so zero_owner 1 ∷ held_so zero_owner 2 ∷ []
holds_counted_down = refl

-- member 0 holds 'a' and 'b', member 1 holds 'aa', and member 0 frees 'a'
abbrev pub names_in_use : List Event
names_in_use = hold_by 0 (Critical short_name) ∷ hold_by 1 (Critical longer_name) ∷ hold_by 0 (Critical other_name) ∷ free_by 0 (Critical short_name) ∷ []

pub holders_by_name :
    map (λ name. holder (Critical name) (after_events names_in_use)) (short_name ∷ longer_name ∷ other_name ∷ [] ∷ []) ≡ None ∷ held_so other_owner 1 ∷ held_so zero_owner 1 ∷ None ∷ []
holders_by_name = refl

-- nestable lock 1 is held three times, through a barrier
abbrev pub nest_thrice : List Event
nest_thrice = hold_by 0 (NestLock 1) ∷ hold_by 0 (NestLock 1) ∷ Pass 0 0 ∷ hold_by 0 (NestLock 1) ∷ []

-- and freed once
abbrev pub freed_by : ℕ → List Event → List Event
freed_by m earlier = free_by m (NestLock 1) ∷ earlier

pub nest_counts_up_and_down :
    (holder (NestLock 1) (after_events nest_thrice) ≡ held_so zero_owner 3) × (holder (NestLock 1) (freed_by 0 (after_events nest_thrice)) ≡ held_so zero_owner 2)
    × (holder (NestLock 1) (freed_by 0 (freed_by 0 (after_events nest_thrice))) ≡ held_so zero_owner 1)
    × (holder (NestLock 1) (freed_by 0 (freed_by 0 (freed_by 0 (after_events nest_thrice)))) ≡ None)
nest_counts_up_and_down = (refl, refl, refl, refl)

-- the simple lock of that number is not held, nor another nestable lock
pub nest_holds_no_other : map (λ key. holder key (after_events nest_thrice)) (Lock 1 ∷ NestLock 0 ∷ Critical (1 ∷ []) ∷ []) ≡ None ∷ None ∷ None ∷ []
nest_holds_no_other = refl

-- the owner alone
pub owners_of_held : map holding_owner (None ∷ held_so other_owner 3 ∷ []) ≡ None ∷ Some other_owner ∷ []
owners_of_held = refl

-- a member sees what it holds in any of its tasks, and not what another holds
pub parts_of_first_member : map (λ found. own_part 0 found) (None ∷ held_so zero_owner 2 ∷ held_so task_owner 1 ∷ held_so other_owner 1 ∷ []) ≡ None ∷ held_so zero_owner 2 ∷ held_so task_owner 1 ∷ None ∷ []
parts_of_first_member = refl

pub parts_of_second_member : map (λ found. own_part 1 found) (None ∷ held_so zero_owner 2 ∷ held_so task_owner 1 ∷ held_so other_owner 1 ∷ []) ≡ None ∷ None ∷ None ∷ held_so other_owner 1 ∷ []
parts_of_second_member = refl

-- Names

-- names without one of them: its place does not count, and a longer name is another
pub names_without_one : without_name short_name (short_name ∷ longer_name ∷ short_name ∷ [] ∷ []) ≡ longer_name ∷ [] ∷ []
names_without_one = refl

-- two names are held, the newest first, until one is freed
pub names_until_freed :
    (held_names zero_owner (after_events (hold_by 0 (Critical short_name) ∷ hold_by 0 (Critical other_name) ∷ [])) ≡ other_name ∷ short_name ∷ [])
    × (held_names zero_owner (after_events names_in_use) ≡ other_name ∷ [])
names_until_freed = (refl, refl)

-- each owner has its own, and another task of its member has none
pub names_of_each_owner : map (λ owner. held_names owner (after_events names_in_use)) (zero_owner ∷ task_owner ∷ other_owner ∷ []) ≡ (other_name ∷ []) ∷ [] ∷ (longer_name ∷ []) ∷ []
names_of_each_owner = refl

-- a release by another leaves the names; a lock is no name
pub names_another_frees : held_names zero_owner (after_events (hold_by 0 (Critical short_name) ∷ free_by 1 (Critical short_name) ∷ [])) ≡ short_name ∷ []
names_another_frees = refl

pub locks_are_no_names : held_names zero_owner (after_events (hold_by 0 (Critical short_name) ∷ hold_by 0 (Lock 0) ∷ hold_by 0 (NestLock 1) ∷ free_by 0 (Lock 0) ∷ [])) ≡ short_name ∷ []
locks_are_no_names = refl

-- who holds a name, and who holds none: who held a lock alone, or freed all names
pub holders_of_some_name :
    (map (λ owner. holds_critical owner (after_events names_in_use)) (zero_owner ∷ task_owner ∷ other_owner ∷ []) ≡ true ∷ false ∷ true ∷ [])
    × (holds_critical zero_owner (after_events (hold_by 0 (Lock 0) ∷ [])) ≡ false)
    × (holds_critical zero_owner (after_events (hold_by 0 (Critical short_name) ∷ free_by 0 (Critical short_name) ∷ [])) ≡ false)
holders_of_some_name = (refl, refl, refl)

-- Two tasks of one member

-- task 1 of the first member holds the name 'a', lock 3 and twice nestable lock 1, and is suspended while the member executes task 2
abbrev pub held_by_suspended : List Event
held_by_suspended =
    Start 1 0 ∷ Hold (Critical short_name) 0 (Explicit 1) ∷ Hold (Lock 3) 0 (Explicit 1) ∷ Hold (NestLock 1) 0 (Explicit 1) ∷ Hold (NestLock 1) 0 (Explicit 1) ∷ Start 2 0 ∷ []

-- they stay its own, though the member asks as task 2, which holds nothing; nor does the implicit task
pub holders_while_suspended :
    map (λ key. holder key (after_events held_by_suspended)) (Critical short_name ∷ Lock 3 ∷ NestLock 1 ∷ []) ≡ held_so task_owner 1 ∷ held_so task_owner 1 ∷ held_so task_owner 2 ∷ []
holders_while_suspended = refl

pub names_while_suspended :
    map (λ owner. held_names owner (after_events held_by_suspended)) (task_owner ∷ asker 0 (after_events held_by_suspended) ∷ zero_owner ∷ []) ≡ (short_name ∷ []) ∷ [] ∷ [] ∷ []
names_while_suspended = refl

pub no_name_of_asker : holds_critical (asker 0 (after_events held_by_suspended)) (after_events held_by_suspended) ≡ false
no_name_of_asker = refl

-- the member may not enter the region again in task 2, since one of its tasks is in it; another member waits
abbrev start_asked : ℕ → Option Refusal
start_asked m = least (critical_start_tests (asker m (after_events held_by_suspended)) short_name (holding_owner (holder (Critical short_name) (after_events held_by_suspended))))

pub start_beside_suspended : (start_asked 0 ≡ Some AlreadyHeld) × (start_asked 1 ≡ None)
start_beside_suspended = (refl, refl)

-- nor end it
pub end_beside_suspended : least (critical_end_tests (asker 0 (after_events held_by_suspended)) short_name (holding_owner (holder (Critical short_name) (after_events held_by_suspended)))) ≡ Some NotHolder
end_beside_suspended = refl

-- a lock has no such test: task 2 may ask, and waits for task 1; it may not unset it
abbrev lock_beside_suspended : Option (Option Held)
lock_beside_suspended = Some (holder (Lock 3) (after_events held_by_suspended))

pub set_beside_suspended :
    (least (set_tests (asker 0 (after_events held_by_suspended)) lock_beside_suspended) ≡ None) × SetsLock lock_beside_suspended Wait
    × (least (unset_tests (asker 0 (after_events held_by_suspended)) lock_beside_suspended) ≡ Some NotHolder)
set_beside_suspended = (refl, tt, refl)

-- a nestable lock neither; its count is that of task 1 alone
abbrev nest_beside_suspended : Option (Option Held)
nest_beside_suspended = Some (holder (NestLock 1) (after_events held_by_suspended))

pub nest_set_beside_suspended :
    (least (nest_tests (asker 0 (after_events held_by_suspended)) nest_beside_suspended) ≡ None) × SetsNest (asker 0 (after_events held_by_suspended)) nest_beside_suspended Wait
    × TestsNest (asker 0 (after_events held_by_suspended)) nest_beside_suspended (Count 0) × SetsNest task_owner nest_beside_suspended (Count 3)
nest_set_beside_suspended = (refl, refl, refl, (refl, refl))

-- Locks

-- lock 0 is simple, lock 1 nestable, lock 2 was destroyed, lock 3 is simple and free; member 0 holds lock 0, and member 1 lock 1 twice
abbrev pub four_locks : List (Option LockKind)
four_locks = Some Simple ∷ Some Nest ∷ None ∷ Some Simple ∷ []

abbrev pub locks_in_use : List Event
locks_in_use = hold_by 0 (Lock 0) ∷ hold_by 1 (NestLock 1) ∷ hold_by 1 (NestLock 1) ∷ []

-- a lock of the other kind, one that was destroyed and one that was never made are not there; one that nobody holds is
pub simple_locks_found :
    map (λ number. found_lock Simple number four_locks (after_events locks_in_use)) (0 ∷ 1 ∷ 2 ∷ 3 ∷ 4 ∷ []) ≡ Some (held_so zero_owner 1) ∷ None ∷ None ∷ Some None ∷ None ∷ []
simple_locks_found = refl

pub nestable_locks_found :
    map (λ number. found_lock Nest number four_locks (after_events locks_in_use)) (0 ∷ 1 ∷ 2 ∷ 3 ∷ 4 ∷ []) ≡ None ∷ Some (held_so other_owner 2) ∷ None ∷ None ∷ None ∷ []
nestable_locks_found = refl

-- whatever the kind
pub locks_of_either_kind :
    map (λ number. found_any_lock number four_locks (after_events locks_in_use)) (0 ∷ 1 ∷ 2 ∷ 3 ∷ 4 ∷ []) ≡ Some (held_so zero_owner 1) ∷ Some (held_so other_owner 2) ∷ None ∷ Some None ∷ None ∷ []
locks_of_either_kind = refl
