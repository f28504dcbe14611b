-- The lock routines. OpenMP API 5.2, section 18.9.
use Rattle.std.specs.Prelude.{ℕ, ◌+◌, ◌≡◌, nat_le, nat_lt, not, is_some, if◌then◌else◌, ◌==◌, ◌&&◌, Bool, true, false, List, [], ◌∷◌, ◌++◌, Option, Some, None, slice_set}
use Rattle.std.specs.Option.{option_flatten}
use Rattle.gomp_types.specs.declared.task.Owner.{Owner}
use Rattle.gomp_types.specs.declared.lock.TheConstants.{MAX_COUNT, MAX_LOCKS}
use Rattle.gomp_types.specs.declared.lock.LockKind.{LockKind}
use Rattle.gomp_types.specs.declared.lock.LockKind.TheVariants.{Simple, Nest}
use Rattle.gomp_types.specs.declared.lock.Held.{Held}
use Rattle.gomp_types.specs.declared.refusal.Refusal.TheVariants.{AlreadyHeld, NotHolder, NoLock, CountTooLarge}
use Rattle.gomp_types.specs.declared.reply.Reply.{Reply}
use Rattle.gomp_types.specs.declared.reply.Reply.TheVariants.{Finished, Wait, Lock as LockMade, Got, Count}
use Rattle.gomp_types.specs.Owners.{same_owner}
use Rattle.gomp_types.specs.Tests.{Test}
use Rattle.gomp_locks.specs.Book.{BookView, with_lock, held_times, held_by}

-- Making and destroying

-- at most 2^32 - 1 locks are ever made; so many were made before
abbrev pub init_tests : ℕ → List Test
init_tests made = (nat_le MAX_LOCKS made, CountTooLarge) ∷ []

-- a lock's number is that of the locks made before it, so no number is used twice
abbrev pub MakesLock : ℕ → Reply → Type 0
MakesLock made (LockMade number) = number ≡ made
MakesLock made _ = ⊥

abbrev pub after_init : LockKind → Reply → BookView → BookView
after_init kind (LockMade number) book = record book { locks = book.locks ++ Some (record { kind = kind; held = None }) ∷ [] }
after_init kind _ book = book

-- a call on a lock is refused if there is no such lock; one that waits is tested for it again
abbrev pub gone_tests : Option (Option Held) → List Test
gone_tests found = (not (is_some found), NoLock) ∷ []

-- a lock of either kind is destroyed while nobody holds it
abbrev pub set_by_any_tests : Option (Option Held) → List Test
set_by_any_tests found = (is_some (option_flatten found), AlreadyHeld) ∷ []

abbrev pub destroy_tests : Option (Option Held) → List Test
destroy_tests found = set_by_any_tests found ++ gone_tests found

abbrev pub after_destroy : ℕ → Reply → BookView → BookView
after_destroy number Finished book = record book { locks = slice_set book.locks number None }
after_destroy number _ book = book

-- Simple locks

-- the task that holds a lock may not set it again
abbrev pub set_by_own_tests : Owner → Option (Option Held) → List Test
set_by_own_tests owner found = (held_by owner (option_flatten found), AlreadyHeld) ∷ []

abbrev pub set_tests : Owner → Option (Option Held) → List Test
set_tests owner found = set_by_own_tests owner found ++ gone_tests found

-- a lock that nobody holds is set; else its owner is waited for
abbrev pub SetsLock : Option (Option Held) → Reply → Type 0
SetsLock (Some None) Finished = Unit {0}
SetsLock (Some (Some held)) Wait = Unit {0}
SetsLock _ _ = ⊥

abbrev pub after_set : Owner → ℕ → Reply → BookView → BookView
after_set owner number Finished book = with_lock Simple number (held_times owner 1) book
after_set owner number _ book = book

-- a test never waits: it tells whether the lock was free, and is set now
abbrev pub test_tests : Option (Option Held) → List Test
test_tests found = gone_tests found

abbrev pub TestsLock : Option (Option Held) → Reply → Type 0
TestsLock (Some held) (Got free) = free ≡ not (is_some held)
TestsLock _ _ = ⊥

abbrev pub after_test : Owner → ℕ → Reply → BookView → BookView
after_test owner number (Got true) book = with_lock Simple number (held_times owner 1) book
after_test owner number _ book = book

-- the task that holds a lock unsets it
abbrev pub set_by_other_tests : Owner → Option (Option Held) → List Test
set_by_other_tests owner found = (is_some found && not (held_by owner (option_flatten found)), NotHolder) ∷ []

abbrev pub unset_tests : Owner → Option (Option Held) → List Test
unset_tests owner found = set_by_other_tests owner found ++ gone_tests found

abbrev pub after_unset : ℕ → Reply → BookView → BookView
after_unset number Finished book = with_lock Simple number None book
after_unset number _ book = book

-- Nestable locks

-- how often a task that asks holds the lock
abbrev pub times_held : Owner → Option Held → ℕ
times_held owner None = 0
times_held owner (Some held) = if same_owner held.owner owner then held.count else 0

-- a task may set a lock that it holds again, up to 65,535 times
abbrev pub count_tests : Owner → Option (Option Held) → List Test
count_tests owner found = (nat_le MAX_COUNT (times_held owner (option_flatten found)), CountTooLarge) ∷ []

abbrev pub nest_tests : Owner → Option (Option Held) → List Test
nest_tests owner found = count_tests owner found ++ gone_tests found

-- whether another task holds the lock
abbrev pub held_by_another : Owner → Option Held → Bool
held_by_another owner held = is_some held && not (held_by owner held)

-- a lock that no other task holds is set once more; else its owner is waited for
abbrev pub SetsNest : Owner → Option (Option Held) → Reply → Type 0
SetsNest owner (Some held) (Count count) = (held_by_another owner held ≡ false) × (count ≡ times_held owner held + 1)
SetsNest owner (Some held) Wait = held_by_another owner held ≡ true
SetsNest owner _ _ = ⊥

abbrev pub after_set_nest : Owner → ℕ → Reply → BookView → BookView
after_set_nest owner number (Count count) book = with_lock Nest number (held_times owner count) book
after_set_nest owner number _ book = book

-- whether a task may set the lock once more: no other task holds it, and this one has set it less than 65,535 times
abbrev pub may_set_nest : Owner → Option Held → Bool
may_set_nest owner held = not (held_by_another owner held) && nat_lt (times_held owner held) MAX_COUNT

-- a task that waits for a lock is not refused for its count: it sets the lock once more if it may, and waits on else
abbrev pub WaitsNest : Owner → Option (Option Held) → Reply → Type 0
WaitsNest owner (Some held) (Count count) = (may_set_nest owner held ≡ true) × (count ≡ times_held owner held + 1)
WaitsNest owner (Some held) Wait = may_set_nest owner held ≡ false
WaitsNest owner _ _ = ⊥

-- a test tells how often the lock is set now, and 0 if another task holds it
abbrev pub TestsNest : Owner → Option (Option Held) → Reply → Type 0
TestsNest owner (Some held) (Count count) = count ≡ (if held_by_another owner held then 0 else times_held owner held + 1)
TestsNest owner _ _ = ⊥

abbrev pub after_test_nest : Owner → ℕ → Reply → BookView → BookView
after_test_nest owner number (Count count) book = if count == 0 then book else with_lock Nest number (held_times owner count) book
after_test_nest owner number _ book = book

-- a task unsets a lock once for each time that it set it
abbrev pub UnsetsNest : Owner → Option (Option Held) → Reply → Type 0
UnsetsNest owner (Some held) (Count count) = count + 1 ≡ times_held owner held
UnsetsNest owner _ _ = ⊥

abbrev pub after_unset_nest : Owner → ℕ → Reply → BookView → BookView
after_unset_nest owner number (Count count) book = with_lock Nest number (held_times owner count) book
after_unset_nest owner number _ book = book
