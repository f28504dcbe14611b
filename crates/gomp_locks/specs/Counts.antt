-- What holds of a lock book wherever it is kept.
use Rattle.std.specs.Prelude.{ℕ, ◌≡◌, ◌≤◌, length, List, Option, Some, slice_get}
use Rattle.std.specs.List.{sum_by, count_by}
use Rattle.std.specs.Map.{values_of}
use Rattle.gomp_types.specs.declared.task.Owner.{Owner}
use Rattle.gomp_types.specs.declared.lock.Held.{Held}
use Rattle.gomp_types.specs.Owners.{same_owner}
use Rattle.gomp_locks.specs.declared.lock.Lock.{Lock}
use Rattle.gomp_locks.specs.Book.{names_held, holds_of_name}

-- how often an owner is in a list
abbrev pub times_in : Owner → List Owner → ℕ
times_in owner holders = count_by (λ other. same_owner other owner) holders

-- who holds a name, of these names, in a list that has room for so many
pub record AreHolders (holders : List Owner) (names : List (List ℕ × Option Owner)) (room : ℕ) : Type 0 where
  -- each owner is there once for each name that it holds
  pub counted : (owner : Owner) → times_in owner holders ≡ names_held owner names
  -- there are as many as names that are held
  pub all : length holders ≡ sum_by holds_of_name (values_of names)
  -- there is room for as many as there are names
  pub fit : length names ≤ room

-- what is held is held at least once
abbrev pub IsHeldOnce : Option Held → Type 0
IsHeldOnce found = (held : Held) → found ≡ Some held → 1 ≤ held.count

-- so is each lock
abbrev pub AreHeldOnce : List (Option Lock) → Type 0
AreHeldOnce locks = (number : ℕ) (lock : Lock) → slice_get locks number ≡ Some (Some lock) → IsHeldOnce lock.held
