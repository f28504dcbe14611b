-- What holds of each lock book that calls make of a new one. (own)
use Rattle.std.specs.Prelude.{ℕ, ◌≡◌, Option, Some, slice_get}
use Rattle.std.specs.Ordering.{nat_cmp}
use Rattle.std.specs.Cmp.Lexicographic.{slice_cmp}
use Rattle.std.specs.List.Sorted.{IsStrictlySortedBy}
use Rattle.std.specs.Map.{keys_of}
use Rattle.gomp_types.specs.declared.lock.Held.{Held}
use Rattle.gomp_types.specs.declared.lock.LockKind.TheVariants.{Simple}
use Rattle.gomp_locks.specs.declared.lock.Lock.{Lock}
use Rattle.gomp_locks.specs.Book.{BookView, held_of_kind}

-- a simple lock that is held is held once
abbrev pub IsSimpleOnce : Option Lock → Type 0
IsSimpleOnce place = (held : Held) → held_of_kind Simple (Some place) ≡ Some (Some held) → held.count ≡ 1

-- the book is in order
pub record IsInOrder (book : BookView) : Type 0 where
  -- its names are in order, each once
  pub names : IsStrictlySortedBy (slice_cmp nat_cmp) (keys_of book.names)
  -- its simple locks are held once at a time
  pub simple : (number : ℕ) (place : Option Lock) → slice_get book.locks number ≡ Some place → IsSimpleOnce place
