-- What the lock of a lock book guards. (own)
use Rattle.std.specs.Prelude.{ℕ, ◌+◌, ◌≡◌}
use Rattle.gomp_locks.specs.Book.{BookView, open_holds}
use Rattle.gomp_locks.specs.Order.{IsInOrder}

-- the open holds and what was freed are together what was open before and what was held since
abbrev pub IsBalanced : ℕ → ℕ → ℕ → BookView → Type 0
IsBalanced before held freed book = before + held ≡ open_holds book + freed

-- what holds of a book and its two ledgers whenever the lock is free
pub record IsLockedBook (before held freed : ℕ) (book : BookView) : Type 0 where
  -- the ledgers say how many holds are open
  pub balanced : IsBalanced before held freed book
  -- the book is in order
  pub order : IsInOrder book
