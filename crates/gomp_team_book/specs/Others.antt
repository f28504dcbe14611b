-- What a call by one owner leaves to all others. OpenMP API 5.2, sections 15.2 and 18.9.
use Rattle.std.specs.Prelude.{ℕ, ◌≡◌, false, List, Some, slice_get}
use Rattle.gomp_types.specs.declared.task.Owner.{Owner}
use Rattle.gomp_types.specs.declared.lock.Held.{Held}
use Rattle.gomp_types.specs.declared.reply.Reply.{Reply}
use Rattle.gomp_types.specs.Owners.{same_owner}
use Rattle.gomp_locks.specs.declared.lock.Lock.{Lock}
use Rattle.gomp_locks.specs.Book.{BookView, name_owner}
use Rattle.gomp_locks.specs.BookCalls.{BookCall, CallAnswered}

-- what another owner holds stays as it is
pub record LeavesOthers (owner : Owner) (book after : BookView) : Type 0 where
  -- its critical names stay its names
  pub names : (other : Owner) (name : List ℕ) → same_owner other owner ≡ false → name_owner name book ≡ Some other → name_owner name after ≡ Some other
  -- its locks stay as they are: of their kinds, held by it, and as often
  pub locks : (number : ℕ) (lock : Lock) (held : Held) → lock.held ≡ Some held → same_owner held.owner owner ≡ false → slice_get book.locks number ≡ Some (Some lock) → slice_get after.locks number ≡ Some (Some lock)

-- there is a book of which this owner may get the reply for the call: that under the lock, when the lock was taken
abbrev pub IsAnswered : Owner → BookCall → Reply → Type 0
IsAnswered owner call reply = (book : BookView) × CallAnswered owner call book reply
