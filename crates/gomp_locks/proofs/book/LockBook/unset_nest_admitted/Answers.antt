use Rattle.gomp_locks.specs.Counts.{IsHeldOnce}
use Rattle.gomp_locks.proofs.book.LockBook.unset_nest_admitted.Goals as goal

pub overflow_sub-held : goal.overflow_sub-held
overflow_sub-held c =
    let once : IsHeldOnce c.in-Some-Some.field-0 = rw c.in-Some-Some.is at c.lock_at.ensures.once in
    once c.in-Some-Some.held c.in-Some-Some.field-0-is
