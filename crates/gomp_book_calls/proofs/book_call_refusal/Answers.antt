use Rattle.std.proofs.Common.{◌≡◌, ◌∙◌, ℕ, false, refl, ap, inl, inr, length}
use Rattle.gomp_types.specs.Least.{least}
use Rattle.gomp_locks.specs.Locks.{init_tests}
use Rattle.gomp_model.specs.Row.{book_tests}
use Rattle.gomp_model.specs.Calls.{row_of}
use Rattle.gomp_book_calls.proofs.BookLemmas.{as_many_locks}
use Rattle.gomp_book_calls.proofs.book_call_refusal.Goals as goal

pub returns-in-LockInit : goal.returns-in-LockInit
returns-in-LockInit c = λ m p st asks.
    let tests : book_tests false (row_of c.args.call.now) m p ≡ init_tests (length p.locks) =
    elim c.in-LockInit.is [ inl e ↦ rw e refl | inr e ↦ rw e refl ] in
    rw tests (c.lock_init_refusal.ensures ∙ ap (λ (made : ℕ). least (init_tests made)) (as_many_locks c.args.book.now p st))
