-- What a book answers is what the laws of a book speak of (`CallAnswered`, `after_call`): of each call the reply and the book that its contract has.
use Rattle.std.specs.Prelude.{◌≡◌, ℕ, List, length}
use Rattle.std.proofs.Common.{refl}
use Rattle.gomp_types.specs.declared.lock.LockKind.{LockKind}
use Rattle.gomp_types.specs.declared.lock.LockKind.TheVariants.{Simple, Nest}
use Rattle.gomp_types.specs.declared.reply.Reply.{Reply}
use Rattle.gomp_types.specs.declared.reply.Reply.TheVariants.{Finished}
use Rattle.gomp_types.specs.declared.task.Owner.{Owner}
use Rattle.gomp_types.specs.Least.{Answers}
use Rattle.gomp_locks.specs.Book.{BookView, AnswersOrLacks, name_owner, lock_at, any_lock_at}
use Rattle.gomp_locks.specs.CriticalNames.{critical_start_tests, EntersCritical, after_critical_start, critical_end_tests, after_critical_end}
use Rattle.gomp_locks.specs.Locks.{init_tests, MakesLock, after_init, destroy_tests, after_destroy, set_tests, SetsLock, after_set, test_tests, TestsLock, after_test, unset_tests, after_unset, nest_tests, SetsNest, after_set_nest, TestsNest, after_test_nest, UnsetsNest, after_unset_nest}
use Rattle.gomp_locks.specs.BookCalls.{CallAnswered, after_call}
use Rattle.gomp_locks.specs.BookCalls.BookCall.{start_critical, end_critical, make_lock, destroy_lock, set_lock, test_lock, unset_lock, set_nest_lock, test_nest_lock, unset_nest_lock}

-- Which replies

pub critical_start_is_answered : (owner : Owner) (name : List ℕ) (book : BookView) (reply : Reply) → AnswersOrLacks (critical_start_tests owner name (name_owner name book)) (EntersCritical (name_owner name book)) reply → CallAnswered owner (start_critical name) book reply
critical_start_is_answered owner name book reply answer = answer

pub critical_end_is_answered : (owner : Owner) (name : List ℕ) (book : BookView) (reply : Reply) → Answers (critical_end_tests owner name (name_owner name book)) (λ reply. reply ≡ Finished) reply → CallAnswered owner (end_critical name) book reply
critical_end_is_answered owner name book reply answer = answer

pub lock_making_is_answered : (owner : Owner) (kind : LockKind) (book : BookView) (reply : Reply) → AnswersOrLacks (init_tests (length book.locks)) (MakesLock (length book.locks)) reply → CallAnswered owner (make_lock kind) book reply
lock_making_is_answered owner kind book reply answer = answer

pub lock_destroying_is_answered : (owner : Owner) (number : ℕ) (book : BookView) (reply : Reply) → Answers (destroy_tests (any_lock_at number book)) (λ reply. reply ≡ Finished) reply → CallAnswered owner (destroy_lock number) book reply
lock_destroying_is_answered owner number book reply answer = answer

pub lock_setting_is_answered : (owner : Owner) (number : ℕ) (book : BookView) (reply : Reply) → Answers (set_tests owner (lock_at Simple number book)) (SetsLock (lock_at Simple number book)) reply → CallAnswered owner (set_lock number) book reply
lock_setting_is_answered owner number book reply answer = answer

pub lock_testing_is_answered : (owner : Owner) (number : ℕ) (book : BookView) (reply : Reply) → Answers (test_tests (lock_at Simple number book)) (TestsLock (lock_at Simple number book)) reply → CallAnswered owner (test_lock number) book reply
lock_testing_is_answered owner number book reply answer = answer

pub lock_unsetting_is_answered : (owner : Owner) (number : ℕ) (book : BookView) (reply : Reply) → Answers (unset_tests owner (lock_at Simple number book)) (λ reply. reply ≡ Finished) reply → CallAnswered owner (unset_lock number) book reply
lock_unsetting_is_answered owner number book reply answer = answer

pub nest_setting_is_answered : (owner : Owner) (number : ℕ) (book : BookView) (reply : Reply) → Answers (nest_tests owner (lock_at Nest number book)) (SetsNest owner (lock_at Nest number book)) reply → CallAnswered owner (set_nest_lock number) book reply
nest_setting_is_answered owner number book reply answer = answer

pub nest_testing_is_answered : (owner : Owner) (number : ℕ) (book : BookView) (reply : Reply) → Answers (nest_tests owner (lock_at Nest number book)) (TestsNest owner (lock_at Nest number book)) reply → CallAnswered owner (test_nest_lock number) book reply
nest_testing_is_answered owner number book reply answer = answer

pub nest_unsetting_is_answered : (owner : Owner) (number : ℕ) (book : BookView) (reply : Reply) → Answers (unset_tests owner (lock_at Nest number book)) (UnsetsNest owner (lock_at Nest number book)) reply → CallAnswered owner (unset_nest_lock number) book reply
nest_unsetting_is_answered owner number book reply answer = answer

-- Which book is there then

pub book_after_critical_start : (owner : Owner) (name : List ℕ) (book : BookView) (reply : Reply) → after_call owner (start_critical name) reply book ≡ after_critical_start owner name reply book
book_after_critical_start owner name book reply = refl

pub book_after_critical_end : (owner : Owner) (name : List ℕ) (book : BookView) (reply : Reply) → after_call owner (end_critical name) reply book ≡ after_critical_end name reply book
book_after_critical_end owner name book reply = refl

pub book_after_lock_making : (owner : Owner) (kind : LockKind) (book : BookView) (reply : Reply) → after_call owner (make_lock kind) reply book ≡ after_init kind reply book
book_after_lock_making owner kind book reply = refl

pub book_after_lock_destroying : (owner : Owner) (number : ℕ) (book : BookView) (reply : Reply) → after_call owner (destroy_lock number) reply book ≡ after_destroy number reply book
book_after_lock_destroying owner number book reply = refl

pub book_after_lock_setting : (owner : Owner) (number : ℕ) (book : BookView) (reply : Reply) → after_call owner (set_lock number) reply book ≡ after_set owner number reply book
book_after_lock_setting owner number book reply = refl

pub book_after_lock_testing : (owner : Owner) (number : ℕ) (book : BookView) (reply : Reply) → after_call owner (test_lock number) reply book ≡ after_test owner number reply book
book_after_lock_testing owner number book reply = refl

pub book_after_lock_unsetting : (owner : Owner) (number : ℕ) (book : BookView) (reply : Reply) → after_call owner (unset_lock number) reply book ≡ after_unset number reply book
book_after_lock_unsetting owner number book reply = refl

pub book_after_nest_setting : (owner : Owner) (number : ℕ) (book : BookView) (reply : Reply) → after_call owner (set_nest_lock number) reply book ≡ after_set_nest owner number reply book
book_after_nest_setting owner number book reply = refl

pub book_after_nest_testing : (owner : Owner) (number : ℕ) (book : BookView) (reply : Reply) → after_call owner (test_nest_lock number) reply book ≡ after_test_nest owner number reply book
book_after_nest_testing owner number book reply = refl

pub book_after_nest_unsetting : (owner : Owner) (number : ℕ) (book : BookView) (reply : Reply) → after_call owner (unset_nest_lock number) reply book ≡ after_unset_nest owner number reply book
book_after_nest_unsetting owner number book reply = refl
