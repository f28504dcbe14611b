-- The calls of a lock book by one owner: which reply each may give, and the book after it. The laws of a book speak of them. OpenMP API 5.2, sections 15.2 and 18.9.
use Rattle.std.specs.Prelude.{ℕ, ◌≡◌, nat_lt, if◌then◌else◌, true, length, List, []}
use Rattle.gomp_types.specs.declared.task.Owner.{Owner}
use Rattle.gomp_types.specs.declared.lock.LockKind.{LockKind}
use Rattle.gomp_types.specs.declared.lock.LockKind.TheVariants.{Simple, Nest}
use Rattle.gomp_types.specs.declared.reply.Reply.{Reply}
use Rattle.gomp_types.specs.declared.reply.Reply.TheVariants.{Finished, Got, Count}
use Rattle.gomp_types.specs.Least.{Answers}
use Rattle.gomp_locks.specs.Book.{BookView, AnswersOrLacks, name_owner, lock_at, any_lock_at}
use Rattle.gomp_locks.specs.CriticalNames.{critical_start_tests, EntersCritical, after_critical_start, critical_end_tests, after_critical_end}
use Rattle.gomp_locks.specs.Locks.{init_tests, MakesLock, after_init, destroy_tests, after_destroy, gone_tests, set_tests, SetsLock, after_set, test_tests, TestsLock, after_test, unset_tests, after_unset, nest_tests, SetsNest, WaitsNest, after_set_nest, TestsNest, after_test_nest, UnsetsNest, after_unset_nest}

-- a call: of a critical name, or of a lock by its number; the last three go on with one that waits
pub data BookCall : Type 0 where
  start_critical : List ℕ → BookCall
  end_critical : List ℕ → BookCall
  make_lock : LockKind → BookCall
  destroy_lock : ℕ → BookCall
  set_lock : ℕ → BookCall
  test_lock : ℕ → BookCall
  unset_lock : ℕ → BookCall
  set_nest_lock : ℕ → BookCall
  test_nest_lock : ℕ → BookCall
  unset_nest_lock : ℕ → BookCall
  await_critical : List ℕ → BookCall
  await_lock : ℕ → BookCall
  await_nest_lock : ℕ → BookCall

-- the reply is one that this owner may get for the call
abbrev pub CallAnswered : Owner → BookCall → BookView → Reply → Type 0
CallAnswered owner (start_critical name) book reply = AnswersOrLacks (critical_start_tests owner name (name_owner name book)) (EntersCritical (name_owner name book)) reply
CallAnswered owner (end_critical name) book reply = Answers (critical_end_tests owner name (name_owner name book)) (λ reply. reply ≡ Finished) reply
CallAnswered owner (make_lock kind) book reply = AnswersOrLacks (init_tests (length book.locks)) (MakesLock (length book.locks)) reply
CallAnswered owner (destroy_lock number) book reply = Answers (destroy_tests (any_lock_at number book)) (λ reply. reply ≡ Finished) reply
CallAnswered owner (set_lock number) book reply = Answers (set_tests owner (lock_at Simple number book)) (SetsLock (lock_at Simple number book)) reply
CallAnswered owner (test_lock number) book reply = Answers (test_tests (lock_at Simple number book)) (TestsLock (lock_at Simple number book)) reply
CallAnswered owner (unset_lock number) book reply = Answers (unset_tests owner (lock_at Simple number book)) (λ reply. reply ≡ Finished) reply
CallAnswered owner (set_nest_lock number) book reply = Answers (nest_tests owner (lock_at Nest number book)) (SetsNest owner (lock_at Nest number book)) reply
CallAnswered owner (test_nest_lock number) book reply = Answers (nest_tests owner (lock_at Nest number book)) (TestsNest owner (lock_at Nest number book)) reply
CallAnswered owner (unset_nest_lock number) book reply = Answers (unset_tests owner (lock_at Nest number book)) (UnsetsNest owner (lock_at Nest number book)) reply
CallAnswered owner (await_critical name) book reply = AnswersOrLacks [] (EntersCritical (name_owner name book)) reply
CallAnswered owner (await_lock number) book reply = Answers (gone_tests (lock_at Simple number book)) (SetsLock (lock_at Simple number book)) reply
CallAnswered owner (await_nest_lock number) book reply = Answers (gone_tests (lock_at Nest number book)) (WaitsNest owner (lock_at Nest number book)) reply

-- the book after that reply
abbrev pub after_call : Owner → BookCall → Reply → BookView → BookView
after_call owner (start_critical name) reply book = after_critical_start owner name reply book
after_call owner (end_critical name) reply book = after_critical_end name reply book
after_call owner (make_lock kind) reply book = after_init kind reply book
after_call owner (destroy_lock number) reply book = after_destroy number reply book
after_call owner (set_lock number) reply book = after_set owner number reply book
after_call owner (test_lock number) reply book = after_test owner number reply book
after_call owner (unset_lock number) reply book = after_unset number reply book
after_call owner (set_nest_lock number) reply book = after_set_nest owner number reply book
after_call owner (test_nest_lock number) reply book = after_test_nest owner number reply book
after_call owner (unset_nest_lock number) reply book = after_unset_nest owner number reply book
after_call owner (await_critical name) reply book = after_critical_start owner name reply book
after_call owner (await_lock number) reply book = after_set owner number reply book
after_call owner (await_nest_lock number) reply book = after_set_nest owner number reply book

-- how many holds a call with that reply adds
abbrev pub holds_gained : BookCall → Reply → ℕ
holds_gained (start_critical name) Finished = 1
holds_gained (set_lock number) Finished = 1
holds_gained (test_lock number) (Got true) = 1
holds_gained (set_nest_lock number) (Count count) = 1
holds_gained (test_nest_lock number) (Count count) = if nat_lt 0 count then 1 else 0
holds_gained (await_critical name) Finished = 1
holds_gained (await_lock number) Finished = 1
holds_gained (await_nest_lock number) (Count count) = 1
holds_gained _ _ = 0

-- how many holds it ends
abbrev pub holds_lost : BookCall → Reply → ℕ
holds_lost (end_critical name) Finished = 1
holds_lost (unset_lock number) Finished = 1
holds_lost (unset_nest_lock number) (Count count) = 1
holds_lost _ _ = 0
