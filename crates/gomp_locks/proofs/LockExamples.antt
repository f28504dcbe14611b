-- Worked examples of the calls on locks, computed. OpenMP API 5.2, section 18.9; libgomp's lock.c.
use Rattle.std.proofs.Common.{length, ◌≡◌, true, false, [], ◌∷◌, Some, None, refl}
use Rattle.std.specs.Prelude.{map}
use Rattle.gomp_types.specs.declared.lock.LockKind.TheVariants.{Simple, Nest}
use Rattle.gomp_types.specs.declared.refusal.Refusal.TheVariants.{AlreadyHeld, NotHolder, NoLock, CountTooLarge, NoMemory}
use Rattle.gomp_types.specs.declared.reply.Reply.TheVariants.{Finished, Wait, Lock as LockMade, Got, Count, Refused}
use Rattle.gomp_types.specs.Least.{least}
use Rattle.gomp_locks.specs.Book.{BookView, lock_at, any_lock_at, open_holds}
use Rattle.gomp_locks.specs.Locks.{MakesLock, destroy_tests, gone_tests, set_tests, SetsLock, test_tests, TestsLock, unset_tests, nest_tests, SetsNest, WaitsNest, TestsNest, UnsetsNest}
use Rattle.gomp_locks.specs.BookCalls.{CallAnswered, after_call, start_critical, make_lock, destroy_lock, set_lock, test_lock, unset_lock, set_nest_lock, test_nest_lock, unset_nest_lock, await_nest_lock}
use Rattle.gomp_locks.proofs.BookExamples.{zero_owner, other_owner, task_owner, empty_book}

-- lock 0 is simple, lock 1 nestable, lock 2 was destroyed; owner 0 has set lock 0 once and lock 1 three times
abbrev pub made : BookView
made = after_call zero_owner (make_lock Simple) (LockMade 2) (after_call zero_owner (make_lock Nest) (LockMade 1) (after_call zero_owner (make_lock Simple) (LockMade 0) empty_book))

abbrev pub set_thrice : BookView
set_thrice = after_call zero_owner (set_nest_lock 1) (Count 3) (after_call zero_owner (test_nest_lock 1) (Count 2) (after_call zero_owner (set_nest_lock 1) (Count 1) (after_call zero_owner (set_lock 0) Finished (after_call zero_owner (destroy_lock 2) Finished made))))

pub locks_made : made.locks ≡ Some (record { kind = Simple; held = None }) ∷ Some (record { kind = Nest; held = None }) ∷ Some (record { kind = Simple; held = None }) ∷ []
locks_made = refl

pub locks_set : set_thrice.locks ≡ Some (record { kind = Simple; held = Some (record { owner = zero_owner; count = 1 }) }) ∷ Some (record { kind = Nest; held = Some (record { owner = zero_owner; count = 3 }) }) ∷ None ∷ []
locks_set = refl

pub four_holds : open_holds set_thrice ≡ 4
four_holds = refl

-- a lock is found by its number and its kind; one that was destroyed, or never made, is none
pub locks_found : map (λ number. any_lock_at number set_thrice) (2 ∷ 3 ∷ []) ≡ None ∷ None ∷ []
locks_found = refl

pub kinds_found : (lock_at Nest 0 set_thrice ≡ None) × (lock_at Simple 1 set_thrice ≡ None) × (lock_at Simple 2 made ≡ Some None)
kinds_found = (refl, refl, refl)

-- the next lock has the number 3, though lock 2 was destroyed
pub next_number : MakesLock (length set_thrice.locks) (LockMade 3)
next_number = refl

pub no_number_again : MakesLock (length set_thrice.locks) (LockMade 2) → ⊥
no_number_again again = absurd (cc)

-- a lock that is held is not destroyed, one that is none neither
pub destroy_refusals : map (λ number. least (destroy_tests (any_lock_at number set_thrice))) (0 ∷ 1 ∷ 2 ∷ 3 ∷ []) ≡ Some AlreadyHeld ∷ Some AlreadyHeld ∷ Some NoLock ∷ Some NoLock ∷ []
destroy_refusals = refl

pub destroy_of_free : least (destroy_tests (any_lock_at 1 made)) ≡ None
destroy_of_free = refl

-- Simple locks

-- the task that holds lock 0 may not set it; another task of its member waits, as another member does
pub set_refusals : map (λ owner. least (set_tests owner (lock_at Simple 0 set_thrice))) (zero_owner ∷ task_owner ∷ other_owner ∷ []) ≡ Some AlreadyHeld ∷ None ∷ None ∷ []
set_refusals = refl

-- a nestable lock and one that was destroyed are no simple lock
pub set_of_no_lock : map (λ number. least (set_tests zero_owner (lock_at Simple number set_thrice))) (1 ∷ 2 ∷ []) ≡ Some NoLock ∷ Some NoLock ∷ []
set_of_no_lock = refl

pub set_or_waited : SetsLock (lock_at Simple 0 made) Finished × SetsLock (lock_at Simple 0 set_thrice) Wait
set_or_waited = (tt, tt)

pub no_setting_held : SetsLock (lock_at Simple 0 set_thrice) Finished → ⊥
no_setting_held never = never

-- a test tells whether the lock was free
pub got_or_not : TestsLock (lock_at Simple 0 made) (Got true) × TestsLock (lock_at Simple 0 set_thrice) (Got false)
got_or_not = (refl, refl)

pub no_testing_held : TestsLock (lock_at Simple 0 set_thrice) (Got true) → ⊥
no_testing_held never = absurd (cc)

pub test_refusals : map (λ number. least (test_tests (lock_at Simple number set_thrice))) (0 ∷ 1 ∷ 2 ∷ []) ≡ None ∷ Some NoLock ∷ Some NoLock ∷ []
test_refusals = refl

pub gone_refusals : map (λ number. least (gone_tests (lock_at Simple number set_thrice))) (0 ∷ 1 ∷ 2 ∷ []) ≡ None ∷ Some NoLock ∷ Some NoLock ∷ []
gone_refusals = refl

-- a test that fails leaves the book
pub failed_test_leaves : after_call other_owner (test_lock 0) (Got false) set_thrice ≡ set_thrice
failed_test_leaves = refl

-- only the task that holds a lock unsets it
pub unset_refusals : map (λ owner. least (unset_tests owner (lock_at Simple 0 set_thrice))) (zero_owner ∷ task_owner ∷ other_owner ∷ []) ≡ None ∷ Some NotHolder ∷ Some NotHolder ∷ []
unset_refusals = refl

pub unset_of_free : (least (unset_tests zero_owner (lock_at Simple 0 made)) ≡ Some NotHolder) × (least (unset_tests zero_owner (lock_at Simple 2 set_thrice)) ≡ Some NoLock)
unset_of_free = (refl, refl)

-- it is free then, and there still
pub unset_leaves : lock_at Simple 0 (after_call zero_owner (unset_lock 0) Finished set_thrice) ≡ Some None
unset_leaves = refl

-- Nestable locks

-- the task that holds lock 1 sets it a fourth time; another is answered 0 by a test, and waits to set it
pub setting_again : SetsNest zero_owner (lock_at Nest 1 set_thrice) (Count 4) × TestsNest zero_owner (lock_at Nest 1 set_thrice) (Count 4)
setting_again = ((refl, refl), refl)

pub setting_of_another : SetsNest other_owner (lock_at Nest 1 set_thrice) Wait × TestsNest other_owner (lock_at Nest 1 set_thrice) (Count 0)
setting_of_another = (refl, refl)

pub first_setting : SetsNest other_owner (lock_at Nest 1 made) (Count 1) × TestsNest other_owner (lock_at Nest 1 made) (Count 1)
first_setting = ((refl, refl), refl)

-- a count too few, a count of another task, waiting for what the task holds
pub no_count_lost : SetsNest zero_owner (lock_at Nest 1 set_thrice) (Count 3) → ⊥
no_count_lost w = absurd (let never = w.1 in cc)

pub no_count_of_another : SetsNest task_owner (lock_at Nest 1 set_thrice) (Count 4) → ⊥
no_count_of_another w = absurd (let never = w.0 in cc)

pub no_waiting_for_own : SetsNest zero_owner (lock_at Nest 1 set_thrice) Wait → ⊥
no_waiting_for_own w = absurd (cc)

-- a task that waited sets a lock that nobody holds, once; it waits on while another task holds it
pub waiting_task_goes_on : WaitsNest other_owner (lock_at Nest 1 made) (Count 1) × WaitsNest other_owner (lock_at Nest 1 set_thrice) Wait
waiting_task_goes_on = ((refl, refl), refl)

pub lock_set_after_a_wait : lock_at Nest 1 (after_call other_owner (await_nest_lock 1) (Count 1) made) ≡ Some (Some (record { owner = other_owner; count = 1 }))
lock_set_after_a_wait = refl

pub wait_for_a_nestable_lock_leaves : after_call other_owner (await_nest_lock 1) Wait set_thrice ≡ set_thrice
wait_for_a_nestable_lock_leaves = refl

-- it does not wait for a free lock, and is told no count of another task
pub no_wait_for_a_free_nestable_lock : WaitsNest other_owner (lock_at Nest 1 made) Wait → ⊥
no_wait_for_a_free_nestable_lock w = absurd (cc)

pub no_count_of_a_holder : WaitsNest other_owner (lock_at Nest 1 set_thrice) (Count 4) → ⊥
no_count_of_a_holder w = absurd (let never = w.0 in cc)

-- if it held the lock itself, 65,534 times would become 65,535, and then it would wait
pub wait_limit : WaitsNest zero_owner (Some (Some (record { owner = zero_owner; count = 65534 }))) (Count 65535) × WaitsNest zero_owner (Some (Some (record { owner = zero_owner; count = 65535 }))) Wait
wait_limit = ((refl, refl), refl)

-- a failed test leaves the count
pub failed_nest_test_leaves : after_call other_owner (test_nest_lock 1) (Count 0) set_thrice ≡ set_thrice
failed_nest_test_leaves = refl

-- 65,534 times may become 65,535, and no more; another task's count is not asked for
pub nest_limit :
    map (λ count. least (nest_tests zero_owner (Some (Some (record { owner = zero_owner; count = count }))))) (65534 ∷ 65535 ∷ []) ≡ None ∷ Some CountTooLarge ∷ []
nest_limit = refl

pub nest_limit_of_another : least (nest_tests other_owner (Some (Some (record { owner = zero_owner; count = 65535 })))) ≡ None
nest_limit_of_another = refl

pub nest_of_no_lock : map (λ number. least (nest_tests zero_owner (lock_at Nest number set_thrice))) (0 ∷ 2 ∷ []) ≡ Some NoLock ∷ Some NoLock ∷ []
nest_of_no_lock = refl

-- it is unset three times, and free after the last
pub unset_once_less : UnsetsNest zero_owner (lock_at Nest 1 set_thrice) (Count 2)
unset_once_less = refl

pub no_unsetting_of_another : UnsetsNest other_owner (lock_at Nest 1 set_thrice) (Count 2) → ⊥
no_unsetting_of_another w = absurd (cc)

pub unset_thrice :
    lock_at Nest 1 (after_call zero_owner (unset_nest_lock 1) (Count 0) (after_call zero_owner (unset_nest_lock 1) (Count 1) (after_call zero_owner (unset_nest_lock 1) (Count 2) set_thrice))) ≡ Some None
unset_thrice = refl

pub unset_once_leaves : lock_at Nest 1 (after_call zero_owner (unset_nest_lock 1) (Count 2) set_thrice) ≡ Some (Some (record { owner = zero_owner; count = 2 }))
unset_once_leaves = refl

-- Want of memory

pub memory_may_lack : CallAnswered zero_owner (start_critical (97 ∷ [])) empty_book (Refused NoMemory) × CallAnswered zero_owner (make_lock Nest) made (Refused NoMemory)
memory_may_lack = (refl, refl)
