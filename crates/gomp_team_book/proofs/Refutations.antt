-- What no book under its lock does, of any totals, owners, names, locks, parts and replies.
use Rattle.std.proofs.Common.{◌≡◌, ◌≢◌, ℕ, ◌+◌, ◌<◌, Bool, true, false, List, Option, Some, None, refl, arith}
use Rattle.std.specs.Prelude.{slice_get, nat_lt}
use Rattle.std.proofs.lemmas.Bool.Decides.{nat_tests}
use Rattle.gomp_types.specs.declared.task.Owner.{Owner}
use Rattle.gomp_types.specs.declared.lock.LockKind.TheVariants.{Simple}
use Rattle.gomp_types.specs.declared.lock.Held.{Held}
use Rattle.gomp_types.specs.declared.reply.Reply.{Reply}
use Rattle.gomp_types.specs.declared.reply.Reply.TheVariants.{Finished, Wait, Got, Count}
use Rattle.gomp_types.specs.Owners.{same_owner}
use Rattle.gomp_locks.specs.declared.lock.Lock.{Lock}
use Rattle.gomp_locks.specs.Book.{BookView, open_holds, name_owner, lock_at}
use Rattle.gomp_locks.specs.BookCalls.{BookCall, CallAnswered, after_call, holds_gained, holds_lost, set_lock, test_lock, unset_lock}
use Rattle.gomp_locks.specs.Locks.{SetsLock, TestsLock}
use Rattle.gomp_locks.specs.Order.{IsInOrder}
use Rattle.gomp_team_book.specs.Balance.{IsBalanced, IsLockedBook}
use Rattle.gomp_team_book.specs.Others.{LeavesOthers, IsAnswered}
use Rattle.gomp_team_book.specs.Parts.{BookPartView, IsSomePart, new_book_part, counted_more, merged_book_part}
use Rattle.gomp_team_book.specs.Replies.{one_if_finished, one_if_got, one_if_counted, one_if_set}
use Rattle.gomp_team_book.proofs.Laws.{new_ledgers_balance, calls_keep_the_balance, calls_leave_other_owners, freed_was_held, totals_say_open_holds, all_that_was_held_was_freed}

-- Parts

-- no part is none
pub never_no_part : (part : BookPartView) → part.parts ≡ 0 → IsSomePart part → ⊥
never_no_part part none some = absurd (omega (arith, none, some))

-- a new one has no other size, and nothing was counted on it
pub never_another_size : (parts : ℕ) → (new_book_part parts).parts ≢ parts → ⊥
never_another_size parts other = other refl

pub never_counted_when_new : (parts : ℕ) → (new_book_part parts).amount ≢ 0 → ⊥
never_counted_when_new parts counted = counted refl

-- what counts more loses no part, and counts no other number
pub never_a_part_lost_by_counting : (more : ℕ) (part : BookPartView) → (counted_more more part).parts ≢ part.parts → ⊥
never_a_part_lost_by_counting more part other = other refl

pub no_other_reply_counted : (more : ℕ) (part : BookPartView) → (counted_more more part).amount ≢ part.amount + more → ⊥
no_other_reply_counted more part other = other refl

-- two parts in one lose none, and nothing that was counted
pub never_a_part_lost_by_merging : (part other : BookPartView) → (merged_book_part part other).parts ≢ part.parts + other.parts → ⊥
never_a_part_lost_by_merging part other lost = lost refl

pub never_a_count_lost_by_merging : (part other : BookPartView) → (merged_book_part part other).amount ≢ part.amount + other.amount → ⊥
never_a_count_lost_by_merging part other lost = lost refl

-- The balance

-- no hold is counted twice or left out, and no release
pub never_two_totals_of_holds : (before held other freed : ℕ) (book : BookView) → held ≢ other → IsBalanced before held freed book → IsBalanced before other freed book → ⊥
never_two_totals_of_holds before held other freed book differ one two = differ (omega (arith, one, two))

pub never_two_totals_of_releases : (before held freed other : ℕ) (book : BookView) → freed ≢ other → IsBalanced before held freed book → IsBalanced before held other book → ⊥
never_two_totals_of_releases before held freed other book differ one two = differ (omega (arith, one, two))

-- nor is what was open before
pub never_two_beginnings : (before other held freed : ℕ) (book : BookView) → before ≢ other → IsBalanced before held freed book → IsBalanced other held freed book → ⊥
never_two_beginnings before other held freed book differ one two = differ (omega (arith, one, two))

-- no two books with other open holds have the same totals
pub never_other_open_holds_by_totals : (before held freed : ℕ) (book other : BookView) → open_holds book ≢ open_holds other → IsBalanced before held freed book → IsBalanced before held freed other → ⊥
never_other_open_holds_by_totals before held freed book other differ one two = differ (omega (arith, one, two))

-- no more is freed than was held and open before
pub no_hold_freed_unheld : (before held freed : ℕ) (book : BookView) → before + held < freed → IsBalanced before held freed book → ⊥
no_hold_freed_unheld before held freed book more balanced = let most = freed_was_held before held freed book balanced in absurd (omega (arith, more, most))

-- the totals never say another number of open holds
pub never_other_than_the_totals_say : (before held freed count : ℕ) (book : BookView) → count + freed ≡ before + held → open_holds book ≢ count → IsBalanced before held freed book → ⊥
never_other_than_the_totals_say before held freed count book is differ balanced = differ (totals_say_open_holds before held freed count book balanced is)

-- where as many are open as before nothing is left that was held and not freed
pub never_left_when_as_before : (before held freed : ℕ) (book : BookView) → open_holds book ≡ before → held ≢ freed → IsBalanced before held freed book → ⊥
never_left_when_as_before before held freed book same differ balanced = differ (all_that_was_held_was_freed before held freed book balanced same)

-- no book out of order lies under the lock, nor one that its ledgers don't balance
pub never_out_of_order : (before held freed : ℕ) (book : BookView) → (IsInOrder book → ⊥) → IsLockedBook before held freed book → ⊥
never_out_of_order before held freed book broken keeps = broken keeps.order

pub never_out_of_balance : (before held freed : ℕ) (book : BookView) → (IsBalanced before held freed book → ⊥) → IsLockedBook before held freed book → ⊥
never_out_of_balance before held freed book broken keeps = broken keeps.balanced

-- new ledgers never miss what was open before
pub never_unbalanced_when_new : (book : BookView) → IsInOrder book → (IsLockedBook (open_holds book) 0 0 book → ⊥) → ⊥
never_unbalanced_when_new book order broken = broken (new_ledgers_balance book order)

-- no call leaves a book that ledgers which move by its reply don't balance
pub never_unbalanced_by_a_call : (before held now_held freed now_freed : ℕ) (owner : Owner) (call : BookCall) (reply : Reply) (book after : BookView) → IsLockedBook before held freed book → CallAnswered owner call book reply → after ≡ after_call owner call reply book →
    now_held ≡ held + holds_gained call reply → now_freed ≡ freed + holds_lost call reply → (IsLockedBook before now_held now_freed after → ⊥) → ⊥
never_unbalanced_by_a_call before held now_held freed now_freed owner call reply book after keeps answered is more less broken =
    broken (calls_keep_the_balance before held now_held freed now_freed owner call reply book after keeps answered is more less)

-- What others hold

-- no critical name is taken from another owner
pub never_name_taken_from_another : (owner other : Owner) (name : List ℕ) (book after : BookView) → same_owner other owner ≡ false → name_owner name book ≡ Some other → (name_owner name after ≡ Some other → ⊥) → LeavesOthers owner book after → ⊥
never_name_taken_from_another owner other name book after apart has lost leaves = lost (leaves.names other name apart has)

-- nor a lock, nor a count of it
pub never_lock_taken_from_another : (owner : Owner) (number : ℕ) (lock : Lock) (held : Held) (book after : BookView) → lock.held ≡ Some held → same_owner held.owner owner ≡ false → slice_get book.locks number ≡ Some (Some lock) →
    (slice_get after.locks number ≡ Some (Some lock) → ⊥) → LeavesOthers owner book after → ⊥
never_lock_taken_from_another owner number lock held book after has apart there lost leaves = lost (leaves.locks number lock held has apart there)

-- by no call
pub never_taken_from_another_by_a_call : (owner : Owner) (call : BookCall) (reply : Reply) (book after : BookView) → CallAnswered owner call book reply → after ≡ after_call owner call reply book → (LeavesOthers owner book after → ⊥) → ⊥
never_taken_from_another_by_a_call owner call reply book after answered is taken = taken (calls_leave_other_owners owner call reply book after answered is)

-- Replies

-- the setting of a lock is never answered as a test, whatever book lies under the lock
sets_no_test : (found : Option (Option Held)) (free : Bool) → SetsLock found (Got free) → ⊥
sets_no_test None free answer = answer
sets_no_test (Some None) free answer = answer
sets_no_test (Some (Some held)) free answer = answer

pub never_set_as_a_test : (owner : Owner) (number : ℕ) (free : Bool) → IsAnswered owner (set_lock number) (Got free) → ⊥
never_set_as_a_test owner number free answered = sets_no_test (lock_at Simple number answered.0) free answered.1.1

-- a test never waits
tests_no_wait : (found : Option (Option Held)) → TestsLock found Wait → ⊥
tests_no_wait None answer = answer
tests_no_wait (Some held) answer = answer

pub never_a_test_that_waits : (owner : Owner) (number : ℕ) → IsAnswered owner (test_lock number) Wait → ⊥
never_a_test_that_waits owner number answered = tests_no_wait (lock_at Simple number answered.0) answered.1.1

-- nor does a release
pub never_a_release_that_waits : (owner : Owner) (number : ℕ) → IsAnswered owner (unset_lock number) Wait → ⊥
never_a_release_that_waits owner number answered = absurd (let never = answered.1.1 in cc)

-- a reply counts only for what it says
pub never_counted_unfinished : (reply : Reply) → (reply ≡ Finished → ⊥) → one_if_finished reply ≢ 0 → ⊥
never_counted_unfinished Finished wrong counted = wrong refl
never_counted_unfinished _ wrong counted = counted refl

pub never_counted_ungot : (reply : Reply) → (reply ≡ Got true → ⊥) → one_if_got reply ≢ 0 → ⊥
never_counted_ungot (Got true) wrong counted = wrong refl
never_counted_ungot (Got false) wrong counted = counted refl
never_counted_ungot _ wrong counted = counted refl

pub never_counted_untold : (reply : Reply) → ((count : ℕ) → reply ≡ Count count → ⊥) → one_if_counted reply ≢ 0 → ⊥
never_counted_untold (Count count) wrong counted = wrong count refl
never_counted_untold _ wrong counted = counted refl

pub never_counted_without_a_setting : (reply : Reply) → ((count : ℕ) → reply ≡ Count count → ⊥) → one_if_set reply ≢ 0 → ⊥
never_counted_without_a_setting (Count count) wrong counted = wrong count refl
never_counted_without_a_setting _ wrong counted = counted refl

-- a test that sets a nestable lock counts, and one that fails does not
pub never_a_setting_uncounted : (count : ℕ) → 0 < count → one_if_set (Count count) ≢ 1 → ⊥
never_a_setting_uncounted count some uncounted = let less : nat_lt 0 count ≡ true = grind (arith, nat_tests, some) in uncounted (rw less refl)

pub never_a_failed_test_counted : one_if_set (Count 0) ≢ 0 → ⊥
never_a_failed_test_counted counted = counted refl
