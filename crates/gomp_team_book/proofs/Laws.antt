-- The laws of a book under its lock: the page to read first. They speak of one call by one owner, of the book before and after it,
-- and of the totals of its two ledgers. OpenMP API 5.2, sections 15.2 and 18.9.
use Rattle.std.proofs.Common.{◌≡◌, ℕ, ◌+◌, ◌≤◌, arith}
use Rattle.gomp_types.specs.declared.task.Owner.{Owner}
use Rattle.gomp_types.specs.declared.reply.Reply.{Reply}
use Rattle.gomp_locks.specs.Book.{BookView, open_holds}
use Rattle.gomp_locks.specs.BookCalls.{BookCall, CallAnswered, after_call, holds_gained, holds_lost}
use Rattle.gomp_locks.specs.Order.{IsInOrder}
use Rattle.gomp_team_book.specs.Balance.{IsBalanced, IsLockedBook}
use Rattle.gomp_team_book.specs.Others.{LeavesOthers}
use Rattle.gomp_team_book.proofs.Kept.{call_keeps_books, call_leaves_others}

-- a book in order is balanced by two new ledgers, if what is open in it is what was open before
pub new_ledgers_balance : (book : BookView) → IsInOrder book → IsLockedBook (open_holds book) 0 0 book
new_ledgers_balance book order = record { balanced = omega arith; order = order }

-- each call keeps the balance, if the ledgers move by what its reply says was held and freed
pub calls_keep_the_balance : (before held now_held freed now_freed : ℕ) (owner : Owner) (call : BookCall) (reply : Reply) (book after : BookView) → IsLockedBook before held freed book → CallAnswered owner call book reply → after ≡ after_call owner call reply book →
    now_held ≡ held + holds_gained call reply → now_freed ≡ freed + holds_lost call reply → IsLockedBook before now_held now_freed after
calls_keep_the_balance = call_keeps_books

-- and leaves to every other owner what it holds
pub calls_leave_other_owners : (owner : Owner) (call : BookCall) (reply : Reply) (book after : BookView) → CallAnswered owner call book reply → after ≡ after_call owner call reply book → LeavesOthers owner book after
calls_leave_other_owners = call_leaves_others

-- no more is freed than was held and open before
pub freed_was_held : (before held freed : ℕ) (book : BookView) → IsBalanced before held freed book → freed ≤ before + held
freed_was_held before held freed book balanced = omega (arith, balanced)

-- the totals say how many holds are open
pub totals_say_open_holds : (before held freed count : ℕ) (book : BookView) → IsBalanced before held freed book → count + freed ≡ before + held → open_holds book ≡ count
totals_say_open_holds before held freed count book balanced is = omega (arith, balanced, is)

-- where as many holds are open as before, what was held was freed
pub all_that_was_held_was_freed : (before held freed : ℕ) (book : BookView) → IsBalanced before held freed book → open_holds book ≡ before → held ≡ freed
all_that_was_held_was_freed before held freed book balanced same = omega (arith, balanced, same)
