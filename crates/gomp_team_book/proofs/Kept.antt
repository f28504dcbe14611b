-- What each call keeps of a book and its ledgers.
use Rattle.std.proofs.Common.{◌≡◌, ℕ, ◌+◌, arith}
use Rattle.gomp_types.specs.declared.task.Owner.{Owner}
use Rattle.gomp_types.specs.declared.reply.Reply.{Reply}
use Rattle.gomp_locks.specs.Book.{BookView}
use Rattle.gomp_locks.specs.BookCalls.{BookCall, CallAnswered, after_call, holds_gained, holds_lost}
use Rattle.gomp_locks.proofs.Laws.{holds_move_by_reply, held_name_stays, held_lock_stays, calls_keep_order}
use Rattle.gomp_team_book.specs.Balance.{IsLockedBook}
use Rattle.gomp_team_book.specs.Others.{LeavesOthers}

-- each ledger moves by what the call holds or frees
pub call_keeps_books : (before held now_held freed now_freed : ℕ) (owner : Owner) (call : BookCall) (reply : Reply) (book after : BookView) → IsLockedBook before held freed book → CallAnswered owner call book reply → after ≡ after_call owner call reply book →
    now_held ≡ held + holds_gained call reply → now_freed ≡ freed + holds_lost call reply → IsLockedBook before now_held now_freed after
call_keeps_books before held now_held freed now_freed owner call reply book after keeps answered is more less =
    let moves = holds_move_by_reply owner call reply book keeps.order answered in
    let balanced = keeps.balanced in
    rw is (record { balanced = omega (arith, moves, balanced, more, less); order = calls_keep_order owner call reply book keeps.order })

-- a call that frees nothing moves the ledger of holds alone
pub hold_keeps_books : (before held now freed : ℕ) (owner : Owner) (call : BookCall) (reply : Reply) (book after : BookView) → IsLockedBook before held freed book → CallAnswered owner call book reply → after ≡ after_call owner call reply book →
    holds_lost call reply ≡ 0 → now ≡ held + holds_gained call reply → IsLockedBook before now freed after
hold_keeps_books before held now freed owner call reply book after keeps answered is none more =
    call_keeps_books before held now freed freed owner call reply book after keeps answered is more (omega (arith, none))

-- one that holds nothing moves the ledger of releases alone
pub release_keeps_books : (before held freed now : ℕ) (owner : Owner) (call : BookCall) (reply : Reply) (book after : BookView) → IsLockedBook before held freed book → CallAnswered owner call book reply → after ≡ after_call owner call reply book →
    holds_gained call reply ≡ 0 → now ≡ freed + holds_lost call reply → IsLockedBook before held now after
release_keeps_books before held freed now owner call reply book after keeps answered is none more =
    call_keeps_books before held held freed now owner call reply book after keeps answered is (omega (arith, none)) more

-- one that does neither moves none
pub making_keeps_books : (before held freed : ℕ) (owner : Owner) (call : BookCall) (reply : Reply) (book after : BookView) → IsLockedBook before held freed book → CallAnswered owner call book reply → after ≡ after_call owner call reply book →
    holds_gained call reply ≡ 0 → holds_lost call reply ≡ 0 → IsLockedBook before held freed after
making_keeps_books before held freed owner call reply book after keeps answered is none nothing =
    call_keeps_books before held held freed freed owner call reply book after keeps answered is (omega (arith, none)) (omega (arith, nothing))

-- what another owner holds stays
pub call_leaves_others : (owner : Owner) (call : BookCall) (reply : Reply) (book after : BookView) → CallAnswered owner call book reply → after ≡ after_call owner call reply book → LeavesOthers owner book after
call_leaves_others owner call reply book after answered is = rw is (record {
  names = λ other name apart has. held_name_stays owner other name call reply book apart answered has;
  locks = λ number lock held has apart at. held_lock_stays owner number lock held call reply book has apart answered at;
})
