use Rattle.std.proofs.Common.{ℕ, ◌+◌, ap, ◌∙◌, subst}
use Rattle.gomp_locks.specs.Book.{BookView}
use Rattle.gomp_locks.specs.BookCalls.{test_lock}
use Rattle.gomp_team_book.specs.Others.{LeavesOthers}
use Rattle.gomp_team_book.proofs.Kept.{hold_keeps_books, call_leaves_others}
use Rattle.gomp_team_book.proofs.Moved.{test_holds, test_frees_nothing}
use Rattle.gomp_team_book.proofs.locked_book.LockedBook.test.Goals as goal

pub invariant_of-self : goal.invariant_of-self
invariant_of-self g c =
    hold_keeps_books g.H.HoldLedger.before c.self.inside.held.total c.count.new.ledger.total c.self.inside.freed.total c.args.owner (test_lock c.args.number) c.test-reply.result c.self.inside.book c.test-reply.new.self c.self.invariant c.test-reply.ensures.answer c.test-reply.ensures.book (test_frees_nothing c.args.number c.test-reply.result)
    (c.count.ensures.total ∙ ap (λ (n : ℕ). c.self.inside.held.total + n) (c.one_if_got.ensures ∙ test_holds c.args.number c.test-reply.result))

pub returns-clause-others : goal.returns-clause-others
returns-clause-others g c =
    subst (λ (book : BookView). LeavesOthers c.args.owner book c.test-reply.new.self) c.self.view_is (call_leaves_others c.args.owner (test_lock c.args.number) c.test-reply.result c.self.inside.book c.test-reply.new.self c.test-reply.ensures.answer c.test-reply.ensures.book)
