use Rattle.std.proofs.Common.{ℕ, ◌+◌, ap, ◌∙◌, subst}
use Rattle.gomp_locks.specs.Book.{BookView}
use Rattle.gomp_locks.specs.BookCalls.{end_critical}
use Rattle.gomp_team_book.specs.Others.{LeavesOthers}
use Rattle.gomp_team_book.proofs.Kept.{release_keeps_books, call_leaves_others}
use Rattle.gomp_team_book.proofs.Moved.{critical_end_frees, critical_end_holds_nothing}
use Rattle.gomp_team_book.proofs.locked_book.LockedBook.critical_end.Goals as goal

pub invariant_of-self : goal.invariant_of-self
invariant_of-self g c =
    release_keeps_books g.H.HoldLedger.before c.self.inside.held.total c.self.inside.freed.total c.count.new.ledger.total c.args.owner (end_critical c.args.name.now) c.critical_end-reply.result c.self.inside.book c.critical_end-reply.new.self c.self.invariant c.critical_end-reply.ensures.answer c.critical_end-reply.ensures.book (critical_end_holds_nothing c.args.name.now c.critical_end-reply.result)
    (c.count.ensures.total ∙ ap (λ (n : ℕ). c.self.inside.freed.total + n) (c.one_if_finished.ensures ∙ critical_end_frees c.args.name.now c.critical_end-reply.result))

pub returns-clause-others : goal.returns-clause-others
returns-clause-others g c =
    subst (λ (book : BookView). LeavesOthers c.args.owner book c.critical_end-reply.new.self) c.self.view_is (call_leaves_others c.args.owner (end_critical c.args.name.now) c.critical_end-reply.result c.self.inside.book c.critical_end-reply.new.self c.critical_end-reply.ensures.answer c.critical_end-reply.ensures.book)
