use Rattle.std.proofs.Common.{ℕ, ◌+◌, ap, ◌∙◌, subst}
use Rattle.gomp_locks.specs.Book.{BookView}
use Rattle.gomp_locks.specs.BookCalls.{start_critical}
use Rattle.gomp_team_book.specs.Others.{LeavesOthers}
use Rattle.gomp_team_book.proofs.Kept.{hold_keeps_books, call_leaves_others}
use Rattle.gomp_team_book.proofs.Moved.{critical_start_holds, critical_start_frees_nothing}
use Rattle.gomp_team_book.proofs.locked_book.LockedBook.critical_start.Goals as goal

pub invariant_of-self : goal.invariant_of-self
invariant_of-self g c =
    hold_keeps_books g.H.HoldLedger.before c.self.inside.held.total c.count.new.ledger.total c.self.inside.freed.total c.args.owner (start_critical c.args.name.now) c.critical_start-reply.result c.self.inside.book c.critical_start-reply.new.self c.self.invariant c.critical_start-reply.ensures.answer c.critical_start-reply.ensures.book (critical_start_frees_nothing c.args.name.now c.critical_start-reply.result)
    (c.count.ensures.total ∙ ap (λ (n : ℕ). c.self.inside.held.total + n) (c.one_if_finished.ensures ∙ critical_start_holds c.args.name.now c.critical_start-reply.result))

pub returns-clause-others : goal.returns-clause-others
returns-clause-others g c =
    subst (λ (book : BookView). LeavesOthers c.args.owner book c.critical_start-reply.new.self) c.self.view_is (call_leaves_others c.args.owner (start_critical c.args.name.now) c.critical_start-reply.result c.self.inside.book c.critical_start-reply.new.self c.critical_start-reply.ensures.answer c.critical_start-reply.ensures.book)
