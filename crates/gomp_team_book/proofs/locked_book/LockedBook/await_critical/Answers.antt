use Rattle.std.proofs.Common.{ℕ, ◌+◌, ap, ◌∙◌, subst}
use Rattle.gomp_locks.specs.Book.{BookView}
use Rattle.gomp_locks.specs.BookCalls.{await_critical}
use Rattle.gomp_team_book.specs.Others.{LeavesOthers}
use Rattle.gomp_team_book.proofs.Kept.{hold_keeps_books, call_leaves_others}
use Rattle.gomp_team_book.proofs.Moved.{await_critical_holds, await_critical_frees_nothing}
use Rattle.gomp_team_book.proofs.locked_book.LockedBook.await_critical.Goals as goal

pub invariant_of-self : goal.invariant_of-self
invariant_of-self g c =
    hold_keeps_books g.H.HoldLedger.before c.self.inside.held.total c.count.new.ledger.total c.self.inside.freed.total c.args.owner (await_critical c.args.name.now) c.critical_start_admitted-reply.result c.self.inside.book c.critical_start_admitted-reply.new.self c.self.invariant c.critical_start_admitted-reply.ensures.answer c.critical_start_admitted-reply.ensures.book (await_critical_frees_nothing c.args.name.now c.critical_start_admitted-reply.result)
    (c.count.ensures.total ∙ ap (λ (n : ℕ). c.self.inside.held.total + n) (c.one_if_finished.ensures ∙ await_critical_holds c.args.name.now c.critical_start_admitted-reply.result))

pub returns-clause-others : goal.returns-clause-others
returns-clause-others g c =
    subst (λ (book : BookView). LeavesOthers c.args.owner book c.critical_start_admitted-reply.new.self) c.self.view_is (call_leaves_others c.args.owner (await_critical c.args.name.now) c.critical_start_admitted-reply.result c.self.inside.book c.critical_start_admitted-reply.new.self c.critical_start_admitted-reply.ensures.answer c.critical_start_admitted-reply.ensures.book)
