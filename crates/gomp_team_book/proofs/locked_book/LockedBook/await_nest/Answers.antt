use Rattle.std.proofs.Common.{ℕ, ◌+◌, ap, ◌∙◌, subst}
use Rattle.gomp_locks.specs.Book.{BookView}
use Rattle.gomp_locks.specs.BookCalls.{await_nest_lock}
use Rattle.gomp_team_book.specs.Others.{LeavesOthers}
use Rattle.gomp_team_book.proofs.Kept.{hold_keeps_books, call_leaves_others}
use Rattle.gomp_team_book.proofs.Moved.{await_nest_holds, await_nest_frees_nothing}
use Rattle.gomp_team_book.proofs.locked_book.LockedBook.await_nest.Goals as goal

pub invariant_of-self : goal.invariant_of-self
invariant_of-self g c =
    hold_keeps_books g.H.HoldLedger.before c.self.inside.held.total c.count.new.ledger.total c.self.inside.freed.total c.args.owner (await_nest_lock c.args.number) c.nest_if_there-reply.result c.self.inside.book c.nest_if_there-reply.new.book c.self.invariant c.nest_if_there-reply.ensures.answer c.nest_if_there-reply.ensures.book (await_nest_frees_nothing c.args.number c.nest_if_there-reply.result)
    (c.count.ensures.total ∙ ap (λ (n : ℕ). c.self.inside.held.total + n) (c.one_if_counted.ensures ∙ await_nest_holds c.args.number c.nest_if_there-reply.result))

pub returns-clause-others : goal.returns-clause-others
returns-clause-others g c =
    subst (λ (book : BookView). LeavesOthers c.args.owner book c.nest_if_there-reply.new.book) c.self.view_is (call_leaves_others c.args.owner (await_nest_lock c.args.number) c.nest_if_there-reply.result c.self.inside.book c.nest_if_there-reply.new.book c.nest_if_there-reply.ensures.answer c.nest_if_there-reply.ensures.book)
