use Rattle.std.proofs.Common.{ℕ, ◌+◌, ap, ◌∙◌, subst}
use Rattle.gomp_locks.specs.Book.{BookView}
use Rattle.gomp_locks.specs.BookCalls.{unset_nest_lock}
use Rattle.gomp_team_book.specs.Others.{LeavesOthers}
use Rattle.gomp_team_book.proofs.Kept.{release_keeps_books, call_leaves_others}
use Rattle.gomp_team_book.proofs.Moved.{unset_nest_frees, unset_nest_holds_nothing}
use Rattle.gomp_team_book.proofs.locked_book.LockedBook.unset_nest.Goals as goal

pub invariant_of-self : goal.invariant_of-self
invariant_of-self g c =
    release_keeps_books g.H.HoldLedger.before c.self.inside.held.total c.self.inside.freed.total c.count.new.ledger.total c.args.owner (unset_nest_lock c.args.number) c.unset_nest-reply.result c.self.inside.book c.unset_nest-reply.new.self c.self.invariant c.unset_nest-reply.ensures.answer c.unset_nest-reply.ensures.book (unset_nest_holds_nothing c.args.number c.unset_nest-reply.result)
    (c.count.ensures.total ∙ ap (λ (n : ℕ). c.self.inside.freed.total + n) (c.one_if_counted.ensures ∙ unset_nest_frees c.args.number c.unset_nest-reply.result))

pub returns-clause-others : goal.returns-clause-others
returns-clause-others g c =
    subst (λ (book : BookView). LeavesOthers c.args.owner book c.unset_nest-reply.new.self) c.self.view_is (call_leaves_others c.args.owner (unset_nest_lock c.args.number) c.unset_nest-reply.result c.self.inside.book c.unset_nest-reply.new.self c.unset_nest-reply.ensures.answer c.unset_nest-reply.ensures.book)
