use Rattle.std.proofs.Common.{refl, subst}
use Rattle.gomp_types.specs.declared.task.Owner.{Owner}
use Rattle.gomp_locks.specs.Book.{BookView}
use Rattle.gomp_locks.specs.BookCalls.{destroy_lock}
use Rattle.gomp_team_book.specs.Others.{LeavesOthers}
use Rattle.gomp_team_book.proofs.Kept.{making_keeps_books, call_leaves_others}
use Rattle.gomp_team_book.proofs.locked_book.LockedBook.lock_destroy.Goals as goal

pub invariant_of-self : goal.invariant_of-self
invariant_of-self g c =
    making_keeps_books g.H.HoldLedger.before c.self.inside.held.total c.self.inside.freed.total (record { team = 0; member = 0; task = 0 }) (destroy_lock c.args.number) c.lock_destroy.result c.self.inside.book c.lock_destroy.new.self c.self.invariant c.lock_destroy.ensures.answer c.lock_destroy.ensures.book refl refl

pub returns-clause-others : goal.returns-clause-others
returns-clause-others g c =
    subst (λ (book : BookView). (owner : Owner) → LeavesOthers owner book c.lock_destroy.new.self) c.self.view_is (λ owner. call_leaves_others owner (destroy_lock c.args.number) c.lock_destroy.result c.self.inside.book c.lock_destroy.new.self c.lock_destroy.ensures.answer c.lock_destroy.ensures.book)
