use Rattle.std.proofs.Common.{◌∙◌, sym, subst}
use Rattle.gomp_locks.specs.Book.{BookView}
use Rattle.gomp_core.specs.Stands.{Stands}
use Rattle.gomp_core.proofs.Begun.{begun_stands}
use Rattle.gomp_core.proofs.team.Team.new_admitted.Goals as goal

pub returns-clause-stands : goal.returns-clause-stands
returns-clause-stands g c = λ before begins.
    subst (λ (book : BookView). Stands g.S.Shares.stands g.S.Shares.members (record { icv = c.args.icv; board = c.in_ok-new.field-0; waits = c.in_ok-none_wait.field-0.items; leaving = c.in_ok-none_leave.field-0.items; book = book; shares = c.in_ok-make.field-0 }) before) (sym c.book.view_is)
    (begun_stands g.S.Shares.stands g.S.Shares.members c.args.count c.args.limits c.args.icv c.in_ok-new.field-0 c.in_ok-none_wait.field-0.items c.in_ok-none_leave.field-0.items c.args.book c.in_ok-make.field-0 before c.requires.size c.requires.capped begins
    (record {
      members_are = c.in_ok-new.ensures.members;
      limits_are = c.in_ok-new.ensures.limits ∙ c.requires.capped;
      room = c.in_ok-new.ensures.room;
      board_is = c.in_ok-new.ensures.stands;
      shares_are = c.in_ok-make.ensures.stands;
      size = c.in_ok-make.ensures.members;
    })
    c.in_ok-none_wait.ensures c.in_ok-none_leave.ensures)

pub invariant_of-result-2 : goal.invariant_of-result-2
invariant_of-result-2 g c = let (before, begins) = c.requires.known in (before, returns-clause-stands g c before begins)
