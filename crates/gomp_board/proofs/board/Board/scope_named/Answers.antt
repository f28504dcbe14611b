use Rattle.std.proofs.Common.{◌≡◌, subst, reverse}
use Rattle.std.specs.Prelude.{None}
use Rattle.gomp_types.specs.Least.{least}
use Rattle.gomp_events.specs.CancelCalls.{cancel_tests}
use Rattle.gomp_board.specs.Ops.{named_kind}
use Rattle.gomp_board.specs.declared.op.TeamCancel.{TeamCancel}
use Rattle.gomp_board.specs.contracts.board.Board.{the_view}
use Rattle.gomp_board.proofs.BoardEvents.{stands_now}
use Rattle.gomp_board.proofs.Cancelled.{never_without_group}
use Rattle.gomp_board.proofs.board.Board.scope_named.Goals as goal

pub unreachable-requires : goal.unreachable-requires
unreachable-requires c =
    let b = the_view c.self.inside in let own = reverse b.history in let st = c.self.invariant.stands in
    never_without_group c.args.member c.innermost_group.result own (c.innermost_group.ensures.value own st.scheduler) c.in_default.is (subst (λ (n : TeamCancel). least (cancel_tests (named_kind n) c.args.member own) ≡ None) c.in-Taskgroup.is (c.requires.may own (stands_now _ _ own c.self.view_is st)))
