use Rattle.std.proofs.Common.{subst, sym}
use Rattle.gomp_waits.specs.Waits.{WaitBoardView, PerformsOrWaits}
use Rattle.gomp_team_board.specs.Locked.{MovesCounts}
use Rattle.gomp_team_board.proofs.locked.LockedBoard.perform.Goals as goal

pub returns-clause-performs : goal.returns-clause-performs
returns-clause-performs g c = subst (λ (v : WaitBoardView). PerformsOrWaits c.args.op.now c.args.member c.args.self.now v c.answer-reply.result) (sym c.most-most.ensures.board) c.answer-reply.ensures.performs

pub returns-clause-counts : goal.returns-clause-counts
returns-clause-counts g c = subst (λ (v : WaitBoardView). MovesCounts c.args.op.now c.args.member c.args.self.now v c.answer-reply.result) (sym c.most-most.ensures.board) c.answer-reply.ensures.counts
