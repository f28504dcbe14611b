use Rattle.std.proofs.Common.{reverse, subst}
use Rattle.gomp_events.specs.Laws.{Always}
use Rattle.gomp_events.specs.Arrivals.{ArrivalRule}
use Rattle.gomp_events.specs.TaskRules.{TaskRule}
use Rattle.gomp_board.specs.Boards.{members_of}
use Rattle.gomp_board.specs.KeptLaws.{KeepsLaws}
use Rattle.gomp_waits.specs.Waits.{WaitBoardView}
use Rattle.gomp_waits.proofs.wait_board.WaitBoard.history.Goals as goal

pub returns-clause-tasks : goal.returns-clause-tasks
returns-clause-tasks c = subst (λ (v : WaitBoardView). Always (TaskRule (members_of v.board)) (reverse c.history.result.now)) c.self.view_is c.history.ensures.tasks

pub returns-clause-arrivals : goal.returns-clause-arrivals
returns-clause-arrivals c = subst (λ (v : WaitBoardView). Always (ArrivalRule (members_of v.board)) (reverse c.history.result.now)) c.self.view_is c.history.ensures.arrivals

pub returns-clause-laws : goal.returns-clause-laws
returns-clause-laws c = subst (λ (v : WaitBoardView). KeepsLaws (members_of v.board) (reverse c.history.result.now)) c.self.view_is c.history.ensures.laws
