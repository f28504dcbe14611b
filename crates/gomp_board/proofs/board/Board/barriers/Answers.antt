use Rattle.std.proofs.Common.{◌∙◌, ap}
use Rattle.gomp_board.specs.Boards.{BoardView, members_of}
use Rattle.gomp_board.proofs.board.Board.barriers.Goals as goal

pub returns-clause-members : goal.returns-clause-members
returns-clause-members c = c.barriers.ensures.members ∙ c.self.invariant.members.tasks ∙ ap (λ (board : BoardView). members_of board) c.self.view_is
