use Rattle.gomp_board.proofs.Cancelled.{point_told}
use Rattle.gomp_board.proofs.board.Board.point_admitted.Goals as goal

pub returns : goal.returns
returns c = record {
  performs = rw c.both.ensures (point_told c.args.named c.args.allowed c.names_cancelled-cancelled.result c.args.member c.args.self.now c.requires.admitted c.names_cancelled-cancelled.ensures.value);
}
