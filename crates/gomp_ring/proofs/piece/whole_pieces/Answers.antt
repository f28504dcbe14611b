use Rattle.gomp_ring.proofs.SeatCalls.{whole_chunks}
use Rattle.gomp_ring.proofs.piece.whole_pieces.Goals as goal

pub returns-in-Dynamic : goal.returns-in-Dynamic
returns-in-Dynamic c = record { whole = whole_chunks _ _ c.requires.shape c.in-Dynamic.is }
