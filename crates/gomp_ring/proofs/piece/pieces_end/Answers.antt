use Rattle.std.proofs.Common.{arith}
use Rattle.gomp_ring.proofs.SeatCalls.{none_dealt_past, none_after_all}
use Rattle.gomp_ring.proofs.piece.pieces_end.Goals as goal

pub returns-in-Dynamic : goal.returns-in-Dynamic
returns-in-Dynamic c = record { none = none_after_all _ _ _ c.in-Dynamic.is c.div_ceil.ensures }

pub returns-in_default : goal.returns-in_default
returns-in_default c = record { none = none_dealt_past _ _ _ c.requires.team c.requires.shape (omega arith) }
