use Rattle.std.proofs.Common.{refl, rules}
use Rattle.gomp_chunks.proofs.GuidedSpots.{start_is_spot}
use Rattle.gomp_chunks.proofs.cursor.Cursor.find_piece.Goals.{then-j-self, else-j-self}
use Rattle.gomp_chunks.proofs.cursor.Cursor.find_piece.Goals as goal

pub spot_from-self-inside-requires-clause-spot : goal.spot_from-self-inside-requires-clause-spot
spot_from-self-inside-requires-clause-spot c = elim c.if-j-self.branch [
  | then-j-self w ↦ rw w.start-is (start_is_spot _ _ _ refl refl)
  | else-j-self w ↦ rw w.start-is c.self.invariant.0.there
]

pub invariant_of-self : goal.invariant_of-self
invariant_of-self c = search rules

pub returns-clause-spot : goal.returns-clause-spot
returns-clause-spot c = search rules
