use Rattle.std.proofs.Common.{refl, arith}
use Rattle.gomp_chunks.proofs.GuidedSpots.{next_is_spot}
use Rattle.gomp_chunks.proofs.guided.spot_ahead.Goals as goal

pub loop-spot-preserved : goal.loop-spot-preserved
loop-spot-preserved c =
    let before = c.loop-spot-test.true in (
      next_is_spot c.args.members c.args.shape.now c.loop-spot.spot _ c.requires.shape.some c.loop-spot.invariant.0 c.if-spot-shape.true refl (rw c.size_from.ensures refl),
      omega arith,
    )
