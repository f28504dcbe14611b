use Rattle.std.proofs.Common.{arith, inl, inr}
use Rattle.gomp_chunks.proofs.GuidedSpots.{few_pieces, spot_counts}
use Rattle.gomp_chunks.proofs.guided.guided_count.Goals as goal

pub returns-clause-count : goal.returns-clause-count
returns-clause-count c =
    let spot = c.spot_ahead.ensures.spot in
    let number = spot.number in
    let few = few_pieces c.args.shape.now.trips c.args.members c.args.shape.now.chunk in
    elim c.spot_ahead.ensures.there [
      | inl all ↦ omega arith
      | inr past ↦ spot_counts c.args.members c.args.shape.now c.spot_ahead.result spot past
    ]
