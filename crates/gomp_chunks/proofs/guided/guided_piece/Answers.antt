use Rattle.std.proofs.Common.{◌≡◌, sym, arith}
use Rattle.std.proofs.lemmas.Option.{slice_get_within}
use Rattle.gomp_types.specs.Pieces.{guided_pieces}
use Rattle.gomp_chunks.proofs.GuidedSpots.{few_pieces, no_piece_past_the_last, piece_there}
use Rattle.gomp_chunks.proofs.guided.guided_piece.Goals as goal

pub returns-then-spot-shape-clause-piece : goal.returns-then-spot-shape-clause-piece
returns-then-spot-shape-clause-piece c =
    let there = c.requires.there in
    let left = c.if-spot-shape.true in
    let here : c.args.spot.number ≡ c.args.j = grind (arith, there, left) in
    sym (rw (here, ← c.size_from.ensures) at (piece_there c.args.members c.args.shape.now c.args.spot c.requires.spot left))

pub returns-then-spot-shape-clause-number : goal.returns-then-spot-shape-clause-number
returns-then-spot-shape-clause-number c =
    let there = c.requires.there in
    let left = c.if-spot-shape.true in
    let here : c.args.spot.number ≡ c.args.j = grind (arith, there, left) in
    let within = slice_get_within (guided_pieces c.args.shape.now.trips c.args.members c.args.shape.now.chunk) c.args.spot.number _ (piece_there c.args.members c.args.shape.now c.args.spot c.requires.spot left) in
    let few = few_pieces c.args.shape.now.trips c.args.members c.args.shape.now.chunk in
    omega arith

pub returns-else-spot-shape-clause-piece : goal.returns-else-spot-shape-clause-piece
returns-else-spot-shape-clause-piece c =
    let most = c.requires.spot.within in
    let past = c.if-spot-shape.false in
    sym (no_piece_past_the_last c.args.members c.args.shape.now c.args.spot c.args.j c.requires.spot (omega arith) c.requires.ahead)
