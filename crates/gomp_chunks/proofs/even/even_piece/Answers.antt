use Rattle.std.proofs.Common.{◌<◌, length, sym, arith}
use Rattle.std.specs.Prelude.{min}
use Rattle.gomp_types.specs.Pieces.{even_pieces}
use Rattle.gomp_chunks.proofs.PieceAt.{length-even_pieces, slice_get-even_pieces, even_within}
use Rattle.gomp_chunks.proofs.even.even_piece.Goals as goal

pub even_start-requires-clause-member : goal.even_start-requires-clause-member
even_start-requires-clause-member c =
    let count = length-even_pieces c.args.shape.now.trips c.args.members in
    let is = c.even_count.ensures.count in
    let within = c.if-j-even_count.false in
    omega arith

pub even_start-requires-2-clause-member : goal.even_start-requires-2-clause-member
even_start-requires-2-clause-member c =
    let count = length-even_pieces c.args.shape.now.trips c.args.members in
    let is = c.even_count.ensures.count in
    let within = c.if-j-even_count.false in
    omega arith

pub returns-clause-piece : goal.returns-clause-piece
returns-clause-piece c =
    let is = c.even_count.ensures.count in
    let within = c.if-j-even_count.false in
    let inside : c.args.j < length (even_pieces c.args.shape.now.trips c.args.members) = omega arith in
    rw (c.even_start.ensures, c.even_start-2.ensures) (sym (slice_get-even_pieces c.args.shape.now.trips c.args.members c.args.j inside))

pub returns-clause-within : goal.returns-clause-within
returns-clause-within c =
    let count = length-even_pieces c.args.shape.now.trips c.args.members in
    let is = c.even_count.ensures.count in
    let within = c.if-j-even_count.false in
    let inside : c.args.j < min c.args.shape.now.trips c.args.members = omega arith in
    rw (c.even_start.ensures, c.even_start-2.ensures) (even_within c.args.shape.now.trips c.args.members c.args.j inside)
