use Rattle.std.proofs.Common.{sym, arith}
use Rattle.std.proofs.lemmas.Option.{slice_get_past}
use Rattle.gomp_types.specs.Pieces.{dynamic_pieces}
use Rattle.gomp_chunks.proofs.PieceAt.{slice_get-dynamic_pieces, dynamic_begins_within, chunks_within}
use Rattle.gomp_chunks.proofs.chunked.chunked_piece.Goals as goal

pub overflow_mul-first : goal.overflow_mul-first
overflow_mul-first c = grind (arith, dynamic_begins_within c.args.shape.now.trips c.args.shape.now.chunk c.args.j)

pub overflow_add-first : goal.overflow_add-first
overflow_add-first c = grind (arith, dynamic_begins_within c.args.shape.now.trips c.args.shape.now.chunk c.args.j)

pub returns-clause-piece : goal.returns-clause-piece
returns-clause-piece c = grind (arith, slice_get-dynamic_pieces c.args.shape.now.trips c.args.shape.now.chunk c.args.j)

pub returns-clause-within : goal.returns-clause-within
returns-clause-within c = grind (arith, dynamic_begins_within c.args.shape.now.trips c.args.shape.now.chunk c.args.j)

pub returns-clause-number : goal.returns-clause-number
returns-clause-number c =
    let few = chunks_within c.args.shape.now.trips c.args.shape.now.chunk c.requires.shape.some in
    let count = c.requires.count in
    let below = c.if-j-count.false in
    omega arith

pub returns-then-j-count-clause-piece : goal.returns-then-j-count-clause-piece
returns-then-j-count-clause-piece c =
    let count = c.requires.count in
    let past = c.if-j-count.true in
    sym (slice_get_past (dynamic_pieces c.args.shape.now.trips c.args.shape.now.chunk) c.args.j (omega arith))
