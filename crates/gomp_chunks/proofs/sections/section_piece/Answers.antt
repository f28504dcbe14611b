use Rattle.std.proofs.Common.{◌≡◌, ◌<◌, ◌*◌, ◌+◌, length, sym, arith}
use Rattle.std.specs.Prelude.{min}
use Rattle.std.proofs.lemmas.Option.{slice_get_past}
use Rattle.gomp_types.specs.Pieces.{dynamic_pieces}
use Rattle.gomp_chunks.proofs.PieceAt.{slice_get-dynamic_pieces}
use Rattle.gomp_chunks.proofs.sections.section_piece.Goals as goal

pub returns-then-j-section_count-clause-piece : goal.returns-then-j-section_count-clause-piece
returns-then-j-section_count-clause-piece c =
    let count = c.section_count.ensures.count in
    let most = c.section_count.ensures.bounded in
    let below = c.if-j-section_count.true in
    let inside : c.args.j < length (dynamic_pieces c.args.shape.now.trips 1) = omega arith in
    let first : c.args.j * 1 ≡ c.args.j = omega arith in
    let end : min c.args.shape.now.trips (c.args.j + 1) ≡ c.args.j + 1 = omega arith in
    sym (rw (first, end) at (slice_get-dynamic_pieces c.args.shape.now.trips 1 c.args.j inside))

pub returns-else-j-section_count-clause-piece : goal.returns-else-j-section_count-clause-piece
returns-else-j-section_count-clause-piece c =
    let count = c.section_count.ensures.count in
    let past = c.if-j-section_count.false in
    sym (slice_get_past (dynamic_pieces c.args.shape.now.trips 1) c.args.j (omega arith))
