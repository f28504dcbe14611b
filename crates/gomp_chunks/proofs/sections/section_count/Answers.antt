use Rattle.std.proofs.Common.{arith}
use Rattle.gomp_chunks.proofs.PieceAt.{length-dynamic_pieces}
use Rattle.gomp_chunks.proofs.sections.section_count.Goals as goal

pub returns-clause-count : goal.returns-clause-count
returns-clause-count c =
    let count = length-dynamic_pieces c.args.shape.now.trips 1 in
    omega arith
