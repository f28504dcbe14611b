use Rattle.std.proofs.Common.{◌∙◌, sym}
use Rattle.gomp_chunks.proofs.PieceAt.{length-dynamic_pieces}
use Rattle.gomp_chunks.proofs.chunked.chunked_count.Goals as goal

pub returns-clause-count : goal.returns-clause-count
returns-clause-count c = c.div_ceil.ensures ∙ sym (length-dynamic_pieces c.args.shape.now.trips c.args.shape.now.chunk)
