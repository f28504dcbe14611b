use Rattle.std.proofs.Common.{◌∙◌, sym}
use Rattle.gomp_chunks.proofs.PieceAt.{length-even_pieces}
use Rattle.gomp_chunks.proofs.even.even_count.Goals as goal

pub returns-clause-count : goal.returns-clause-count
returns-clause-count c = c.min.ensures ∙ sym (length-even_pieces c.args.shape.now.trips c.args.members)
