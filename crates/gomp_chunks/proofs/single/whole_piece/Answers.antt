use Rattle.std.proofs.Common.{rules}
use Rattle.gomp_chunks.proofs.single.whole_piece.Goals as goal

pub returns-then-j-whole_count-clause-piece : goal.returns-then-j-whole_count-clause-piece
returns-then-j-whole_count-clause-piece c = search rules

pub returns-then-j-whole_count-clause-number : goal.returns-then-j-whole_count-clause-number
returns-then-j-whole_count-clause-number c = search rules
