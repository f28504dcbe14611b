use Rattle.std.proofs.Common.{rules}
use Rattle.gomp_chunks.proofs.cursor.Cursor.next_piece.Goals as goal

pub returns-in_err-number-clause-piece : goal.returns-in_err-number-clause-piece
returns-in_err-number-clause-piece c = search rules

pub returns-in_err-piece-clause-piece : goal.returns-in_err-piece-clause-piece
returns-in_err-piece-clause-piece c = search rules

pub returns-clause-piece : goal.returns-clause-piece
returns-clause-piece c = search rules

pub returns-clause-number : goal.returns-clause-number
returns-clause-number c = search rules
