-- The reply that a piece of a loop gives. OpenMP API 5.2, section 11.5.
use Rattle.std.specs.Prelude.{◌-◌, Option, Some, None}
use Rattle.gomp_types.specs.declared.reply.Reply.{Reply}
use Rattle.gomp_types.specs.declared.reply.Reply.TheVariants.{Chunk, NoChunk}
use Rattle.gomp_types.specs.declared.shape.Shape.{Shape}
use Rattle.gomp_types.specs.Pieces.{Piece}
use Rattle.gomp_types.specs.Values.{value_at}

-- the reply that a piece of a share gives
abbrev pub reply_of_piece : Shape → Option Piece → Reply
reply_of_piece shape None = NoChunk
reply_of_piece shape (Some piece) = Chunk (value_at shape piece.0) (piece.1 - piece.0)
