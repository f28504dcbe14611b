-- The number of a section, by the piece that it is. OpenMP API 5.2, section 11.3.
use Rattle.std.specs.Prelude.{ℕ, suc, Option, Some, None}
use Rattle.gomp_types.specs.Pieces.{Piece}

-- section k + 1 is iteration k of the share; 0 tells that none is left
abbrev pub section_of : Option Piece → ℕ
section_of None = 0
section_of (Some piece) = suc piece.0
