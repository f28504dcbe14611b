-- When the ordered parts of a member's piece are next, and which part it may begin. OpenMP API 5.2, section 15.10.2.
use Rattle.std.specs.Prelude.{ℕ, ℤ, ◌+◌, ◌==◌, ◌&&◌, nat_le, not, if◌then◌else◌, Bool, false, List, [], ◌∷◌, Option, Some, None, slice_get}
use Rattle.gomp_types.specs.declared.shape.Shape.{Shape}
use Rattle.gomp_events.specs.declared.event.Event.{Event}
use Rattle.gomp_types.specs.Pieces.{Piece, pieces_of}
use Rattle.gomp_types.specs.Values.{iteration_of}
use Rattle.gomp_types.specs.Pieces.{has_iteration}
use Rattle.gomp_events.specs.Events.{last_piece, turn}

-- two pieces are there, and are one
abbrev pub same_piece : Option Piece → Option Piece → Bool
same_piece (Some a) (Some b) = a.0 == b.0 && a.1 == b.1
same_piece _ _ = false

-- whether every piece of the member's share before its own was handed on, and its own was not: it is the piece with the number of the turn
abbrev pub has_turn : ℕ → ℕ × Shape → ℕ → List Event → Bool
has_turn members share m h = same_piece (slice_get (pieces_of members share.1) (turn share.0 h)) (last_piece m h)

-- the number of a piece in a list that has it: how many stand before it
abbrev pub number_of_piece : List Piece → Option Piece → ℕ
number_of_piece [] piece = 0
number_of_piece (first ∷ pieces) piece = if same_piece (Some first) piece then 0 else number_of_piece pieces piece + 1

-- the number of the member's last piece among those of its share
abbrev pub last_number : ℕ → ℕ × Shape → ℕ → List Event → ℕ
last_number members share m h = number_of_piece (pieces_of members share.1) (last_piece m h)

-- whether the share is an ordered loop
abbrev pub is_ordered : Option (ℕ × Shape) → Bool
is_ordered None = false
is_ordered (Some share) = share.1.ordered

-- whether the member has to wait for the turn before it asks for its next piece
abbrev pub must_wait : ℕ → ℕ × Shape → ℕ → List Event → Bool
must_wait members share m h = share.1.ordered && not (has_turn members share m h)

-- whether the iteration lies in the piece, after those whose parts the member has begun
abbrev pub is_in_rest : Option Piece → ℕ → Option ℕ → Bool
is_in_rest (Some piece) after (Some k) = has_iteration k piece.0 piece.1 && nat_le after k
is_in_rest _ after _ = false

-- and so for the iteration with this value
abbrev pub comes_next : Option (ℕ × Shape) → Option Piece → ℕ → ℤ → Bool
comes_next None piece after value = false
comes_next (Some share) piece after value = is_in_rest piece after (iteration_of share.1 value)
