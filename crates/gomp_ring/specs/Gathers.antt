-- What the members of a team took together, by the events that their seats know. (own)
use Rattle.std.specs.Prelude.{◌≡◌, ℕ, zero, suc, ◌+◌, ◌-◌, ◌==◌, ◌&&◌, if◌then◌else◌, Bool, List, [], ◌∷◌, ◌++◌}
use Rattle.gomp_events.specs.declared.event.Event.{Event}
use Rattle.gomp_events.specs.declared.event.Event.TheVariants.{Take}
use Rattle.gomp_types.specs.Pieces.{Piece}
use Rattle.gomp_types.specs.Shapes.{is_loop}
use Rattle.gomp_events.specs.Events.{open_share, in_kind}
use Rattle.gomp_events.specs.Takes.{takes_in}

-- the pieces that the member took of share i, in the order in which it took them
abbrev pub pieces_taken : ℕ → ℕ → List Event → List Piece
pieces_taken i m h = takes_in (λ k. k) i m h

-- those of the first so many members, one member after another
abbrev pub pieces_of_all : ℕ → ℕ → List Event → List Piece
pieces_of_all zero i h = []
pieces_of_all (suc m) i h = pieces_of_all m i h ++ pieces_taken i m h

-- how many iterations the pieces have
abbrev pub iterations_of : List Piece → ℕ
iterations_of [] = 0
iterations_of (piece ∷ pieces) = piece.1 - piece.0 + iterations_of pieces

-- how many iterations of loops the member took
abbrev pub loop_iterations : ℕ → List Event → ℕ
loop_iterations m [] = 0
loop_iterations m (Take share member low high ∷ earlier) =
    if member == m && in_kind is_loop (open_share m earlier) then loop_iterations m earlier + (high - low) else loop_iterations m earlier
loop_iterations m (_ ∷ earlier) = loop_iterations m earlier

-- whether the two pieces are one
abbrev pub same_piece : Piece → Piece → Bool
same_piece one other = one.0 == other.0 && one.1 == other.1

-- how often a piece stands in a list
abbrev pub times_in : Piece → List Piece → ℕ
times_in piece [] = 0
times_in piece (other ∷ pieces) = if same_piece other piece then times_in piece pieces + 1 else times_in piece pieces

-- each piece stands in the one list as often as in the other
abbrev pub IsRearrangement : List Piece → List Piece → Type 0
IsRearrangement one other = (piece : Piece) → times_in piece one ≡ times_in piece other
