-- Worked spots of a guided loop, and for each line of their definition a spot that it alone refuses.
use Rattle.std.proofs.Common.{◌≡◌, ℕ, ◌+◌, ◌≤◌, zero, suc, slice_get, refl, ap, arith}
use Rattle.gomp_types.specs.Pieces.{Piece, guided_from, guided_pieces}
use Rattle.gomp_chunks.specs.Spots.{IsSpot, IsCursor}
use Rattle.gomp_chunks.specs.declared.guided.Spot.{Spot}
use Rattle.gomp_chunks.specs.Examples.{plan_for, dynamic_ten, guided_twenty, spot_at}

-- the first piece
pub spot_of_the_first : IsSpot 4 guided_twenty (spot_at 0 0)
spot_of_the_first = record { within = omega arith; number = omega arith; most = 20; enough = omega arith; rest = λ i. let same : 0 + i ≡ i = omega arith in rw same refl }

-- the second begins at iteration 5
pub spot_of_the_second : IsSpot 4 guided_twenty (spot_at 1 5)
spot_of_the_second = record { within = omega arith; number = omega arith; most = 15; enough = omega arith; rest = λ i. let later : 1 + i ≡ suc i = omega arith in rw later refl }

-- and not at iteration 6
no_piece_from_six : (most : ℕ) → 14 ≤ most → slice_get (guided_pieces 20 4 2) 1 ≡ slice_get (guided_from 4 2 most 6 14) 0 → ⊥
no_piece_from_six zero enough rest = absurd (omega arith)
no_piece_from_six (suc most) enough rest = absurd (let same : ◌≡◌ {A = Piece} (5, 9) (6, 10) = cc in let low = ap (λ (piece : Piece). piece.0) same in omega arith)

-- so no spot of the second piece lies at iteration 6
pub spot_inside_a_piece : IsSpot 4 guided_twenty (spot_at 1 6) → ⊥
spot_inside_a_piece is = no_piece_from_six is.most is.enough (is.rest 0)

-- nor does the last begin at iteration 19, though nothing is after it either way
no_piece_from_nineteen : (most : ℕ) → 1 ≤ most → slice_get (guided_pieces 20 4 2) 6 ≡ slice_get (guided_from 4 2 most 19 1) 0 → ⊥
no_piece_from_nineteen zero enough rest = absurd (omega arith)
no_piece_from_nineteen (suc most) enough rest = absurd (let same : ◌≡◌ {A = Piece} (18, 20) (19, 20) = cc in let low = ap (λ (piece : Piece). piece.0) same in omega arith)

-- so no spot of the last piece lies at iteration 19
pub spot_inside_the_last : IsSpot 4 guided_twenty (spot_at 6 19) → ⊥
spot_inside_the_last is = no_piece_from_nineteen is.most is.enough (is.rest 0)

-- past the last piece stands the number of pieces, with the number of iterations
pub spot_of_the_end : IsSpot 4 guided_twenty (spot_at 7 20)
spot_of_the_end = record { within = omega arith; number = omega arith; most = 0; enough = omega arith; rest = λ i. let later : 7 + i ≡ suc (suc (suc (suc (suc (suc (suc i)))))) = omega arith in rw later refl }

-- no iteration past these
pub spot_past_the_iterations : IsSpot 4 guided_twenty (spot_at 7 21) → ⊥
spot_past_the_iterations is = absurd (let within = is.within in omega arith)

-- and no number past those
pub spot_past_the_pieces : IsSpot 4 guided_twenty (spot_at 8 20) → ⊥
spot_past_the_pieces is = absurd (let number = is.number in omega arith)

-- a spot in the midst of the iterations is not past the last piece
some_piece_from_five : (most : ℕ) → 15 ≤ most → slice_get (guided_pieces 20 4 2) 7 ≡ slice_get (guided_from 4 2 most 5 15) 0 → ⊥
some_piece_from_five zero enough rest = absurd (omega arith)
some_piece_from_five (suc most) enough rest = absurd (cc)

-- so the number of pieces does not stand with iteration 5
pub spot_with_pieces_left : IsSpot 4 guided_twenty (spot_at 7 5) → ⊥
spot_with_pieces_left is = some_piece_from_five is.most is.enough (is.rest 0)

-- What a cursor keeps

-- ten iterations in chunks of three are four pieces
pub cursor_of_four : IsCursor dynamic_ten (spot_at 0 0) 4
cursor_of_four = record { there = record { within = omega arith; number = omega arith; most = 10; enough = omega arith; rest = λ i. let same : 0 + i ≡ i = omega arith in rw same refl }; counted = λ other. refl }

-- and not three
pub cursor_of_three : (spot : Spot) → IsCursor dynamic_ten spot 3 → ⊥
cursor_of_three spot is = absurd (let all = is.counted (λ e. absurd (cc)) in omega arith)

-- those of a guided loop are not counted
pub cursor_of_guided : (count : ℕ) → IsCursor (plan_for 4 guided_twenty) (spot_at 1 5) count
cursor_of_guided count = record { there = spot_of_the_second; counted = λ other. absurd (other refl) }

-- but its spot has to be one of its pieces
pub cursor_inside_a_piece : (count : ℕ) → IsCursor (plan_for 4 guided_twenty) (spot_at 1 6) count → ⊥
cursor_inside_a_piece count is = spot_inside_a_piece is.there
