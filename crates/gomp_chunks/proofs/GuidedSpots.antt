-- From a spot of a guided loop to the next one, and the piece that begins at a spot.
use Rattle.std.proofs.Common.{◌≡◌, ℕ, ◌+◌, ◌-◌, ◌<◌, ◌≤◌, ◌∙◌, List, [], ◌∷◌, Some, None, refl, suc, zero, arith, length, slice_get}
use Rattle.std.proofs.lemmas.Option.{slice_get_within}
use Rattle.gomp_types.specs.declared.shape.Shape.{Shape}
use Rattle.gomp_types.specs.Pieces.{Piece, guided_from, guided_pieces, guided_size}
use Rattle.gomp_chunks.specs.declared.guided.Spot.{Spot}
use Rattle.gomp_chunks.specs.Spots.{IsSpot}

-- there are no more pieces than iterations
guided_pieces_at_most : (members chunk most low rest : ℕ) → length (guided_from members chunk most low rest) ≤ most
guided_pieces_at_most members chunk zero low rest = omega arith
guided_pieces_at_most members chunk (suc most) low zero = omega arith
guided_pieces_at_most members chunk (suc most) low (suc rest) =
    let later = guided_pieces_at_most members chunk most (low + guided_size members chunk (suc rest)) (suc rest - guided_size members chunk (suc rest)) in
    omega arith

pub few_pieces : (trips members chunk : ℕ) → length (guided_pieces trips members chunk) ≤ trips
few_pieces trips members chunk = guided_pieces_at_most members chunk trips 0 trips

-- what is at the head of the pieces of what is left
head_is : (members chunk most low rest : ℕ) → 0 < rest → rest ≤ most → slice_get (guided_from members chunk most low rest) 0 ≡ Some (low, low + guided_size members chunk rest)
head_is members chunk zero low rest some enough = absurd (omega arith)
head_is members chunk (suc most) low zero some enough = absurd (omega arith)
head_is members chunk (suc most) low (suc rest) some enough = refl

no_piece_of_none_left : (members chunk most low i : ℕ) → slice_get (guided_from members chunk most low 0) i ≡ None
no_piece_of_none_left members chunk zero low i = refl
no_piece_of_none_left members chunk (suc most) low i = refl

-- a size is within what is left, and not nothing
pub size_within : (members chunk rest : ℕ) → 0 < chunk → 0 < rest → (0 < guided_size members chunk rest) × (guided_size members chunk rest ≤ rest)
size_within members chunk rest some left = (omega arith, omega arith)

-- the first spot
pub start_is_spot : (members : ℕ) (shape : Shape) (spot : Spot) → spot.number ≡ 0 → spot.first ≡ 0 → IsSpot members shape spot
start_is_spot members shape spot number first = record {
  within = omega arith;
  number = omega arith;
  most = shape.trips;
  enough = omega arith;
  rest = λ i. let same : 0 + i ≡ i = omega arith in let all : shape.trips - 0 ≡ shape.trips = omega arith in rw (number, first, same, all) refl;
}

-- the piece at a spot
pub piece_there : (members : ℕ) (shape : Shape) (spot : Spot) → IsSpot members shape spot → spot.first < shape.trips →
    slice_get (guided_pieces shape.trips members shape.chunk) spot.number ≡ Some (spot.first, spot.first + guided_size members shape.chunk (shape.trips - spot.first))
piece_there members shape spot is left =
    let here : spot.number + 0 ≡ spot.number = omega arith in
    rw here at (is.rest 0) ∙ head_is members shape.chunk is.most spot.first (shape.trips - spot.first) (omega arith) is.enough

-- none is there, nor later, if no iteration is left
pub no_piece_past_the_last : (members : ℕ) (shape : Shape) (spot : Spot) (j : ℕ) → IsSpot members shape spot → spot.first ≡ shape.trips → spot.number ≤ j →
    slice_get (guided_pieces shape.trips members shape.chunk) j ≡ None
no_piece_past_the_last members shape spot j is past ahead =
    let there : spot.number + (j - spot.number) ≡ j = omega arith in
    let nothing : shape.trips - spot.first ≡ 0 = omega arith in
    rw (there, nothing) at (is.rest (j - spot.number)) ∙ no_piece_of_none_left members shape.chunk is.most spot.first (j - spot.number)

-- the pieces after the first of what is left
tail_is : (members chunk most low rest i : ℕ) → 0 < rest → 0 < most →
    slice_get (guided_from members chunk most low rest) (suc i) ≡ slice_get (guided_from members chunk (most - 1) (low + guided_size members chunk rest) (rest - guided_size members chunk rest)) i
tail_is members chunk zero low rest i left some = absurd (omega arith)
tail_is members chunk (suc most) low zero i left some = absurd (omega arith)
tail_is members chunk (suc most) low (suc rest) i left some = let same : suc most - 1 ≡ most = omega arith in rw same refl

-- the spot after one
pub next_is_spot : (members : ℕ) (shape : Shape) (spot next : Spot) → 0 < shape.chunk → IsSpot members shape spot → spot.first < shape.trips →
    next.number ≡ spot.number + 1 → next.first ≡ spot.first + guided_size members shape.chunk (shape.trips - spot.first) → IsSpot members shape next
next_is_spot members shape spot next some is left number first =
    let size = size_within members shape.chunk (shape.trips - spot.first) some (omega arith) in
    let above = size.0 in
    let below = size.1 in
    let enough = is.enough in
    let there = slice_get_within (guided_pieces shape.trips members shape.chunk) spot.number _ (piece_there members shape spot is left) in
    record {
      within = omega arith;
      number = omega arith;
      most = is.most - 1;
      enough = omega arith;
      rest = λ i.
          let later : spot.number + 1 + i ≡ spot.number + suc i = omega arith in
          let gone : shape.trips - (spot.first + guided_size members shape.chunk (shape.trips - spot.first)) ≡ shape.trips - spot.first - guided_size members shape.chunk (shape.trips - spot.first) = omega arith in
          rw (number, first, later, gone) (is.rest (suc i) ∙ tail_is members shape.chunk is.most spot.first (shape.trips - spot.first) i (omega arith) (omega arith));
    }

-- a spot past the last piece has the number of pieces
pub spot_counts : (members : ℕ) (shape : Shape) (spot : Spot) → IsSpot members shape spot → spot.first ≡ shape.trips → spot.number ≡ length (guided_pieces shape.trips members shape.chunk)
spot_counts members shape spot is past =
    let none = no_piece_past_the_last members shape spot spot.number is past (omega arith) in
    let end = still_past (guided_pieces shape.trips members shape.chunk) spot.number none in
    let number = is.number in
    omega arith
  where
    still_past : (xs : List Piece) (n : ℕ) → slice_get xs n ≡ None → length xs ≤ n
    still_past [] n e = omega arith
    still_past (x ∷ xs) zero e = absurd (cc)
    still_past (x ∷ xs) (suc n) e = let rest = still_past xs n e in omega arith
