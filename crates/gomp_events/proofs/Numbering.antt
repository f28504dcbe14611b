-- The number of a piece among pieces that tile, and that of a member's last piece if the turn is the member's.
use Rattle.std.proofs.Common.{◌≡◌, ℕ, ◌+◌, ◌<◌, ◌≤◌, true, false, List, [], ◌∷◌, Option, Some, None, refl, arith, suc, zero, slice_get, inl, inr}
use Rattle.std.specs.Prelude.{◌==◌}
use Rattle.std.proofs.lemmas.Bool.{cases_Bool}
use Rattle.gomp_types.specs.declared.shape.Shape.{Shape}
use Rattle.gomp_events.specs.declared.event.Event.{Event}
use Rattle.gomp_types.specs.Pieces.{Piece, Tiles, pieces_of}
use Rattle.gomp_events.specs.Events.{last_piece, turn}
use Rattle.gomp_events.specs.Ordered.{same_piece, has_turn, number_of_piece, last_number}
use Rattle.gomp_types.proofs.Booleans.{and_left, and_right, is_equal, same_number}
use Rattle.gomp_types.proofs.Tiling.{tiles_rise}

-- where a piece of this number lies
pub record Lies (low number : ℕ) (piece : Piece) (high : ℕ) : Type 0 where
  pub from : low + number ≤ piece.0
  pub some : piece.0 < piece.1
  pub within : piece.1 ≤ high

pub piece_lies_within : (low high : ℕ) (pieces : List Piece) (number : ℕ) (piece : Piece) → Tiles low pieces high → slice_get pieces number ≡ Some piece → Lies low number piece high
piece_lies_within low high [] number piece tiles at = absurd (cc)
piece_lies_within low high (first ∷ pieces) zero piece tiles at =
    let same : first ≡ piece = let t = at in cc in
    let begin = tiles.0 in let some = tiles.1 in
    let rest = tiles_rise first.1 high pieces tiles.2 in
    rw (← same) (record { from = omega arith; some = omega arith; within = rest })
piece_lies_within low high (first ∷ pieces) (suc n) piece tiles at =
    let rest = piece_lies_within first.1 high pieces n piece tiles.2 at in
    let from = rest.from in let within = rest.within in
    let begin = tiles.0 in let some = tiles.1 in
    record { from = omega arith; some = rest.some; within = rest.within }

-- the piece that two are
pub same_is : (one own : Option Piece) → same_piece one own ≡ true → (low high : ℕ) × (one ≡ Some (low, high)) × (own ≡ Some (low, high))
same_is None own e = absurd (cc)
same_is (Some one) None e = absurd (cc)
same_is (Some one) (Some own) e =
    let low = is_equal one.0 own.0 (and_left (one.0 == own.0) (one.1 == own.1) e) in
    let high = is_equal one.1 own.1 (and_right (one.0 == own.0) (one.1 == own.1) e) in
    (own.0, own.1, rw (low, high) refl, refl)

pub piece_same_as_itself : (piece : Piece) → same_piece (Some piece) (Some piece) ≡ true
piece_same_as_itself piece = rw (same_number piece.0, same_number piece.1) refl

-- a piece that begins later is another
begins_later : (one other : Piece) → one.0 < other.0 → same_piece (Some one) (Some other) ≡ false
begins_later one other lt =
    elim (cases_Bool (same_piece (Some one) (Some other))) [
      | inl same ↦ absurd (let e = is_equal one.0 other.0 (and_left (one.0 == other.0) (one.1 == other.1) same) in omega arith)
      | inr differs ↦ differs
    ]

-- if the pieces tile, the number of a piece is its place in the list
pub number_at : (low high : ℕ) (pieces : List Piece) (n : ℕ) (piece : Piece) → Tiles low pieces high → slice_get pieces n ≡ Some piece → number_of_piece pieces (Some piece) ≡ n
number_at low high [] n piece tiles at = absurd (cc)
number_at low high (first ∷ pieces) zero piece tiles at =
    let same : first ≡ piece = let t = at in cc in
    rw (same, piece_same_as_itself piece) refl
number_at low high (first ∷ pieces) (suc n) piece tiles at =
    let later = (piece_lies_within first.1 high pieces n piece tiles.2 at).from in
    let begin = tiles.0 in let some = tiles.1 in
    rw (begins_later first piece (omega arith), number_at first.1 high pieces n piece tiles.2 at) (omega arith)

-- so if the turn is a member's, its last piece has the number of the turn
pub last_is_turn : (members m i high : ℕ) (shape : Shape) (h : List Event) → Tiles 0 (pieces_of members shape) high → has_turn members (i, shape) m h ≡ true → last_number members (i, shape) m h ≡ turn i h
last_is_turn members m i high shape h tiles next =
    let own = same_is (slice_get (pieces_of members shape) (turn i h)) (last_piece m h) next in
    rw own.3 (number_at 0 high (pieces_of members shape) (turn i h) (own.0, own.1) tiles own.2)
