-- The pieces of a share by their numbers: how many there are, which one has a number, and that it lies within the loop.
use Rattle.std.proofs.Common.{◌≡◌, ℕ, ◌+◌, ◌*◌, ◌-◌, ◌/◌, ◌%◌, ◌<◌, ◌≤◌, ◌∙◌, Some, inl, inr, suc, zero, ap, zero-add, suc-mul, add-one, arith}
use Rattle.std.specs.Prelude.{min, length, slice_get}
use Rattle.std.specs.Int.{div_ceil}
use Rattle.std.proofs.lemmas.Bool.{cases_lt}
use Rattle.std.proofs.Math.Nat.{mul-le-mul_left, mul-le-mul_right, mul_comm, mod-lt}
use Rattle.std.proofs.lemmas.Nat.{div-add-mod'}
use Rattle.std.proofs.lemmas.Grind.{div_ceil_times}
use Rattle.std.proofs.lemmas.List.FromFn.{length-map-range_with_len, get_or-map-range_with_len}
use Rattle.std.proofs.lemmas.Option.{slice_get-get_or}
use Rattle.gomp_types.specs.Pieces.{Piece, dynamic_piece, dynamic_pieces, even_piece, even_pieces}

-- Pieces of the chunk's size

-- there is a piece for each chunk that is begun
pub length-dynamic_pieces : (trips chunk : ℕ) → length (dynamic_pieces trips chunk) ≡ div_ceil trips chunk
length-dynamic_pieces trips chunk = length-map-range_with_len (dynamic_piece trips chunk) 0 (div_ceil trips chunk)

-- each piece stands at its number
pub slice_get-dynamic_pieces : (trips chunk j : ℕ) → j < length (dynamic_pieces trips chunk) → slice_get (dynamic_pieces trips chunk) j ≡ Some (dynamic_piece trips chunk j)
slice_get-dynamic_pieces trips chunk j inside =
    let filler : Piece = (0, 0) in
    let below : j < div_ceil trips chunk = rw (← length-dynamic_pieces trips chunk) inside in
    slice_get-get_or (dynamic_pieces trips chunk) j filler inside
    ∙ ap Some (get_or-map-range_with_len (dynamic_piece trips chunk) 0 (div_ceil trips chunk) j j filler below (zero-add j))

-- each piece begins at an iteration
pub dynamic_begins_within : (trips chunk j : ℕ) → 0 < chunk → j < length (dynamic_pieces trips chunk) → j * chunk < trips
dynamic_begins_within trips chunk j some inside =
    let below : j < div_ceil trips chunk = rw (← length-dynamic_pieces trips chunk) inside in
    let end = (div_ceil_times trips chunk some).1 in
    let whole : suc j * chunk ≤ div_ceil trips chunk * chunk = mul-le-mul_right chunk below in
    let next : suc j * chunk ≡ j * chunk + chunk = suc-mul j chunk in
    omega arith

-- and there are no more of them than iterations
pub chunks_within : (trips chunk : ℕ) → 0 < chunk → length (dynamic_pieces trips chunk) ≤ trips
chunks_within trips chunk some = elim (cases_lt 0 (length (dynamic_pieces trips chunk))) [
  | inl any ↦
      let last : ℕ = length (dynamic_pieces trips chunk) - 1 in
      let begins = dynamic_begins_within trips chunk last some (omega arith) in
      let least : last * 1 ≤ last * chunk = mul-le-mul_left last some in
      omega arith
  | inr none ↦ omega arith
]

-- A piece for each member

pub length-even_pieces : (trips members : ℕ) → length (even_pieces trips members) ≡ min trips members
length-even_pieces trips members = length-map-range_with_len (even_piece trips members) 0 (min trips members)

pub slice_get-even_pieces : (trips members j : ℕ) → j < length (even_pieces trips members) → slice_get (even_pieces trips members) j ≡ Some (even_piece trips members j)
slice_get-even_pieces trips members j inside =
    let filler : Piece = (0, 0) in
    let below : j < min trips members = rw (← length-even_pieces trips members) inside in
    slice_get-get_or (even_pieces trips members) j filler inside
    ∙ ap Some (get_or-map-range_with_len (even_piece trips members) 0 (min trips members) j j filler below (zero-add j))

-- over the quotient and the rest
even_piece_rises : (trips members q r s : ℕ) → q * members + r ≡ trips → r < members → s < min trips members → ((s * q + min s r) < ((s + 1) * q + min (s + 1) r)) × (((s + 1) * q + min (s + 1) r) ≤ trips)
even_piece_rises trips members zero r s whole rest below =
    let now : s * zero ≡ zero = omega arith in
    let next : (s + 1) * zero ≡ zero = omega arith in
    let none : zero * members ≡ zero = omega arith in
    (omega arith, omega arith)
even_piece_rises trips members (suc q) r s whole rest below =
    let next : (s + 1) * suc q ≡ s * suc q + suc q = ap (λ t. t * suc q) (add-one s) ∙ suc-mul s (suc q) in
    let most : (s + 1) * suc q ≤ members * suc q = mul-le-mul_right (suc q) (omega arith) in
    let turned : members * suc q ≡ suc q * members = mul_comm members (suc q) in
    (omega arith, omega arith)

-- an even piece has an iteration, and ends within the loop
pub even_within : (trips members j : ℕ) → j < min trips members → ((even_piece trips members j).0 < (even_piece trips members j).1) × ((even_piece trips members j).1 ≤ trips)
even_within trips members j below = even_piece_rises trips members (trips / members) (trips % members) j (div-add-mod' trips members) (mod-lt trips (omega arith)) below
