-- Whose turn it is among the pieces of an ordered loop: the numbers of two pieces tell whether they are one.
use Rattle.std.proofs.Common.{◌≡◌, ◌≢◌, ◌∙◌, ℕ, false, List, Option, Some, None, refl, sym, slice_get, inl, inr}
use Rattle.std.specs.Prelude.{◌==◌, ◌&&◌, is_some}
use Rattle.std.proofs.lemmas.Bool.{cases_Bool}
use Rattle.std.proofs.lemmas.Bool.Decides.{eqb_tells}
use Rattle.gomp_types.specs.Pieces.{Piece, Tiles}
use Rattle.gomp_events.specs.Ordered.{same_piece}
use Rattle.gomp_events.proofs.Numbering.{same_is, piece_same_as_itself, number_at}

not_same : (low high : ℕ) (pieces : List Piece) (number turn : ℕ) (piece : Piece) (found : Option Piece) → Tiles low pieces high → slice_get pieces number ≡ Some piece → slice_get pieces turn ≡ found → number ≢ turn →
    same_piece found (Some piece) ≡ false
not_same low high pieces number turn piece None tiles at there other = refl
not_same low high pieces number turn piece (Some q) tiles at there other =
    elim (cases_Bool (same_piece (Some q) (Some piece))) [
      | inl same ↦
          let one = same_is (Some q) (Some piece) same in
          absurd (other (sym (number_at low high pieces number piece tiles at) ∙ number_at low high pieces turn piece tiles (there ∙ one.2 ∙ sym one.3)))
      | inr differs ↦ differs
    ]

-- the turn is that of a piece if it is its number
pub turn_tells : (low high : ℕ) (pieces : List Piece) (number turn : ℕ) (piece : Piece) → Tiles low pieces high → slice_get pieces number ≡ Some piece →
    same_piece (slice_get pieces turn) (Some piece) ≡ (number == turn)
turn_tells low high pieces number turn piece tiles at =
    elim (eqb_tells number turn) [
      | inl e ↦ let there : slice_get pieces turn ≡ Some piece = rw e.1 at at in rw (there, e.0) (piece_same_as_itself piece)
      | inr e ↦ rw e.0 (not_same low high pieces number turn piece (slice_get pieces turn) tiles at refl e.1)
    ]

no_piece : (found : Option Piece) → same_piece found None ≡ false
no_piece None = refl
no_piece (Some piece) = refl

pub turn_of : (high : ℕ) (pieces : List Piece) (number turn : ℕ) (own : Option Piece) → Tiles 0 pieces high → ((piece : Piece) → own ≡ Some piece → slice_get pieces number ≡ Some piece) →
    same_piece (slice_get pieces turn) own ≡ (is_some own && number == turn)
turn_of high pieces number turn None tiles at = no_piece (slice_get pieces turn)
turn_of high pieces number turn (Some piece) tiles at = turn_tells 0 high pieces number turn piece tiles (at piece refl)
