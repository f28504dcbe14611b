-- What the words of a table say, of any rows and numbers.
use Rattle.std.proofs.Common.{◌≡◌, ◌≢◌, ℕ, zero, suc, ◌+◌, ◌<◌, ◌≤◌, List, [], ◌∷◌, ◌++◌, length, Option, Some, None, refl, ap, add-one, arith, inl, inr}
use Rattle.std.specs.Prelude.{IsSome}
use Rattle.std.proofs.Math.Seq.{get_or-append_seam}
use Rattle.std.proofs.lemmas.Bool.{cases_lt}
use Rattle.std.proofs.lemmas.List.{get_or-set_same, get_or-set_other, get_or_past, get_or_append_left, length-set}
use Rattle.gomp_rows.specs.Rows.{row_no, HasRow, with_row}

module _ {T : Type 0} where
  -- no number has a row that was not given
  pub never_a_row_past_the_last : (rows : List (Option T)) (number : ℕ) → length rows < number → HasRow rows number → ⊥
  never_a_row_past_the_last rows zero past has = absurd (omega (arith, past))
  never_a_row_past_the_last rows (suc place) past has =
      let none : row_no rows (suc place) ≡ None = get_or_past rows place None (omega (arith, past)) in
      let wrong : IsSome {T = T} None = rw none at has in
      absurd (cc)

  -- what stands in the place of a row is read under its number
  pub written_row_is_read : (rows : List (Option T)) (number : ℕ) (row : Option T) → HasRow rows number → row_no (with_row rows number row) number ≡ row
  written_row_is_read rows zero row has = absurd (cc)
  written_row_is_read rows (suc place) row has = elim (cases_lt place (length rows)) [
    | inl lt ↦ get_or-set_same rows place row None lt
    | inr ge ↦ absurd (never_a_row_past_the_last rows (suc place) (omega (arith, ge)) has)
  ]

  -- and each other number has what it had
  pub other_rows_stay : (rows : List (Option T)) (number other : ℕ) (row : Option T) → other ≢ number → row_no (with_row rows number row) other ≡ row_no rows other
  other_rows_stay rows zero other row differ = refl
  other_rows_stay rows (suc place) zero row differ = refl
  other_rows_stay rows (suc place) (suc other) row differ = get_or-set_other rows place other row None (λ same. differ (ap suc same))

  -- no number has a row that was taken out
  pub never_found_once_taken_out : (rows : List (Option T)) (number : ℕ) → HasRow rows number → HasRow (with_row rows number None) number → ⊥
  never_found_once_taken_out rows number had has =
      let none = written_row_is_read rows number None had in
      let wrong : IsSome {T = T} None = rw none at has in
      absurd (cc)

  -- no number is given or lost by a change of a row
  pub length-with_row : (rows : List (Option T)) (number : ℕ) (row : Option T) → length (with_row rows number row) ≡ length rows
  length-with_row rows zero row = refl
  length-with_row rows (suc place) row = length-set rows place row

  -- a row that is put in is read under the next number
  pub new_row_is_read : (rows : List (Option T)) (row : T) → row_no (rows ++ Some row ∷ []) (length rows + 1) ≡ Some row
  new_row_is_read rows row = rw add-one (get_or-append_seam rows (Some row) [] None)

  -- and each number given before has what it had
  pub earlier_rows_stay : (rows : List (Option T)) (row : T) (number : ℕ) → number ≤ length rows → row_no (rows ++ Some row ∷ []) number ≡ row_no rows number
  earlier_rows_stay rows row zero within = refl
  earlier_rows_stay rows row (suc place) within = get_or_append_left rows (Some row ∷ []) None place (omega (arith, within))
