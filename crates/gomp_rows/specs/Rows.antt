-- Rows under numbers, as data. (own)
use Rattle.std.specs.Prelude.{ℕ, List, Option, None, IsSome, slice_index_or, slice_set}
use Rattle.std.proofs.Common.{suc, zero}

-- the rows that were put in, under the numbers from 1 on, each until it is taken out; and for how many more there is memory
pub record RowsView (T : Type 0) : Type 0 where
  pub rows : List (Option T)
  pub room : ℕ

-- the row under a number, if there is one
abbrev pub row_no : {T : Type 0} → List (Option T) → ℕ → Option T
row_no rows zero = None
row_no rows (suc k) = slice_index_or rows k None

-- there is one
abbrev pub HasRow : {T : Type 0} → List (Option T) → ℕ → Type 0
HasRow rows n = IsSome (row_no rows n)

-- the rows with this under a number that was given
abbrev pub with_row : {T : Type 0} → List (Option T) → ℕ → Option T → List (Option T)
with_row rows zero row = rows
with_row rows (suc k) row = slice_set rows k row
