-- What a table ends as, where a `&mut` to one of its rows is returned. (own)
use Rattle.std.specs.Prelude.{ℕ, Some}
use Rattle.std.specs.Borrow.{Lends, Fml, RattleType, MutBor}
use Rattle.gomp_rows.specs.Rows.{RowsView, with_row}
use Rattle.gomp_rows.specs.contracts.rows.Rows.{the_row}

-- once the borrow ends, the number has the last value written through it, and nothing else differs
abbrev pub lends_row : (T : RattleType) → MutBor (RowsView T.Denot) → ℕ → MutBor T.Denot → Fml
lends_row T rows number row = Lends (the_row T) T rows row (λ value. record rows.now { rows = with_row rows.now.rows number (Some value) })
