use Rattle.std.proofs.Common.{◌≡◌, ℕ, rules}
use Rattle.gomp_depend.specs.Rows.{no_row, row_in}
use Rattle.gomp_depend.proofs.Listing.{tied_empty}
use Rattle.gomp_depend.proofs.rows.RowTable.new.Goals as goal

pub invariant_of-result : goal.invariant_of-result
invariant_of-result c =
    let none : (t : ℕ) → row_in t c.new.result ≡ no_row = λ t. search rules in
    record { tied = tied_empty c.new.result c.new-2.result none c.new-2.ensures.freed c.new-2.ensures.waiting }
