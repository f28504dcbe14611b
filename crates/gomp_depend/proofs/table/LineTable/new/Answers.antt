use Rattle.std.proofs.Common.{◌≡◌, None, refl}
use Rattle.gomp_depend.specs.Tables.{entry_at}
use Rattle.gomp_depend.proofs.Tables.{stands_for_none}
use Rattle.gomp_depend.proofs.table.LineTable.new.Goals as goal

pub returns : goal.returns
returns c = λ p a n.
    let none : entry_at p a (record { lines = c.new.result }) ≡ None = rw c.new.ensures.empty refl in
    stands_for_none _ n none
