-- What holds of each member of a team. (own)
use Rattle.std.specs.Prelude.{ℕ, ◌&&◌, Bool, true}
use Rattle.std.proofs.Common.{zero, suc}

-- whether each member of a team of this size passes the test
abbrev pub every_member : ℕ → (ℕ → Bool) → Bool
every_member zero test = true
every_member (suc m) test = test m && every_member m test
