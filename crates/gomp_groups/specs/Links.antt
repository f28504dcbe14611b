-- How a row keeps a group's number, or none, in one number. No public clause cites this module. (own)
use Rattle.std.specs.Prelude.{ℕ, Option, Some, None}
use Rattle.std.proofs.Common.{suc, zero}

-- the group, if there is one: the code is one more than its number, or 0
abbrev pub group_of : ℕ → Option ℕ
group_of zero = None
group_of (suc q) = Some q

-- the code of a group, or of none
abbrev pub code_of : Option ℕ → ℕ
code_of None = zero
code_of (Some q) = suc q
