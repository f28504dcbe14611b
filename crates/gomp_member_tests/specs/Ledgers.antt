-- The ledgers of the region of a test. (own)
use Rattle.std.specs.Prelude.{ℕ, ◌≡◌, ◌<◌}
use Rattle.gomp_types.specs.declared.limits.TheConstants.{MAX_MEMBERS}

-- a ledger that is not begun, of this name and with so many parts, more than a team may have members
abbrev pub IsLedger : ℕ → ℕ → ℕ → ℕ → Type 0
IsLedger name parts blank_name blank_parts = (blank_name ≡ name) × (blank_parts ≡ parts) × (MAX_MEMBERS < blank_parts)
