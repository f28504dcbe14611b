-- The size of a team, as a number of 16 bits.
use Rattle.std.proofs.Common.{◌≡◌, ◌≤◌, ℕ, arith}
use Rattle.std.specs.Prelude.{min}

-- a size that a team may have is the one that was asked for
pub size_asked : (asked size : ℕ) → size ≡ min asked 65535 → size ≤ 64 → asked ≡ size
size_asked asked size is few = omega arith
