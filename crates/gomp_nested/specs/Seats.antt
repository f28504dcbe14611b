-- The members that a team has threads for. (own)
use Rattle.std.specs.Prelude.{ℕ, ◌+◌, Option, Some, None}

-- the one that forks it, on the thread that it has, and one for each thread of a seat
abbrev pub members_for : Option ℕ → ℕ
members_for None = 1
members_for (Some threads) = threads + 1
