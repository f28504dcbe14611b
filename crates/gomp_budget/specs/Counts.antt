-- The threads of a budget. OpenMP API 5.2, sections 2.1 and 2.4 (thread-limit-var).
use Rattle.std.specs.Prelude.{◌≡◌, ℕ, ◌+◌, ◌<◌}

-- how many threads there are in all, how many are free, and how many the seats that are out have
pub record ThreadCounts : Type 0 where
  pub limit : ℕ
  pub free : ℕ
  pub given : ℕ

-- threads given and threads free are the limit
abbrev pub IsBalanced : ThreadCounts → Type 0
IsBalanced counts = counts.given + counts.free ≡ counts.limit

-- every thread is free
abbrev pub all_free : ℕ → ThreadCounts
all_free limit = record { limit = limit; free = limit; given = 0 }

-- what a budget keeps: its counts are balanced, and it has the ledger's part of each free thread, and no amount (own)
pub record BudgetKeeps (limit free given parts amount : ℕ) : Type 0 where
  pub balanced : given + free ≡ limit
  pub a_part_each : parts ≡ free
  pub no_amount : amount ≡ 0

-- what a seat keeps: it has a thread, and of the ledger a part and an amount of one for each thread (own)
pub record SeatKeeps (threads parts amount : ℕ) : Type 0 where
  pub a_thread : 0 < threads
  pub a_part_each : parts ≡ threads
  pub all_counted : amount ≡ threads
