-- What a budget and a seat keep, of every number of threads.
use Rattle.std.proofs.Common.{◌≡◌, ℕ, ◌+◌, ◌<◌}
use Rattle.gomp_budget.specs.Counts.{BudgetKeeps, SeatKeeps}

-- a budget is balanced, and has a part for each free thread and no amount
pub budget_tells_its_parts : (limit free given parts amount : ℕ) → BudgetKeeps limit free given parts amount → (given + free ≡ limit) × (parts ≡ free) × (amount ≡ 0)
budget_tells_its_parts limit free given parts amount keeps = (keeps.balanced, keeps.a_part_each, keeps.no_amount)

-- a seat has a thread
pub seat_has_a_thread : (threads parts amount : ℕ) → SeatKeeps threads parts amount → 0 < threads
seat_has_a_thread threads parts amount keeps = keeps.a_thread
