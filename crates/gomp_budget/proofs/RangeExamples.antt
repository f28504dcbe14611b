-- A budget and a seat have every number of threads: each lemma holds for all numbers, so a definition that keeps fewer refuses it.
use Rattle.std.proofs.Common.{◌≡◌, ℕ, ◌+◌, ◌<◌, refl, arith}
use Rattle.gomp_budget.specs.Counts.{IsBalanced, all_free, BudgetKeeps, SeatKeeps}

-- all threads of a new budget are free, and none is given, however many there are
pub new_budget_is_all_free : (limit : ℕ) → ((all_free limit).limit ≡ limit) × ((all_free limit).free ≡ limit) × ((all_free limit).given ≡ 0) × IsBalanced (all_free limit)
new_budget_is_all_free limit = (refl, refl, refl, omega arith)

-- of none, and of the most
pub new_budgets_at_both_ends : (all_free 0 ≡ record { limit = 0; free = 0; given = 0 }) × (all_free 4294967295 ≡ record { limit = 4294967295; free = 4294967295; given = 0 })
new_budgets_at_both_ends = (refl, refl)

-- any threads of a limit may be given
pub any_threads_may_be_given : (free given : ℕ) → IsBalanced (record { limit = given + free; free = free; given = given })
any_threads_may_be_given free given = refl

-- a limit leaves no other number of free threads
pub limit_tells_the_free : (limit given free other : ℕ) → IsBalanced (record { limit = limit; free = free; given = given }) → IsBalanced (record { limit = limit; free = other; given = given }) → free ≡ other
limit_tells_the_free limit given free other one two = omega (arith, one, two)

-- a budget keeps any balanced counts, with a part for each free thread
pub any_budget_is_kept : (limit free given : ℕ) → given + free ≡ limit → BudgetKeeps limit free given free 0
any_budget_is_kept limit free given balanced = record { balanced = balanced; a_part_each = refl; no_amount = refl }

-- and a seat any threads from one on, with a part and an amount of each
pub any_seat_is_kept : (threads : ℕ) → 0 < threads → SeatKeeps threads threads threads
any_seat_is_kept threads some = record { a_thread = some; a_part_each = refl; all_counted = refl }

-- no seat has fewer parts, or less of the total, than threads
pub seat_tells_its_parts : (threads parts amount : ℕ) → SeatKeeps threads parts amount → (parts ≡ threads) × (amount ≡ threads)
seat_tells_its_parts threads parts amount keeps = (keeps.a_part_each, keeps.all_counted)
