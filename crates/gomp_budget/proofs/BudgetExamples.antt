-- What the definitions say of a budget of four threads, and what each of their lines refuses.
use Rattle.std.proofs.Common.{◌≡◌, ℕ, refl, arith}
use Rattle.gomp_budget.specs.Counts.{ThreadCounts, IsBalanced, all_free, BudgetKeeps, SeatKeeps}

abbrev four_threads : ℕ → ℕ → ThreadCounts
four_threads free given = record { limit = 4; free = free; given = given }

-- all are free
pub new_budget_of_four : all_free 4 ≡ four_threads 4 0
new_budget_of_four = refl

-- three are given, and one is free
pub three_of_four_given : IsBalanced (four_threads 1 3)
three_of_four_given = refl

-- three are given, and two are free
pub one_thread_too_many : ¬ IsBalanced (four_threads 2 3)
one_thread_too_many e = absurd (omega (arith, e))

-- three are given, and none is free
pub one_thread_too_few : ¬ IsBalanced (four_threads 0 3)
one_thread_too_few e = absurd (omega (arith, e))

-- the free thread has its part, and the budget no amount
pub three_of_four_kept : BudgetKeeps 4 1 3 1 0
three_of_four_kept = record { balanced = refl; a_part_each = refl; no_amount = refl }

-- four are given in place of three
pub balance_is_kept : ¬ BudgetKeeps 4 1 4 1 0
balance_is_kept k = absurd (omega (arith, k.balanced))

-- the free thread has no part
pub part_is_kept : ¬ BudgetKeeps 4 1 3 0 0
part_is_kept k = absurd (omega (arith, k.a_part_each))

-- one of the given threads is the budget's own amount
pub no_amount_is_kept : ¬ BudgetKeeps 4 1 3 1 1
no_amount_is_kept k = absurd (omega (arith, k.no_amount))

-- a seat of three threads has a part of each, and their amount
pub three_in_a_seat : SeatKeeps 3 3 3
three_in_a_seat = record { a_thread = omega arith; a_part_each = refl; all_counted = refl }

-- a seat of none
pub empty_seat_is_no_seat : ¬ SeatKeeps 0 0 0
empty_seat_is_no_seat k = absurd (omega (arith, k.a_thread))

-- a part is missing
pub part_of_seat_is_kept : ¬ SeatKeeps 3 2 3
part_of_seat_is_kept k = absurd (omega (arith, k.a_part_each))

-- one thread is not counted
pub amount_of_seat_is_kept : ¬ SeatKeeps 3 3 2
amount_of_seat_is_kept k = absurd (omega (arith, k.all_counted))
