-- What members of a script add, of every number: totals have 128 bits, and wrap.
use Rattle.std.proofs.Common.{◌≡◌, Some, None, refl}
use Rattle.std.specs.Prelude.{ℤ}
use Rattle.std.specs.Int.{int_wrapping_add, w128}
use Rattle.gomp_region.specs.declared.statement.Addend.TheVariants as addend
use Rattle.gomp_program.specs.declared.frame.Iteration.{Iteration}
use Rattle.gomp_program.specs.Passing.{addend_in}
use Rattle.gomp_program.specs.Totals.{plus_number, total_with}

-- a number is added to a total as to one of 128 bits
pub number_is_added_to_a_total : (total number : ℤ) → plus_number total number ≡ int_wrapping_add w128 total number
number_is_added_to_a_total total number = refl

-- and nothing changes it
pub nothing_is_added_to_a_total : (total number : ℤ) → (total_with total None ≡ total) × (total_with total (Some number) ≡ plus_number total number)
nothing_is_added_to_a_total total number = (refl, refl)

-- what is added is a number as it is, or the value of the iteration
pub what_is_added_is_a_number_or_the_value : (iteration : Iteration) (number : ℤ) → (addend_in iteration (addend.Number number) ≡ number) × (addend_in iteration addend.Iteration ≡ iteration.value)
what_is_added_is_a_number_or_the_value iteration number = (refl, refl)
