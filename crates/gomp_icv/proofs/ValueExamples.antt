-- What values of the environment mean, and what the variables may be, computed. OpenMP API 5.2, chapters 2 and 21.
use Rattle.std.proofs.Common.{◌≡◌, pos, negsuc, true, false, [], ◌∷◌, Some, None, codes, refl, arith, rules}
use Rattle.gomp_types.specs.declared.loop_desc.Sched.TheVariants.{Static, Dynamic, Guided, Runtime}
use Rattle.gomp_icv.specs.Variables.{initial, max_number, IsNumThreads, IsSchedule, InRange, without_first}
use Rattle.gomp_icv.specs.EnvValues.{number_of, switch_of, threads_of, schedule_of}
use Rattle.gomp_icv.specs.Examples.{with_sizes, with_schedule, with_levels, with_limit}

-- a program begins with these variables
pub begins_with : initial ≡ record { dynamic = false; nthreads = 4 ∷ []; sched = Dynamic; chunk = pos 0; max_active_levels = 1; thread_limit = 64; cancellation = false; active = 0 }
begins_with = refl

-- blanks and zeros before a number change nothing
pub number_with_zeros : number_of 0 max_number (codes " 007 ") ≡ Some 7
number_with_zeros = refl

-- the largest number
pub largest_number : number_of 0 max_number (codes "2147483647") ≡ Some 2147483647
largest_number = refl

-- and one more
pub number_too_large : number_of 0 max_number (codes "2147483648") ≡ None
number_too_large = refl

-- a number below the least
pub number_too_small : number_of 1 max_number (codes "0") ≡ None
number_too_small = refl

-- the least number
pub least_number : number_of 1 max_number (codes "1") ≡ Some 1
least_number = refl

-- no sign stands before a number
pub signed_number : number_of 0 max_number (codes "+1") ≡ None
signed_number = refl

-- true in any case
pub switch_on : switch_of (codes " TRUE ") ≡ Some true
switch_on = refl

-- false in any case
pub switch_off : switch_of (codes "False") ≡ Some false
switch_off = refl

-- a number is no switch
pub number_is_no_switch : switch_of (codes "1") ≡ None
number_is_no_switch = refl

-- a list of two sizes
pub two_sizes : threads_of (codes "4,2") ≡ Some (4 ∷ 2 ∷ [])
two_sizes = refl

-- with blanks around them
pub sizes_with_blanks : threads_of (codes " 4 , 2 ") ≡ Some (4 ∷ 2 ∷ [])
sizes_with_blanks = refl

-- a fifth size is dropped
pub fifth_size_dropped : threads_of (codes "1,2,3,4,5") ≡ Some (1 ∷ 2 ∷ 3 ∷ 4 ∷ [])
fifth_size_dropped = refl

-- and has to be good
pub fifth_size_bad : threads_of (codes "1,2,3,4,0") ≡ None
fifth_size_bad = refl

-- no size is 0
pub size_zero : threads_of (codes "0") ≡ None
size_zero = refl

-- no size is empty
pub empty_size : threads_of (codes "4,") ≡ None
empty_size = refl

-- the kind of a schedule alone has no chunk
pub kind_alone : schedule_of (codes "static") ≡ Some (Static, pos 0)
kind_alone = refl

-- a kind and its chunk, with blanks
pub kind_with_chunk : schedule_of (codes " Guided , 7 ") ≡ Some (Guided, pos 7)
kind_with_chunk = refl

-- a modifier changes nothing
pub modifier_ignored : schedule_of (codes "NonMonotonic : dynamic , 2") ≡ Some (Dynamic, pos 2)
modifier_ignored = refl

-- auto is static without a chunk
pub auto_with_chunk : schedule_of (codes "auto,7") ≡ Some (Static, pos 0)
auto_with_chunk = refl

-- but its chunk has to be good
pub auto_with_bad_chunk : schedule_of (codes "auto,0") ≡ None
auto_with_bad_chunk = refl

-- no chunk is 0
pub chunk_zero : schedule_of (codes "static,0") ≡ None
chunk_zero = refl

-- the largest chunk
pub largest_chunk : schedule_of (codes "guided,549755813888") ≡ Some (Guided, pos 549755813888)
largest_chunk = refl

-- and one more
pub chunk_too_large : schedule_of (codes "guided,549755813889") ≡ None
chunk_too_large = refl

-- another word before a colon
pub no_modifier : schedule_of (codes "foo:static") ≡ None
no_modifier = refl

-- a kind before a colon
pub kind_before_colon : schedule_of (codes "static:4") ≡ None
kind_before_colon = refl

-- The ranges: what stands in them at their ends, and what is one beyond

-- one size is a list of sizes
pub one_size : IsNumThreads (1 ∷ [])
one_size = (omega arith, omega arith, (omega arith, omega arith, tt))

-- and so are four of the largest
pub four_sizes : IsNumThreads (2147483647 ∷ 2147483647 ∷ 2147483647 ∷ 2147483647 ∷ [])
four_sizes = search rules

-- no list of sizes is empty
pub no_sizes : IsNumThreads [] → ⊥
no_sizes = λ sizes. absurd (omega (arith, sizes.0))

-- or has five
pub five_sizes : IsNumThreads (1 ∷ 1 ∷ 1 ∷ 1 ∷ 1 ∷ []) → ⊥
five_sizes = λ sizes. absurd (omega (arith, sizes.1))

-- or a size of 0
pub zero_in_sizes : IsNumThreads (4 ∷ 0 ∷ []) → ⊥
zero_in_sizes = λ sizes. absurd (omega (arith, sizes.2.2.0))

-- or one above the largest number
pub size_above : IsNumThreads (4 ∷ 2147483648 ∷ []) → ⊥
size_above = λ sizes. absurd (omega (arith, sizes.2.2.1))

-- a schedule without a chunk
pub without_chunk : IsSchedule Static (pos 0)
without_chunk = (refl, refl, refl)

-- and with the largest
pub with_largest_chunk : IsSchedule Guided (pos 549755813888)
with_largest_chunk = (refl, refl, refl)

-- none is left to the control variables
pub schedule_of_runtime : IsSchedule Runtime (pos 0) → ⊥
schedule_of_runtime = λ schedule. let never = schedule.0 in absurd (cc)

-- no chunk is negative
pub chunk_negative : IsSchedule Static (negsuc 0) → ⊥
chunk_negative = λ schedule. let never = schedule.1 in absurd (cc)

-- or above the largest
pub chunk_above : IsSchedule Static (pos 549755813889) → ⊥
chunk_above = λ schedule. let never = schedule.2 in absurd (cc)

-- what a program begins with is in its ranges
pub initial_in_range : InRange initial
initial_in_range = record { sizes = (omega arith, omega arith, (omega arith, omega arith, tt)); schedule = (refl, refl, refl); levels = omega arith; some_threads = omega arith; most_threads = omega arith }

-- no variables have an empty list of sizes
pub variables_without_sizes : InRange (with_sizes []) → ⊥
variables_without_sizes within = absurd (omega (arith, within.sizes.0))

-- or a schedule that is left to the control variables
pub variables_with_runtime : InRange (with_schedule Runtime (pos 0)) → ⊥
variables_with_runtime within = let never = within.schedule.0 in absurd (cc)

-- or more active levels than the largest number
pub variables_with_levels_above : InRange (with_levels 2147483648) → ⊥
variables_with_levels_above within = absurd (omega (arith, within.levels))

-- or a limit of no thread
pub variables_without_threads : InRange (with_limit 0) → ⊥
variables_without_threads within = absurd (omega (arith, within.some_threads))

-- or one above the largest number
pub variables_with_limit_above : InRange (with_limit 2147483648) → ⊥
variables_with_limit_above within = absurd (omega (arith, within.most_threads))

-- a list without a size stays so
pub no_size_to_lose : without_first [] ≡ []
no_size_to_lose = refl
