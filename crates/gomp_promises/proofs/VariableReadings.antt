-- Control variables and teams, of every number and every list.
use Rattle.std.proofs.Common.{◌≡◌, ℕ, ◌<◌, ◌≤◌, Bool, true, false, List, [], ◌∷◌, Option, Some, None, refl, arith}
use Rattle.std.specs.Prelude.{ℤ, pos, int_lt, length, nat_lt, min}
use Rattle.std.proofs.lemmas.Bool.{lt-ltb}
use Rattle.std.proofs.lemmas.Bool.Decides.{nat_tests}
use Rattle.gomp_icv.specs.Variables.{AreSizes, InRange, IsChunk, IsNumThreads, IsSchedule, Variables, without_first}
use Rattle.gomp_types.specs.declared.loop_desc.Sched.{Sched}
use Rattle.gomp_types.specs.Iterations.{is_runtime}
use Rattle.gomp_icv.specs.Teams.{requested_size, available_threads, may_be_active, team_size, levels_within, child}

-- Whether a team may have more than one member

-- it may while fewer levels are active than may be
pub team_may_be_active_below_the_most_levels : (icv : Variables) → icv.active < icv.max_active_levels → may_be_active icv true ≡ true
team_may_be_active_below_the_most_levels icv few = rw (lt-ltb icv.active icv.max_active_levels few) refl

-- and not once as many are
pub team_is_not_active_from_the_most_levels_on : (icv : Variables) → icv.max_active_levels ≤ icv.active → may_be_active icv true ≡ false
team_is_not_active_from_the_most_levels_on icv many = let is : nat_lt icv.active icv.max_active_levels ≡ false = grind (arith, nat_tests, many) in rw is refl

-- nor under a false `if` clause
pub team_is_not_active_under_a_false_clause : (icv : Variables) → may_be_active icv false ≡ false
team_is_not_active_under_a_false_clause icv = refl

-- How many members it has

-- one, if it may not have more
pub inactive_team_has_one_member : (icv : Variables) (requested : Option ℕ) (clause : Bool) (busy : ℕ) → may_be_active icv clause ≡ false → team_size icv requested clause busy ≡ 1
inactive_team_has_one_member icv requested clause busy inactive = rw inactive refl

-- else as many as are requested, as the limit leaves, or as a team may have, whichever are fewest
pub active_team_has_the_fewest_of_three : (icv : Variables) (requested : Option ℕ) (clause : Bool) (busy : ℕ) → may_be_active icv clause ≡ true → team_size icv requested clause busy ≡ min (min (requested_size requested icv) (available_threads icv.thread_limit busy)) 64
active_team_has_the_fewest_of_three icv requested clause busy active = rw active refl

-- Levels

-- a team of one leaves the active levels as they are
pub team_of_one_is_no_level : (size active : ℕ) → size ≤ 1 → levels_within size active ≡ active
team_of_one_is_no_level size active one = let is : nat_lt 1 size ≡ false = grind (arith, nat_tests, one) in rw is refl

-- a larger one is a level more, up to the largest number of 32 bits, at which they stay
pub levels_stay_at_the_largest : (size active : ℕ) → 1 < size → 4294967295 ≤ active → levels_within size active ≡ 4294967295
levels_stay_at_the_largest size active several many = rw (lt-ltb 1 size several) (omega (arith, many))

-- What its members begin with

-- the sizes without the first, and the levels within it
pub members_have_later_sizes_and_levels : (icv : Variables) (size : ℕ) → ((child icv size).nthreads ≡ without_first icv.nthreads) × ((child icv size).active ≡ levels_within size icv.active)
members_have_later_sizes_and_levels icv size = (refl, refl)

-- Sizes that are asked for

-- a request of none counts as one, whatever the variables are
pub request_of_none_counts_as_one : (icv : Variables) → requested_size (Some 0) icv ≡ 1
request_of_none_counts_as_one icv = refl

-- a list without a size, which no variables have, asks for one
pub no_sizes_ask_for_one : (icv : Variables) → icv.nthreads ≡ [] → requested_size None icv ≡ 1
no_sizes_ask_for_one icv none = rw none refl

-- What variables may be

-- each size of a list is one, from 1 to 2^31 - 1, and a list has one to four
pub each_size_is_in_range : (size : ℕ) (sizes : List ℕ) → AreSizes (size ∷ sizes) → (1 ≤ size) × (size ≤ 2147483647) × AreSizes sizes
each_size_is_in_range size sizes are = are

pub sizes_are_one_to_four : (sizes : List ℕ) → IsNumThreads sizes → (1 ≤ length sizes) × (length sizes ≤ 4) × AreSizes sizes
sizes_are_one_to_four sizes are = are

-- a schedule is not left to the variables, and a chunk is from 0 to 2^39
pub schedule_is_in_range : (kind : Sched) (chunk : ℤ) → IsSchedule kind chunk → (is_runtime kind ≡ false) × IsChunk chunk
schedule_is_in_range kind chunk is = (is.0, (is.1, is.2))

pub chunk_is_in_range : (chunk : ℤ) → IsChunk chunk → (int_lt chunk (pos 0) ≡ false) × (int_lt (pos 549755813888) chunk ≡ false)
chunk_is_in_range chunk is = is

-- and so are all of them
pub variables_are_in_range : (icv : Variables) → InRange icv → IsNumThreads icv.nthreads × IsSchedule icv.sched icv.chunk × (icv.max_active_levels ≤ 2147483647) × (1 ≤ icv.thread_limit) × (icv.thread_limit ≤ 2147483647)
variables_are_in_range icv are = (are.sizes, are.schedule, are.levels, are.some_threads, are.most_threads)
