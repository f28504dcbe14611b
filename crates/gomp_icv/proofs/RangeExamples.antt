-- Each control variable has its whole range: what holds of every number is stated of every number.
use Rattle.std.proofs.Common.{◌≡◌, ℕ, ◌+◌, ◌-◌, ◌<◌, ◌≤◌, true, List, [], ◌∷◌, Some, None, refl, arith, codes}
use Rattle.std.specs.Prelude.{pos, nat_le, map}
use Rattle.std.proofs.lemmas.Bool.{lt-ltb}
use Rattle.std.proofs.lemmas.Bool.Decides.{nat_tests}
use Rattle.gomp_types.specs.declared.loop_desc.Sched.TheVariants.{Static, Dynamic, Guided}
use Rattle.gomp_icv.specs.declared.values.TheConstants.{MAX_NUMBER}
use Rattle.gomp_icv.specs.declared.env.Setting.TheVariants as sets
use Rattle.gomp_icv.specs.Variables.{Variables, max_number, most_sizes, outermost_size, without_first}
use Rattle.gomp_icv.specs.Teams.{requested_size, available_threads, team_size, levels_within, child}
use Rattle.gomp_icv.specs.EnvWords.{IsSetting}
use Rattle.gomp_icv.specs.EnvValues.{from_on, schedule_of}
use Rattle.gomp_icv.specs.Examples.{with_limit}

-- the limits that the program states
pub icv_limits_have_their_values : (MAX_NUMBER ≡ 2147483647) × (max_number ≡ 2147483647) × (most_sizes ≡ 4)
icv_limits_have_their_values = (refl, refl, refl)

-- every number up to the largest is one of levels, from 1 on of threads, and of sizes
pub any_levels_are_a_setting : (levels : ℕ) → levels ≤ 2147483647 → IsSetting (sets.MaxActiveLevels levels)
any_levels_are_a_setting levels few = few

pub any_limit_is_a_setting : (limit : ℕ) → 1 ≤ limit → limit ≤ 2147483647 → IsSetting (sets.ThreadLimit limit)
any_limit_is_a_setting limit some few = (some, few)

pub any_size_is_a_setting : (size : ℕ) → 1 ≤ size → size ≤ 2147483647 → IsSetting (sets.NumThreads (size ∷ []))
any_size_is_a_setting size some few = (omega arith, omega arith, (some, few, tt))

-- and no number beyond is
pub larger_levels_are_no_setting : (levels : ℕ) → 2147483647 < levels → IsSetting (sets.MaxActiveLevels levels) → ⊥
larger_levels_are_no_setting levels many is = absurd (omega (arith, many, is))

pub larger_limit_is_no_setting : (limit : ℕ) → 2147483647 < limit → IsSetting (sets.ThreadLimit limit) → ⊥
larger_limit_is_no_setting limit many is = absurd (let most = is.1 in omega (arith, many, most))

pub larger_size_is_no_setting : (size : ℕ) → 2147483647 < size → IsSetting (sets.NumThreads (size ∷ [])) → ⊥
larger_size_is_no_setting size many is = absurd (let most = is.2.1 in omega (arith, many, most))

-- a number from the least on stays as it is
pub number_from_the_least_on : (least number : ℕ) → least ≤ number → from_on least (Some number) ≡ Some number
number_from_the_least_on least number enough = let is : nat_le least number ≡ true = grind (arith, nat_tests, enough) in rw is refl

-- chunks between both ends, at every length of a number
pub chunks_of_every_length : map (λ text. schedule_of text) (codes "dynamic,255" ∷ codes "dynamic,256" ∷ codes "static,65535" ∷ codes "static,65536" ∷ codes "guided,4294967295" ∷ codes "guided,4294967296" ∷ []) ≡ Some (Dynamic, pos 255) ∷ Some (Dynamic, pos 256) ∷ Some (Static, pos 65535) ∷ Some (Static, pos 65536) ∷ Some (Guided, pos 4294967295) ∷ Some (Guided, pos 4294967296) ∷ []
chunks_of_every_length = refl

-- Teams

-- a request counts as it is, from 1 on
pub request_counts_as_it_is : (number : ℕ) (icv : Variables) → 0 < number → requested_size (Some number) icv ≡ number
request_counts_as_it_is number icv some = omega (arith, some)

-- and without one the first size does
pub first_size_is_requested : (size : ℕ) (sizes : List ℕ) (icv : Variables) → icv.nthreads ≡ size ∷ sizes → requested_size None icv ≡ size
first_size_is_requested size sizes icv are = rw are refl

-- of a limit are left those that are not busy, and the encountering thread
pub threads_left_of_a_limit : (limit busy : ℕ) → 0 < busy → busy ≤ limit → available_threads limit busy ≡ limit - busy + 1
threads_left_of_a_limit limit busy some few = omega (arith, some, few)

pub one_thread_is_always_left : (limit busy : ℕ) → limit ≤ busy → available_threads limit busy ≡ 1
one_thread_is_always_left limit busy many = omega (arith, many)

-- a request of up to 64 members is met if the limit leaves so many
pub request_is_met : (limit busy number : ℕ) → 0 < number → number ≤ 64 → number + busy ≤ limit + 1 → team_size (with_limit limit) (Some number) true busy ≡ number
request_is_met limit busy number some few left = omega (arith, some, few, left)

-- and of more than 64 in part
pub larger_request_is_met_in_part : (limit busy number : ℕ) → 64 ≤ number → 64 + busy ≤ limit + 1 → team_size (with_limit limit) (Some number) true busy ≡ 64
larger_request_is_met_in_part limit busy number many left = omega (arith, many, left)

-- Members of a new team

-- one level more is active, up to the largest number of 32 bits
pub levels_are_counted : (size active : ℕ) → 1 < size → active < 4294967295 → levels_within size active ≡ active + 1
levels_are_counted size active several few = rw (lt-ltb 1 size several) (omega (arith, few))

-- they inherit all but the first size and the active levels, whatever these are
pub members_inherit_the_rest : (icv : Variables) (size : ℕ) → ((child icv size).dynamic ≡ icv.dynamic) × ((child icv size).sched ≡ icv.sched) × ((child icv size).chunk ≡ icv.chunk) × ((child icv size).max_active_levels ≡ icv.max_active_levels) × ((child icv size).thread_limit ≡ icv.thread_limit) × ((child icv size).cancellation ≡ icv.cancellation)
members_inherit_the_rest icv size = (refl, refl, refl, refl, refl, refl)

-- sizes behind the first stay whole
pub later_sizes_stay_whole : (size next : ℕ) (sizes : List ℕ) → (without_first (size ∷ next ∷ sizes) ≡ next ∷ sizes) × (without_first (size ∷ []) ≡ size ∷ []) × (outermost_size (size ∷ sizes) ≡ size)
later_sizes_stay_whole size next sizes = (refl, refl, refl)
