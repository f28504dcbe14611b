-- No definition cuts a number: what passes unchanged is stated of every number, and each limit is computed at both of its ends, from the values of the table of limits.
use Rattle.std.proofs.Common.{◌≡◌, ℕ, ◌^◌, ◌<◌, ◌≤◌, true, false, List, [], ◌∷◌, ◌++◌, length, Some, None, refl, arith}
use Rattle.std.specs.Prelude.{◌≢◌, ℤ, pos, negsuc, map, nat_lt}
use Rattle.std.proofs.lemmas.Bool.{lt-ltb}
use Rattle.std.proofs.lemmas.Bool.Decides.{nat_tests}
use Rattle.gomp_types.specs.declared.limits.TheConstants.{MAX_MEMBERS, OPEN_SHARES, MAX_TRIPS, MAX_CHUNK, MAX_SECTIONS, MAX_TASK_DEPTH, MAX_DEPENDS}
use Rattle.gomp_types.specs.declared.critical_name.TheConstants.{MAX_NAME, KEPT_BYTES}
use Rattle.gomp_types.specs.declared.payload.TheConstants.{MAX_WORDS}
use Rattle.gomp_types.specs.declared.lock.TheConstants.{MAX_COUNT, MAX_LOCKS}
use Rattle.gomp_types.specs.declared.limits.Limits.{Limits}
use Rattle.gomp_types.specs.declared.loop_desc.LoopDesc.{LoopDesc}
use Rattle.gomp_types.specs.declared.loop_desc.Sched.{Sched}
use Rattle.gomp_types.specs.declared.loop_desc.Sched.TheVariants.{Static}
use Rattle.gomp_types.specs.declared.loop_desc.EndKind.{EndKind}
use Rattle.gomp_types.specs.declared.loop_desc.EndKind.TheVariants.{Nowait}
use Rattle.gomp_types.specs.declared.refusal.Refusal.TheVariants.{LoopTooLong, BadSections}
use Rattle.gomp_types.specs.declared.shape.Shape.{Shape}
use Rattle.gomp_types.specs.declared.task.Owner.{Owner}
use Rattle.gomp_types.specs.declared.depend.Dep.{Dep}
use Rattle.gomp_types.specs.declared.depend.DepKind.{DepKind}
use Rattle.gomp_types.specs.declared.depend.DepKind.TheVariants.{DepIn}
use Rattle.gomp_types.specs.Limits.{IsTeamSize, capped_limits, shown_number}
use Rattle.gomp_types.specs.Tests.{first_holding}
use Rattle.gomp_types.specs.Iterations.{trip_count, loop_tests, max_trips, max_chunk, is_runtime}
use Rattle.gomp_types.specs.Values.{value_at, iteration_of}
use Rattle.gomp_types.specs.Sections.{sections_shape, sections_tests, max_sections}
use Rattle.gomp_types.specs.Singles.{with_word}
use Rattle.gomp_types.specs.Pieces.{resolved_loop, resolved_chunk, shape_of}
use Rattle.gomp_types.specs.Owners.{same_owner, same_member}
use Rattle.gomp_types.specs.DependItems.{kind_waits, item_waits, same_item}
use Rattle.gomp_types.proofs.Booleans.{same_number, other_number}

-- Limits

-- the limits that the program states
pub limits_have_their_values : (MAX_MEMBERS ≡ 64) × (OPEN_SHARES ≡ 8) × (MAX_TRIPS ≡ 549755813888) × (MAX_CHUNK ≡ pos 549755813888) × (MAX_SECTIONS ≡ 65536) × (MAX_TASK_DEPTH ≡ 64) × (MAX_DEPENDS ≡ 16) × (MAX_NAME ≡ 32) × (KEPT_BYTES ≡ 33) × (MAX_WORDS ≡ 8) × (MAX_COUNT ≡ 65535) × (MAX_LOCKS ≡ 4294967295) × (max_trips ≡ 549755813888) × (max_chunk ≡ 549755813888) × (max_sections ≡ 65536)
limits_have_their_values = (refl, refl, refl, refl, refl, refl, refl, refl, refl, refl, refl, refl, refl, refl, refl)

-- a team has 1 to 64 members
pub team_sizes_at_both_ends : (IsTeamSize 0 → ⊥) × IsTeamSize 1 × IsTeamSize 64 × (IsTeamSize 65 → ⊥)
team_sizes_at_both_ends = ((λ is. absurd (omega (arith, is.0))), (omega arith, omega arith), (omega arith, omega arith), (λ is. absurd (omega (arith, is.1))))

-- each number from 1 to 64 is that of a team, and no other
pub each_size_up_to_the_most : (count : ℕ) → 1 ≤ count → count ≤ 64 → IsTeamSize count
each_size_up_to_the_most count some few = (some, few)

pub no_other_size : (count : ℕ) → IsTeamSize count → (1 ≤ count) × (count ≤ 64)
no_other_size count is = (is.0, is.1)

-- each limit below the standard one stays, and one above it is lowered to that
pub limits_below_stay : (limits : Limits) → limits.shares ≤ 131064 → limits.tasks ≤ 1048576 → limits.events ≤ 16777216 → ((capped_limits limits).shares ≡ limits.shares) × ((capped_limits limits).tasks ≡ limits.tasks) × ((capped_limits limits).events ≡ limits.events)
limits_below_stay limits shares tasks events = (omega (arith, shares), omega (arith, tasks), omega (arith, events))

pub limits_above_are_lowered : (limits : Limits) → 131064 ≤ limits.shares → 1048576 ≤ limits.tasks → 16777216 ≤ limits.events → ((capped_limits limits).shares ≡ 131064) × ((capped_limits limits).tasks ≡ 1048576) × ((capped_limits limits).events ≡ 16777216)
limits_above_are_lowered limits shares tasks events = (omega (arith, shares), omega (arith, tasks), omega (arith, events))

-- a number of 64 bits is shown as it is, and a larger one as the largest
pub number_shown_as_it_is : (n : ℕ) → n < 2 ^ 64 → shown_number n ≡ n
number_shown_as_it_is n small = omega (arith, small)

pub number_shown_as_the_largest : (n : ℕ) → 2 ^ 64 ≤ n → shown_number n ≡ 18446744073709551615
number_shown_as_the_largest n large = omega (arith, large)

-- Items of a depend clause

abbrev item_at : DepKind → ℕ → Dep
item_at kind addr = record { kind = kind; addr = addr }

-- on one address the kinds decide, whatever the address is
pub items_of_one_address : (new old : DepKind) (addr : ℕ) → item_waits (item_at new addr) (item_at old addr) ≡ kind_waits new old
items_of_one_address new old addr = rw (same_number addr) refl

-- on two addresses no item depends on another, however alike they are
pub items_of_two_addresses : (new old : DepKind) (addr other : ℕ) → addr ≢ other → item_waits (item_at new addr) (item_at old other) ≡ false
items_of_two_addresses new old addr other differ = rw (other_number addr other differ) refl

-- and they are not the same
pub same_item_has_one_address : (kind : DepKind) (addr other : ℕ) → addr ≢ other → same_item (item_at kind addr) (item_at kind other) ≡ false
same_item_has_one_address DepIn addr other differ = rw (other_number addr other differ) refl
same_item_has_one_address kind addr other differ = rw (other_number addr other differ) refl

-- Members, tasks and owners

-- an owner differs by its team, its member and its task, each in all of its bits
pub owners_of_two_teams : (one other : Owner) → one.team ≢ other.team → (same_owner one other ≡ false) × (same_member one other ≡ false)
owners_of_two_teams one other differ = rw (other_number one.team other.team differ) (refl, refl)

pub owners_of_two_members : (team task m n : ℕ) → m ≢ n → (same_owner (record { team = team; member = m; task = task }) (record { team = team; member = n; task = task }) ≡ false) × (same_member (record { team = team; member = m; task = task }) (record { team = team; member = n; task = task }) ≡ false)
owners_of_two_members team task m n differ = rw (same_number team, other_number m n differ) (refl, refl)

pub owners_of_two_tasks : (team m t u : ℕ) → t ≢ u → same_owner (record { team = team; member = m; task = t }) (record { team = team; member = m; task = u }) ≡ false
owners_of_two_tasks team m t u differ = rw (same_number team, same_number m, other_number t u differ) refl

pub owner_same_as_itself : (one : Owner) → (same_owner one one ≡ true) × (same_member one one ≡ true)
owner_same_as_itself one = rw (same_number one.team, same_number one.member, same_number one.task) (refl, refl)

-- Loops, sections and singles

-- what is compared of a loop has its start, its step, its count and its clauses unchanged
pub shape_keeps_the_loop : (loop : LoopDesc) → ((shape_of loop).start ≡ loop.start) × ((shape_of loop).incr ≡ loop.incr) × ((shape_of loop).trips ≡ trip_count loop) × ((shape_of loop).chunk ≡ resolved_chunk loop.chunk) × ((shape_of loop).ordered ≡ loop.ordered) × ((shape_of loop).end_kind ≡ loop.end_kind)
shape_keeps_the_loop loop = (refl, refl, refl, refl, refl, refl)

-- and a chunk that is given
pub given_chunk_counts : (chunk : ℕ) → 0 < chunk → resolved_chunk (pos chunk) ≡ chunk
given_chunk_counts chunk some = omega (arith, some)

-- a loop that leaves its schedule to the control variables takes their schedule and their chunk
pub runtime_loop_takes_the_chunk : (sched : Sched) (chunk : ℤ) (loop : LoopDesc) → is_runtime loop.sched ≡ true → loop.chunk ≡ pos 0 → resolved_loop sched chunk loop ≡ record loop { sched = sched; chunk = chunk }
runtime_loop_takes_the_chunk sched chunk loop runtime none = rw (runtime, none) refl

-- a loop from a start to an end by this step
abbrev loop_between : ℤ → ℤ → ℤ → LoopDesc
loop_between start end incr = record { start = start; end = end; incr = incr; sched = Static; chunk = pos 0; ordered = false; end_kind = Nowait }

-- the numbers of iterations between the least and the largest value, upwards and downwards
pub counts_of_the_longest_loops :
    map trip_count
    (loop_between (negsuc 9223372036854775807) (pos 9223372036854775807) (pos 1) ∷ loop_between (pos 9223372036854775807) (negsuc 9223372036854775807) (negsuc 0)
    ∷ loop_between (negsuc 9223372036854775807) (pos 9223372036854775807) (pos 9223372036854775807) ∷ loop_between (pos 9223372036854775807) (negsuc 9223372036854775807) (negsuc 9223372036854775807)
    ∷ loop_between (pos 9223372036854775806) (pos 9223372036854775807) (pos 9223372036854775807) ∷ loop_between (pos 0) (pos 4294967297) (pos 1) ∷ [])
    ≡ 18446744073709551615 ∷ 18446744073709551615 ∷ 3 ∷ 2 ∷ 1 ∷ 4294967297 ∷ []
counts_of_the_longest_loops = refl

-- 2^39 iterations by a step of 2^25 are fine, and one more by the next smaller step is not
pub longest_loop_that_is_fine :
    map (λ incr. first_holding (loop_tests (loop_between (negsuc 9223372036854775807) (pos 9223372036854775807) incr))) (pos 33554432 ∷ pos 33554431 ∷ pos 1 ∷ [])
    ≡ None ∷ Some LoopTooLong ∷ Some LoopTooLong ∷ []
longest_loop_that_is_fine = refl

-- the shape of the longest loop
abbrev longest : Shape
longest = shape_of (loop_between (negsuc 9223372036854775807) (pos 9223372036854775807) (pos 33554432))

-- its iterations have values between the two, and each value its iteration
pub values_of_the_longest_loop :
    (map (value_at longest) (0 ∷ 1 ∷ 274877906944 ∷ 549755813887 ∷ []) ≡ negsuc 9223372036854775807 ∷ negsuc 9223372036821221375 ∷ pos 0 ∷ pos 9223372036821221376 ∷ [])
    × (map (iteration_of longest) (negsuc 9223372036854775807 ∷ pos 0 ∷ pos 9223372036821221376 ∷ pos 9223372036821221377 ∷ pos 1 ∷ []) ≡ Some 0 ∷ Some 274877906944 ∷ Some 549755813887 ∷ None ∷ None ∷ [])
values_of_the_longest_loop = (refl, refl)

-- sections have their count, whatever it is, and are refused above 65,536
pub sections_keep_their_count : (count : ℕ) (end_kind : EndKind) → (sections_shape count end_kind).trips ≡ count
sections_keep_their_count count end_kind = refl

pub sections_that_are_fine : (count : ℕ) → count ≤ 65536 → first_holding (sections_tests count) ≡ None
sections_that_are_fine count few = let is : nat_lt max_sections count ≡ false = grind (arith, nat_tests, few) in rw is refl

pub sections_beyond_the_most : (count : ℕ) → 65536 < count → first_holding (sections_tests count) ≡ Some BadSections
sections_beyond_the_most count many = let is : nat_lt max_sections count ≡ true = lt-ltb max_sections count many in rw is refl

-- a word of a single is kept whole, in front of seven others at most
pub word_is_kept_whole : (words : List ℕ) (word : ℕ) → length words < 8 → with_word words word ≡ words ++ word ∷ []
word_is_kept_whole words word few = let is : nat_lt (length words) MAX_WORDS ≡ true = lt-ltb (length words) MAX_WORDS few in rw is refl

pub ninth_word_is_dropped : (words : List ℕ) (word : ℕ) → 8 ≤ length words → with_word words word ≡ words
ninth_word_is_dropped words word many = let is : nat_lt (length words) MAX_WORDS ≡ false = grind (arith, nat_tests, many) in rw is refl

-- Events: each says its numbers, whatever they are

-- Room
