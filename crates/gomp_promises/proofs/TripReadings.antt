-- How many iterations a loop has, of every start, end and step, and when it has too many.
use Rattle.std.proofs.Common.{◌≡◌, ◌<◌, ◌≤◌, ℕ, true, false, [], ◌∷◌, ◌++◌, Some, refl, arith}
use Rattle.std.specs.Prelude.{ℤ, pos, ◌+ℤ◌, ◌-ℤ◌, ◌*ℤ◌, int_lt, unsigned_abs, nat_lt, not, ◌&&◌, ◌||◌}
use Rattle.std.specs.Ordering.{int_eq}
use Rattle.std.specs.Int.{div_ceil}
use Rattle.std.proofs.lemmas.Bool.{lt-ltb}
use Rattle.std.proofs.lemmas.Bool.Decides.{nat_tests}
use Rattle.gomp_types.specs.declared.loop_desc.LoopDesc.{LoopDesc}
use Rattle.gomp_types.specs.declared.loop_desc.EndKind.TheVariants.{Cancellable}
use Rattle.gomp_types.specs.declared.loop_desc.Sched.TheVariants as sched
use Rattle.gomp_types.specs.declared.refusal.Refusal.TheVariants.{ZeroStep, BadChunk, LoopTooLong, OrderedLoop}
use Rattle.gomp_types.specs.Tests.{first_holding}
use Rattle.gomp_types.specs.Shapes.{same_end}
use Rattle.gomp_types.specs.Iterations.{iteration_value, trip_count, max_trips, max_chunk, is_runtime, is_bad_chunk, trip_tests, may_lose_order, loop_tests}

-- Iterations

-- the value of an iteration is so many steps behind the start
pub each_iteration_has_its_value : (loop : LoopDesc) (k : ℕ) → iteration_value loop k ≡ loop.start +ℤ (pos k *ℤ loop.incr)
each_iteration_has_its_value loop k = refl

-- with a step above 0 there are as many iterations as steps from the start to the end or past it
pub rising_loop_has_its_iterations : (loop : LoopDesc) → int_lt (pos 0) loop.incr ≡ true → int_lt loop.start loop.end ≡ true →
    trip_count loop ≡ div_ceil (unsigned_abs (loop.end -ℤ loop.start)) (unsigned_abs loop.incr)
rising_loop_has_its_iterations loop rises before = rw (rises, before) refl

-- and none if the start is not below the end
pub rising_loop_behind_its_end_has_none : (loop : LoopDesc) → int_lt (pos 0) loop.incr ≡ true → int_lt loop.start loop.end ≡ false → trip_count loop ≡ 0
rising_loop_behind_its_end_has_none loop rises behind = rw (rises, behind) refl

-- with a step that is not above 0 likewise, if the end is below the start
pub falling_loop_has_its_iterations : (loop : LoopDesc) → int_lt (pos 0) loop.incr ≡ false → int_lt loop.end loop.start ≡ true →
    trip_count loop ≡ div_ceil (unsigned_abs (loop.end -ℤ loop.start)) (unsigned_abs loop.incr)
falling_loop_has_its_iterations loop falls before = rw (falls, before) refl

-- and none if it is not
pub falling_loop_behind_its_end_has_none : (loop : LoopDesc) → int_lt (pos 0) loop.incr ≡ false → int_lt loop.end loop.start ≡ false → trip_count loop ≡ 0
falling_loop_behind_its_end_has_none loop falls behind = rw (falls, behind) refl

-- Refusals

-- a loop may have 2^39 iterations, and a chunk as many
pub most_iterations_and_the_largest_chunk : (max_trips ≡ 549755813888) × (max_chunk ≡ 549755813888)
most_iterations_and_the_largest_chunk = (refl, refl)

-- what a loop is tested for by itself, in this order
pub iterations_are_tested_in_order : (loop : LoopDesc) → trip_tests loop ≡ (int_eq loop.incr (pos 0), ZeroStep) ∷ (is_bad_chunk loop, BadChunk) ∷ (nat_lt 549755813888 (trip_count loop), LoopTooLong) ∷ []
iterations_are_tested_in_order loop = refl

pub loop_is_tested_in_order : (loop : LoopDesc) → (loop_tests loop ≡ trip_tests loop ++ (may_lose_order loop, OrderedLoop) ∷ []) × (may_lose_order loop ≡ loop.ordered && same_end loop.end_kind Cancellable)
loop_is_tested_in_order loop = (refl, refl)

-- a loop with a step and a good chunk is too long if it has more iterations than that
pub loop_with_more_iterations_is_too_long : (loop : LoopDesc) → int_eq loop.incr (pos 0) ≡ false → is_bad_chunk loop ≡ false → max_trips < trip_count loop → first_holding (loop_tests loop) ≡ Some LoopTooLong
loop_with_more_iterations_is_too_long loop steps good many =
    let is : nat_lt max_trips (trip_count loop) ≡ true = lt-ltb max_trips (trip_count loop) many in
    rw (steps, good, is) refl

-- and not if it has no more
pub loop_with_no_more_iterations_is_not_too_long : (loop : LoopDesc) → trip_count loop ≤ max_trips → first_holding (trip_tests loop) ≡ first_holding ((int_eq loop.incr (pos 0), ZeroStep) ∷ (is_bad_chunk loop, BadChunk) ∷ [])
loop_with_no_more_iterations_is_not_too_long loop few =
    let is : nat_lt max_trips (trip_count loop) ≡ false = grind (arith, nat_tests, few) in
    rw is refl

-- a chunk is bad if it is negative, too large, or given where the control variables give the schedule
pub chunk_is_bad_by_its_size : (loop : LoopDesc) → is_bad_chunk loop ≡ int_lt loop.chunk (pos 0) || int_lt (pos 549755813888) loop.chunk || is_runtime loop.sched && not (int_eq loop.chunk (pos 0))
chunk_is_bad_by_its_size loop = refl

-- they give one schedule of the four
pub one_schedule_is_left_to_the_variables : (is_runtime sched.Runtime ≡ true) × (is_runtime sched.Static ≡ false) × (is_runtime sched.Dynamic ≡ false) × (is_runtime sched.Guided ≡ false)
one_schedule_is_left_to_the_variables = (refl, refl, refl, refl)
