-- Loops of the greatest extent: they count without a wrap, and one iteration more is refused.
use Rattle.std.proofs.Common.{◌≡◌, refl}
use Rattle.std.specs.Prelude.{pos, negsuc, Ok, Err}
use Rattle.gomp_types.specs.declared.loop_desc.Sched.TheVariants.{Guided, Runtime}
use Rattle.gomp_types.specs.declared.refusal.Refusal.TheVariants.{ZeroStep, BadChunk, LoopTooLong}
use Rattle.gomp_types.specs.Limits.{capped_limits}
use Rattle.gomp_types.specs.Pieces.{resolved_loop}
use Rattle.gomp_model.specs.Examples.{over_all_values, down_all_values, up_to, trips_of}

-- The loop over all values of an i64

-- by the largest step
pub trips_by_the_largest_step : trips_of (over_all_values (pos 9223372036854775807)) ≡ Ok 3
trips_by_the_largest_step = refl

-- downwards, by the least step
pub trips_by_the_least_step : trips_of (down_all_values (negsuc 9223372036854775807)) ≡ Ok 2
trips_by_the_least_step = refl

-- by 1
pub loop_by_one_is_too_long : trips_of (over_all_values (pos 1)) ≡ Err LoopTooLong
loop_by_one_is_too_long = refl

-- by 0
pub loop_by_zero_is_refused : trips_of (over_all_values (pos 0)) ≡ Err ZeroStep
loop_by_zero_is_refused = refl

-- by 2 to the 30th
pub trips_by_a_power_of_two : trips_of (over_all_values (pos 1073741824)) ≡ Ok 17179869184
trips_by_a_power_of_two = refl

-- The longest loop and the largest chunk

-- the longest loop is let through
pub longest_loop_is_allowed : trips_of (up_to (pos 549755813888) (pos 0)) ≡ Ok 549755813888
longest_loop_is_allowed = refl

-- one iteration more is refused
pub longer_loop_is_refused : trips_of (up_to (pos 549755813889) (pos 0)) ≡ Err LoopTooLong
longer_loop_is_refused = refl

-- the largest chunk is let through
pub largest_chunk_is_allowed : trips_of (up_to (pos 4) (pos 549755813888)) ≡ Ok 4
largest_chunk_is_allowed = refl

-- one iteration more is refused
pub larger_chunk_is_refused : trips_of (up_to (pos 4) (pos 549755813889)) ≡ Err BadChunk
larger_chunk_is_refused = refl

-- a loop that is too long and has a bad chunk is refused for its chunk
pub bad_chunk_comes_before_length : trips_of (up_to (pos 549755813889) (negsuc 0)) ≡ Err BadChunk
bad_chunk_comes_before_length = refl

-- a limit above the standard one counts as that
pub limits_above_the_standard_are_capped :
    capped_limits (record { shares = 131065; tasks = 1048577; events = 16777217 })
    ≡ record { shares = 131064; tasks = 1048576; events = 16777216 }
limits_above_the_standard_are_capped = refl

-- The schedule that the control variables give

-- a runtime loop without a chunk gets their schedule and chunk
pub runtime_loop_gets_its_schedule :
    resolved_loop Guided (pos 7) (record (over_all_values (pos 1)) { sched = Runtime })
    ≡ record (over_all_values (pos 1)) { sched = Guided; chunk = pos 7 }
runtime_loop_gets_its_schedule = refl

-- a loop of another schedule keeps its own
pub other_loop_keeps_its_schedule :
    resolved_loop Guided (pos 7) (over_all_values (pos 1)) ≡ over_all_values (pos 1)
other_loop_keeps_its_schedule = refl

-- and a runtime loop with a chunk, which is refused, is left as it is
pub runtime_loop_with_chunk_is_kept :
    resolved_loop Guided (pos 7) (record (over_all_values (pos 1)) { sched = Runtime; chunk = pos 5 })
    ≡ record (over_all_values (pos 1)) { sched = Runtime; chunk = pos 5 }
runtime_loop_with_chunk_is_kept = refl
