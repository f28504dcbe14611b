-- What words of the environment give, computed. OpenMP API 5.2, chapter 21.
use Rattle.std.proofs.Common.{◌≡◌, pos, negsuc, true, false, [], ◌∷◌, codes, refl, arith}
use Rattle.std.specs.Prelude.{map, flat_map, replicate}
use Rattle.gomp_types.specs.declared.loop_desc.Sched.TheVariants.{Static, Dynamic, Guided}
use Rattle.gomp_types.specs.declared.refusal.Refusal.TheVariants.{BadEnv}
use Rattle.gomp_icv.specs.Variables.{initial}
use Rattle.gomp_icv.specs.EnvWords.{read_env, IsSetting}
use Rattle.gomp_icv.specs.declared.env.Setting.TheVariants as sets
use Rattle.gomp_icv.specs.Examples.{with_sizes, with_dynamic, with_schedule, with_levels, with_limit, with_cancellation, read_alone, parts, each_given, each_sets, each_ignored, several, several_set}

-- without a word the variables are the initial ones
pub no_word : read_env [] ≡ (initial, [])
no_word = refl

-- of two good values the last counts
pub last_counts : read_env ((codes "OMP_NUM_THREADS", codes "3") ∷ (codes "OMP_NUM_THREADS", codes "4,2") ∷ []) ≡ (with_sizes (4 ∷ 2 ∷ []), [])
last_counts = refl

-- a bad value leaves the good one before it
pub good_one_stays : read_env ((codes "OMP_THREAD_LIMIT", codes "3") ∷ (codes "OMP_THREAD_LIMIT", codes "0") ∷ []) ≡ (with_limit 3, BadEnv (codes "OMP_THREAD_LIMIT") ∷ [])
good_one_stays = refl

-- ignored words are named in their order
pub names_in_order : read_env ((codes "OMP_nested", codes "true") ∷ (codes "omp_num_threads", codes "3") ∷ []) ≡ (initial, BadEnv (codes "OMP_nested") ∷ BadEnv (codes "omp_num_threads") ∷ [])
names_in_order = refl

-- a word that is ignored twice is named twice
pub named_twice : (read_env ((codes "FOO", codes "1") ∷ (codes "FOO", codes "1") ∷ [])).1 ≡ BadEnv (codes "FOO") ∷ BadEnv (codes "FOO") ∷ []
named_twice = refl

-- two sizes, with blanks or zeros
pub sizes_of_teams : each_given (codes "OMP_NUM_THREADS") (codes "4,2| 4 , 2 |\t4\t,\t2\t|04,0002") ≡ each_sets 4 (with_sizes (4 ∷ 2 ∷ []))
sizes_of_teams = refl

-- the largest size
pub largest_size : each_given (codes "OMP_NUM_THREADS") (codes "2147483647") ≡ each_sets 1 (with_sizes (2147483647 ∷ []))
largest_size = refl

-- four sizes, and those behind them dropped
pub four_sizes_kept : each_given (codes "OMP_NUM_THREADS") (codes "8,7,6,5|8,7,6,5,3|8,7,6,5,4,3") ≡ each_sets 3 (with_sizes (8 ∷ 7 ∷ 6 ∷ 5 ∷ []))
four_sizes_kept = refl

-- what is no list of sizes
pub no_list : each_given (codes "OMP_NUM_THREADS") (codes "| |\t|0|4,0|+1|-1|4,+2|4,-2|4,|,4|4,,2|4, ,2|,|4;2|4 2|four") ≡ each_ignored 17 (codes "OMP_NUM_THREADS")
no_list = refl

-- sizes above the largest
pub sizes_above : each_given (codes "OMP_NUM_THREADS") (codes "2147483648|4,2147483648|99999999999999999999999999") ≡ each_ignored 3 (codes "OMP_NUM_THREADS")
sizes_above = refl

-- a fifth size that is bad
pub fifth_sizes : each_given (codes "OMP_NUM_THREADS") (codes "8,7,6,5,0|8,7,6,5,x|8,7,6,5,|8,7,6,5,2147483648") ≡ each_ignored 4 (codes "OMP_NUM_THREADS")
fifth_sizes = refl

-- dyn-var on
pub dynamic_on : each_given (codes "OMP_DYNAMIC") (codes "true|TRUE|True| true|true\t|\ttRuE ") ≡ each_sets 6 (with_dynamic true)
dynamic_on = refl

-- and off
pub dynamic_off : each_given (codes "OMP_DYNAMIC") (codes "false|FALSE|fAlse| false ") ≡ each_sets 4 (with_dynamic false)
dynamic_off = refl

-- what is no switch of it
pub dynamic_bad : each_given (codes "OMP_DYNAMIC") (codes "| |yes|no|1|0|+1|t|truee|tru|true,|true false|tr ue") ≡ each_ignored 13 (codes "OMP_DYNAMIC")
dynamic_bad = refl

-- cancel-var on
pub cancellation_on : each_given (codes "OMP_CANCELLATION") (codes "true|TRUE|True| true|true\t|\ttRuE ") ≡ each_sets 6 (with_cancellation true)
cancellation_on = refl

-- and off
pub cancellation_off : each_given (codes "OMP_CANCELLATION") (codes "false|FALSE|fAlse| false ") ≡ each_sets 4 (with_cancellation false)
cancellation_off = refl

-- what is no switch of it
pub cancellation_bad : each_given (codes "OMP_CANCELLATION") (codes "| |yes|no|1|0|+1|t|truee|tru|true,|true false|tr ue") ≡ each_ignored 13 (codes "OMP_CANCELLATION")
cancellation_bad = refl

-- a switch that was on is turned off
pub turned_off : read_env ((codes "OMP_DYNAMIC", codes "true") ∷ (codes "OMP_CANCELLATION", codes "true") ∷ (codes "OMP_DYNAMIC", codes "false") ∷ []) ≡ (with_cancellation true, [])
turned_off = refl

-- static without a chunk, and auto
pub static_alone : each_given (codes "OMP_SCHEDULE") (codes "static| STATIC |auto|Auto|auto,7|monotonic:auto,7|AUTO , 549755813888") ≡ each_sets 7 (with_schedule Static (pos 0))
static_alone = refl

-- static with a chunk
pub static_with_chunk : each_given (codes "OMP_SCHEDULE") (codes "static,4|monotonic:static,4|\tstatic\t,\t004\t| Monotonic : Static , 4 ") ≡ each_sets 4 (with_schedule Static (pos 4))
static_with_chunk = refl

-- dynamic
pub dynamic_alone : each_given (codes "OMP_SCHEDULE") (codes "dynamic| NonMonotonic : dynamic") ≡ each_sets 2 (with_schedule Dynamic (pos 0))
dynamic_alone = refl

-- guided with the largest chunk
pub guided_with_chunk : each_given (codes "OMP_SCHEDULE") (codes "GUIDED,549755813888") ≡ each_sets 1 (with_schedule Guided (pos 549755813888))
guided_with_chunk = refl

-- a bad kind or chunk
pub bad_kinds : each_given (codes "OMP_SCHEDULE") (codes "| |dynamic,0|auto,x|auto,0|auto,|guided,549755813889|runtime|4|,4") ≡ each_ignored 10 (codes "OMP_SCHEDULE")
bad_kinds = refl

-- what stands before a colon is no modifier, or nothing good behind it
pub bad_modifiers : each_given (codes "OMP_SCHEDULE") (codes "foo:static|:static|static:4|static,4:5|monotonic|monotonic:|mono tonic:static") ≡ each_ignored 7 (codes "OMP_SCHEDULE")
bad_modifiers = refl

-- more than a kind and a chunk
pub too_many_parts : each_given (codes "OMP_SCHEDULE") (codes "static,4,5|static,|static,+4|static,-4|static,4 5|static 4|monotonic:nonmonotonic:static") ≡ each_ignored 7 (codes "OMP_SCHEDULE")
too_many_parts = refl

-- a schedule without a chunk takes the chunk of the word before it away
pub chunk_taken_away : read_env ((codes "OMP_SCHEDULE", codes "guided,7") ∷ (codes "OMP_SCHEDULE", codes "static") ∷ []) ≡ (with_schedule Static (pos 0), [])
chunk_taken_away = refl

-- no active level
pub no_levels : each_given (codes "OMP_MAX_ACTIVE_LEVELS") (codes "0|00| 0\t") ≡ each_sets 3 (with_levels 0)
no_levels = refl

-- the most active levels
pub most_active_levels : each_given (codes "OMP_MAX_ACTIVE_LEVELS") (codes "2147483647") ≡ each_sets 1 (with_levels 2147483647)
most_active_levels = refl

-- a limit of one thread
pub one_thread : each_given (codes "OMP_THREAD_LIMIT") (codes "1|01|\t1 ") ≡ each_sets 3 (with_limit 1)
one_thread = refl

-- the largest limit of threads
pub largest_limit : each_given (codes "OMP_THREAD_LIMIT") (codes "2147483647") ≡ each_sets 1 (with_limit 2147483647)
largest_limit = refl

-- what is no number of levels
pub bad_levels : each_given (codes "OMP_MAX_ACTIVE_LEVELS") (codes "| |+1|-1|1.5|1,2|0x1|one|2147483648|99999999999999999999999999") ≡ each_ignored 10 (codes "OMP_MAX_ACTIVE_LEVELS")
bad_levels = refl

-- what is no limit of threads
pub bad_limits : each_given (codes "OMP_THREAD_LIMIT") (codes "| |+1|-1|1.5|1,2|0x1|one|2147483648|99999999999999999999999999") ≡ each_ignored 10 (codes "OMP_THREAD_LIMIT")
bad_limits = refl

-- nor is 0
pub limit_zero : each_given (codes "OMP_THREAD_LIMIT") (codes "0|000") ≡ each_ignored 2 (codes "OMP_THREAD_LIMIT")
limit_zero = refl

-- names of no variable that is read, whatever the value
pub other_names : flat_map (λ name. map (read_alone name) (parts (codes "1|true|static|"))) (parts (codes "omp_num_threads|Omp_Dynamic|OMP_NUM_THREAD|OMP_SCHEDULES| OMP_DYNAMIC||OMP_NESTED|OMP_STACKSIZE|PATH")) ≡ flat_map (λ name. replicate 4 (initial, BadEnv name ∷ [])) (parts (codes "omp_num_threads|Omp_Dynamic|OMP_NUM_THREAD|OMP_SCHEDULES| OMP_DYNAMIC||OMP_NESTED|OMP_STACKSIZE|PATH"))
other_names = refl

-- words of all variables, good and bad ones
pub several_words : read_env several ≡ (several_set, map (λ name. BadEnv name) (parts (codes "OMP_OTHER|OMP_THREAD_LIMIT|OMP_SCHEDULE|omp_cancellation")))
several_words = refl

-- The ranges of what is set: what stands in them at their ends, and what is one beyond

-- the most levels
pub levels_in_range : IsSetting (sets.MaxActiveLevels 2147483647)
levels_in_range = omega arith

-- and one more
pub levels_out_of_range : IsSetting (sets.MaxActiveLevels 2147483648) → ⊥
levels_out_of_range = λ within. absurd (omega (arith, within))

-- the least and the largest limit
pub limits_in_range : IsSetting (sets.ThreadLimit 1) × IsSetting (sets.ThreadLimit 2147483647)
limits_in_range = ((omega arith, omega arith), (omega arith, omega arith))

-- no limit is 0
pub limit_of_none : IsSetting (sets.ThreadLimit 0) → ⊥
limit_of_none = λ within. absurd (omega (arith, within.0))

-- or above the largest
pub limit_out_of_range : IsSetting (sets.ThreadLimit 2147483648) → ⊥
limit_out_of_range = λ within. absurd (omega (arith, within.1))

-- a list of sizes is set only in its range
pub sizes_out_of_range : IsSetting (sets.NumThreads []) → ⊥
sizes_out_of_range = λ within. absurd (omega (arith, within.0))

-- and a schedule only in its
pub schedule_out_of_range : IsSetting (sets.Schedule Static (negsuc 0)) → ⊥
schedule_out_of_range = λ within. let never = within.1 in absurd (cc)

-- a switch has none
pub switches_in_range : IsSetting (sets.Dynamic true) × IsSetting (sets.Cancellation false)
switches_in_range = (tt, tt)
