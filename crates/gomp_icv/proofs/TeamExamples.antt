-- The sizes of teams and the variables of their members, computed. OpenMP API 5.2, sections 10.1.1 and 2.4.
use Rattle.std.proofs.Common.{◌≡◌, pos, true, false, [], ◌∷◌, Some, None, refl}
use Rattle.gomp_types.specs.declared.loop_desc.Sched.TheVariants.{Guided}
use Rattle.gomp_icv.specs.Variables.{initial}
use Rattle.gomp_icv.specs.Teams.{team_size, child}
use Rattle.gomp_icv.specs.Examples.{with_sizes, with_limit, with_levels, with_dynamic, in_levels}

-- the first size of the list counts
pub first_size_counts : team_size (with_sizes (4 ∷ 2 ∷ [])) None true 1 ≡ 4
first_size_counts = refl

-- a false if clause makes a team of one
pub false_if_clause : team_size (with_sizes (4 ∷ 2 ∷ [])) None false 1 ≡ 1
false_if_clause = refl

-- also if more members are requested
pub false_if_clause_first : team_size (with_sizes (4 ∷ 2 ∷ [])) (Some 100) false 1 ≡ 1
false_if_clause_first = refl

-- no team has more than 64 members
pub most_members : team_size initial (Some 100) true 1 ≡ 64
most_members = refl

-- 64 members may be requested
pub members_64 : team_size initial (Some 64) true 1 ≡ 64
members_64 = refl

-- and one fewer
pub members_63 : team_size initial (Some 63) true 1 ≡ 63
members_63 = refl

-- a request of 0 members counts as 1
pub zero_requested : team_size initial (Some 0) true 1 ≡ 1
zero_requested = refl

-- a request of one member is a team of one
pub one_requested : team_size initial (Some 1) true 1 ≡ 1
one_requested = refl

-- a thread that is busy besides is missing
pub one_busy_besides : team_size initial (Some 100) true 2 ≡ 63
one_busy_besides = refl

-- if only one thread is left, it is the encountering one
pub only_one_left : team_size initial (Some 100) true 64 ≡ 1
only_one_left = refl

-- if all threads are busy, the encountering one is left
pub encountering_thread_left : team_size initial (Some 100) true 65 ≡ 1
encountering_thread_left = refl

-- however many are busy
pub most_busy : team_size initial (Some 100) true 4294967295 ≡ 1
most_busy = refl

-- the first size is cut to what the limit leaves
pub size_cut_by_limit : team_size (with_sizes (4 ∷ 2 ∷ [])) None true 62 ≡ 3
size_cut_by_limit = refl

-- a limit below the size
pub small_limit : team_size (with_limit 3) None true 1 ≡ 3
small_limit = refl

-- a limit of which two threads are left
pub two_left : team_size (with_limit 3) None true 2 ≡ 2
two_left = refl

-- a limit of which one is left
pub one_left : team_size (with_limit 3) None true 3 ≡ 1
one_left = refl

-- a limit of which none is left
pub limit_used : team_size (with_limit 3) None true 4 ≡ 1
limit_used = refl

-- the largest limit, with room for eight
pub eight_of_the_largest_limit : team_size (with_limit 2147483647) (Some 8) true 2147483640 ≡ 8
eight_of_the_largest_limit = refl

-- and for seven
pub seven_of_the_largest_limit : team_size (with_limit 2147483647) (Some 8) true 2147483641 ≡ 7
seven_of_the_largest_limit = refl

-- no active level is allowed
pub no_level_allowed : team_size (with_levels 0) (Some 8) true 1 ≡ 1
no_level_allowed = refl

-- all active levels are used
pub levels_used : team_size (in_levels 1 1) None true 1 ≡ 1
levels_used = refl

-- more levels than the limit are around
pub levels_above_the_limit : team_size (in_levels 2 1) None true 1 ≡ 1
levels_above_the_limit = refl

-- one active level is left
pub level_left : team_size (in_levels 1 2) None true 1 ≡ 4
level_left = refl

-- dyn-var changes nothing
pub dynamic_changes_nothing : team_size (with_dynamic true) (Some 64) true 1 ≡ 64
dynamic_changes_nothing = refl

-- a list without a size, which no variables have, asks for one member
pub size_of_no_list : team_size (with_sizes []) None true 1 ≡ 1
size_of_no_list = refl

-- the members get the list without its first size
pub members_lose_the_first_size : child (with_sizes (4 ∷ 2 ∷ [])) 4 ≡ record (with_sizes (2 ∷ [])) { active = 1 }
members_lose_the_first_size = refl

-- a list of four loses one size
pub one_size_is_lost : (child (with_sizes (8 ∷ 7 ∷ 6 ∷ 5 ∷ [])) 4).nthreads ≡ 7 ∷ 6 ∷ 5 ∷ []
one_size_is_lost = refl

-- the last size stays
pub last_size_stays : (child (with_sizes (2 ∷ [])) 2).nthreads ≡ 2 ∷ []
last_size_stays = refl

-- a team of one loses its first size too, and is no active level
pub team_of_one : child (with_sizes (4 ∷ 2 ∷ [])) 1 ≡ with_sizes (2 ∷ [])
team_of_one = refl

-- a team of two is an active level
pub team_of_two : (child initial 2).active ≡ 1
team_of_two = refl

-- the active levels stay at the largest number of their type
pub most_levels : (child (in_levels 4294967295 1) 2).active ≡ 4294967295
most_levels = refl

-- up to which they are counted
pub level_before_the_last : (child (in_levels 4294967294 1) 2).active ≡ 4294967295
level_before_the_last = refl

-- all other variables are inherited
pub child_inherits_each_variable : child (record { dynamic = true; nthreads = 3 ∷ []; sched = Guided; chunk = pos 7; max_active_levels = 5; thread_limit = 9; cancellation = true; active = 2 }) 3 ≡ record { dynamic = true; nthreads = 3 ∷ []; sched = Guided; chunk = pos 7; max_active_levels = 5; thread_limit = 9; cancellation = true; active = 3 }
child_inherits_each_variable = refl

-- a team in a team of the list 4, 2 has one member, if one level is allowed
pub team_within : team_size (child (with_sizes (4 ∷ 2 ∷ [])) 4) None true 1 ≡ 1
team_within = refl

-- and two members, if two levels are
pub second_level : team_size (child (record (with_sizes (4 ∷ 2 ∷ [])) { max_active_levels = 2 }) 4) None true 4 ≡ 2
second_level = refl

-- a team in that one has one
pub third_level : team_size (child (child (record (with_sizes (4 ∷ 2 ∷ [])) { max_active_levels = 2 }) 4) 2) None true 1 ≡ 1
third_level = refl

-- within two active teams two levels are counted
pub two_levels : (child (child (with_sizes (4 ∷ 2 ∷ [])) 4) 2).active ≡ 2
two_levels = refl

-- a team of one in an active team leaves its level and its size
pub one_within : child (child (with_sizes (4 ∷ 2 ∷ [])) 4) 1 ≡ record (with_sizes (2 ∷ [])) { active = 1 }
one_within = refl
