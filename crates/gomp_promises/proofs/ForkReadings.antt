-- How large the team of a region is, with which number and variables it is made, and what a runtime keeps for the next one.
use Rattle.std.proofs.Common.{◌≡◌, ℕ, ◌≤◌, Some, refl}
use Rattle.gomp_icv.specs.Teams.{child}
use Rattle.gomp_icv.specs.Variables.{Variables, initial}
use Rattle.gomp_runtime.specs.Regions.{KeptParts, size_for, team_for}

-- The size of a team

-- as many members as there are programs, and at most 64
pub team_is_as_large_as_its_programs : (size_for initial 1 ≡ 1) × (size_for initial 3 ≡ 3) × (size_for initial 64 ≡ 64) × (size_for initial 65 ≡ 64)
team_is_as_large_as_its_programs = (refl, refl, refl, refl)

-- no more than the thread limit, the encountering thread counted
pub team_is_within_the_thread_limit : (size_for (record initial { thread_limit = 3 }) 2 ≡ 2) × (size_for (record initial { thread_limit = 3 }) 3 ≡ 3) × (size_for (record initial { thread_limit = 3 }) 64 ≡ 3)
team_is_within_the_thread_limit = (refl, refl, refl)

-- one alone, if no level may be active
pub team_without_a_level_has_one_member : (progs : ℕ) → size_for (record initial { max_active_levels = 0 }) progs ≡ 1
team_without_a_level_has_one_member progs = refl

-- The team

-- has this number, and the variables of a team of its size
pub team_has_its_number : (number progs : ℕ) (icv : Variables) → ((team_for number icv progs).number ≡ number) × ((team_for number icv progs).icv ≡ child icv (size_for icv progs))
team_has_its_number number progs icv = (refl, refl)

-- it is a level more, unless it has one member
pub team_of_several_is_a_level_more : (number : ℕ) → ((team_for number initial 3).icv.active ≡ 1) × ((team_for number initial 1).icv.active ≡ 0) × ((team_for number (record initial { thread_limit = 1 }) 3).icv.active ≡ 0)
team_of_several_is_a_level_more number = (refl, refl, refl)

-- What is kept

-- more parts of the book's ledgers than the members of a team may have, and all of the ledger of events
pub kept_parts_are_enough : (held freed parts : ℕ) → KeptParts held freed (Some parts) → (129 ≤ held) × (129 ≤ freed) × (parts ≡ 65)
kept_parts_are_enough held freed parts keeps = (keeps.enough_held, keeps.enough_freed, keeps.events_whole)
