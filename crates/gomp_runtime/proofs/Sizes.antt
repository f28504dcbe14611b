-- How many members a team for so many programs has. OpenMP API 5.2, section 10.1.1.
use Rattle.std.proofs.Common.{ℕ, ◌≡◌, ◌≤◌, ◌<◌, Bool, true, false, if◌then◌else◌, min, max, Some, refl, arith}
use Rattle.gomp_icv.specs.Variables.{Variables}
use Rattle.gomp_icv.specs.Teams.{available_threads, may_be_active, team_size}
use Rattle.gomp_runtime.specs.Regions.{size_for}

capped_wish : (active : Bool) (n available : ℕ) → 0 < n
    → (if active then min (min (max (min n 64) 1) available) 64 else 1) ≡ (if active then min (min (max n 1) available) 64 else 1)
capped_wish true n available some = omega arith
capped_wish false n available some = refl

-- 64 programs ask for as many members as more of them do
pub size_of_capped_wish : (icv : Variables) (n : ℕ) → 0 < n → team_size icv (Some (min n 64)) true 1 ≡ size_for icv n
size_of_capped_wish icv n some = capped_wish (may_be_active icv true) n (available_threads icv.thread_limit 1) some

no_more_than_wished : (active : Bool) (n available : ℕ) → 0 < n → (if active then min (min (max n 1) available) 64 else 1) ≤ n
no_more_than_wished true n available some = omega arith
no_more_than_wished false n available some = some

pub no_more_members_than_programs : (icv : Variables) (n : ℕ) → 0 < n → size_for icv n ≤ n
no_more_members_than_programs icv n some = no_more_than_wished (may_be_active icv true) n (available_threads icv.thread_limit 1) some
