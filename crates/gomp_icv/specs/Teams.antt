-- The size of a new team, and the variables of its members. OpenMP API 5.2, sections 10.1.1 and 2.4.
use Rattle.std.specs.Prelude.{ℕ, ◌+◌, ◌-◌, min, max, nat_lt, ◌&&◌, Bool, if◌then◌else◌, Option, Some, None}
use Rattle.gomp_types.specs.declared.limits.TheConstants.{MAX_MEMBERS}
use Rattle.gomp_icv.specs.Variables.{Variables, outermost_size, without_first}

-- the size that is asked for: by the num_threads clause, 0 counting as 1 (own), else by nthreads-var
abbrev pub requested_size : Option ℕ → Variables → ℕ
requested_size (Some number) icv = max number 1
requested_size None icv = outermost_size icv.nthreads

-- how many threads the limit leaves if so many are busy, the encountering one counted; at least that one
abbrev pub available_threads : ℕ → ℕ → ℕ
available_threads limit busy = max (limit + 1 - busy) 1

-- whether a new team may have more than one member
abbrev pub may_be_active : Variables → Bool → Bool
may_be_active icv if_clause = if_clause && nat_lt icv.active icv.max_active_levels

-- how many members a new team has
abbrev pub team_size : Variables → Option ℕ → Bool → ℕ → ℕ
team_size icv requested if_clause busy =
    if may_be_active icv if_clause
    then min (min (requested_size requested icv) (available_threads icv.thread_limit busy)) MAX_MEMBERS
    else 1

-- the active levels around the members of a team of this size; they stay at the largest number of their type (own)
abbrev pub levels_within : ℕ → ℕ → ℕ
levels_within size active = if nat_lt 1 size then min (active + 1) 4294967295 else active

-- the variables of the members of a team of this size
abbrev pub child : Variables → ℕ → Variables
child icv size = record (icv) { nthreads = without_first icv.nthreads; active = levels_within size icv.active }
