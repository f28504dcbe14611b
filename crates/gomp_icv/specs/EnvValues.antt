-- The values of the environment's words. Case is ignored, and blanks around each part. OpenMP API 5.2, chapter 21.
use Rattle.std.specs.Prelude.{ℕ, ℤ, pos, ◌==◌, ◌||◌, nat_le, Bool, true, false, if◌then◌else◌, List, [], ◌∷◌, take, Option, Some, None, codes}
use Rattle.std.specs.List.{slice_split}
use Rattle.std.specs.Option.{option_map}
use Rattle.gomp_types.specs.declared.loop_desc.Sched.{Sched}
use Rattle.gomp_types.specs.declared.loop_desc.Sched.TheVariants.{Static, Dynamic, Guided}
use Rattle.gomp_types.specs.Iterations.{max_chunk}
use Rattle.gomp_text.specs.Words.{cut_at, same_word}
use Rattle.gomp_text.specs.Numbers.{unsigned}
use Rattle.gomp_text.specs.Blanks.{without_blanks, in_small_letters}
use Rattle.gomp_icv.specs.Variables.{max_number, most_sizes}

-- a number from this one on
abbrev pub from_on : ℕ → Option ℕ → Option ℕ
from_on least None = None
from_on least (Some number) = if nat_le least number then Some number else None

-- a decimal number from `least` to `most`, without a sign
abbrev pub number_of : ℕ → ℕ → List ℕ → Option ℕ
number_of least most part = from_on least (unsigned most (without_blanks part))

-- a part is this word
abbrev pub is_named : List ℕ → List ℕ → Bool
is_named part name = same_word (in_small_letters (without_blanks part)) (in_small_letters name)

-- `true` or `false`
abbrev pub switch_of : List ℕ → Option Bool
switch_of value =
    if is_named value (codes "true") then Some true
    else if is_named value (codes "false") then Some false
    else None

-- a list of sizes

abbrev pub with_size : Option ℕ → Option (List ℕ) → Option (List ℕ)
with_size None sizes = None
with_size (Some size) None = None
with_size (Some size) (Some sizes) = Some (size ∷ sizes)

-- every part is a number from 1
abbrev pub sizes_of : List (List ℕ) → Option (List ℕ)
sizes_of [] = Some []
sizes_of (part ∷ parts) = with_size (number_of 1 max_number part) (sizes_of parts)

-- the parts between commas; those beyond the most that are kept are dropped, and have to be good (own)
abbrev pub threads_of : List ℕ → Option (List ℕ)
threads_of value = option_map (take most_sizes) (sizes_of (slice_split (λ b. b == 44) value))

-- a schedule

-- the schedule of this kind with this chunk; auto is static without a chunk, whatever chunk is given (own)
abbrev pub schedule_chosen : List ℕ → ℤ → Option (Sched × ℤ)
schedule_chosen kind chunk =
    if is_named kind (codes "static") then Some (Static, chunk)
    else if is_named kind (codes "dynamic") then Some (Dynamic, chunk)
    else if is_named kind (codes "guided") then Some (Guided, chunk)
    else if is_named kind (codes "auto") then Some (Static, pos 0)
    else None

abbrev pub chosen_with : List ℕ → Option ℕ → Option (Sched × ℤ)
chosen_with kind None = None
chosen_with kind (Some chunk) = schedule_chosen kind (pos chunk)

-- `kind` or `kind,chunk`, cut at its first comma
abbrev pub kind_and_chunk : List ℕ × Option (List ℕ) → Option (Sched × ℤ)
kind_and_chunk (kind, None) = schedule_chosen kind (pos 0)
kind_and_chunk (kind, Some chunk) = chosen_with kind (number_of 1 max_chunk chunk)

abbrev pub is_modifier : List ℕ → Bool
is_modifier part = is_named part (codes "monotonic") || is_named part (codes "nonmonotonic")

-- what stands before the first colon, if there is one, is a modifier; it changes nothing (own)
abbrev pub after_modifier : List ℕ × Option (List ℕ) → Option (Sched × ℤ)
after_modifier (whole, None) = kind_and_chunk (cut_at 44 whole)
after_modifier (modifier, Some rest) = if is_modifier modifier then kind_and_chunk (cut_at 44 rest) else None

-- `[monotonic:|nonmonotonic:]kind[,chunk]`
abbrev pub schedule_of : List ℕ → Option (Sched × ℤ)
schedule_of value = after_modifier (cut_at 58 value)
