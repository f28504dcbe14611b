-- The words of the environment, each a name and a value. OpenMP API 5.2, chapter 21.
use Rattle.std.specs.Prelude.{ℕ, ◌≤◌, if◌then◌else◌, List, [], ◌∷◌, map, Option, Some, None, codes}
use Rattle.std.specs.Option.{option_map}
use Rattle.std.specs.Borrow.{Bor}
use Rattle.gomp_types.specs.declared.refusal.Refusal.{Refusal}
use Rattle.gomp_types.specs.declared.refusal.Refusal.TheVariants.{BadEnv}
use Rattle.gomp_text.specs.Words.{same_word}
use Rattle.gomp_icv.specs.Variables.{Variables, IsNumThreads, IsSchedule, initial, max_number}
use Rattle.gomp_icv.specs.EnvValues.{number_of, switch_of, threads_of, schedule_of}
use Rattle.gomp_icv.specs.declared.env.Variable.{Variable}
use Rattle.gomp_icv.specs.declared.env.Variable.TheVariants as var
use Rattle.gomp_icv.specs.declared.env.Setting.{Setting}
use Rattle.gomp_icv.specs.declared.env.Setting.TheVariants as sets

-- the ranges of what is set
abbrev pub IsSetting : Setting → Type 0
IsSetting (sets.NumThreads sizes) = IsNumThreads sizes
IsSetting (sets.Schedule sched chunk) = IsSchedule sched chunk
IsSetting (sets.MaxActiveLevels levels) = levels ≤ max_number
IsSetting (sets.ThreadLimit limit) = (1 ≤ limit) × (limit ≤ max_number)
IsSetting (sets.Dynamic on) = Unit {0}
IsSetting (sets.Cancellation on) = Unit {0}

-- the variable of this name; the case of a name counts
abbrev pub variable_of : List ℕ → Option Variable
variable_of name =
    if same_word name (codes "OMP_NUM_THREADS") then Some var.NumThreads
    else if same_word name (codes "OMP_DYNAMIC") then Some var.Dynamic
    else if same_word name (codes "OMP_SCHEDULE") then Some var.Schedule
    else if same_word name (codes "OMP_MAX_ACTIVE_LEVELS") then Some var.MaxActiveLevels
    else if same_word name (codes "OMP_THREAD_LIMIT") then Some var.ThreadLimit
    else if same_word name (codes "OMP_CANCELLATION") then Some var.Cancellation
    else None

-- what a value makes of a variable; nothing if it is bad
abbrev pub value_for : Variable → List ℕ → Option Setting
value_for var.NumThreads value = option_map sets.NumThreads (threads_of value)
value_for var.Dynamic value = option_map sets.Dynamic (switch_of value)
value_for var.Schedule value = option_map (λ schedule. sets.Schedule schedule.0 schedule.1) (schedule_of value)
value_for var.MaxActiveLevels value = option_map sets.MaxActiveLevels (number_of 0 max_number value)
value_for var.ThreadLimit value = option_map sets.ThreadLimit (number_of 1 max_number value)
value_for var.Cancellation value = option_map sets.Cancellation (switch_of value)

abbrev pub value_for_named : Option Variable → List ℕ → Option Setting
value_for_named None value = None
value_for_named (Some variable) value = value_for variable value

-- what a word sets; nothing if its name is that of no variable that is read, or its value is bad
abbrev pub setting_of : List ℕ → List ℕ → Option Setting
setting_of name value = value_for_named (variable_of name) value

-- one variable is set, the others stay
abbrev pub with_setting : Setting → Variables → Variables
with_setting (sets.NumThreads sizes) icv = record (icv) { nthreads = sizes }
with_setting (sets.Dynamic on) icv = record (icv) { dynamic = on }
with_setting (sets.Schedule sched chunk) icv = record (icv) { sched = sched; chunk = chunk }
with_setting (sets.MaxActiveLevels levels) icv = record (icv) { max_active_levels = levels }
with_setting (sets.ThreadLimit limit) icv = record (icv) { thread_limit = limit }
with_setting (sets.Cancellation on) icv = record (icv) { cancellation = on }

-- a word before others: it sets its variable for them, or is ignored and named first
abbrev pub before : List ℕ → Option Setting → Variables → (Variables → Variables × List Refusal) → Variables × List Refusal
before name (Some setting) icv later = later (with_setting setting icv)
before name None icv later = ((later icv).0, BadEnv name ∷ (later icv).1)

-- the variables that these words make of others, and a refusal for each word that is ignored
abbrev pub read_after : List (List ℕ × List ℕ) → Variables → Variables × List Refusal
read_after [] icv = (icv, [])
read_after ((name, value) ∷ words) icv = before name (setting_of name value) icv (read_after words)

-- the names and the values that words refer to
abbrev pub pairs : List (Bor (List ℕ) × Bor (List ℕ)) → List (List ℕ × List ℕ)
pairs words = map (λ word. (word.0.now, word.1.now)) words

-- what the words of the environment give
abbrev pub read_env : List (List ℕ × List ℕ) → Variables × List Refusal
read_env words = read_after words initial
