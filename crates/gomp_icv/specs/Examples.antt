-- Variables, words and values for the examples. (own)
use Rattle.std.specs.Prelude.{ℕ, ℤ, pos, ◌==◌, Bool, true, List, [], ◌∷◌, map, replicate, codes}
use Rattle.std.specs.List.{slice_split}
use Rattle.gomp_types.specs.declared.loop_desc.Sched.{Sched}
use Rattle.gomp_types.specs.declared.loop_desc.Sched.TheVariants.{Guided}
use Rattle.gomp_types.specs.declared.refusal.Refusal.{Refusal}
use Rattle.gomp_types.specs.declared.refusal.Refusal.TheVariants.{BadEnv}
use Rattle.gomp_icv.specs.Variables.{Variables, initial}
use Rattle.gomp_icv.specs.EnvWords.{read_env}

-- as a program begins, but with these sizes of teams
abbrev pub with_sizes : List ℕ → Variables
with_sizes sizes = record (initial) { nthreads = sizes }

-- as a program begins, but with this switch of dyn-var
abbrev pub with_dynamic : Bool → Variables
with_dynamic on = record (initial) { dynamic = on }

-- as a program begins, but with this schedule and chunk
abbrev pub with_schedule : Sched → ℤ → Variables
with_schedule sched chunk = record (initial) { sched = sched; chunk = chunk }

-- as a program begins, but with this limit of active levels
abbrev pub with_levels : ℕ → Variables
with_levels levels = record (initial) { max_active_levels = levels }

-- as a program begins, but with this limit of threads
abbrev pub with_limit : ℕ → Variables
with_limit limit = record (initial) { thread_limit = limit }

-- as a program begins, but with this switch of cancel-var
abbrev pub with_cancellation : Bool → Variables
with_cancellation on = record (initial) { cancellation = on }

-- as a program begins, but in so many active levels, and with this limit of them
abbrev pub in_levels : ℕ → ℕ → Variables
in_levels active most = record (initial) { active = active; max_active_levels = most }

-- what a word alone gives
abbrev pub read_alone : List ℕ → List ℕ → Variables × List Refusal
read_alone name value = read_env ((name, value) ∷ [])

-- the parts of a text between `|`
abbrev pub parts : List ℕ → List (List ℕ)
parts text = slice_split (λ b. b == 124) text

-- what each of these values gives under this name
abbrev pub each_given : List ℕ → List ℕ → List (Variables × List Refusal)
each_given name values = map (read_alone name) (parts values)

-- so many times these variables, and no word ignored
abbrev pub each_sets : ℕ → Variables → List (Variables × List Refusal)
each_sets count icv = replicate count (icv, [])

-- so many times the initial variables, and the word ignored
abbrev pub each_ignored : ℕ → List ℕ → List (Variables × List Refusal)
each_ignored count name = replicate count (initial, BadEnv name ∷ [])

-- words of all variables, good and bad ones
abbrev pub several : List (List ℕ × List ℕ)
several =
    (codes "OMP_NUM_THREADS", codes "3")
    ∷ (codes "OMP_OTHER", codes "1")
    ∷ (codes "OMP_NUM_THREADS", codes "4,2")
    ∷ (codes "OMP_THREAD_LIMIT", codes "8")
    ∷ (codes "OMP_THREAD_LIMIT", codes "0")
    ∷ (codes "OMP_SCHEDULE", codes "auto,x")
    ∷ (codes "OMP_SCHEDULE", codes "guided,7")
    ∷ (codes "OMP_DYNAMIC", codes "true")
    ∷ (codes "OMP_DYNAMIC", codes "false")
    ∷ (codes "OMP_CANCELLATION", codes "true")
    ∷ (codes "omp_cancellation", codes "false")
    ∷ (codes "OMP_MAX_ACTIVE_LEVELS", codes "5")
    ∷ []

-- what the good ones among them set
abbrev pub several_set : Variables
several_set = record (initial) { nthreads = 4 ∷ 2 ∷ []; sched = Guided; chunk = pos 7; max_active_levels = 5; thread_limit = 8; cancellation = true }
