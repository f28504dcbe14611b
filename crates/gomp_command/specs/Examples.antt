-- Worked command lines. (own)
use Rattle.std.specs.Prelude.{List, [], ◌∷◌, codes}
use Rattle.gomp_command.specs.Settings.{Text}

-- two settings, of which the second is that of no variable
abbrev pub with_settings : List Text
with_settings = codes "ompteam" ∷ codes "steps" ∷ codes "OMP_SCHEDULE=guided,7" ∷ codes "FOO=1" ∷ []

-- the other service
abbrev pub with_live : List Text
with_live = codes "ompteam" ∷ codes "live" ∷ codes "OMP_SCHEDULE=guided,7" ∷ []

-- the third service
abbrev pub with_check : List Text
with_check = codes "ompteam" ∷ codes "check" ∷ codes "OMP_SCHEDULE=guided,7" ∷ []

-- the fourth
abbrev pub with_trace : List Text
with_trace = codes "ompteam" ∷ codes "trace" ∷ codes "OMP_SCHEDULE=guided,7" ∷ []

-- the fifth
abbrev pub with_run : List Text
with_run = codes "ompteam" ∷ codes "run" ∷ codes "OMP_THREAD_LIMIT=3" ∷ []

-- the program's name alone
abbrev pub without_command : List Text
without_command = codes "ompteam" ∷ []

-- another command than those of the services
abbrev pub with_another_command : List Text
with_another_command = codes "ompteam" ∷ codes "walk" ∷ []

-- two settings that have no `=`, behind one that has
abbrev pub with_two_faults : List Text
with_two_faults = codes "ompteam" ∷ codes "steps" ∷ codes "BAR=1" ∷ codes "FOO" ∷ codes "BAZ" ∷ []
