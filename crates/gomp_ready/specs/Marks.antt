-- How far members have looked through a list, as data. (own)
use Rattle.std.specs.Prelude.{ℕ, ◌-◌, Bool, if◌then◌else◌, List, [], map, take, slice_index_or}

-- the mark of a member at a level: so many tasks at the front it has looked at there in vain
abbrev pub mark_at : ℕ → ℕ → List (List ℕ) → ℕ
mark_at m l marks = slice_index_or (slice_index_or marks m []) l 0

-- the marks of all members, each lower by so many
abbrev pub without : ℕ → List (List ℕ) → List (List ℕ)
without gone marks = map (map (λ mark. mark - gone)) marks

-- a mark once a task has gone out of the list, if one has
abbrev pub lowered : Bool → ℕ → ℕ
lowered listed mark = if listed then mark - 1 else mark

-- the tasks at the front of a list up to each mark
abbrev pub fronts : List ℕ → List (List ℕ) → List (List (List ℕ))
fronts list marks = map (map (λ mark. take mark list)) marks
