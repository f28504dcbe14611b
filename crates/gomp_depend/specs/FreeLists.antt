-- The list of the tasks that were freed. (own)
use Rattle.std.specs.Prelude.{ℕ, ◌≡◌, ◌≤◌, ◌&&◌, not, Bool, true, List, [], ◌∷◌, length}
use Rattle.gomp_events.specs.Tasks.{contains}

-- whether a list has no task twice
abbrev pub are_different : List ℕ → Bool
are_different [] = true
are_different (t ∷ tasks) = not (contains t tasks) && are_different tasks

-- the tasks that were freed differ, they are among the counted ones, and there is room for as many as are counted
pub record Counted (freed : List ℕ) (capacity count : ℕ) : Type 0 where
  pub differ : are_different freed ≡ true
  pub within : length freed ≤ count
  pub room : count ≤ capacity
