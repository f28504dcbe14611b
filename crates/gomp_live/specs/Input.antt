-- The lines of an input. (own)
use Rattle.std.specs.Prelude.{ℕ, ◌==◌, if◌then◌else◌, List, [], ◌∷◌}

-- the lines with this byte in front of the first
abbrev pub with_front : ℕ → List (List ℕ) → List (List ℕ)
with_front b [] = (b ∷ []) ∷ []
with_front b (line ∷ lines) = (b ∷ line) ∷ lines

-- the lines of an input, each without its line feed; the last may end with the input
abbrev pub input_lines : List ℕ → List (List ℕ)
input_lines [] = []
input_lines (b ∷ bytes) = if b == 10 then [] ∷ input_lines bytes else with_front b (input_lines bytes)

-- these lines, the newest of them first, and those that come, in their order
abbrev pub in_order : List (List ℕ) → List (List ℕ) → List (List ℕ)
in_order [] coming = coming
in_order (line ∷ earlier) coming = in_order earlier (line ∷ coming)
