-- Blanks around a text, and words in any case. (own)
use Rattle.std.specs.Prelude.{ℕ, ◌==◌, ◌&&◌, ◌||◌, Bool, if◌then◌else◌, List, [], ◌∷◌, length, map}
use Rattle.std.specs.Char.{to_ascii_lowercase}

-- a space or a tab
abbrev pub is_blank : ℕ → Bool
is_blank b = b == 32 || b == 9

-- the bytes from the first on that is no blank
abbrev pub past_blanks : List ℕ → List ℕ
past_blanks [] = []
past_blanks (b ∷ bytes) = if is_blank b then past_blanks bytes else b ∷ bytes

-- the bytes up to the last that is no blank
abbrev pub before_blanks : List ℕ → List ℕ
before_blanks [] = []
before_blanks (b ∷ bytes) = if is_blank b && length (before_blanks bytes) == 0 then [] else b ∷ before_blanks bytes

-- without the blanks before and behind
abbrev pub without_blanks : List ℕ → List ℕ
without_blanks bytes = before_blanks (past_blanks bytes)

-- each ASCII letter as its small one
abbrev pub in_small_letters : List ℕ → List ℕ
in_small_letters word = map to_ascii_lowercase word
