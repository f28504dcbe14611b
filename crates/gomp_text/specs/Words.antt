-- A text is its bytes: lines end with a line feed, and words are parted by spaces. (own)
use Rattle.std.specs.Prelude.{ℕ, ◌≡◌, ◌==◌, ◌&&◌, nat_lt, Bool, true, false, if◌then◌else◌, List, [], ◌∷◌, Option, Some, None, MatchOption}
use Rattle.std.specs.Borrow.{Bor}
use Rattle.std.specs.List.{slice_split}

-- the lines of a text; behind the last line feed stands an empty one
abbrev pub lines_of : List ℕ → List (List ℕ)
lines_of text = slice_split (λ b. b == 10) text

-- without the empty parts
abbrev pub without_empty : List (List ℕ) → List (List ℕ)
without_empty [] = []
without_empty ([] ∷ parts) = without_empty parts
without_empty ((b ∷ part) ∷ parts) = (b ∷ part) ∷ without_empty parts

-- the words of a line
abbrev pub words_of : List ℕ → List (List ℕ)
words_of line = without_empty (slice_split (λ b. b == 32) line)

-- what is found is the first word of a line and what follows it, and nothing if the line has no word
abbrev pub IsFirstWord : List ℕ → Option (Bor (List ℕ) × Bor (List ℕ)) → Type 0
IsFirstWord line found = MatchOption found (words_of line ≡ []) (λ parts. words_of line ≡ parts.0.now ∷ words_of parts.1.now)

-- each byte is below 128
abbrev pub is_ascii : List ℕ → Bool
is_ascii [] = true
is_ascii (b ∷ bytes) = nat_lt b 128 && is_ascii bytes

-- the bytes before the first separator, and those after it if there is one
abbrev pub cut_at : ℕ → List ℕ → List ℕ × Option (List ℕ)
cut_at separator [] = ([], None)
cut_at separator (b ∷ bytes) = if b == separator then ([], Some bytes) else (b ∷ (cut_at separator bytes).0, (cut_at separator bytes).1)

-- the parts of what is left of a text that was cut at this separator
abbrev pub parts_left : ℕ → Option (List ℕ) → List (List ℕ)
parts_left separator None = []
parts_left separator (Some rest) = slice_split (λ b. b == separator) rest

-- the parts of a text are this first one and those of what is left
abbrev pub HasParts : ℕ → List ℕ → List ℕ → Option (List ℕ) → Type 0
HasParts separator text first rest = slice_split (λ b. b == separator) text ≡ first ∷ parts_left separator rest

-- what is left of a text that was cut: nothing, if no separator stood in it
abbrev pub rest_of_cut : Option (List ℕ) → List ℕ
rest_of_cut None = []
rest_of_cut (Some rest) = rest

-- the bytes from the first on that is no space
abbrev pub past_spaces : List ℕ → List ℕ
past_spaces [] = []
past_spaces (b ∷ bytes) = if b == 32 then past_spaces bytes else b ∷ bytes

-- two words are the same, byte for byte
abbrev pub same_word : List ℕ → List ℕ → Bool
same_word [] [] = true
same_word (b ∷ one) (c ∷ other) = b == c && same_word one other
same_word _ _ = false
