-- Blanks behind a text.
use Rattle.std.proofs.Common.{◌≡◌, ℕ, ◌+◌, ◌-◌, ◌≤◌, true, false, List, [], ◌∷◌, ◌++◌, length, take, get_or, refl, ap, ◌∙◌, sym, arith}
use Rattle.std.specs.Prelude.{◌==◌}
use Rattle.std.proofs.lemmas.Bool.{and_right}
use Rattle.std.proofs.lemmas.Bool.Decides.{nat_tests}
use Rattle.std.proofs.lemmas.List.{take_more}
use Rattle.std.proofs.Math.Seq.{take-length}
use Rattle.gomp_text.specs.Blanks.{is_blank, before_blanks}

blank_behind : (bytes : List ℕ) (b : ℕ) → is_blank b ≡ true → before_blanks (bytes ++ b ∷ []) ≡ before_blanks bytes
blank_behind [] b blank = rw blank refl
blank_behind (a ∷ bytes) b blank = rw (blank_behind bytes b blank) refl

some_left : (bytes : List ℕ) (b : ℕ) → (length (bytes ++ b ∷ []) == 0) ≡ false
some_left [] b = refl
some_left (a ∷ bytes) b = grind (arith, nat_tests)

none_behind : (bytes : List ℕ) (b : ℕ) → is_blank b ≡ false → before_blanks (bytes ++ b ∷ []) ≡ bytes ++ b ∷ []
none_behind [] b other = rw other refl
none_behind (a ∷ bytes) b other = rw (none_behind bytes b other, some_left bytes b, and_right (is_blank a) false refl) refl

-- a text, by its last byte
by_last : (text : List ℕ) (n : ℕ) → n + 1 ≡ length text → text ≡ take n text ++ get_or text n 0 ∷ []
by_last text n all =
    let whole : take (n + 1) text ≡ text = ap (λ (m : ℕ). take m text) all ∙ take-length text in
    sym whole ∙ take_more text n 0 (omega arith)

pub last_blank : (text : List ℕ) → 1 ≤ length text → is_blank (get_or text (length text - 1) 0) ≡ true → before_blanks (take (length text - 1) text) ≡ before_blanks text
last_blank text some blank =
    let n = length text - 1 in
    sym (ap before_blanks (by_last text n (omega arith)) ∙ blank_behind (take n text) (get_or text n 0) blank)

pub last_other : (text : List ℕ) → 1 ≤ length text → is_blank (get_or text (length text - 1) 0) ≡ false → before_blanks text ≡ text
last_other text some other =
    let n = length text - 1 in
    let whole = by_last text n (omega arith) in
    ap before_blanks whole ∙ none_behind (take n text) (get_or text n 0) other ∙ sym whole
