-- Numbers, digit by digit.
use Rattle.std.proofs.Common.{◌≡◌, ℕ, ◌+◌, ◌-◌, ◌*◌, ◌<◌, true, false, List, [], ◌∷◌, None, length, drop, get_or, refl, ap, ◌∙◌, arith, inl, inr}
use Rattle.std.specs.Prelude.{nat_le}
use Rattle.std.proofs.lemmas.Bool.{cases_Bool}
use Rattle.std.proofs.lemmas.Bool.Decides.{nat_tests}
use Rattle.std.proofs.lemmas.List.{drop_more}
use Rattle.gomp_text.specs.Numbers.{is_digit, digits_after, up_to, unsigned}

pub filled_number : (most : ℕ) (word : List ℕ) → (length word ≡ 0 → ⊥) → unsigned most word ≡ up_to most (digits_after 0 word)
filled_number most [] some = absurd (some refl)
filled_number most (b ∷ word) some = refl

pub next_digit : (n i : ℕ) (word : List ℕ) → i < length word → is_digit (get_or word i 0) ≡ true → digits_after n (drop i word) ≡ digits_after (n * 10 + (get_or word i 0 - 48)) (drop (i + 1) word)
next_digit n i word lt digit = ap (digits_after n) (drop_more word i 0 lt) ∙ rw digit refl

-- a number that is too large stays so
pub too_large : (most n : ℕ) (bytes : List ℕ) → most < n → up_to most (digits_after n bytes) ≡ None
too_large most n [] lt =
    let above : nat_le n most ≡ false = grind (arith, nat_tests, lt) in
    rw above refl
too_large most n (b ∷ bytes) lt = elim (cases_Bool (is_digit b)) [
  | inl digit ↦ rw digit (too_large most (n * 10 + (b - 48)) bytes (omega arith))
  | inr other ↦ rw other refl
]
