-- Lines and words, by the place of the first separator.
use Rattle.std.proofs.Common.{◌≡◌, ℕ, ◌<◌, zero, suc, Bool, true, false, List, [], ◌∷◌, Option, Some, None, length, take, drop, get_or, slice_index_or, refl, ap, ◌∙◌, sym, arith, inl, inr}
use Rattle.std.specs.Prelude.{◌==◌, ◌≢◌, nat_lt, All, IsTrue, ◌↔◌}
use Rattle.std.specs.List.{slice_split, onto_first}
use Rattle.std.proofs.lemmas.Bool.{cases_Bool, eq-eqb, ne_eqb}
use Rattle.std.proofs.lemmas.Bool.Decides.{nat_tests}
use Rattle.gomp_text.specs.Words.{words_of, without_empty, is_ascii, cut_at, past_spaces, parts_left, same_word}

-- Cutting

pub cut_none : (separator : ℕ) (text : List ℕ) → ((k : ℕ) → k < length text → get_or text k 0 ≢ separator) → cut_at separator text ≡ (text, None)
cut_none separator [] all = refl
cut_none separator (b ∷ text) all =
    let rest = cut_none separator text (λ k lt. all (suc k) (omega arith)) in
    rw (ne_eqb b separator (all 0 (omega arith)), rest) refl

pub cut_found : (separator : ℕ) (text : List ℕ) (i : ℕ) → i < length text → get_or text i 0 ≡ separator → ((k : ℕ) → k < i → get_or text k 0 ≢ separator) → cut_at separator text ≡ (take i text, Some (drop (suc i) text))
cut_found separator [] i inside here before = absurd (omega arith)
cut_found separator (b ∷ text) zero inside here before = rw (eq-eqb b separator here) refl
cut_found separator (b ∷ text) (suc i) inside here before =
    let rest = cut_found separator text i (omega arith) here (λ k lt. before (suc k) (omega arith)) in
    rw (ne_eqb b separator (before 0 (omega arith)), rest) refl

-- ASCII

small_first : (b : ℕ) (line : List ℕ) → b < 128 → All (λ x. x < 128) line → (k d : ℕ) → k < length (b ∷ line) → slice_index_or (b ∷ line) k d < 128
small_first b line small all zero d lt = small
small_first b line small all (suc k) d lt = all k d (omega arith)

ascii_all : (line : List ℕ) → All (λ b. b < 128) line → is_ascii line ≡ true
ascii_all [] all = refl
ascii_all (b ∷ line) all =
    let small : nat_lt b 128 ≡ true = let lt = all 0 0 (omega arith) in grind (arith, nat_tests, lt) in
    rw (small, ascii_all line (λ k d lt. all (suc k) d (omega arith))) refl

ascii_not : (line : List ℕ) → (All (λ b. b < 128) line → ⊥) → is_ascii line ≡ false
ascii_not [] never = absurd (never (λ k d lt. absurd (omega arith)))
ascii_not (b ∷ line) never = elim (cases_Bool (nat_lt b 128)) [
  | inl small ↦ let lt : b < 128 = grind (arith, nat_tests, small) in rw (small, ascii_not line (λ all. never (λ k d under. small_first b line lt all k d under))) refl
  | inr large ↦ rw large refl
]

pub by_test : (test : Bool) (line : List ℕ) → (IsTrue test ↔ All (λ b. b < 128) line) → test ≡ is_ascii line
by_test true line all = sym (ascii_all line (all.0 refl))
by_test false line all = sym (ascii_not line (λ every. let never : false ≡ true = all.1 every in absurd (cc)))

-- Words

onto_first_part : (separator b : ℕ) (found : List ℕ × Option (List ℕ)) → onto_first b (found.0 ∷ parts_left separator found.1) ≡ (b ∷ found.0) ∷ parts_left separator found.1
onto_first_part separator b found = refl

pub parts_cut : (separator : ℕ) (text : List ℕ) → slice_split (λ b. b == separator) text ≡ (cut_at separator text).0 ∷ parts_left separator (cut_at separator text).1
parts_cut separator [] = refl
parts_cut separator (b ∷ text) = elim (cases_Bool (b == separator)) [
  | inl here ↦ rw here refl
  | inr other ↦ rw (other, parts_cut separator text) (onto_first_part separator b (cut_at separator text))
]

past_no_space : (b : ℕ) (line : List ℕ) → (b == 32) ≡ false → past_spaces (b ∷ line) ≡ b ∷ line
past_no_space b line other = rw other refl

pub words_past : (line : List ℕ) → words_of (past_spaces line) ≡ words_of line
words_past [] = refl
words_past (b ∷ line) = go (b == 32) b line refl (words_past line)
  where
    go : (test : Bool) (b : ℕ) (line : List ℕ) → (b == 32) ≡ test → words_of (past_spaces line) ≡ words_of line → words_of (past_spaces (b ∷ line)) ≡ words_of (b ∷ line)
    go true b line is rest = rw is rest
    go false b line is rest = ap words_of (past_no_space b line is)

-- a line that begins with a word
abbrev pub Begins : List ℕ → Type 0
Begins [] = ⊥
Begins (b ∷ line) = (b == 32) ≡ false

pub has_first_word : (line : List ℕ) → (length (past_spaces line) ≡ 0 → ⊥) → Begins (past_spaces line)
has_first_word [] some = absurd (some refl)
has_first_word (b ∷ line) some = elim (cases_Bool (b == 32)) [
  | inl space ↦ rw space (has_first_word line (rw space at some))
  | inr other ↦ rw other other
]

cut_begun : (b : ℕ) (line : List ℕ) → (b == 32) ≡ false → cut_at 32 (b ∷ line) ≡ (b ∷ (cut_at 32 line).0, (cut_at 32 line).1)
cut_begun b line other = rw other refl

words_begun : (line : List ℕ) → Begins line → words_of line ≡ (cut_at 32 line).0 ∷ without_empty (parts_left 32 (cut_at 32 line).1)
words_begun [] begun = absurd begun
words_begun (b ∷ line) begun = ap without_empty (parts_cut 32 (b ∷ line)) ∙ rw (cut_begun b line begun) refl

pub words_first : (line rest : List ℕ) → Begins line → (cut_at 32 line).1 ≡ Some rest → words_of line ≡ (cut_at 32 line).0 ∷ words_of rest
words_first line rest begun after = words_begun line begun ∙ ap (λ (found : Option (List ℕ)). (cut_at 32 line).0 ∷ without_empty (parts_left 32 found)) after

pub words_last : (line : List ℕ) → Begins line → (cut_at 32 line).1 ≡ None → words_of line ≡ (cut_at 32 line).0 ∷ words_of []
words_last line begun after = words_begun line begun ∙ ap (λ (found : Option (List ℕ)). (cut_at 32 line).0 ∷ without_empty (parts_left 32 found)) after

-- Same words

pub same_word_itself : (word : List ℕ) → same_word word word ≡ true
same_word_itself [] = refl
same_word_itself (b ∷ word) = rw (eq-eqb b b refl) (same_word_itself word)

pub same_means : (one other : List ℕ) → same_word one other ≡ true → one ≡ other
same_means [] [] same = refl
same_means [] (c ∷ other) same = absurd (cc)
same_means (b ∷ one) [] same = absurd (cc)
same_means (b ∷ one) (c ∷ other) same = elim (cases_Bool (b == c)) [
  | inl here ↦ let e : b ≡ c = grind (arith, nat_tests, here) in let rest = same_means one other (rw here at same) in rw (e, rest) refl
  | inr apart ↦ let never : false ≡ true = rw apart at same in absurd (cc)
]

-- a test that tells whether two words are equal is `same_word`
pub same_word_of : (test : Bool) (one other : List ℕ) → (IsTrue test ↔ (one ≡ other)) → test ≡ same_word one other
same_word_of true one other decides = sym (rw (decides.0 refl) (same_word_itself other))
same_word_of false one other decides = elim (cases_Bool (same_word one other)) [
  | inl same ↦ let never : false ≡ true = decides.1 (same_means one other same) in absurd (cc)
  | inr apart ↦ sym apart
]
