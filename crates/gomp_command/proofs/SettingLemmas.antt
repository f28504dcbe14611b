-- The words `NAME=VALUE`, one by one.
use Rattle.std.proofs.Common.{◌≡◌, ◌<◌, ℕ, Bool, true, false, List, [], ◌∷◌, ◌++◌, Option, Some, None, Bor, map, length, refl, inl, inr, sym, ap, arith, get_or}
use Rattle.std.specs.Prelude.{find, nat_lt}
use Rattle.std.specs.List.{position_or_len}
use Rattle.std.specs.Option.{option_map}
use Rattle.std.proofs.lemmas.Bool.{cases_Bool, eqb-false, eqb-true, ltb-true}
use Rattle.std.proofs.lemmas.Bool.Decides.{nat_tests}
use Rattle.std.proofs.lemmas.List.Sums.{fails_before_first, passes_at_first}
use Rattle.gomp_icv.specs.EnvWords.{read_env}
use Rattle.gomp_command.specs.Settings.{Text, first_without, has_equals, is_equals, pairs_of, read_settings}

-- these pairs, and those that are cut later
abbrev pub with_fronts : List (Text × Text) → Option (List (Text × Text)) → Option (List (Text × Text))
with_fronts pairs None = None
with_fronts pairs (Some later) = Some (pairs ++ later)

unpaired_without : (words : List Text) (word : Text) → first_without words ≡ Some word → pairs_of words ≡ None
unpaired_without [] word first = absurd (cc)
unpaired_without (w ∷ words) word first = elim (cases_Bool (has_equals w)) [
  | inl here ↦ rw here (rw (unpaired_without words word (rw here at first)) refl)
  | inr none ↦ rw none refl
]

-- if a word has no `=`, nothing is read of the words
pub unread_without : (words : List Text) (word : Text) → first_without words ≡ Some word → read_settings words ≡ None
unread_without words word first = ap (option_map read_env) (unpaired_without words word first)

-- the first that passes among words behind references is the first among the words
pub first_seen : (p : Text → Bool) (words : List (Bor Text)) → option_map (λ word. word.now) (find (λ word. p word.now) words) ≡ find p (map (λ word. word.now) words)
first_seen p [] = refl
first_seen p (word ∷ words) = elim (cases_Bool (p word.now)) [
  | inl here ↦ rw here refl
  | inr none ↦ rw none (first_seen p words)
]

equals_at : (word : Text) (k : ℕ) → k < length word → get_or word k 0 ≡ 61 → has_equals word ≡ true
equals_at word k within here = elim (cases_Bool (nat_lt k (position_or_len is_equals word))) [
  | inl before ↦ absurd (eqb-false (get_or word k 0) 61 (fails_before_first is_equals word k 0 (ltb-true k (position_or_len is_equals word) before)) here)
  | inr after ↦ grind (arith, nat_tests, within, after)
]

-- a test that is true where an `=` stands at some place, and only there, tells whether a word has one
pub tells_equals : (word : Text) (said : Bool) → (said ≡ true → (k : ℕ) × (k < length word) × (get_or word k 0 ≡ 61)) × ((k : ℕ) → k < length word → get_or word k 0 ≡ 61 → said ≡ true) → said ≡ has_equals word
tells_equals word true told = let place = told.0 refl in sym (equals_at word place.0 place.1 place.2)
tells_equals word false told = elim (cases_Bool (has_equals word)) [
  | inl some ↦
      let within : position_or_len is_equals word < length word = ltb-true (position_or_len is_equals word) (length word) some in
      let wrong : false ≡ true = told.1 (position_or_len is_equals word) within (eqb-true _ 61 (passes_at_first is_equals word 0 within)) in
      absurd (cc)
  | inr none ↦ sym none
]
