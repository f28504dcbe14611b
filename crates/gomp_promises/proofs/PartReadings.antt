-- Blanks behind a text, an `=` in a word, items and payloads, of every byte and every word.
use Rattle.std.proofs.Common.{◌≡◌, ◌≢◌, ◌<◌, ◌≤◌, ℕ, ◌+◌, ◌∙◌, suc, true, false, List, [], ◌∷◌, Option, Some, None, Ok, Err, codes, length, inl, inr, ap, sym, refl, arith}
use Rattle.std.specs.Prelude.{nat_lt, Result}
use Rattle.std.specs.List.{position_or_len, before_first, after_first}
use Rattle.std.proofs.lemmas.Bool.{cases_Bool, lt-ltb, ne_eqb}
use Rattle.std.proofs.lemmas.Bool.Decides.{nat_tests}
use Rattle.gomp_types.specs.declared.depend.Dep.{Dep}
use Rattle.gomp_types.specs.declared.depend.DepKind.{DepKind}
use Rattle.gomp_types.specs.declared.depend.DepKind.TheVariants as dep
use Rattle.gomp_text.specs.Blanks.{is_blank, past_blanks, before_blanks}
use Rattle.gomp_text.specs.Numbers.{unsigned}
use Rattle.gomp_script.specs.declared.parse.Why.{Why}
use Rattle.gomp_script.specs.declared.parse.Why.TheVariants as why
use Rattle.gomp_script.specs.StepText.{◌>>=◌, with_item, items_of, payload_words}
use Rattle.gomp_command.specs.Settings.{is_equals, has_equals, first_without, pair_of, with_pair, pairs_of}

-- Blanks

-- a blank stays in front of something
pub blank_before_something_stays : (b c : ℕ) (bytes behind : List ℕ) → before_blanks bytes ≡ c ∷ behind → before_blanks (b ∷ bytes) ≡ b ∷ c ∷ behind
blank_before_something_stays b c bytes behind some = elim (cases_Bool (is_blank b)) [
  | inl blank ↦ rw (blank, some, ne_eqb (length (c ∷ behind)) 0 (omega arith)) refl
  | inr other ↦ rw (other, some) refl
]

-- no blank stays in front of nothing, and nothing is left of nothing
pub blank_before_nothing_goes : (b : ℕ) → is_blank b ≡ true → (before_blanks (b ∷ []) ≡ []) × (before_blanks [] ≡ []) × (past_blanks (b ∷ []) ≡ []) × (past_blanks [] ≡ [])
blank_before_nothing_goes b blank = (rw blank refl, refl, rw blank refl, refl)

-- any other byte stays, whatever is behind it
pub other_byte_stays_alone : (b : ℕ) → is_blank b ≡ false → (before_blanks (b ∷ []) ≡ b ∷ []) × (past_blanks (b ∷ []) ≡ b ∷ [])
other_byte_stays_alone b other = (rw other refl, rw other refl)

-- Settings

-- an `=` is the byte 61, and no other
pub equals_is_its_byte : (b : ℕ) → (is_equals 61 ≡ true) × (b ≢ 61 → is_equals b ≡ false)
equals_is_its_byte b = (refl, λ other. rw (ne_eqb b 61 other) refl)

-- what is one further in a word that is one longer is as far from its end
test_one_further : (n m : ℕ) → nat_lt (1 + n) (suc m) ≡ nat_lt n m
test_one_further n m = elim (cases_Bool (nat_lt n m)) [
  | inl before ↦ let less : n < m = grind (arith, nat_tests, before) in lt-ltb (1 + n) (suc m) (omega arith) ∙ sym before
  | inr behind ↦ let more : m ≤ n = grind (arith, nat_tests, behind) in let is : nat_lt (1 + n) (suc m) ≡ false = grind (arith, nat_tests, more) in is ∙ sym behind
]

-- a word has one if it begins with one, or has one behind that; the empty word has none
pub word_has_an_equals_byte_by_byte : (b : ℕ) (word : List ℕ) → (has_equals [] ≡ false) × (has_equals (61 ∷ word) ≡ true) × (b ≢ 61 → has_equals (b ∷ word) ≡ has_equals word)
word_has_an_equals_byte_by_byte b word = (
  refl,
  lt-ltb 0 (suc (length word)) (omega arith),
  λ other.
      let further : position_or_len is_equals (b ∷ word) ≡ 1 + position_or_len is_equals word = rw (ne_eqb b 61 other) refl in
      ap (λ n. nat_lt n (suc (length word))) further ∙ test_one_further (position_or_len is_equals word) (length word),
)

-- the first word without one is told
pub first_word_without_an_equals_is_told : (word : List ℕ) (words : List (List ℕ)) → (first_without [] ≡ None) × (has_equals word ≡ false → first_without (word ∷ words) ≡ Some word) × (has_equals word ≡ true → first_without (word ∷ words) ≡ first_without words)
first_word_without_an_equals_is_told word words = (refl, λ none. rw none refl, λ some. rw some refl)

-- a word with one is its name and its value
pub setting_is_its_name_and_value : (word : List ℕ) → (has_equals word ≡ true → pair_of word ≡ Some (before_first is_equals word, after_first is_equals word)) × (has_equals word ≡ false → pair_of word ≡ None)
setting_is_its_name_and_value word = (λ some. rw some refl, λ none. rw none refl)

-- settings are read if each is one, in their order
pub settings_are_read_in_order : (word : List ℕ) (words : List (List ℕ)) (pair : List ℕ × List ℕ) (later : List (List ℕ × List ℕ)) (others : Option (List (List ℕ × List ℕ))) →
    (pairs_of [] ≡ Some []) × (pairs_of (word ∷ words) ≡ with_pair (pair_of word) (pairs_of words)) × (with_pair (Some pair) (Some later) ≡ Some (pair ∷ later)) × (with_pair (Some pair) None ≡ None) × (with_pair None others ≡ None)
settings_are_read_in_order word words pair later others = (refl, refl, refl, refl, refl)

-- Items

-- a bad address is the line's fault, of an item of each kind
pub bad_address_of_each_kind_is_told : (addr : List ℕ) (words : List (List ℕ)) → unsigned 18446744073709551615 addr ≡ None →
    (items_of (codes "in" ∷ addr ∷ words) ≡ Err why.BadNumber)
    × (items_of (codes "out" ∷ addr ∷ words) ≡ Err why.BadNumber)
    × (items_of (codes "inout" ∷ addr ∷ words) ≡ Err why.BadNumber)
    × (items_of (codes "inoutset" ∷ addr ∷ words) ≡ Err why.BadNumber)
    × (items_of (codes "mutexinoutset" ∷ addr ∷ words) ≡ Err why.BadNumber)
bad_address_of_each_kind_is_told addr words bad = (rw bad refl, rw bad refl, rw bad refl, rw bad refl, rw bad refl)

-- a good one of each kind is read with its own kind
pub good_address_of_each_kind_is_read : (addr : List ℕ) (words : List (List ℕ)) (place : ℕ) (later : List Dep) → unsigned 18446744073709551615 addr ≡ Some place → items_of words ≡ Ok later →
    (items_of (codes "in" ∷ addr ∷ words) ≡ Ok (record { kind = dep.DepIn; addr = place } ∷ later))
    × (items_of (codes "out" ∷ addr ∷ words) ≡ Ok (record { kind = dep.DepOut; addr = place } ∷ later))
    × (items_of (codes "inout" ∷ addr ∷ words) ≡ Ok (record { kind = dep.DepInout; addr = place } ∷ later))
    × (items_of (codes "inoutset" ∷ addr ∷ words) ≡ Ok (record { kind = dep.DepInoutset; addr = place } ∷ later))
    × (items_of (codes "mutexinoutset" ∷ addr ∷ words) ≡ Ok (record { kind = dep.DepMutex; addr = place } ∷ later))
good_address_of_each_kind_is_read addr words place later good rest = (rw (good, rest) refl, rw (good, rest) refl, rw (good, rest) refl, rw (good, rest) refl, rw (good, rest) refl)

-- an item's own fault is told before that of later ones, whatever both are
pub fault_of_an_item_is_told_first : (of : DepKind) (fault : Why) (later : Result (List Dep) Why) → with_item of (Err fault) later ≡ Err fault
fault_of_an_item_is_told_first of fault later = refl

pub fault_of_a_later_item_is_told : (of : DepKind) (place : ℕ) (fault : Why) → with_item of (Ok place) (Err fault) ≡ Err fault
fault_of_a_later_item_is_told of place fault = refl

-- Payloads

-- the fault of a later word is the line's, if the first has none, whatever it is
pub bad_later_word_of_a_payload_is_told : (word : List ℕ) (words : List (List ℕ)) (first : ℕ) (fault : Why) → unsigned 18446744073709551615 word ≡ Some first → payload_words words ≡ Err fault → payload_words (word ∷ words) ≡ Err fault
bad_later_word_of_a_payload_is_told word words first fault good bad = rw (good, bad) refl

-- no words are a payload of none
pub payload_without_words_is_empty : payload_words [] ≡ Ok []
payload_without_words_is_empty = refl

-- Steps of reading

-- a fault is told, and nothing behind it is read; a value is read on
pub fault_ends_the_reading : {A B : Type 0} (value : A) (fault : Why) (go : A → Result B Why) → ((Err fault >>= go) ≡ Err fault) × ((Ok value >>= go) ≡ go value)
fault_ends_the_reading value fault go = (refl, refl)
