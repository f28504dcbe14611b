-- Numbers, words and lines of every length: what holds of all is stated of all, and each limit is computed at both of its ends.
use Rattle.std.proofs.Common.{◌≡◌, ℕ, zero, suc, ◌+◌, ◌-◌, ◌*◌, ◌<◌, ◌≤◌, true, false, List, [], ◌∷◌, ◌++◌, replicate, Option, Some, None, codes, refl, ap, arith}
use Rattle.std.specs.Prelude.{◌≢◌, pos, negsuc, nat_le, nat_lt, map}
use Rattle.std.proofs.lemmas.Bool.{ne_eqb, eq-eqb, lt-ltb}
use Rattle.std.proofs.lemmas.Bool.Decides.{nat_tests}
use Rattle.gomp_text.specs.Numbers.{is_digit, digits_after, up_to, unsigned, signed}
use Rattle.gomp_text.specs.Words.{is_ascii, cut_at, past_spaces, same_word}

-- Numbers

-- a digit behind a number makes it ten times as large and that much more, however large it is
pub digit_behind_a_number : (n d : ℕ) (bytes : List ℕ) → d < 10 → digits_after n ((48 + d) ∷ bytes) ≡ digits_after (n * 10 + d) bytes
digit_behind_a_number n d bytes small =
    let is : is_digit (48 + d) ≡ true = grind (arith, nat_tests, small) in
    let same : n * 10 + (48 + d - 48) ≡ n * 10 + d = omega arith in
    rw is (ap (λ (m : ℕ). digits_after m bytes) same)

-- a number up to the most stays as it is, and a larger one is none
pub number_up_to_the_most : (most n : ℕ) → n ≤ most → up_to most (Some n) ≡ Some n
number_up_to_the_most most n few = let is : nat_le n most ≡ true = grind (arith, nat_tests, few) in rw is refl

pub number_beyond_the_most : (most n : ℕ) → most < n → up_to most (Some n) ≡ None
number_beyond_the_most most n many = let is : nat_le n most ≡ false = grind (arith, nat_tests, many) in rw is refl

-- at both ends of each type, and one beyond
pub unsigned_at_both_ends :
    (map (unsigned 65535) (codes "0" ∷ codes "256" ∷ codes "65535" ∷ codes "65536" ∷ []) ≡ Some 0 ∷ Some 256 ∷ Some 65535 ∷ None ∷ [])
    × (map (unsigned 4294967295) (codes "0" ∷ codes "65536" ∷ codes "4294967295" ∷ codes "4294967296" ∷ []) ≡ Some 0 ∷ Some 65536 ∷ Some 4294967295 ∷ None ∷ [])
    × (map (unsigned 18446744073709551615) (codes "0" ∷ codes "4294967296" ∷ codes "18446744073709551615" ∷ codes "18446744073709551616" ∷ []) ≡ Some 0 ∷ Some 4294967296 ∷ Some 18446744073709551615 ∷ None ∷ [])
unsigned_at_both_ends = (refl, refl, refl)

pub signed_at_both_ends :
    map signed (codes "-9223372036854775809" ∷ codes "-9223372036854775808" ∷ codes "-4294967297" ∷ codes "-1" ∷ codes "0" ∷ codes "4294967296" ∷ codes "9223372036854775807" ∷ codes "9223372036854775808" ∷ [])
    ≡ None ∷ Some (negsuc 9223372036854775807) ∷ Some (negsuc 4294967296) ∷ Some (negsuc 0) ∷ Some (pos 0) ∷ Some (pos 4294967296) ∷ Some (pos 9223372036854775807) ∷ None ∷ []
signed_at_both_ends = refl

-- Words

-- a byte is ASCII below 128
pub byte_below_is_ascii : (b : ℕ) → b < 128 → is_ascii (b ∷ []) ≡ true
byte_below_is_ascii b small = rw (lt-ltb b 128 small) refl

pub byte_above_is_not_ascii : (b : ℕ) (after : List ℕ) → 128 ≤ b → is_ascii (b ∷ after) ≡ false
byte_above_is_not_ascii b after large = let is : nat_lt b 128 ≡ false = grind (arith, nat_tests, large) in rw is refl

-- a text of any length is cut at its first separator
pub long_text_is_cut : (count separator b : ℕ) (rest : List ℕ) → b ≢ separator → cut_at separator (replicate count b ++ separator ∷ rest) ≡ (replicate count b, Some rest)
long_text_is_cut zero separator b rest differ = rw (eq-eqb separator separator refl) refl
long_text_is_cut (suc count) separator b rest differ = rw (ne_eqb b separator differ) (ap (λ (cut : List ℕ × Option (List ℕ)). (b ∷ cut.0, cut.1)) (long_text_is_cut count separator b rest differ))

-- so many spaces are passed
pub many_spaces_are_passed : (count : ℕ) (rest : List ℕ) → past_spaces (replicate count 32 ++ rest) ≡ past_spaces rest
many_spaces_are_passed zero rest = refl
many_spaces_are_passed (suc count) rest = many_spaces_are_passed count rest

-- words of any length are compared whole
pub long_word_is_itself : (count b : ℕ) → same_word (replicate count b) (replicate count b) ≡ true
long_word_is_itself zero b = refl
long_word_is_itself (suc count) b = rw (eq-eqb b b refl) (long_word_is_itself count b)

pub longer_word_differs : (count b c : ℕ) (more : List ℕ) → same_word (replicate count b) (replicate count b ++ c ∷ more) ≡ false
longer_word_differs zero b c more = refl
longer_word_differs (suc count) b c more = rw (eq-eqb b b refl) (longer_word_differs count b c more)

pub last_byte_differs : (count b c d : ℕ) → c ≢ d → same_word (replicate count b ++ c ∷ []) (replicate count b ++ d ∷ []) ≡ false
last_byte_differs zero b c d differ = rw (ne_eqb c d differ) refl
last_byte_differs (suc count) b c d differ = rw (eq-eqb b b refl) (last_byte_differs count b c d differ)
