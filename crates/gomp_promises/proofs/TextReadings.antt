-- Blanks, numbers and words of texts, of every byte and every text.
use Rattle.std.proofs.Common.{◌≡◌, ◌≢◌, ℕ, ◌<◌, ◌≤◌, true, false, List, [], ◌∷◌, Some, None, refl, arith}
use Rattle.std.specs.Prelude.{pos, neg_ℤ, ◌==◌, nat_le}
use Rattle.std.specs.Char.{to_ascii_lowercase}
use Rattle.std.specs.List.{slice_split}
use Rattle.std.proofs.lemmas.Bool.{ne_eqb}
use Rattle.std.proofs.lemmas.Bool.Decides.{nat_tests}
use Rattle.gomp_text.specs.Blanks.{is_blank, past_blanks, before_blanks, without_blanks, in_small_letters}
use Rattle.gomp_text.specs.Numbers.{is_digit, digits_after, unsigned, up_to, negative, positive, signed}
use Rattle.gomp_text.specs.Words.{lines_of, without_empty, words_of, past_spaces, rest_of_cut, parts_left}

-- Blanks

-- a space and a tab are blanks
pub space_and_tab_are_blanks : (is_blank 32 ≡ true) × (is_blank 9 ≡ true)
space_and_tab_are_blanks = (refl, refl)

-- and no other byte is
pub no_other_byte_is_a_blank : (b : ℕ) → b ≢ 32 → b ≢ 9 → is_blank b ≡ false
no_other_byte_is_a_blank b space tab = rw (ne_eqb b 32 space, ne_eqb b 9 tab) refl

-- a blank in front is passed
pub blank_in_front_is_passed : (b : ℕ) (bytes : List ℕ) → is_blank b ≡ true → past_blanks (b ∷ bytes) ≡ past_blanks bytes
blank_in_front_is_passed b bytes blank = rw blank refl

-- and what is no blank stays, with all behind it
pub other_byte_in_front_stays : (b : ℕ) (bytes : List ℕ) → is_blank b ≡ false → past_blanks (b ∷ bytes) ≡ b ∷ bytes
other_byte_in_front_stays b bytes other = rw other refl

-- behind a text a blank is dropped if nothing but blanks follows it
pub blank_before_blanks_is_dropped : (b : ℕ) (bytes : List ℕ) → is_blank b ≡ true → before_blanks bytes ≡ [] → before_blanks (b ∷ bytes) ≡ []
blank_before_blanks_is_dropped b bytes blank none = rw (blank, none) refl

-- and what is no blank stays
pub other_byte_behind_stays : (b : ℕ) (bytes : List ℕ) → is_blank b ≡ false → before_blanks (b ∷ bytes) ≡ b ∷ before_blanks bytes
other_byte_behind_stays b bytes other = rw other refl

-- both are done
pub blanks_on_both_sides_go : (bytes : List ℕ) → without_blanks bytes ≡ before_blanks (past_blanks bytes)
blanks_on_both_sides_go bytes = refl

-- Letters

-- each byte of a word is made small, and none is lost
pub each_letter_is_made_small : (b : ℕ) (word : List ℕ) → in_small_letters (b ∷ word) ≡ to_ascii_lowercase b ∷ in_small_letters word
each_letter_is_made_small b word = refl

-- Digits and numbers

-- the digits are the bytes from 48 to 57
pub byte_of_a_digit : (b : ℕ) → 48 ≤ b → b ≤ 57 → is_digit b ≡ true
byte_of_a_digit b least most =
    let low : nat_le 48 b ≡ true = grind (arith, nat_tests, least) in
    let high : nat_le b 57 ≡ true = grind (arith, nat_tests, most) in
    rw (low, high) refl

pub byte_below_the_digits : (b : ℕ) → b < 48 → is_digit b ≡ false
byte_below_the_digits b below = let low : nat_le 48 b ≡ false = grind (arith, nat_tests, below) in rw low refl

pub byte_above_the_digits : (b : ℕ) → 57 < b → is_digit b ≡ false
byte_above_the_digits b above =
    let low : nat_le 48 b ≡ true = grind (arith, nat_tests, above) in
    let high : nat_le b 57 ≡ false = grind (arith, nat_tests, above) in
    rw (low, high) refl

-- behind the last digit the number is what they write
pub number_behind_its_last_digit : (n : ℕ) → digits_after n [] ≡ Some n
number_behind_its_last_digit n = refl

-- no number has another byte
pub no_number_with_another_byte : (n b : ℕ) (bytes : List ℕ) → is_digit b ≡ false → digits_after n (b ∷ bytes) ≡ None
no_number_with_another_byte n b bytes other = rw other refl

-- nor is the empty word one
pub no_number_without_a_digit : (most : ℕ) → unsigned most [] ≡ None
no_number_without_a_digit most = refl

-- a number of a word is that of its digits, up to the most
pub number_is_of_its_digits : (most b : ℕ) (bytes : List ℕ) → unsigned most (b ∷ bytes) ≡ up_to most (digits_after 0 (b ∷ bytes))
number_is_of_its_digits most b bytes = refl

-- behind a hyphen stands a number below 0, down to -2^63
pub number_behind_a_hyphen : (bytes : List ℕ) → signed (45 ∷ bytes) ≡ negative (unsigned 9223372036854775808 bytes)
number_behind_a_hyphen bytes = refl

pub negative_number_is_that_below_zero : (n : ℕ) → (negative (Some n) ≡ Some (neg_ℤ (pos n))) × (negative None ≡ None)
negative_number_is_that_below_zero n = (refl, refl)

-- any other is from 0 on, up to 2^63 - 1
pub number_without_a_hyphen : (b : ℕ) (bytes : List ℕ) → b ≢ 45 → signed (b ∷ bytes) ≡ positive (unsigned 9223372036854775807 (b ∷ bytes))
number_without_a_hyphen b bytes other = rw (ne_eqb b 45 other) refl

pub positive_number_is_itself : (n : ℕ) → (positive (Some n) ≡ Some (pos n)) × (positive None ≡ None)
positive_number_is_itself n = (refl, refl)

-- Lines and words

-- a line feed parts lines, and a space parts words
pub text_is_parted_at_line_feeds : (text : List ℕ) → lines_of text ≡ slice_split (λ b. b == 10) text
text_is_parted_at_line_feeds text = refl

pub line_is_parted_at_spaces : (line : List ℕ) → words_of line ≡ without_empty (slice_split (λ b. b == 32) line)
line_is_parted_at_spaces line = refl

-- a part that is empty is no word, and every other is one
pub empty_part_is_no_word : (parts : List (List ℕ)) → without_empty ([] ∷ parts) ≡ without_empty parts
empty_part_is_no_word parts = refl

pub other_part_is_a_word : (b : ℕ) (part : List ℕ) (parts : List (List ℕ)) → without_empty ((b ∷ part) ∷ parts) ≡ (b ∷ part) ∷ without_empty parts
other_part_is_a_word b part parts = refl

-- a byte that is no space is not passed, whatever is behind it
pub other_byte_is_not_passed : (b : ℕ) (line : List ℕ) → b ≢ 32 → past_spaces (b ∷ line) ≡ b ∷ line
other_byte_is_not_passed b line other = rw (ne_eqb b 32 other) refl

-- what is left behind a cut is all of it, parted in its turn; nothing is left behind no cut
pub rest_of_a_cut_is_whole : (separator : ℕ) (rest : List ℕ) → (rest_of_cut (Some rest) ≡ rest) × (rest_of_cut None ≡ []) × (parts_left separator (Some rest) ≡ slice_split (λ b. b == separator) rest) × (parts_left separator None ≡ [])
rest_of_a_cut_is_whole separator rest = (refl, refl, refl, refl)
