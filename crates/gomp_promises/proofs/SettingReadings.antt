-- How the words `NAME=VALUE` of a command line are read, of every word and every list of words.
use Rattle.std.proofs.Common.{◌≡◌, ◌≢◌, ℕ, true, false, List, [], ◌∷◌, Option, Some, None, refl}
use Rattle.std.specs.List.{before_first, after_first}
use Rattle.std.specs.Option.{option_map}
use Rattle.std.proofs.lemmas.Bool.{ne_eqb}
use Rattle.gomp_icv.specs.EnvWords.{read_env}
use Rattle.std.specs.Prelude.{map}
use Rattle.gomp_command.specs.declared.command.Request.{Request}
use Rattle.gomp_command.specs.CommandLine.{asked_by}
use Rattle.gomp_command.specs.Settings.{Text, is_equals, has_equals, first_without, pair_of, with_pair, pairs_of, read_settings}

-- the byte of `=` is 61, and no other is
pub equals_is_one_byte : is_equals 61 ≡ true
equals_is_one_byte = refl

pub no_other_byte_is_equals : (b : ℕ) → b ≢ 61 → is_equals b ≡ false
no_other_byte_is_equals b other = ne_eqb b 61 other

-- a word is parted at its first one, and one that has none is no pair
pub word_is_parted_at_its_first_equals : (word : Text) → has_equals word ≡ true → pair_of word ≡ Some (before_first is_equals word, after_first is_equals word)
word_is_parted_at_its_first_equals word has = rw has refl

pub word_without_equals_is_no_pair : (word : Text) → has_equals word ≡ false → pair_of word ≡ None
word_without_equals_is_no_pair word none = rw none refl

-- each word of a list is a pair, and one that is none spoils it
pub pair_is_put_in_front : (pair : Text × Text) (pairs : List (Text × Text)) (later : Option (List (Text × Text))) → (with_pair (Some pair) (Some pairs) ≡ Some (pair ∷ pairs)) × (with_pair (Some pair) None ≡ None) × (with_pair None later ≡ None)
pair_is_put_in_front pair pairs later = (refl, refl, refl)

pub each_word_is_a_pair : (word : Text) (words : List Text) → (pairs_of [] ≡ Some []) × (pairs_of (word ∷ words) ≡ with_pair (pair_of word) (pairs_of words))
each_word_is_a_pair word words = (refl, refl)

-- the first word without one is told
pub word_without_equals_is_told : (word : Text) (words : List Text) → has_equals word ≡ false → first_without (word ∷ words) ≡ Some word
word_without_equals_is_told word words none = rw none refl

pub word_with_equals_is_passed : (word : Text) (words : List Text) → has_equals word ≡ true → first_without (word ∷ words) ≡ first_without words
word_with_equals_is_passed word words has = rw has refl

-- the pairs are read as words of the environment
pub settings_are_read_as_the_environment : (words : List Text) → read_settings words ≡ option_map read_env (pairs_of words)
settings_are_read_as_the_environment words = refl

-- Requests

-- a request asks for its own service, with its settings by what they refer to
pub request_asks_for_its_service : (request : Request) → asked_by request ≡ record { service = request.service; settings = map (λ word. word.now) request.settings.now }
request_asks_for_its_service request = refl
