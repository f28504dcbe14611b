-- The words `NAME=VALUE` of the command line. (own)
use Rattle.std.specs.Prelude.{◌≡◌, ◌==◌, ℕ, Bool, nat_lt, not, if◌then◌else◌, List, [], ◌∷◌, length, Option, Some, None, Result, Ok, Err, find, map}
use Rattle.std.specs.Borrow.{Bor}
use Rattle.std.specs.List.{position_or_len, before_first, after_first}
use Rattle.std.specs.Option.{option_map}
use Rattle.gomp_types.specs.declared.refusal.Refusal.{Refusal}
use Rattle.gomp_icv.specs.Variables.{Variables}
use Rattle.gomp_icv.specs.EnvWords.{read_env}
use Rattle.gomp_command.specs.declared.settings.SettingsError.{SettingsError}
use Rattle.gomp_command.specs.declared.settings.SettingsError.TheVariants.{NoMemory, NoEquals}

abbrev pub Text : Type 0
Text = List ℕ

abbrev pub is_equals : ℕ → Bool
is_equals b = b == 61

-- whether a word has an `=`
abbrev pub has_equals : Text → Bool
has_equals word = nat_lt (position_or_len is_equals word) (length word)

-- the first word that has no `=`; nothing if each has one
abbrev pub first_without : List Text → Option Text
first_without words = find (λ word. not (has_equals word)) words

-- what stands before the first `=` of a word, and what behind it; nothing if it has none
abbrev pub pair_of : Text → Option (Text × Text)
pair_of word =
    if has_equals word then Some (before_first is_equals word, after_first is_equals word)
    else None

abbrev pub with_pair : Option (Text × Text) → Option (List (Text × Text)) → Option (List (Text × Text))
with_pair None pairs = None
with_pair (Some pair) None = None
with_pair (Some pair) (Some pairs) = Some (pair ∷ pairs)

-- the name and the value of each word; nothing if a word has no `=`
abbrev pub pairs_of : List Text → Option (List (Text × Text))
pairs_of [] = Some []
pairs_of (word ∷ words) = with_pair (pair_of word) (pairs_of words)

-- these are the names and values of words, each as it is borrowed
abbrev pub ArePairsOf : List (Bor Text) → List (Bor Text × Bor Text) → Type 0
ArePairsOf words pairs = pairs_of (map (λ word. word.now) words) ≡ Some (map (λ pair. (pair.0.now, pair.1.now)) pairs)

-- the control variables that these settings give, and the words that are ignored
abbrev pub read_settings : List Text → Option (Variables × List Refusal)
read_settings words = option_map read_env (pairs_of words)

-- words are not read as settings: memory was refused if each has an `=`, or this is the first that has none
abbrev pub IsSettingsError : List Text → SettingsError → Type 0
IsSettingsError words NoMemory = first_without words ≡ None
IsSettingsError words (NoEquals word) = (first_without words ≡ Some word.now) × (read_settings words ≡ None)

-- what is given, seen by `view`, is what is read of the words
abbrev pub Gives : {X : Type 0} → (X → Variables × List Refusal) → List Text → Result X SettingsError → Type 0
Gives view words (Ok read) = read_settings words ≡ Some (view read)
Gives view words (Err error) = IsSettingsError words error
