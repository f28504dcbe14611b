-- What an engine answers of its own, as numbers: a kind below those of the replies. (own)
use Rattle.std.specs.Prelude.{ℕ, List, [], ◌∷◌, Option, Some, None, slice_get}
use Rattle.gomp_types.specs.declared.refusal.Refusal.{Refusal}
use Rattle.gomp_types.specs.declared.refusal.Refusal.TheVariants.{BadEnv}
use Rattle.gomp_words.specs.declared.numbers.Numbers.{Numbers}
use Rattle.gomp_words.specs.Replies.{padded}
use Rattle.gomp_engine.specs.declared.answer.OwnAnswer.{OwnAnswer}
use Rattle.gomp_engine.specs.declared.answer.OwnAnswer.TheVariants.{NoCall, NoTeam, NoMember, NoMemory, NewTeam, NameByte, NameEnd, NotIgnored}

-- a kind without words
abbrev pub bare : ℕ → Numbers
bare kind = record { kind = kind; count = 0; words = padded [] }

abbrev pub own_numbers : OwnAnswer → Numbers
own_numbers NoCall = bare 0
own_numbers NoTeam = bare 1
own_numbers NoMember = bare 2
own_numbers NoMemory = bare 3
own_numbers NewTeam = bare 4
own_numbers (NameByte byte) = record { kind = 5; count = 1; words = padded (byte ∷ []) }
own_numbers NameEnd = bare 6
own_numbers NotIgnored = bare 7

-- the name of an ignored setting
abbrev pub ignored_name : Refusal → List ℕ
ignored_name (BadEnv name) = name
ignored_name _ = []

-- the byte there of a name, if it is so long
abbrev pub byte_there : Option ℕ → OwnAnswer
byte_there None = NameEnd
byte_there (Some byte) = NameByte byte

-- that of the name of a setting, if it was ignored
abbrev pub name_byte : Option Refusal → ℕ → OwnAnswer
name_byte None byte = NotIgnored
name_byte (Some setting) byte = byte_there (slice_get (ignored_name setting) byte)
