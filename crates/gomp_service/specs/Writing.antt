-- What is written of some bytes. (own)
use Rattle.std.specs.Prelude.{ℕ, Bool, true, false, List, Option, take}
use Rattle.std.specs.Io.KnownBytes.{Appends}

-- a prefix of these bytes was written, if what the writer holds is known
abbrev pub AppendsPrefix : Option (List ℕ) → Option (List ℕ) → List ℕ → Type 0
AppendsPrefix before after bytes = (count : ℕ) × Appends before after (take count bytes)

-- all of them were, or a prefix
abbrev pub IsWritten : Option (List ℕ) → Option (List ℕ) → List ℕ → Bool → Type 0
IsWritten before after bytes true = Appends before after bytes
IsWritten before after bytes false = AppendsPrefix before after bytes
