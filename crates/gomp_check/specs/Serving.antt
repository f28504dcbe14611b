-- How `ompteam check` serves a text: what is read, what is written of it, and how it ends. (own)
use Rattle.std.specs.Prelude.{◌≡◌, ℕ, List, Option}
use Rattle.std.specs.Io.KnownBytes.{Appends}
use Rattle.gomp_service.specs.Reading.{IsLonger, Whole, max_text}
use Rattle.gomp_service.specs.Writing.{AppendsPrefix}
use Rattle.gomp_service.specs.declared.read.Ending.{Ending}
use Rattle.gomp_service.specs.declared.read.Ending.TheVariants.{Answered, NoMemory, InputFault, TooLong, OutputFault}
use Rattle.gomp_check.specs.Checked.{checked}

-- a text was read whole, and what it is was written, and nothing else; what a reader has and a writer holds is known of some
pub record CheckWritten (remaining before after : Option (List ℕ)) (code : ℕ) : Type 0 where
  pub text : List ℕ
  pub whole : Whole max_text remaining text
  pub written : Appends before after (checked text).0
  pub code_is : code ≡ (checked text).1

-- a text was read whole, and a prefix of what it is was written, and nothing else
pub record CheckCut (remaining before after : Option (List ℕ)) : Type 0 where
  pub text : List ℕ
  pub whole : Whole max_text remaining text
  pub written : AppendsPrefix before after (checked text).0

-- what became of the reader's text: before and after are what the writer holds; if the output failed the text was read whole, and a prefix of the answer was written
abbrev pub Checks : Option (List ℕ) → Option (List ℕ) → Option (List ℕ) → Ending → Type 0
Checks remaining before after (Answered code) = CheckWritten remaining before after code
Checks remaining before after NoMemory = after ≡ before
Checks remaining before after InputFault = after ≡ before
Checks remaining before after TooLong = (after ≡ before) × IsLonger max_text remaining
Checks remaining before after OutputFault = CheckCut remaining before after
