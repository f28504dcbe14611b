-- What is read of a text, and how a service ends if it is not had. (own)
use Rattle.std.specs.Prelude.{◌≡◌, ◌≤◌, ◌<◌, ⊤, ℕ, List, length, Option, IfSome}
use Rattle.std.specs.declared.io.ErrorKind.{ErrorKind}
use Rattle.std.specs.declared.io.ErrorKind.TheVariants as kind
use Rattle.gomp_service.specs.declared.read.Ending.{Ending}
use Rattle.gomp_service.specs.declared.read.Ending.TheVariants.{Answered, NoMemory, InputFault, TooLong, OutputFault}

-- what was read is all that the reader had, if that is known, and no longer than the limit
abbrev pub Whole : ℕ → Option (List ℕ) → List ℕ → Type 0
Whole limit remaining text = IfSome remaining (λ all. text ≡ all) × (length text ≤ limit)

-- the longest text that is read, in bytes
abbrev pub max_text : ℕ
max_text = 16777216

-- the reader has more than the limit, if what it has is known
abbrev pub IsLonger : ℕ → Option (List ℕ) → Type 0
IsLonger limit remaining = IfSome remaining (λ all. limit < length all)

-- the end after a read that failed
abbrev pub unread_as : ErrorKind → Ending
unread_as kind.OutOfMemory = NoMemory
unread_as _ = InputFault

-- the text was not had: for want of memory, since a read failed, or since it is longer than the limit
abbrev pub IsUnread : ℕ → Option (List ℕ) → Ending → Type 0
IsUnread limit remaining NoMemory = ⊤
IsUnread limit remaining InputFault = ⊤
IsUnread limit remaining TooLong = IsLonger limit remaining
IsUnread limit remaining (Answered code) = ⊥
IsUnread limit remaining OutputFault = ⊥
