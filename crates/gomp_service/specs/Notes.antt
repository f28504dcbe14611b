-- What is noted beside the output, and how it is written. (own)
use Rattle.std.specs.Prelude.{ℕ, List, [], ◌++◌, Option, codes, flat_map, string_bytes}
use Rattle.std.specs.Io.KnownBytes.{Appends}
use Rattle.gomp_types.specs.declared.refusal.Refusal.{Refusal}
use Rattle.gomp_types.specs.declared.refusal.Refusal.TheVariants.{BadEnv}
use Rattle.gomp_service.specs.declared.notes.Notes.{Notes}
use Rattle.gomp_service.specs.declared.notes.Notes.TheVariants as notes
use Rattle.gomp_service.specs.declared.notes.Status.{Status}

-- the line that names an ignored word; nothing for another refusal, which is never among the ignored words
abbrev pub ignored_line : Refusal → List ℕ
ignored_line (BadEnv name) = codes "ignored " ++ (name ++ codes "\n")
ignored_line _ = []

-- the lines that name ignored words, in their order
abbrev pub lines_of : List Refusal → List ℕ
lines_of words = flat_map ignored_line words

-- what standard error gets: nothing, one line, or one line for each ignored word, in order
abbrev pub notes_text : Notes → List ℕ
notes_text notes.Nothing = []
notes_text notes.NoMemory = codes "no memory\n"
notes_text (notes.Command text) = string_bytes text
notes_text (notes.Ignored words) = lines_of words.items
notes_text notes.InputFault = codes "input fault\n"
notes_text notes.OutputFault = codes "output fault\n"

-- these notes, and nothing else, were written behind what was there before
abbrev pub AddsNotes : Notes → Option (List ℕ) → Option (List ℕ) → Type 0
AddsNotes notes before after = Appends before after (notes_text notes)

-- the same of the lines of ignored words
abbrev pub AddsLines : List Refusal → Option (List ℕ) → Option (List ℕ) → Type 0
AddsLines words before after = Appends before after (lines_of words)

-- the same of what is noted at this end
abbrev pub IsNoted : Status → Option (List ℕ) → Option (List ℕ) → Type 0
IsNoted status before after = AddsNotes status.notes before after
