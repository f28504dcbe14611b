-- What the services share: for each line of a definition what it alone refuses.
use Rattle.std.proofs.Common.{◌≡◌, ℕ, true, false, List, [], ◌∷◌, Some, None, refl, arith}
use Rattle.std.specs.Prelude.{map, codes}
use Rattle.std.specs.declared.io.ErrorKind.TheVariants as io_kinds
use Rattle.gomp_types.specs.declared.refusal.Refusal.TheVariants.{InsideShare, NoMemory, BadEnv}
use Rattle.gomp_types.specs.declared.reply.Reply.TheVariants.{Passed, Refused}
use Rattle.gomp_service.specs.Notes.{lines_of, notes_text}
use Rattle.gomp_service.specs.Statuses.{is_size, status_of}
use Rattle.gomp_service.specs.Reading.{Whole, max_text, IsLonger, unread_as, IsUnread}
use Rattle.gomp_service.specs.declared.read.TheConstants.{MAX_TEXT}
use Rattle.gomp_service.specs.declared.read.Ending.TheVariants as ending
use Rattle.gomp_service.specs.declared.notes.Notes.TheVariants as notes

-- three bytes
abbrev short_text : List ℕ
short_text = 35 ∷ 97 ∷ 10 ∷ []

-- Sizes and statuses

-- a team has 1 to 64 members
pub sizes_that_are_served : map is_size (0 ∷ 1 ∷ 64 ∷ 65 ∷ []) ≡ false ∷ true ∷ true ∷ false ∷ []
sizes_that_are_served = refl

-- the status is 3 exactly if one of them is want of memory
pub statuses_of_replies :
    map status_of ([] ∷ (Passed ∷ Refused InsideShare ∷ []) ∷ (Refused NoMemory ∷ Passed ∷ []) ∷ (Passed ∷ Refused NoMemory ∷ []) ∷ []) ≡ 0 ∷ 0 ∷ 3 ∷ 3 ∷ []
statuses_of_replies = refl

-- What is read

-- a text of the limit is whole, and one byte more is not
pub whole_up_to_the_limit : Whole 3 (Some short_text) short_text × (Whole 2 (Some short_text) short_text → ⊥)
whole_up_to_the_limit = ((refl, omega arith), λ whole. absurd (let most = whole.1 in omega arith))

-- nor is a part of what the reader has
pub part_is_not_whole : Whole 3 (Some short_text) (35 ∷ []) → ⊥
part_is_not_whole whole = absurd (let all = whole.0 in cc)

-- three bytes are longer than two, and not than three
pub longer_than_the_limit : IsLonger 2 (Some short_text) × (IsLonger 3 (Some short_text) → ⊥)
longer_than_the_limit = (omega arith, λ longer. absurd (omega arith))

-- the longest text has 16 MiB, and is what the services read
pub longest_text : (max_text ≡ 16777216) × (MAX_TEXT ≡ max_text)
longest_text = (refl, refl)

-- a read that failed for want of memory, and another
pub ends_after_a_read : map unread_as (io_kinds.OutOfMemory ∷ io_kinds.Other ∷ io_kinds.InvalidData ∷ []) ≡ ending.NoMemory ∷ ending.InputFault ∷ ending.InputFault ∷ []
ends_after_a_read = refl

-- no text that was not had is answered
pub unread_is_not_answered : (IsUnread 3 None (ending.Answered 0) → ⊥) × (IsUnread 3 None ending.OutputFault → ⊥) × (IsUnread 3 (Some short_text) ending.TooLong → ⊥)
unread_is_not_answered = (λ is. is, λ is. is, λ longer. absurd (omega arith))

-- What is noted

-- what standard error gets
pub texts_of_notes :
    (notes_text notes.Nothing ≡ []) × (notes_text notes.NoMemory ≡ codes "no memory\n") × (notes_text notes.InputFault ≡ codes "input fault\n")
    × (notes_text notes.OutputFault ≡ codes "output fault\n")
texts_of_notes = (refl, refl, refl, refl)

-- what is written of two ignored words
pub ignored_words_written : lines_of (BadEnv (codes "FOO") ∷ BadEnv (codes "omp_dynamic") ∷ []) ≡ codes "ignored FOO\nignored omp_dynamic\n"
ignored_words_written = refl
