-- What is printed of replies, refusals and faults, of every number, every name and every list of words.
use Rattle.std.proofs.Common.{◌≡◌, ◌≢◌, ℕ, true, false, List, [], ◌∷◌, ◌++◌, codes, refl}
use Rattle.std.specs.Prelude.{ℤ, flat_map, string_bytes}
use Rattle.std.specs.Fmt.{decimal, signed_decimal}
use Rattle.std.specs.declared.string.String.{String}
use Rattle.std.specs.declared.alloc.Global.{Global}
use Rattle.gomp_types.specs.declared.refusal.Refusal.{Refusal}
use Rattle.gomp_types.specs.declared.refusal.Refusal.TheVariants.{BadEnv, NoMemory}
use Rattle.gomp_types.specs.declared.reply.Reply.{Reply}
use Rattle.gomp_types.specs.declared.reply.Reply.TheVariants as reply
use Rattle.gomp_types.specs.RefusalTexts.{text_of}
use Rattle.gomp_script.specs.declared.parse.Why.{Why}
use Rattle.gomp_script.specs.Printing.{reply_text, reply_line, refusal_line, why_text, bad_line_text, word_text}
use Rattle.gomp_region.specs.declared.script.ScriptWhy.{ScriptWhy}
use Rattle.gomp_region.specs.declared.script.ScriptWhy.TheVariants.{Words}
use Rattle.gomp_region.specs.Printing.{script_why_text, bad_script_text}
use Rattle.gomp_service.specs.Notes.{ignored_line, lines_of, notes_text}
use Rattle.gomp_service.specs.declared.notes.Notes.TheVariants as notes
use Rattle.gomp_service.specs.Statuses.{status_of}

-- Replies

-- a chunk is printed by its first iteration and how many it has
pub every_chunk_is_printed : (first : ℤ) (count : ℕ) → reply_text (reply.Chunk first count) ≡ codes "chunk " ++ (signed_decimal first ++ (codes " " ++ decimal count))
every_chunk_is_printed first count = refl

-- a section, a task, a lock and a count by their numbers
pub every_number_is_printed : (number : ℕ) →
    (reply_text (reply.Section number) ≡ codes "section " ++ decimal number)
    × (reply_text (reply.Created number) ≡ codes "created " ++ decimal number)
    × (reply_text (reply.Lock number) ≡ codes "lock " ++ decimal number)
    × (reply_text (reply.Count number) ≡ codes "count " ++ decimal number)
every_number_is_printed number = (refl, refl, refl, refl)

-- words that are handed on, each in its turn
pub every_word_is_printed : (word : ℕ) (words : List ℕ) →
    (reply_text (reply.Copied []) ≡ codes "copied") × (reply_text (reply.Copied words) ≡ codes "copied" ++ flat_map word_text words) × (flat_map word_text (word ∷ words) ≡ (codes " " ++ decimal word) ++ flat_map word_text words)
every_word_is_printed word words = (refl, refl, refl)

-- a task that is run, by its number, its code and its argument, and whether it is the call's own
pub every_run_is_printed : (task code arg : ℕ) →
    (reply_text (reply.Run task code arg true) ≡ (codes "run " ++ (decimal task ++ (codes " " ++ (decimal code ++ (codes " " ++ decimal arg))))) ++ codes " own")
    × (reply_text (reply.Run task code arg false) ≡ (codes "run " ++ (decimal task ++ (codes " " ++ (decimal code ++ (codes " " ++ decimal arg))))) ++ [])
every_run_is_printed task code arg = (refl, refl)

-- a task that is done, by its number, and whether a wait is open again
pub every_end_of_a_task_is_printed : (task : ℕ) →
    (reply_text (reply.TaskDone task true) ≡ codes "task_done " ++ (decimal task ++ (codes " " ++ codes "waiting"))) × (reply_text (reply.TaskDone task false) ≡ codes "task_done " ++ (decimal task ++ (codes " " ++ codes "free")))
every_end_of_a_task_is_printed task = (refl, refl)

-- a refusal by its text, whatever it is
pub every_refusal_is_printed : (refusal : Refusal) → (reply_text (reply.Refused refusal) ≡ codes "refused " ++ text_of refusal) × (refusal_line refusal ≡ (codes "refused " ++ text_of refusal) ++ codes "\n")
every_refusal_is_printed refusal = (refl, refl)

-- each reply ends its line
pub every_reply_ends_its_line : (given : Reply) → reply_line given ≡ reply_text given ++ codes "\n"
every_reply_ends_its_line given = refl

-- Faults

-- a bad line of steps is printed by its number, and what is wrong
pub every_bad_line_is_printed : (line : ℕ) (why : Why) → bad_line_text (record { line = line; why = why }) ≡ codes "bad line " ++ (decimal line ++ (codes ": " ++ (why_text why ++ codes "\n")))
every_bad_line_is_printed line why = refl

-- and so is one of a script; a fault of its words as that of a line of steps
pub every_bad_statement_is_printed : (line : ℕ) (why : ScriptWhy) → bad_script_text (record { line = line; why = why }) ≡ codes "bad line " ++ (decimal line ++ (codes ": " ++ (script_why_text why ++ codes "\n")))
every_bad_statement_is_printed line why = refl

pub every_fault_of_words_is_printed_alike : (why : Why) → script_why_text (Words why) ≡ why_text why
every_fault_of_words_is_printed_alike why = refl

-- Notes

-- an ignored word is named, whichever it is
pub every_ignored_word_is_named : (name : List ℕ) (words : List Refusal) → (ignored_line (BadEnv name) ≡ codes "ignored " ++ (name ++ codes "\n")) × (lines_of (BadEnv name ∷ words) ≡ (codes "ignored " ++ (name ++ codes "\n")) ++ lines_of words)
every_ignored_word_is_named name words = (refl, refl)

-- and no other refusal is
pub no_other_refusal_is_named : (refusal : Refusal) → ((name : List ℕ) → refusal ≢ BadEnv name) → ignored_line refusal ≡ []
no_other_refusal_is_named (BadEnv name) other = absurd (other name refl)
no_other_refusal_is_named _ other = refl

-- what is wrong with a command line is noted whole, and so are all ignored words
pub command_and_words_are_noted_whole : (text : String Global) → notes_text (notes.Command text) ≡ string_bytes text
command_and_words_are_noted_whole text = refl

-- The status of replies

-- want of memory makes it 3, whatever comes behind
pub want_of_memory_is_status_three : (replies : List Reply) → status_of (reply.Refused NoMemory ∷ replies) ≡ 3
want_of_memory_is_status_three replies = refl

-- any other refusal leaves it to what comes behind
pub other_refusal_leaves_the_status : (refusal : Refusal) (replies : List Reply) → refusal ≢ NoMemory → status_of (reply.Refused refusal ∷ replies) ≡ status_of replies
other_refusal_leaves_the_status NoMemory replies other = absurd (other refl)
other_refusal_leaves_the_status _ replies other = refl

-- and so does any reply that is no refusal
pub other_reply_leaves_the_status : (given : Reply) (replies : List Reply) → ((refusal : Refusal) → given ≢ reply.Refused refusal) → status_of (given ∷ replies) ≡ status_of replies
other_reply_leaves_the_status (reply.Refused refusal) replies other = absurd (other refusal refl)
other_reply_leaves_the_status _ replies other = refl
