-- How the program ends: for each line of a definition an end that it alone refuses.
use Rattle.std.proofs.Common.{◌≡◌, ℕ, List, [], ◌∷◌, Option, Some, None, refl, inl, inr, arith}
use Rattle.std.specs.Prelude.{codes, string_bytes}
use Rattle.std.specs.declared.io.ErrorKind.TheVariants as io_kinds
use Rattle.std.specs.declared.string.String.{String}
use Rattle.std.specs.declared.alloc.Global.{Global}
use Rattle.clap.specs.declared.error.kind.ErrorKind.TheVariants as kinds
use Rattle.gomp_types.specs.declared.refusal.Refusal.TheVariants.{BadEnv}
use Rattle.gomp_icv.specs.Variables.{Variables}
use Rattle.gomp_service.specs.declared.read.Ending.TheVariants as ending
use Rattle.gomp_service.specs.declared.notes.Notes.TheVariants as notes
use Rattle.gomp_service.specs.declared.notes.Status.{Status}
use Rattle.gomp_command.specs.declared.command.Service.TheVariants.{Check, Live, Steps}
use Rattle.gomp_check.proofs.CountLaws.{checked_number}
use Rattle.gomp_serve.specs.Ends.{Names, IsStatus, IsFault, HasNoWords, EndsWithRead, IsErrorReport, ServesBy}

-- How the program ends

-- an answer ends with its number, and nothing is noted if no word is ignored
pub status_of_an_answer : (status : Status) → IsStatus (ending.Answered 2) [] status → status ≡ record { code = 2; notes = notes.Nothing }
status_of_an_answer status is = is

-- if one is, it is named
pub status_with_ignored : (status : Status) → IsStatus (ending.Answered 2) (BadEnv (codes "FOO") ∷ []) status → (status.code ≡ 2) × Names (BadEnv (codes "FOO") ∷ []) status.notes
status_with_ignored status is = (is.0, is.1)

-- nothing noted names no word
pub nothing_names_none : Names (BadEnv (codes "FOO") ∷ []) notes.Nothing → ⊥
nothing_names_none names = names

-- want of memory ends with 3
pub status_of_memory : (status : Status) → IsStatus ending.NoMemory [] status → status ≡ record { code = 3; notes = notes.NoMemory }
status_of_memory status is = is

-- an input that fails or is too long ends with 1
pub status_of_an_input : (status : Status) → (IsStatus ending.InputFault [] status → status ≡ record { code = 1; notes = notes.InputFault }) × (IsStatus ending.TooLong [] status → status ≡ record { code = 1; notes = notes.InputFault })
status_of_an_input status = (λ is. is, λ is. is)

-- and so does an output that fails
pub status_of_an_output : (status : Status) → IsStatus ending.OutputFault [] status → status ≡ record { code = 1; notes = notes.OutputFault }
status_of_an_output status is = is

-- a word without `=` ends with 1, want of memory there with 3, and nothing else comes of it
pub faults_of_settings : (word : Option (List ℕ)) (text : String Global) (code : ℕ) →
    (IsFault word (notes.Command text) code → code ≡ 1) × (IsFault word notes.NoMemory code → code ≡ 3) × (IsFault word notes.Nothing 0 → ⊥) × (IsFault None (notes.Command text) 1 → ⊥)
faults_of_settings word text code = (λ is. is.1, λ is. is, λ is. is, λ is. absurd (let same = is.0 in cc))

-- words that could not be had end with 1, or with 3 for want of memory
pub ends_without_words : (text : String Global) (code : ℕ) →
    (HasNoWords io_kinds.InvalidData (notes.Command text) code → (string_bytes text ≡ codes "error: a word of the command line is not UTF-8\n") × (code ≡ 1))
    × (HasNoWords io_kinds.OutOfMemory (notes.Command text) code → ⊥) × (HasNoWords io_kinds.InvalidData notes.NoMemory code → code ≡ 3) × (HasNoWords io_kinds.InvalidData notes.Nothing 0 → ⊥)
ends_without_words text code = (λ is. (is.1, is.2), λ is. is.0 refl, λ is. is, λ is. is)

-- if a word has no `=`, nothing is written
pub fault_of_a_word_writes_nothing : (status : Status) → EndsWithRead (record { service = Steps; settings = codes "FOO" ∷ [] }) None None (Some []) (Some (35 ∷ 97 ∷ 10 ∷ [])) status → ⊥
fault_of_a_word_writes_nothing status ends = absurd (let same = ends.1 in cc)

-- help ends with 0, and only if it is asked for
pub help_ends_well : (before after : Option (List ℕ)) (code : ℕ) →
    (IsErrorReport kinds.DisplayHelp before after notes.Nothing code → code ≡ 0) × (IsErrorReport kinds.MissingSubcommand before after notes.Nothing code → ⊥)
help_ends_well before after code = (λ told. told.1, λ told. elim told.0 [ inl e ↦ absurd (cc) | inr e ↦ absurd (cc) ])

-- a refused command line ends with 1 and writes nothing to the output
pub refused_words_end : (before after : Option (List ℕ)) (text : String Global) (code : ℕ) →
    (IsErrorReport kinds.MissingSubcommand before after (notes.Command text) code → (code ≡ 1) × (after ≡ before)) × (IsErrorReport kinds.DisplayHelp before after (notes.Command text) code → ⊥)
    × (IsErrorReport kinds.OutOfMemory before after notes.NoMemory code → (code ≡ 3) × (after ≡ before)) × (IsErrorReport kinds.MissingSubcommand before after notes.InputFault code → ⊥)
refused_words_end before after text code = (λ told. (told.2, told.3), λ told. told.0 (inl refl), λ told. told, λ told. told)

-- lines that were answered one by one end with 0 alone
pub live_ends_well : (icv : Variables) (remaining before after : Option (List ℕ)) → ServesBy Live icv remaining before after (ending.Answered 1) → ⊥
live_ends_well icv remaining before after serves = absurd (let end = serves.1 in cc)

-- a text that is checked has no team that could be refused
pub check_refuses_no_team : (icv : Variables) (remaining before after : Option (List ℕ)) → ServesBy Check icv remaining before after (ending.Answered 2) → ⊥
check_refuses_no_team icv remaining before after serves = absurd (let small = checked_number serves.text in let is = serves.code_is in omega (arith, small, is))
