-- What the contracts of the program's end promise, of all words, inputs and outputs: a lemma for each line of their definitions, so that none says less unnoticed.
use Rattle.std.proofs.Common.{◌≡◌, ◌≢◌, ◌≤◌, ◌++◌, ◌∷◌, ℕ, List, [], Option, Some, None, refl, ap, inl, inr, sym, subst, ◌∙◌, arith}
use Rattle.std.specs.Prelude.{◌⊎◌, codes, string_bytes, Result, Ok, Err, Vec}
use Rattle.std.specs.Io.KnownBytes.{Appends}
use Rattle.std.specs.IoError.{error_kind}
use Rattle.std.specs.Process.{exit_status}
use Rattle.std.specs.declared.alloc.Global.{Global}
use Rattle.std.specs.declared.io.Error.{Error}
use Rattle.std.specs.declared.io.ErrorKind.{ErrorKind as IoKind}
use Rattle.std.specs.declared.io.ErrorKind.TheVariants as io_kinds
use Rattle.std.specs.declared.process.ExitCode.{ExitCode}
use Rattle.std.specs.declared.string.String.{String}
use Rattle.clap.specs.Words.{Kinds, IsAmong, Text}
use Rattle.clap.specs.declared.error.kind.ErrorKind.{ErrorKind}
use Rattle.clap.specs.declared.error.kind.ErrorKind.TheVariants as kinds
use Rattle.gomp_types.specs.declared.refusal.Refusal.{Refusal}
use Rattle.gomp_icv.specs.Variables.{Variables}
use Rattle.gomp_service.specs.Notes.{notes_text}
use Rattle.gomp_steps.specs.Serving.{Serves}
use Rattle.gomp_service.specs.declared.read.Ending.{Ending}
use Rattle.gomp_service.specs.declared.read.Ending.TheVariants as ending
use Rattle.gomp_service.specs.declared.notes.Notes.{Notes}
use Rattle.gomp_service.specs.declared.notes.Notes.TheVariants as notes
use Rattle.gomp_service.specs.declared.notes.Status.{Status}
use Rattle.gomp_live.specs.Serving.{ServesLive}
use Rattle.gomp_check.specs.Serving.{Checks}
use Rattle.gomp_trace.specs.Serving.{Traces}
use Rattle.gomp_run.specs.Serving.{ServesRun}
use Rattle.gomp_command.specs.CommandLine.{ArePlain, Asked, asked_of, faults_of}
use Rattle.gomp_command.specs.Settings.{first_without, read_settings}
use Rattle.gomp_command.specs.declared.command.Service.{Service}
use Rattle.gomp_command.specs.declared.command.Service.TheVariants.{Steps, Live, Check, Trace, Run}
use Rattle.gomp_serve.specs.Ends.{Asks, AsksRun, Ends, EndsByWord, EndsServedBy, EndsServing, EndsWithRead, HasNoWords, IsErrorReport, IsFault, IsStatus, Names, Refused, ReportsError, ServesBy}
use Rattle.gomp_serve.specs.Process.{EndsAs, EndsOn, EndsWithout}
use Rattle.gomp_serve.proofs.NumberLemmas.{words_number}

-- Services

-- the word of a service has its own service done, and no other
pub steps_serve_steps : (icv : Variables) (remaining before after : Option (List ℕ)) (ended : Ending) → ServesBy Steps icv remaining before after ended → Serves icv remaining before after ended
steps_serve_steps icv remaining before after ended serves = serves

pub live_serves_lines : (icv : Variables) (remaining before after : Option (List ℕ)) (ended : Ending) → ServesBy Live icv remaining before after ended → ServesLive icv remaining before after ended
live_serves_lines icv remaining before after ended serves = serves

pub check_serves_checks : (icv : Variables) (remaining before after : Option (List ℕ)) (ended : Ending) → ServesBy Check icv remaining before after ended → Checks remaining before after ended
check_serves_checks icv remaining before after ended serves = serves

pub trace_serves_traces : (icv : Variables) (remaining before after : Option (List ℕ)) (ended : Ending) → ServesBy Trace icv remaining before after ended → Traces icv remaining before after ended
trace_serves_traces icv remaining before after ended serves = serves

pub run_serves_scripts : (icv : Variables) (remaining before after : Option (List ℕ)) (ended : Ending) → ServesBy Run icv remaining before after ended → ServesRun icv remaining before after ended
run_serves_scripts icv remaining before after ended serves = serves

-- Ignored words

-- the words that are named are those that were ignored, all of them in their order
pub named_words_are_ignored : (ignored : List Refusal) (words : Vec Refusal Global) → Names ignored (notes.Ignored words) → words.items ≡ ignored
named_words_are_ignored ignored words names = names

-- and they are named: nothing else is noted in their place
pub ignored_words_are_noted : (ignored : List Refusal) (noted : Notes) → Names ignored noted → (words : Vec Refusal Global) × (noted ≡ notes.Ignored words) × (words.items ≡ ignored)
ignored_words_are_noted ignored (notes.Ignored words) names = (words, refl, names)
ignored_words_are_noted ignored notes.Nothing names = absurd names
ignored_words_are_noted ignored notes.NoMemory names = absurd names
ignored_words_are_noted ignored (notes.Command text) names = absurd names
ignored_words_are_noted ignored notes.InputFault names = absurd names
ignored_words_are_noted ignored notes.OutputFault names = absurd names

-- The status of an input

-- an input that was answered ends with the number of its answer, whichever that is and whatever was ignored
pub answered_status_is_its_code : (code : ℕ) (ignored : List Refusal) (status : Status) → IsStatus (ending.Answered code) ignored status → status.code ≡ code
answered_status_is_its_code code [] status is = ap (λ (one : Status). one.code) is
answered_status_is_its_code code (word ∷ words) status is = is.0

-- with the ignored words beside it, and with nothing if there are none
pub answered_status_names_ignored : (code : ℕ) (word : Refusal) (words : List Refusal) (status : Status) → IsStatus (ending.Answered code) (word ∷ words) status → Names (word ∷ words) status.notes
answered_status_names_ignored code word words status is = is.1

pub answered_status_notes_nothing : (code : ℕ) (status : Status) → IsStatus (ending.Answered code) [] status → status.notes ≡ notes.Nothing
answered_status_notes_nothing code status is = ap (λ (one : Status). one.notes) is

-- a fault is noted with its number, whatever was ignored
pub memory_status_is_noted : (ignored : List Refusal) (status : Status) → IsStatus ending.NoMemory ignored status → status ≡ record { code = 3; notes = notes.NoMemory }
memory_status_is_noted ignored status is = is

pub input_status_is_noted : (ignored : List Refusal) (status : Status) → IsStatus ending.InputFault ignored status → status ≡ record { code = 1; notes = notes.InputFault }
input_status_is_noted ignored status is = is

pub long_input_status_is_noted : (ignored : List Refusal) (status : Status) → IsStatus ending.TooLong ignored status → status ≡ record { code = 1; notes = notes.InputFault }
long_input_status_is_noted ignored status is = is

pub output_status_is_noted : (ignored : List Refusal) (status : Status) → IsStatus ending.OutputFault ignored status → status ≡ record { code = 1; notes = notes.OutputFault }
output_status_is_noted ignored status is = is

-- if nothing is noted, no word was ignored and the input was answered with this number
unnoted_status : (service : Service) (icv : Variables) (how : Ending) (ignored : List Refusal) (remaining before after : Option (List ℕ)) (status : Status) → ServesBy service icv remaining before after how → IsStatus how ignored status → status.notes ≡ notes.Nothing →
    (ignored ≡ []) × ServesBy service icv remaining before after (ending.Answered status.code)
unnoted_status service icv (ending.Answered code) [] remaining before after status serves is none =
    (refl, subst (λ (number : ℕ). ServesBy service icv remaining before after (ending.Answered number)) (sym (ap (λ (one : Status). one.code) is)) serves)
unnoted_status service icv (ending.Answered code) (word ∷ words) remaining before after status serves is none = absurd (subst (λ (noted : Notes). Names (word ∷ words) noted) none is.1)
unnoted_status service icv ending.NoMemory ignored remaining before after status serves is none = absurd (let other = ap (λ (one : Status). one.notes) is in cc)
unnoted_status service icv ending.InputFault ignored remaining before after status serves is none = absurd (let other = ap (λ (one : Status). one.notes) is in cc)
unnoted_status service icv ending.TooLong ignored remaining before after status serves is none = absurd (let other = ap (λ (one : Status). one.notes) is in cc)
unnoted_status service icv ending.OutputFault ignored remaining before after status serves is none = absurd (let other = ap (λ (one : Status). one.notes) is in cc)

pub unnoted_end_is_an_answer : (service : Service) (icv : Variables) (ignored : List Refusal) (remaining before after : Option (List ℕ)) (status : Status) → EndsServedBy service icv ignored remaining before after status → status.notes ≡ notes.Nothing →
    (ignored ≡ []) × ServesBy service icv remaining before after (ending.Answered status.code)
unnoted_end_is_an_answer service icv ignored remaining before after status ends none = unnoted_status service icv ends.ending ignored remaining before after status ends.serves ends.status_is none

-- if words are named, they were ignored, and the input was answered all the same
noting_status : (service : Service) (icv : Variables) (how : Ending) (ignored : List Refusal) (remaining before after : Option (List ℕ)) (status : Status) (words : Vec Refusal Global) → ServesBy service icv remaining before after how → IsStatus how ignored status → status.notes ≡ notes.Ignored words →
    (words.items ≡ ignored) × ServesBy service icv remaining before after (ending.Answered status.code)
noting_status service icv (ending.Answered code) [] remaining before after status words serves is noted = absurd (let other = ap (λ (one : Status). one.notes) is in cc)
noting_status service icv (ending.Answered code) (word ∷ others) remaining before after status words serves is noted =
    (subst (λ (notes_are : Notes). Names (word ∷ others) notes_are) noted is.1, subst (λ (number : ℕ). ServesBy service icv remaining before after (ending.Answered number)) (sym is.0) serves)
noting_status service icv ending.NoMemory ignored remaining before after status words serves is noted = absurd (let other = ap (λ (one : Status). one.notes) is in cc)
noting_status service icv ending.InputFault ignored remaining before after status words serves is noted = absurd (let other = ap (λ (one : Status). one.notes) is in cc)
noting_status service icv ending.TooLong ignored remaining before after status words serves is noted = absurd (let other = ap (λ (one : Status). one.notes) is in cc)
noting_status service icv ending.OutputFault ignored remaining before after status words serves is noted = absurd (let other = ap (λ (one : Status). one.notes) is in cc)

pub noting_end_is_an_answer : (service : Service) (icv : Variables) (ignored : List Refusal) (remaining before after : Option (List ℕ)) (status : Status) (words : Vec Refusal Global) → EndsServedBy service icv ignored remaining before after status → status.notes ≡ notes.Ignored words →
    (words.items ≡ ignored) × ServesBy service icv remaining before after (ending.Answered status.code)
noting_end_is_an_answer service icv ignored remaining before after status words ends noted = noting_status service icv ends.ending ignored remaining before after status words ends.serves ends.status_is noted

-- Settings that cannot be read

-- the word without `=` is named, with 1
pub word_without_equals_is_named : (word : Text) (text : String Global) (code : ℕ) → IsFault (Some word) (notes.Command text) code → (string_bytes text ≡ codes "error: the word '" ++ (word ++ codes "' is not NAME=VALUE\n")) × (code ≡ 1)
word_without_equals_is_named word text code is = (let same = is.0 in cc, is.1)

-- no word is named that was not found
pub no_word_is_named : (text : String Global) (code : ℕ) → IsFault None (notes.Command text) code → ⊥
no_word_is_named text code is = absurd (let same = is.0 in cc)

pub setting_memory_ends_so : (word : Option Text) (code : ℕ) → IsFault word notes.NoMemory code → code ≡ 3
setting_memory_ends_so word code is = is

-- a fault of the settings is noted as that, and as nothing else
pub setting_fault_is_noted : (word : Option Text) (noted : Notes) (code : ℕ) → IsFault word noted code → ((text : String Global) × (noted ≡ notes.Command text)) ⊎ (noted ≡ notes.NoMemory)
setting_fault_is_noted word (notes.Command text) code is = inl (text, refl)
setting_fault_is_noted word notes.NoMemory code is = inr refl
setting_fault_is_noted word notes.Nothing code is = absurd is
setting_fault_is_noted word (notes.Ignored words) code is = absurd is
setting_fault_is_noted word notes.InputFault code is = absurd is
setting_fault_is_noted word notes.OutputFault code is = absurd is

-- Words that cannot be had

-- a word that is not UTF-8 is noted with 1, and not if memory was refused
pub words_fault_is_noted : (kind : IoKind) (text : String Global) (code : ℕ) → HasNoWords kind (notes.Command text) code → (string_bytes text ≡ codes "error: a word of the command line is not UTF-8\n") × (code ≡ 1)
words_fault_is_noted kind text code is = (is.1, is.2)

pub words_memory_is_no_fault : (text : String Global) (code : ℕ) → HasNoWords io_kinds.OutOfMemory (notes.Command text) code → ⊥
words_memory_is_no_fault text code is = is.0 refl

pub words_memory_ends_so : (kind : IoKind) (code : ℕ) → HasNoWords kind notes.NoMemory code → code ≡ 3
words_memory_ends_so kind code is = is

pub missing_words_are_noted : (kind : IoKind) (noted : Notes) (code : ℕ) → HasNoWords kind noted code → ((text : String Global) × (noted ≡ notes.Command text)) ⊎ (noted ≡ notes.NoMemory)
missing_words_are_noted kind (notes.Command text) code is = inl (text, refl)
missing_words_are_noted kind notes.NoMemory code is = inr refl
missing_words_are_noted kind notes.Nothing code is = absurd is
missing_words_are_noted kind (notes.Ignored words) code is = absurd is
missing_words_are_noted kind notes.InputFault code is = absurd is
missing_words_are_noted kind notes.OutputFault code is = absurd is

-- Settings

-- settings with a fault have nothing served: the output stays as it is
pub bad_settings_write_nothing : (asked : Asked) (remaining before after : Option (List ℕ)) (status : Status) → read_settings asked.settings ≡ None → EndsServing asked remaining before after status → after ≡ before
bad_settings_write_nothing asked remaining before after status none ends = (subst (λ (read : Option (Variables × List Refusal)). EndsWithRead asked read remaining before after status) none ends).1

-- and the fault is noted: the first word without `=`, or want of memory
pub bad_settings_are_noted : (asked : Asked) (remaining before after : Option (List ℕ)) (status : Status) → read_settings asked.settings ≡ None → EndsServing asked remaining before after status → IsFault (first_without asked.settings) status.notes status.code
bad_settings_are_noted asked remaining before after status none ends = (subst (λ (read : Option (Variables × List Refusal)). EndsWithRead asked read remaining before after status) none ends).0

-- the service that is asked for is done, by the variables that were read
pub read_settings_are_served : (asked : Asked) (icv : Variables) (ignored : List Refusal) (remaining before after : Option (List ℕ)) (status : Status) → read_settings asked.settings ≡ Some (icv, ignored) → EndsServing asked remaining before after status → EndsServedBy asked.service icv ignored remaining before after status
read_settings_are_served asked icv ignored remaining before after status is ends = subst (λ (read : Option (Variables × List Refusal)). EndsWithRead asked read remaining before after status) is ends

-- on the word of each service that is done
pub steps_word_is_served : (name : Text) (settings : List Text) (remaining before after : Option (List ℕ)) (status : Status) → EndsByWord (name ∷ codes "steps" ∷ settings) remaining before after status → ArePlain settings → EndsServing (record { service = Steps; settings = settings }) remaining before after status
steps_word_is_served name settings remaining before after status ends plain = ends Steps name settings refl plain

pub live_word_is_served : (name : Text) (settings : List Text) (remaining before after : Option (List ℕ)) (status : Status) → EndsByWord (name ∷ codes "live" ∷ settings) remaining before after status → ArePlain settings → EndsServing (record { service = Live; settings = settings }) remaining before after status
live_word_is_served name settings remaining before after status ends plain = ends Live name settings refl plain

pub check_word_is_served : (name : Text) (settings : List Text) (remaining before after : Option (List ℕ)) (status : Status) → EndsByWord (name ∷ codes "check" ∷ settings) remaining before after status → ArePlain settings → EndsServing (record { service = Check; settings = settings }) remaining before after status
check_word_is_served name settings remaining before after status ends plain = ends Check name settings refl plain

pub trace_word_is_served : (name : Text) (settings : List Text) (remaining before after : Option (List ℕ)) (status : Status) → EndsByWord (name ∷ codes "trace" ∷ settings) remaining before after status → ArePlain settings → EndsServing (record { service = Trace; settings = settings }) remaining before after status
trace_word_is_served name settings remaining before after status ends plain = ends Trace name settings refl plain

pub run_word_is_served : (name : Text) (settings : List Text) (remaining before after : Option (List ℕ)) (status : Status) → EndsByWord (name ∷ codes "run" ∷ settings) remaining before after status → ArePlain settings → EndsServing (record { service = Run; settings = settings }) remaining before after status
run_word_is_served name settings remaining before after status ends plain = ends Run name settings refl plain

-- Words that are refused

-- nothing is asked for but help and the version
pub only_help_and_version_are_shown : (kind : ErrorKind) → Asks kind → kind ≢ kinds.DisplayHelp → kind ≢ kinds.DisplayVersion → ⊥
only_help_and_version_are_shown kind (inl help) not_help not_version = not_help help
only_help_and_version_are_shown kind (inr version) not_help not_version = not_version version

-- help that is shown ends with 0, behind what was written before
pub shown_help_ends_well : (kind : ErrorKind) (before after : Option (List ℕ)) (code : ℕ) → IsErrorReport kind before after notes.Nothing code → Asks kind × (code ≡ 0)
shown_help_ends_well kind before after code reported = (reported.0, reported.1)

pub shown_help_is_written : (kind : ErrorKind) (held now : List ℕ) (code : ℕ) → IsErrorReport kind (Some held) (Some now) notes.Nothing code → (shown : List ℕ) × (now ≡ held ++ shown)
shown_help_is_written kind held now code reported = (reported.2.0, reported.2.1)

-- help is refused for want of memory or for a fault of the output alone
pub asked_help_is_no_fault : (kind : ErrorKind) (before after : Option (List ℕ)) (text : String Global) (code : ℕ) → Asks kind → IsErrorReport kind before after (notes.Command text) code → ⊥
asked_help_is_no_fault kind before after text code asks reported = reported.0 asks

pub output_fault_is_of_help : (kind : ErrorKind) (before after : Option (List ℕ)) (code : ℕ) → IsErrorReport kind before after notes.OutputFault code → Asks kind × (code ≡ 1) × ((shown : List ℕ) × Appends before after shown)
output_fault_is_of_help kind before after code reported = reported

-- a fault of the words is noted with 1, and the output stays; for want of memory it is 3
pub words_fault_writes_nothing : (kind : ErrorKind) (before after : Option (List ℕ)) (text : String Global) (code : ℕ) → IsErrorReport kind before after (notes.Command text) code → (kind ≢ kinds.OutOfMemory) × (code ≡ 1) × (after ≡ before)
words_fault_writes_nothing kind before after text code reported = (reported.1, reported.2, reported.3)

pub words_memory_writes_nothing : (kind : ErrorKind) (before after : Option (List ℕ)) (code : ℕ) → IsErrorReport kind before after notes.NoMemory code → (code ≡ 3) × (after ≡ before)
words_memory_writes_nothing kind before after code reported = reported

-- no input is blamed, and no word is ignored
pub refused_words_read_nothing : (kind : ErrorKind) (before after : Option (List ℕ)) (code : ℕ) → IsErrorReport kind before after notes.InputFault code → ⊥
refused_words_read_nothing kind before after code reported = reported

pub refused_words_ignore_nothing : (kind : ErrorKind) (before after : Option (List ℕ)) (words : Vec Refusal Global) (code : ℕ) → IsErrorReport kind before after (notes.Ignored words) code → ⊥
refused_words_ignore_nothing kind before after words code reported = reported

-- whoever is refused and ends with 0 has asked for help or for the version
well_reported : (kind : ErrorKind) (before after : Option (List ℕ)) (noted : Notes) (code : ℕ) → IsErrorReport kind before after noted code → code ≡ 0 → Asks kind
well_reported kind before after notes.Nothing code reported well = reported.0
well_reported kind before after notes.NoMemory code reported well = absurd (let same = reported.0 in omega (arith, same, well))
well_reported kind before after (notes.Command text) code reported well = absurd (let same = reported.2 in omega (arith, same, well))
well_reported kind before after notes.InputFault code reported well = absurd reported
well_reported kind before after (notes.Ignored words) code reported well = absurd reported
well_reported kind before after notes.OutputFault code reported well = absurd (let same = reported.1 in omega (arith, same, well))

pub refused_words_ask_for_help : (faults : Kinds) (before after : Option (List ℕ)) (status : Status) → Refused faults before after status → status.code ≡ 0 → IsAmong kinds.DisplayHelp faults ⊎ IsAmong kinds.DisplayVersion faults
refused_words_ask_for_help faults before after status refused well =
    of_kind refused.kind (well_reported refused.kind before after status.notes status.code refused.reported well) refused.fault
  where
    of_kind : (kind : ErrorKind) → Asks kind → (kind ≡ kinds.OutOfMemory) ⊎ IsAmong kind faults → IsAmong kinds.DisplayHelp faults ⊎ IsAmong kinds.DisplayVersion faults
    of_kind kind (inl help) (inl memory) = absurd (cc)
    of_kind kind (inr version) (inl memory) = absurd (cc)
    of_kind kind (inl help) (inr among) = inl (subst (λ (one : ErrorKind). IsAmong one faults) help among)
    of_kind kind (inr version) (inr among) = inr (subst (λ (one : ErrorKind). IsAmong one faults) version among)

-- what is reported is one of the faults of the words, or want of memory
pub reported_fault_is_of_the_words : (faults : Kinds) (before after : Option (List ℕ)) (status : Status) → Refused faults before after status → (kind : ErrorKind) × ((kind ≡ kinds.OutOfMemory) ⊎ IsAmong kind faults) × ReportsError kind before after status
reported_fault_is_of_the_words faults before after status refused = (refused.kind, refused.fault, refused.reported)

-- All words

-- words without a fault ask for something, which is done; words with one are refused
pub words_ask_for_something : (remaining before after : Option (List ℕ)) (status : Status) → Ends [] None remaining before after status → ⊥
words_ask_for_something remaining before after status never = never

pub asked_words_are_served : (words : List Text) (asked : Asked) (remaining before after : Option (List ℕ)) (status : Status) → faults_of words ≡ [] → asked_of words ≡ Some asked → EndsOn words remaining before after status → EndsServing asked remaining before after status
asked_words_are_served words asked remaining before after status fine is ends = rw (fine, is) at ends

pub faulty_words_are_refused : (words : List Text) (fault : ErrorKind) (others : Kinds) (remaining before after : Option (List ℕ)) (status : Status) → faults_of words ≡ fault ∷ others → EndsOn words remaining before after status → Refused (fault ∷ others) before after status
faulty_words_are_refused words fault others remaining before after status faulty ends = rw (faulty) at ends

-- The process

-- words that could not be had are noted, and nothing is written
pub missing_words_write_nothing : (error : Error) (before after : Option (List ℕ)) (status : Status) → EndsWithout error before after status → HasNoWords (error_kind error) status.notes status.code × (after ≡ before)
missing_words_write_nothing error before after status ends = (ends.0, ends.1)

-- the process ends with the number of its status
pub process_number_is_its_status : (IsEnd : Status → Type 0) (before after : Option (List ℕ)) (result : Result ExitCode Error) (code : ExitCode) → EndsAs IsEnd before after result → result ≡ Ok code → (status : Status) × IsEnd status × (exit_status code ≡ status.code)
process_number_is_its_status IsEnd before after (Ok given) code ends is = (ends.status, ends.ends, (let same : code ≡ given = sym (cc) in ap exit_status same) ∙ ends.number)
process_number_is_its_status IsEnd before after (Err error) code ends is = absurd (cc)

-- its notes stand on standard error behind what was there, and nothing else
pub process_notes_are_written : (IsEnd : Status → Type 0) (held now : List ℕ) (result : Result ExitCode Error) (code : ExitCode) → EndsAs IsEnd (Some held) (Some now) result → result ≡ Ok code → (status : Status) × IsEnd status × (exit_status code ≡ status.code) × (now ≡ held ++ notes_text status.notes)
process_notes_are_written IsEnd held now (Ok given) code ends is = (ends.status, ends.ends, (let same : code ≡ given = sym (cc) in ap exit_status same) ∙ ends.number, ends.noted)
process_notes_are_written IsEnd held now (Err error) code ends is = absurd (cc)

-- whatever its words, it ends with a number up to 3
pub process_number_is_small : (words : List Text) (remaining before after errors errors_after : Option (List ℕ)) (result : Result ExitCode Error) (code : ExitCode) → EndsAs (EndsOn words remaining before after) errors errors_after result → result ≡ Ok code → exit_status code ≤ 3
process_number_is_small words remaining before after errors errors_after result code ends is =
    let found = process_number_is_its_status (EndsOn words remaining before after) errors errors_after result code ends is in
    let small = words_number (faults_of words) (asked_of words) remaining before after found.0 found.1 in
    let same = found.2 in
    omega (arith, small, same)

-- Ends

-- each end is one of its service, and its status is that of the end
pub each_end_is_of_its_service : (service : Service) (icv : Variables) (ignored : List Refusal) (remaining before after : Option (List ℕ)) (status : Status) → EndsServedBy service icv ignored remaining before after status →
    (how : Ending) × ServesBy service icv remaining before after how × IsStatus how ignored status
each_end_is_of_its_service service icv ignored remaining before after status ends = (ends.ending, ends.serves, ends.status_is)

-- The word `run`

-- words that are handed back to be run ask for that, under settings that are read so, and have no fault
pub words_ask_to_run : (faults : Kinds) (asked : Option Asked) (icv : Variables) (ignored : List Refusal) → AsksRun faults asked icv ignored → (faults ≡ []) × ((given : Asked) × (asked ≡ Some given) × (given.service ≡ Run) × (read_settings given.settings ≡ Some (icv, ignored)))
words_ask_to_run [] (Some given) icv ignored asks = (refl, (given, refl, asks.0, asks.1))
words_ask_to_run [] None icv ignored asks = absurd asks
words_ask_to_run (fault ∷ others) asked icv ignored asks = absurd asks
