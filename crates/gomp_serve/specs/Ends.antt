-- How the program ends. (own)
use Rattle.std.specs.Prelude.{◌≡◌, ◌≢◌, ◌⊎◌, ℕ, List, [], ◌∷◌, ◌++◌, Option, Some, None, codes, string_bytes}
use Rattle.std.specs.Option.{option_map}
use Rattle.std.specs.Io.KnownBytes.{Appends}
use Rattle.std.specs.declared.io.ErrorKind.{ErrorKind as IoKind}
use Rattle.std.specs.declared.io.ErrorKind.TheVariants as io_kinds
use Rattle.clap.specs.Words.{Kinds, IsAmong, Text}
use Rattle.clap.specs.declared.error.kind.ErrorKind.{ErrorKind}
use Rattle.clap.specs.declared.error.kind.ErrorKind.TheVariants as kinds
use Rattle.gomp_types.specs.declared.refusal.Refusal.{Refusal}
use Rattle.gomp_icv.specs.Variables.{Variables}
use Rattle.gomp_steps.specs.Serving.{Serves}
use Rattle.gomp_service.specs.Writing.{AppendsPrefix}
use Rattle.gomp_service.specs.declared.read.Ending.{Ending}
use Rattle.gomp_service.specs.declared.read.Ending.TheVariants as ending
use Rattle.gomp_service.specs.declared.notes.Notes.{Notes}
use Rattle.gomp_service.specs.declared.notes.Notes.TheVariants as notes
use Rattle.gomp_service.specs.declared.notes.Status.{Status}
use Rattle.gomp_live.specs.Serving.{ServesLive}
use Rattle.gomp_check.specs.Serving.{Checks}
use Rattle.gomp_trace.specs.Serving.{Traces}
use Rattle.gomp_run.specs.Serving.{ServesRun}
use Rattle.gomp_command.specs.CommandLine.{ArePlain, Asked, word_of}
use Rattle.gomp_command.specs.Settings.{first_without, read_settings}
use Rattle.gomp_command.specs.declared.command.Service.{Service}
use Rattle.gomp_command.specs.declared.command.Service.TheVariants.{Steps, Live, Check, Trace, Run}

-- what becomes of the input and the output, by the service
abbrev pub ServesBy : Service → Variables → Option (List ℕ) → Option (List ℕ) → Option (List ℕ) → Ending → Type 0
ServesBy Steps icv remaining before after ended = Serves icv remaining before after ended
ServesBy Live icv remaining before after ended = ServesLive icv remaining before after ended
ServesBy Check icv remaining before after ended = Checks remaining before after ended
ServesBy Trace icv remaining before after ended = Traces icv remaining before after ended
ServesBy Run icv remaining before after ended = ServesRun icv remaining before after ended

-- the ignored words are named
abbrev pub Names : List Refusal → Notes → Type 0
Names ignored (notes.Ignored words) = words.items ≡ ignored
Names ignored _ = ⊥

-- the status of an input that was served so, if these words were ignored: they are named beside whatever was answered
abbrev pub IsStatus : Ending → List Refusal → Status → Type 0
IsStatus (ending.Answered code) [] status = status ≡ record { code = code; notes = notes.Nothing }
IsStatus (ending.Answered code) (word ∷ words) status = (status.code ≡ code) × Names (word ∷ words) status.notes
IsStatus ending.NoMemory ignored status = status ≡ record { code = 3; notes = notes.NoMemory }
IsStatus ending.InputFault ignored status = status ≡ record { code = 1; notes = notes.InputFault }
IsStatus ending.TooLong ignored status = status ≡ record { code = 1; notes = notes.InputFault }
IsStatus ending.OutputFault ignored status = status ≡ record { code = 1; notes = notes.OutputFault }

-- the program ends as the input does that was served by these variables, if these words were ignored
pub record EndsServedBy (service : Service) (icv : Variables) (ignored : List Refusal) (remaining before after : Option (List ℕ)) (status : Status) : Type 0 where
  pub ending : Ending
  pub serves : ServesBy service icv remaining before after ending
  pub status_is : IsStatus ending ignored status

-- the same of `run`
abbrev pub EndsRunning : Variables → List Refusal → Option (List ℕ) → Option (List ℕ) → Option (List ℕ) → Status → Type 0
EndsRunning icv ignored remaining before after status = EndsServedBy Run icv ignored remaining before after status

-- what is noted of a word that has no `=`
abbrev pub no_equals_text : Text → List ℕ
no_equals_text word = codes "error: the word '" ++ (word ++ codes "' is not NAME=VALUE\n")

-- it is noted that this word has no `=`, or want of memory is
abbrev pub IsFault : Option Text → Notes → ℕ → Type 0
IsFault word (notes.Command text) code = (Some (string_bytes text) ≡ option_map no_equals_text word) × (code ≡ 1)
IsFault word notes.NoMemory code = code ≡ 3
IsFault word _ code = ⊥

-- what is noted if a word of the command line is not UTF-8
abbrev pub not_utf8_text : List ℕ
not_utf8_text = codes "error: a word of the command line is not UTF-8\n"

-- the words could not be had, by an error of this kind: that is noted, or want of memory is
abbrev pub HasNoWords : IoKind → Notes → ℕ → Type 0
HasNoWords kind (notes.Command text) code = (kind ≢ io_kinds.OutOfMemory) × (string_bytes text ≡ not_utf8_text) × (code ≡ 1)
HasNoWords kind notes.NoMemory code = code ≡ 3
HasNoWords kind _ code = ⊥

-- the program ends so if these settings were read as these variables and ignored words, or a word of them has no `=`: the first of those is named
abbrev pub EndsWithRead : Asked → Option (Variables × List Refusal) → Option (List ℕ) → Option (List ℕ) → Option (List ℕ) → Status → Type 0
EndsWithRead asked None remaining before after status = IsFault (first_without asked.settings) status.notes status.code × (after ≡ before)
EndsWithRead asked (Some read) remaining before after status = EndsServedBy asked.service read.0 read.1 remaining before after status

-- how the program ends if this is asked for
abbrev pub EndsServing : Asked → Option (List ℕ) → Option (List ℕ) → Option (List ℕ) → Status → Type 0
EndsServing asked remaining before after status = EndsWithRead asked (read_settings asked.settings) remaining before after status

-- on the word of a service and plain settings behind it, the program ends as that service does with them
abbrev pub EndsByWord : List Text → Option (List ℕ) → Option (List ℕ) → Option (List ℕ) → Status → Type 0
EndsByWord words remaining before after status =
    (service : Service) (name : Text) (settings : List Text) → words ≡ name ∷ word_of service ∷ settings → ArePlain settings
    → EndsServing (record { service = service; settings = settings }) remaining before after status

-- an error of this kind asks for help or for the version
abbrev pub Asks : ErrorKind → Type 0
Asks kind = (kind ≡ kinds.DisplayHelp) ⊎ (kind ≡ kinds.DisplayVersion)

-- the notes and the status once these bytes, of help or the version, are to be written: all of them were, or the output failed
abbrev pub IsShown : Option (List ℕ) → Option (List ℕ) → List ℕ → Notes → ℕ → Type 0
IsShown before after bytes notes.Nothing code = (code ≡ 0) × Appends before after bytes
IsShown before after bytes notes.OutputFault code = (code ≡ 1) × AppendsPrefix before after bytes
IsShown before after bytes _ code = ⊥

-- the notes and the status for words that are refused with an error of this kind; which bytes help has, clap does not promise
abbrev pub IsErrorReport : ErrorKind → Option (List ℕ) → Option (List ℕ) → Notes → ℕ → Type 0
IsErrorReport kind before after notes.Nothing code = Asks kind × (code ≡ 0) × ((shown : List ℕ) × Appends before after shown)
IsErrorReport kind before after notes.NoMemory code = (code ≡ 3) × (after ≡ before)
IsErrorReport kind before after (notes.Command text) code = (Asks kind → ⊥) × (kind ≢ kinds.OutOfMemory) × (code ≡ 1) × (after ≡ before)
IsErrorReport kind before after notes.InputFault code = ⊥
IsErrorReport kind before after (notes.Ignored words) code = ⊥
IsErrorReport kind before after notes.OutputFault code = Asks kind × (code ≡ 1) × ((shown : List ℕ) × Appends before after shown)

-- an error of this kind is reported so
abbrev pub ReportsError : ErrorKind → Option (List ℕ) → Option (List ℕ) → Status → Type 0
ReportsError kind before after status = IsErrorReport kind before after status.notes status.code

-- the words were refused, for one of their faults or for want of memory
pub record Refused (faults : Kinds) (before after : Option (List ℕ)) (status : Status) : Type 0 where
  pub kind : ErrorKind
  pub fault : (kind ≡ kinds.OutOfMemory) ⊎ IsAmong kind faults
  pub reported : ReportsError kind before after status

-- how the program ends on words with these faults, or that ask for this
abbrev pub Ends : Kinds → Option Asked → Option (List ℕ) → Option (List ℕ) → Option (List ℕ) → Status → Type 0
Ends [] None remaining before after status = ⊥
Ends [] (Some asked) remaining before after status = EndsServing asked remaining before after status
Ends (fault ∷ others) asked remaining before after status = Refused (fault ∷ others) before after status

-- this is `run`, under settings that are read as these variables and ignored words
abbrev pub AsksToRun : Asked → Variables → List Refusal → Type 0
AsksToRun asked icv ignored = (asked.service ≡ Run) × (read_settings asked.settings ≡ Some (icv, ignored))

-- words without a fault ask for that
abbrev pub AsksRun : Kinds → Option Asked → Variables → List Refusal → Type 0
AsksRun [] (Some asked) icv ignored = AsksToRun asked icv ignored
AsksRun faults asked icv ignored = ⊥
