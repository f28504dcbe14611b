-- How the program ends: the ends that its parts share.
use Rattle.std.proofs.Common.{◌≡◌, ◌<◌, ◌^◌, ℕ, List, [], ◌∷◌, Option, Some, None, length, true, refl, sym, inl, inr}
use Rattle.std.specs.Prelude.{is_some}
use Rattle.clap.specs.Words.{HasKind, Kinds, Text, kind_of}
use Rattle.clap.specs.declared.error.Error.{Error}
use Rattle.clap.specs.declared.error.kind.ErrorKind.{ErrorKind}
use Rattle.clap.specs.declared.error.kind.ErrorKind.TheVariants as kinds
use Rattle.gomp_types.specs.declared.refusal.Refusal.{Refusal}
use Rattle.gomp_icv.specs.Variables.{Variables}
use Rattle.gomp_service.specs.declared.read.Ending.TheVariants as ending
use Rattle.gomp_service.specs.declared.notes.Notes.{Notes}
use Rattle.gomp_service.specs.declared.notes.Notes.TheVariants as notes
use Rattle.gomp_service.specs.declared.notes.Status.{Status}
use Rattle.gomp_live.proofs.Laws.{none_is_answered}
use Rattle.gomp_command.specs.CommandLine.{ArePlain, Asked, asked_of, faults_of, word_of}
use Rattle.gomp_command.proofs.PlainSettings.{plain_has_no_fault, plain_length, plain_settings}
use Rattle.gomp_command.specs.Settings.{read_settings}
use Rattle.gomp_command.specs.declared.command.Service.{Service}
use Rattle.gomp_command.specs.declared.command.Service.TheVariants.{Steps, Live, Check, Trace, Run}
use Rattle.gomp_serve.specs.Ends.{Asks, AsksRun, AsksToRun, Ends, EndsRunning, EndsServing, EndsWithRead, IsErrorReport, ServesBy}

-- Want of memory

-- nothing is served if memory is refused before anything is read
pub unserved_for_memory : (service : Service) (icv : Variables) (remaining before after : Option (List ℕ)) → after ≡ before → ServesBy service icv remaining before after ending.NoMemory
unserved_for_memory Steps icv remaining before after same = same
unserved_for_memory Live icv remaining before after same = none_is_answered icv remaining before after same
unserved_for_memory Check icv remaining before after same = same
unserved_for_memory Trace icv remaining before after same = same
unserved_for_memory Run icv remaining before after same = same

-- whatever was asked for, the program may end for want of memory before it serves
unread_for_memory : (asked : Asked) (read : Option (Variables × List Refusal)) (remaining before after : Option (List ℕ)) → after ≡ before → EndsWithRead asked read remaining before after (record { code = 3; notes = notes.NoMemory })
unread_for_memory asked None remaining before after same = (refl, same)
unread_for_memory asked (Some read) remaining before after same = record {
  ending = ending.NoMemory;
  serves = unserved_for_memory asked.service read.0 remaining before after same;
  status_is = refl;
}

pub serves_for_memory : (asked : Asked) (remaining before after : Option (List ℕ)) → after ≡ before → EndsServing asked remaining before after (record { code = 3; notes = notes.NoMemory })
serves_for_memory asked remaining before after same = unread_for_memory asked (read_settings asked.settings) remaining before after same

-- if memory is refused and nothing is written, the program may end so on any words
pub memory_ends : (faults : Kinds) (asked : Option Asked) (remaining before after : Option (List ℕ)) → (faults ≡ [] → is_some asked ≡ true) → after ≡ before → Ends faults asked remaining before after (record { code = 3; notes = notes.NoMemory })
memory_ends [] None remaining before after some same = absurd (let asks = some refl in cc)
memory_ends [] (Some asked) remaining before after some same = serves_for_memory asked remaining before after same
memory_ends (fault ∷ others) asked remaining before after some same = record { kind = kinds.OutOfMemory; fault = inl refl; reported = (refl, same) }

-- An error of the words

no_asking : (kind : ErrorKind) → kind ≡ kinds.OutOfMemory → Asks kind → ⊥
no_asking kind memory (inl help) = absurd (cc)
no_asking kind memory (inr version) = absurd (cc)

-- after an error for want of memory, the program ends as if memory was refused before it served
reported_memory : (kind : ErrorKind) (asked : Asked) (remaining before after : Option (List ℕ)) (notes : Notes) (code : ℕ) → kind ≡ kinds.OutOfMemory → IsErrorReport kind before after notes code → EndsServing asked remaining before after (record { code = code; notes = notes })
reported_memory kind asked remaining before after notes.Nothing code memory reported = absurd (no_asking kind memory reported.0)
reported_memory kind asked remaining before after notes.NoMemory code memory reported = rw reported.0 (serves_for_memory asked remaining before after reported.1)
reported_memory kind asked remaining before after (notes.Command text) code memory reported = absurd (reported.1 memory)
reported_memory kind asked remaining before after (notes.Ignored words) code memory reported = absurd reported
reported_memory kind asked remaining before after notes.InputFault code memory reported = absurd reported
reported_memory kind asked remaining before after notes.OutputFault code memory reported = absurd (no_asking kind memory reported.0)

-- the end after an error, by the faults of the words
pub reported_ends : (error : Error) (faults : Kinds) (asked : Option Asked) (remaining before after : Option (List ℕ)) (status : Status) → (faults ≡ [] → is_some asked ≡ true) → HasKind faults error → IsErrorReport (kind_of error) before after status.notes status.code → Ends faults asked remaining before after status
reported_ends error [] None remaining before after status some among reported = absurd (let asks = some refl in cc)
reported_ends error [] (Some asked) remaining before after status some (inl memory) reported = reported_memory (kind_of error) asked remaining before after status.notes status.code memory reported
reported_ends error [] (Some asked) remaining before after status some (inr none) reported = absurd none
reported_ends error (fault ∷ others) asked remaining before after status some among reported = record { kind = kind_of error; fault = among; reported = reported }

-- The words of a service

-- a request that was read is what the words ask for
pub request_serves : (faults : Kinds) (asked found : Option Asked) (given : Asked) (remaining before after : Option (List ℕ)) (status : Status) → faults ≡ [] → found ≡ asked → found ≡ Some given → EndsServing given remaining before after status → Ends faults asked remaining before after status
request_serves faults asked found given remaining before after status fine same is ends = rw (fine, sym same, is) ends

-- on the word of a service and plain settings the program ends as that service does
pub plain_words_serve : (service : Service) (name : Text) (settings words : List Text) (remaining before after : Option (List ℕ)) (status : Status) → words ≡ name ∷ word_of service ∷ settings → ArePlain settings → length words < 2 ^ 64 → Ends (faults_of words) (asked_of words) remaining before after status → EndsServing (record { service = service; settings = settings }) remaining before after status
plain_words_serve service name settings words remaining before after status is plain few ends =
    let size = plain_length service name settings words is few in
    rw (is, plain_has_no_fault service name settings plain size, plain_settings service name settings plain) at ends

-- The word `run`

-- settings that were read as these variables, behind `run`, have the program end as the script's region does
run_serves : (asked : Asked) (icv : Variables) (ignored : List Refusal) (remaining before after : Option (List ℕ)) (status : Status) → AsksToRun asked icv ignored → EndsRunning icv ignored remaining before after status → EndsServing asked remaining before after status
run_serves asked icv ignored remaining before after status asks ends = rw (asks.1, asks.0) ends

-- words that ask for that have the program end so
pub request_runs : (faults : Kinds) (asked : Option Asked) (icv : Variables) (ignored : List Refusal) (remaining unread before middle after : Option (List ℕ)) (status : Status) → AsksRun faults asked icv ignored → unread ≡ remaining → middle ≡ before → EndsRunning icv ignored unread middle after status → Ends faults asked remaining before after status
request_runs [] None icv ignored remaining unread before middle after status asks same kept ends = absurd asks
request_runs [] (Some asked) icv ignored remaining unread before middle after status asks same kept ends = run_serves asked icv ignored remaining before after status asks (rw (same, kept) at ends)
request_runs (fault ∷ others) asked icv ignored remaining unread before middle after status asks same kept ends = absurd asks

-- a request that was read asks for it, if that is what it says
pub request_asks_run : (faults : Kinds) (asked found : Option Asked) (given : Asked) (icv : Variables) (ignored : List Refusal) → faults ≡ [] → found ≡ asked → found ≡ Some given → AsksToRun given icv ignored → AsksRun faults asked icv ignored
request_asks_run faults asked found given icv ignored fine same is asks = rw (fine, sym same, is) asks
