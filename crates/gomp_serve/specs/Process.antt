-- How the process ends: by its words, and with what on standard error. (own)
use Rattle.std.specs.Prelude.{◌≡◌, ℕ, List, Option, Result, IfOk, OnOk, map, string_bytes}
use Rattle.std.specs.Io.KnownBytes.{Appends}
use Rattle.std.specs.IoError.{error_kind}
use Rattle.std.specs.Process.{exit_status}
use Rattle.std.specs.Vec.Iter.{into_iter_items}
use Rattle.std.specs.declared.vec.IntoIter.{IntoIter}
use Rattle.std.specs.declared.string.String.{String}
use Rattle.std.specs.declared.alloc.Global.{Global}
use Rattle.std.specs.declared.io.Error.{Error}
use Rattle.std.specs.declared.process.ExitCode.{ExitCode}
use Rattle.clap.specs.Words.{Text}
use Rattle.gomp_service.specs.Notes.{notes_text}
use Rattle.gomp_command.specs.CommandLine.{asked_of, faults_of}
use Rattle.gomp_serve.specs.Ends.{Ends, HasNoWords}
use Rattle.gomp_service.specs.declared.notes.Status.{Status}

-- the texts of the words that a process was given
abbrev pub texts_of : IntoIter (String Global) Global → List Text
texts_of words = map string_bytes (into_iter_items words)

-- the program ends so on these words
abbrev pub EndsOn : List Text → Option (List ℕ) → Option (List ℕ) → Option (List ℕ) → Status → Type 0
EndsOn words remaining before after status = Ends (faults_of words) (asked_of words) remaining before after status

-- the program ends so if its words could not be had, and writes nothing
abbrev pub EndsWithout : Error → Option (List ℕ) → Option (List ℕ) → Status → Type 0
EndsWithout error before after status = HasNoWords (error_kind error) status.notes status.code × (after ≡ before)

-- the process ends with the number of a status, and the notes were written to standard error, and nothing else
pub record EndsAs (IsEnd : Status → Type 0) (before after : Option (List ℕ)) (result : Result ExitCode Error) : Type 0 where
  pub status : Status
  pub ends : IsEnd status
  pub number : IfOk result (λ code. exit_status code ≡ status.code)
  pub noted : OnOk result (Appends before after (notes_text status.notes))
