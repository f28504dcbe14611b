-- What `ompteam trace` writes for a text, and with which status it ends. (own)
use Rattle.std.specs.Prelude.{ℕ, ◌≡◌, Bool, true, false, List, Result, Ok, Err, Option, string_bytes}
use Rattle.std.specs.Io.KnownBytes.{Appends}
use Rattle.gomp_types.specs.declared.call.Step.{Step}
use Rattle.gomp_types.specs.declared.refusal.Refusal.TheVariants.{BadTeam}
use Rattle.gomp_icv.specs.Variables.{Variables}
use Rattle.gomp_script.specs.declared.parse.BadLine.{BadLine}
use Rattle.gomp_script.specs.StepText.{steps_of}
use Rattle.gomp_script.specs.Printing.{bad_line_text, refusal_line}
use Rattle.gomp_service.specs.declared.answer.Answer.{Answer}
use Rattle.gomp_service.specs.declared.read.Ending.{Ending}
use Rattle.gomp_service.specs.declared.read.Ending.TheVariants.{Answered, NoMemory, InputFault, TooLong, OutputFault}
use Rattle.gomp_service.specs.Statuses.{is_size}
use Rattle.gomp_service.specs.Reading.{Whole, max_text, IsLonger}
use Rattle.gomp_service.specs.Writing.{AppendsPrefix}
use Rattle.gomp_trace.specs.declared.event.TraceEvent.{TraceEvent}
use Rattle.gomp_trace.specs.Runs.{Ran}
use Rattle.gomp_trace.specs.Json.{trace_text}

-- the text of the events of a run
pub record IsTrace (icv : Variables) (count : ℕ) (steps : List Step) (text : List ℕ) (code : ℕ) : Type 0 where
  pub events : List TraceEvent
  pub ran : Ran icv count steps events code
  pub text_is : text ≡ trace_text count events

-- what is written of a team of this size, if it may be one
abbrev pub TeamTrace : Variables → Bool → ℕ → List Step → List ℕ → ℕ → Type 0
TeamTrace icv true count steps text code = IsTrace icv count steps text code
TeamTrace icv false count steps text code = (text ≡ refusal_line BadTeam) × (code ≡ 2)

-- what is written for what was read
abbrev pub TraceOf : Variables → Result (ℕ × List Step) BadLine → List ℕ → ℕ → Type 0
TraceOf icv (Ok found) text code = TeamTrace icv (is_size found.0) found.0 found.1 text code
TraceOf icv (Err bad) text code = (text ≡ bad_line_text bad) × (code ≡ 1)

-- this is what a text is answered
abbrev pub IsTraced : Variables → List ℕ → Answer → Type 0
IsTraced icv text answer = TraceOf icv (steps_of text) (string_bytes answer.text) answer.code

-- a text was read whole, and its trace was written, and nothing else
pub record TraceWritten (icv : Variables) (remaining before after : Option (List ℕ)) (code : ℕ) : Type 0 where
  pub text : List ℕ
  pub whole : Whole max_text remaining text
  pub output : List ℕ
  pub traced : TraceOf icv (steps_of text) output code
  pub written : Appends before after output

-- a text was read whole, and a prefix of its trace was written, and nothing else
pub record TraceCut (icv : Variables) (remaining before after : Option (List ℕ)) : Type 0 where
  pub text : List ℕ
  pub whole : Whole max_text remaining text
  pub output : List ℕ
  pub code : ℕ
  pub traced : TraceOf icv (steps_of text) output code
  pub written : AppendsPrefix before after output

-- what became of the reader's text: before and after are what the writer holds; if the output failed the text was read whole, and a prefix of the trace was written
abbrev pub Traces : Variables → Option (List ℕ) → Option (List ℕ) → Option (List ℕ) → Ending → Type 0
Traces icv remaining before after (Answered code) = TraceWritten icv remaining before after code
Traces icv remaining before after NoMemory = after ≡ before
Traces icv remaining before after InputFault = after ≡ before
Traces icv remaining before after TooLong = (after ≡ before) × IsLonger max_text remaining
Traces icv remaining before after OutputFault = TraceCut icv remaining before after
