-- How `ompteam run` serves a text: what is read, what is written of it, and how it ends. (own)
use Rattle.std.specs.Prelude.{◌≡◌, ℕ, List, Option}
use Rattle.std.specs.Io.KnownBytes.{Appends}
use Rattle.gomp_icv.specs.Variables.{Variables}
use Rattle.gomp_region.specs.ScriptText.{script_of}
use Rattle.gomp_service.specs.Reading.{IsLonger, Whole, max_text}
use Rattle.gomp_service.specs.Writing.{AppendsPrefix}
use Rattle.gomp_service.specs.declared.read.Ending.{Ending}
use Rattle.gomp_service.specs.declared.read.Ending.TheVariants.{Answered, NoMemory, InputFault, TooLong, OutputFault}
use Rattle.gomp_run.specs.Output.{AnswerTo}

-- a text was read whole, its region run, and the answer was written, and nothing else; what a reader has and a writer holds is known of some
pub record RunWritten (icv : Variables) (remaining before after : Option (List ℕ)) (code : ℕ) : Type 0 where
  pub text : List ℕ
  pub whole : Whole max_text remaining text
  pub output : List ℕ
  pub answer : AnswerTo icv (script_of text) output code
  pub written : Appends before after output

-- a text was read whole, its region run, and a prefix of the answer was written, and nothing else
pub record RunCut (icv : Variables) (remaining before after : Option (List ℕ)) : Type 0 where
  pub text : List ℕ
  pub whole : Whole max_text remaining text
  pub output : List ℕ
  pub code : ℕ
  pub answer : AnswerTo icv (script_of text) output code
  pub written : AppendsPrefix before after output

-- what became of the reader's text: before and after are what the writer holds; if the output failed the text was read whole, and a prefix of the answer was written
abbrev pub ServesRun : Variables → Option (List ℕ) → Option (List ℕ) → Option (List ℕ) → Ending → Type 0
ServesRun icv remaining before after (Answered code) = RunWritten icv remaining before after code
ServesRun icv remaining before after NoMemory = after ≡ before
ServesRun icv remaining before after InputFault = after ≡ before
ServesRun icv remaining before after TooLong = (after ≡ before) × IsLonger max_text remaining
ServesRun icv remaining before after OutputFault = RunCut icv remaining before after
