-- How the text of steps is served: what is read, what is written of it, and how it ends. (own)
use Rattle.std.specs.Prelude.{◌≡◌, ℕ, List, Option}
use Rattle.std.specs.Io.KnownBytes.{Appends}
use Rattle.gomp_script.specs.StepText.{steps_of}
use Rattle.gomp_icv.specs.Variables.{Variables}
use Rattle.gomp_steps.specs.Output.{AnswerTo}
use Rattle.gomp_service.specs.Reading.{Whole, max_text, IsLonger}
use Rattle.gomp_service.specs.Writing.{AppendsPrefix}
use Rattle.gomp_service.specs.declared.read.Ending.{Ending}
use Rattle.gomp_service.specs.declared.read.Ending.TheVariants.{Answered, NoMemory, InputFault, TooLong, OutputFault}

-- a text was read whole, and the answer to it was written, and nothing else; what a reader has and a writer holds is known of some, of a process's input and output it is not
pub record AnswerWritten (icv : Variables) (remaining before after : Option (List ℕ)) (code : ℕ) : Type 0 where
  pub text : List ℕ
  pub whole : Whole max_text remaining text
  pub output : List ℕ
  pub answer : AnswerTo icv (steps_of text) output code
  pub written : Appends before after output

-- a text was read whole, and a prefix of the answer to it was written, and nothing else
pub record AnswerCut (icv : Variables) (remaining before after : Option (List ℕ)) : Type 0 where
  pub text : List ℕ
  pub whole : Whole max_text remaining text
  pub output : List ℕ
  pub code : ℕ
  pub answer : AnswerTo icv (steps_of text) output code
  pub written : AppendsPrefix before after output

-- what became of the reader's text: before and after are what the writer holds; if the output failed the text was read whole, and a prefix of the answer was written
abbrev pub Serves : Variables → Option (List ℕ) → Option (List ℕ) → Option (List ℕ) → Ending → Type 0
Serves icv remaining before after (Answered code) = AnswerWritten icv remaining before after code
Serves icv remaining before after NoMemory = after ≡ before
Serves icv remaining before after InputFault = after ≡ before
Serves icv remaining before after TooLong = (after ≡ before) × IsLonger max_text remaining
Serves icv remaining before after OutputFault = AnswerCut icv remaining before after
