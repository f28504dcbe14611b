-- How a talk is served: what is read, what is written, and how it ends. (own)
use Rattle.std.specs.Prelude.{ℕ, ◌≡◌, List, [], Option, IfSome}
use Rattle.std.specs.Io.KnownBytes.{Appends}
use Rattle.gomp_icv.specs.Variables.{Variables}
use Rattle.gomp_service.specs.declared.read.Ending.{Ending}
use Rattle.gomp_service.specs.declared.read.Ending.TheVariants.{Answered, NoMemory, InputFault, TooLong, OutputFault}
use Rattle.gomp_service.specs.Writing.{AppendsPrefix}
use Rattle.gomp_live.specs.Talk.{Made, Talked}
use Rattle.gomp_live.specs.Input.{input_lines, in_order}

-- the lines up to those that are left were answered, and nothing else was written; what a reader has and a writer holds is known of some, of a process's input and output it is not
pub record LinesAnswered (icv : Variables) (remaining before after : Option (List ℕ)) (left : List (List ℕ)) : Type 0 where
  -- the newest first
  pub lines : List (List ℕ)
  pub said : List ℕ
  pub made : Option Made
  pub read : IfSome remaining (λ input. input_lines input ≡ in_order lines left)
  pub talked : Talked icv lines said made
  pub written : Appends before after said

-- some lines were answered
abbrev pub SomeAnswered : Variables → Option (List ℕ) → Option (List ℕ) → Option (List ℕ) → Type 0
SomeAnswered icv remaining before after = (left : List (List ℕ)) × LinesAnswered icv remaining before after left

-- some lines were read, and a prefix of what a talk answers to them was written, and nothing else
pub record AnswersCut (icv : Variables) (remaining before after : Option (List ℕ)) : Type 0 where
  pub left : List (List ℕ)
  -- the newest first
  pub lines : List (List ℕ)
  pub said : List ℕ
  pub made : Option Made
  pub read : IfSome remaining (λ input. input_lines input ≡ in_order lines left)
  pub talked : Talked icv lines said made
  pub written : AppendsPrefix before after said

-- what became of the reader's lines: before and after are what the writer holds
abbrev pub ServesLive : Variables → Option (List ℕ) → Option (List ℕ) → Option (List ℕ) → Ending → Type 0
ServesLive icv remaining before after (Answered code) = LinesAnswered icv remaining before after [] × (code ≡ 0)
ServesLive icv remaining before after NoMemory = SomeAnswered icv remaining before after
ServesLive icv remaining before after InputFault = SomeAnswered icv remaining before after
ServesLive icv remaining before after TooLong = SomeAnswered icv remaining before after
ServesLive icv remaining before after OutputFault = AnswersCut icv remaining before after
