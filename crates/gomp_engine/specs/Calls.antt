-- What words ask of an engine: a new team, a byte of the name of an ignored setting, or a step of the team that stands. (own)
use Rattle.std.specs.Prelude.{ℕ, ◌==◌, ◌≡◌, ◌⊎◌, if◌then◌else◌, List, [], ◌∷◌, Option, Some, None}
use Rattle.gomp_words.specs.StepWords.{step_of}
use Rattle.gomp_engine.specs.declared.call.EngineCall.{EngineCall}
use Rattle.gomp_engine.specs.declared.call.EngineCall.TheVariants.{NewTeam, NameByte, TeamStep}

-- 0 and a size ask for a new team, 38 with a setting and a byte for a name
abbrev pub own_call_of : List ℕ → Option EngineCall
own_call_of (number ∷ size ∷ []) = if number == 0 then Some (NewTeam size) else None
own_call_of (number ∷ setting ∷ byte ∷ []) = if number == 38 then Some (NameByte setting byte) else None
own_call_of _ = None

-- the numbers of the calls that a program makes most often: the next chunk of a loop, a barrier, the region's end, a resume
abbrev pub IsFrequent : ℕ → Type 0
IsFrequent number = (number ≡ 2) ⊎ ((number ≡ 16) ⊎ ((number ≡ 17) ⊎ (number ≡ 36)))

-- other words are a step, or nothing; no step has these numbers
abbrev pub call_or_step : Option EngineCall → List ℕ → EngineCall
call_or_step None words = TeamStep (step_of words)
call_or_step (Some call) words = call

abbrev pub engine_call_of : List ℕ → EngineCall
engine_call_of words = call_or_step (own_call_of words) words
