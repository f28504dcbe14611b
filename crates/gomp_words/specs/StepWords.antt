-- What words ask of a team: a member's call, the call's number first, then the member's, then the arguments. (own)
use Rattle.std.specs.Prelude.{ℕ, ◌<◌, ◌^◌, nat_lt, if◌then◌else◌, List, [], ◌∷◌, Option, Some, None, IsSomeAnd}
use Rattle.gomp_types.specs.declared.call.Call.{Call}
use Rattle.gomp_types.specs.declared.call.Step.{Step}
use Rattle.gomp_types.specs.Copies.{CopyTakesMemory}
use Rattle.gomp_words.specs.declared.step.StepRead.{StepRead}
use Rattle.gomp_words.specs.declared.step.StepRead.TheVariants as asks
use Rattle.gomp_words.specs.Calls.{words_of, call_of, IsSayable}

-- the words of a call with the member's number as the second
abbrev pub with_member : ℕ → List ℕ → List ℕ
with_member member [] = []
with_member member (number ∷ arguments) = number ∷ member ∷ arguments

-- the words of a step
abbrev pub step_words : Step → List ℕ
step_words step = with_member step.member (words_of step.call)

-- a call by the member of this number, which lies below 2^16
abbrev pub asked_by : ℕ → Option Call → StepRead
asked_by member None = asks.NoCall
asked_by member (Some call) = if nat_lt member (2 ^ 16) then asks.Step (record { member = member; call = call }) else asks.NoMember

-- what words ask
abbrev pub step_of : List ℕ → StepRead
step_of (number ∷ member ∷ arguments) = asked_by member (call_of (number ∷ arguments))
step_of _ = asks.NoCall

-- words that say a call with items of a `depend` clause: only these take memory
abbrev pub HasItems : List ℕ → Type 0
HasItems (number ∷ member ∷ arguments) = IsSomeAnd (call_of (number ∷ arguments)) CopyTakesMemory
HasItems _ = ⊥

-- a step that can be said
abbrev pub IsSayableStep : StepRead → Type 0
IsSayableStep (asks.Step step) = (step.member < 2 ^ 16) × IsSayable step.call
IsSayableStep _ = Unit {0}
