-- What holds of an engine's calls and answers, from the definitions alone.
use Rattle.std.proofs.Common.{ℕ, ◌≡◌, ◌<◌, ◌^◌, ◌∙◌, true, false, List, [], ◌∷◌, Option, Some, None, refl, sym, ap, inl, inr}
use Rattle.std.specs.Prelude.{◌==◌, nat_le}
use Rattle.gomp_types.specs.declared.call.Call.{Call}
use Rattle.gomp_types.specs.declared.call.Call.TheVariants.{SingleCopyEnd, CriticalStart, CriticalEnd, Taskwait}
use Rattle.gomp_types.specs.declared.call.Step.{Step}
use Rattle.gomp_types.specs.declared.reply.Reply.{Reply}
use Rattle.gomp_types.specs.declared.reply.Reply.TheVariants as replies
use Rattle.gomp_words.specs.Calls.{words_of, item_words, IsSayable}
use Rattle.gomp_words.specs.Replies.{numbers_of, reply_number}
use Rattle.gomp_words.specs.StepWords.{step_words, with_member}
use Rattle.gomp_words.specs.declared.numbers.Numbers.{Numbers}
use Rattle.gomp_words.specs.declared.step.StepRead.TheVariants as asks
use Rattle.gomp_words.proofs.Laws.{every_step_can_be_asked}
use Rattle.gomp_engine.specs.declared.engine.Engine.{Engine}
use Rattle.gomp_engine.specs.declared.call.EngineCall.{EngineCall}
use Rattle.gomp_engine.specs.declared.call.EngineCall.TheVariants.{NewTeam, NameByte, TeamStep}
use Rattle.gomp_engine.specs.declared.answer.OwnAnswer.{OwnAnswer}
use Rattle.gomp_engine.specs.declared.answer.OwnAnswer.TheVariants as own
use Rattle.gomp_engine.specs.Calls.{own_call_of, call_or_step, engine_call_of}
use Rattle.gomp_engine.specs.Answers.{own_numbers}
use Rattle.gomp_engine.specs.Engines.{RingTeam, StepAnswered, NewTeamAnswered, CallAnswered, Stepped}

other_numbers : (number member : ℕ) (arguments : List ℕ) → (number == 0) ≡ false → (number == 38) ≡ false → own_call_of (number ∷ member ∷ arguments) ≡ None
other_numbers number member [] no_team no_name = rw no_team refl
other_numbers number member (byte ∷ []) no_team no_name = rw no_name refl
other_numbers number member (first ∷ second ∷ rest) no_team no_name = refl

step_is_no_own_call : (call : Call) (member : ℕ) → own_call_of (with_member member (words_of call)) ≡ None
step_is_no_own_call (SingleCopyEnd payload) member = other_numbers 13 member payload refl refl
step_is_no_own_call (CriticalStart name) member = other_numbers 18 member name refl refl
step_is_no_own_call (CriticalEnd name) member = other_numbers 19 member name refl refl
step_is_no_own_call (Taskwait items) member = other_numbers 31 member (item_words items) refl refl
step_is_no_own_call _ member = refl

-- each step that there is can be asked of an engine
pub every_step_is_asked : (step : Step) → step.member < 2 ^ 16 → IsSayable step.call → engine_call_of (step_words step) ≡ TeamStep (asks.Step step)
every_step_is_asked step member fits =
    ap (λ found. call_or_step found (step_words step)) (step_is_no_own_call step.call step.member)
    ∙ ap TeamStep (every_step_can_be_asked step member fits)

own_kind_low : (answer : OwnAnswer) → nat_le 10 (own_numbers answer).kind ≡ false
own_kind_low own.NoCall = refl
own_kind_low _ = refl

reply_kind_high : (reply : Reply) → nat_le 10 (reply_number reply) ≡ true
reply_kind_high replies.NoChunk = refl
reply_kind_high _ = refl

-- no answer of an engine's own is taken for a reply
pub own_answer_is_no_reply : (answer : OwnAnswer) (reply : Reply) → own_numbers answer ≡ numbers_of reply → ⊥
own_answer_is_no_reply answer reply same =
    let both : false ≡ true = sym (own_kind_low answer) ∙ ap (λ (numbers : Numbers). nat_le 10 numbers.kind) same ∙ reply_kind_high reply in
    absurd (cc)

-- What a call leaves: the control variables, and the settings that were ignored

answered_step_keeps : (old new : Engine) (step : Step) (team : Option RingTeam) (answer : Numbers) → StepAnswered old new step team answer → (new.icv ≡ old.icv) × (new.ignored ≡ old.ignored)
answered_step_keeps old new step None answer is = rw is.1 (refl, refl)
answered_step_keeps old new step (Some team) answer is = rw is.2 (refl, refl)

new_team_keeps : (old new : Engine) (size : ℕ) (answer : Numbers) → NewTeamAnswered old new size answer → (new.icv ≡ old.icv) × (new.ignored ≡ old.ignored)
new_team_keeps old new size answer (inl is) = rw is.2.2 (refl, refl)
new_team_keeps old new size answer (inr (inl is)) = rw is.2 (refl, refl)
new_team_keeps old new size answer (inr (inr is)) = rw is.2 (refl, refl)

call_keeps : (old new : Engine) (call : EngineCall) (answer : Numbers) → CallAnswered old new call answer → (new.icv ≡ old.icv) × (new.ignored ≡ old.ignored)
call_keeps old new (NewTeam size) answer is = new_team_keeps old new size answer is
call_keeps old new (NameByte setting byte) answer is = rw is.1 (refl, refl)
call_keeps old new (TeamStep (asks.Step step)) answer is = answered_step_keeps old new step old.team answer is
call_keeps old new (TeamStep asks.NoMember) answer is = rw is.1 (refl, refl)
call_keeps old new (TeamStep asks.NoCall) answer is = rw is.1 (refl, refl)

pub variables_stay : (old new : Engine) (words : List ℕ) (answer : Numbers) → Stepped old new words answer → (new.icv ≡ old.icv) × (new.ignored ≡ old.ignored)
variables_stay old new words answer (inl is) = rw is.2 (refl, refl)
variables_stay old new words answer (inr is) = call_keeps old new (engine_call_of words) answer is
