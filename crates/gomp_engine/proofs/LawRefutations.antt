-- What never happens to an engine, of any engine, team, words and answer.
use Rattle.std.proofs.Common.{ℕ, ◌≡◌, ◌≢◌, ◌<◌, ◌^◌, ◌∙◌, Bool, true, false, List, [], ◌∷◌, Some, Ok, sym, ap, inl, inr}
use Rattle.std.specs.Prelude.{◌==◌}
use Rattle.gomp_types.specs.declared.call.Step.{Step}
use Rattle.gomp_types.specs.declared.reply.Reply.{Reply}
use Rattle.gomp_types.specs.declared.reply.Reply.TheVariants.{Refused}
use Rattle.gomp_types.specs.declared.refusal.Refusal.TheVariants.{BadTeam}
use Rattle.gomp_types.specs.Limits.{IsTeamSize}
use Rattle.gomp_model.specs.Team.{Record, MayAnswer}
use Rattle.gomp_core.specs.Stands.{members_of, past}
use Rattle.gomp_core.specs.LocksMade.{locks_made}
use Rattle.gomp_core.specs.Resolved.{resolved_step}
use Rattle.gomp_words.specs.Calls.{IsSayable}
use Rattle.gomp_words.specs.Replies.{numbers_of}
use Rattle.gomp_words.specs.StepWords.{step_words}
use Rattle.gomp_words.specs.declared.numbers.Numbers.{Numbers}
use Rattle.gomp_words.specs.declared.step.StepRead.TheVariants as asks
use Rattle.gomp_engine.specs.declared.engine.Engine.{Engine}
use Rattle.gomp_engine.specs.declared.call.EngineCall.{EngineCall}
use Rattle.gomp_engine.specs.declared.call.EngineCall.TheVariants.{TeamStep}
use Rattle.gomp_engine.specs.declared.answer.OwnAnswer.{OwnAnswer}
use Rattle.gomp_engine.specs.declared.answer.OwnAnswer.TheVariants as own
use Rattle.gomp_engine.specs.Settings.{read_lines}
use Rattle.gomp_engine.specs.Calls.{engine_call_of}
use Rattle.gomp_engine.specs.Answers.{own_numbers}
use Rattle.gomp_engine.specs.Engines.{RingTeam, HasRecord, TeamReplies, StepAnswered, TeamBegins, NewTeamAnswered, Stepped, Opens, locks_left}
use Rattle.gomp_engine.proofs.Laws.{every_step_is_asked, own_answer_is_no_reply, variables_stay}

-- no step is taken for a call of the engine's own, nor for another step
pub step_never_asked_as_another : (step : Step) (call : EngineCall) → step.member < 2 ^ 16 → IsSayable step.call → call ≢ TeamStep (asks.Step step) → engine_call_of (step_words step) ≡ call → ⊥
step_never_asked_as_another step call member fits differ is = differ (sym is ∙ every_step_is_asked step member fits)

-- a team that stands is never passed over: an answer to its step is none of the engine's own
pub standing_team_never_passed_over : (old new : Engine) (team : RingTeam) (step : Step) (answer : OwnAnswer) → StepAnswered old new step (Some team) (own_numbers answer) → ⊥
standing_team_never_passed_over old new team step answer is = own_answer_is_no_reply answer is.1.0 is.1.2

-- nor is it answered by numbers that are no reply
pub step_never_answered_by_no_reply : (old new : Engine) (team : RingTeam) (step : Step) (answer : Numbers) → StepAnswered old new step (Some team) answer → ((reply : Reply) → answer ≢ numbers_of reply) → ⊥
step_never_answered_by_no_reply old new team step answer is none = none is.1.0 is.1.2

-- no reply lacks its cause after a record of the team, and no step is left out of the next one
pub reply_never_without_its_cause : (team next : RingTeam) (step : Step) (reply : Reply) (before : Record) → TeamReplies team next step reply → HasRecord team before → (MayAnswer (past team before) (resolved_step team.icv step) reply → ⊥) → ⊥
reply_never_without_its_cause team next step reply before is stands none = none (is.allowed before stands)

pub step_never_left_out : (team next : RingTeam) (step : Step) (reply : Reply) (before : Record) → TeamReplies team next step reply → HasRecord team before → (HasRecord next ((resolved_step team.icv step, reply) ∷ before) → ⊥) → ⊥
step_never_left_out team next step reply before is stands none = none (is.stands before stands)

-- a new team never has another size, nor other variables, nor other locks
pub new_team_never_of_another_size : (old : Engine) (size : ℕ) (team : RingTeam) → TeamBegins old size team → members_of team ≢ size → ⊥
new_team_never_of_another_size old size team is other = other is.size_is

pub new_team_never_by_other_variables : (old : Engine) (size : ℕ) (team : RingTeam) → TeamBegins old size team → team.icv ≢ old.icv → ⊥
new_team_never_by_other_variables old size team is other = other is.icv_is

pub locks_never_lost_at_a_new_team : (old : Engine) (size : ℕ) (team : RingTeam) → TeamBegins old size team → (HasRecord team (locks_made (locks_left old.team)) → ⊥) → ⊥
locks_never_lost_at_a_new_team old size team is lost = lost is.stands

-- a size that no team may have never changes anything
pub bad_size_never_changes_anything : (old new : Engine) (size : ℕ) (answer : Numbers) → (IsTeamSize size → ⊥) → NewTeamAnswered old new size answer → new ≢ old → ⊥
bad_size_never_changes_anything old new size answer bad (inl is) other = bad is.0
bad_size_never_changes_anything old new size answer bad (inr (inl is)) other = bad is.0
bad_size_never_changes_anything old new size answer bad (inr (inr is)) other = other is.2

-- whether the first word is the number of `BadTeam`
abbrev tells_bad_team : List ℕ → Bool
tells_bad_team [] = false
tells_bad_team (number ∷ words) = number == 38

-- nor does a team of a size that it may have get refused as one of none
pub size_of_a_team_never_refused : (old new : Engine) (size : ℕ) → IsTeamSize size → NewTeamAnswered old new size (numbers_of (Refused BadTeam)) → ⊥
size_of_a_team_never_refused old new size fine (inl is) = own_answer_is_no_reply own.NewTeam (Refused BadTeam) (sym is.1)
size_of_a_team_never_refused old new size fine (inr (inl is)) = let told : true ≡ false = ap (λ (numbers : Numbers). tells_bad_team numbers.words) is.1 in absurd (cc)
size_of_a_team_never_refused old new size fine (inr (inr is)) = is.0 fine

-- no call changes the control variables, or which settings were ignored
pub variables_never_change : (old new : Engine) (words : List ℕ) (answer : Numbers) → Stepped old new words answer → new.icv ≢ old.icv → ⊥
variables_never_change old new words answer is other = other (variables_stay old new words answer is).0

pub ignored_settings_never_change : (old new : Engine) (words : List ℕ) (answer : Numbers) → Stepped old new words answer → new.ignored ≢ old.ignored → ⊥
ignored_settings_never_change old new words answer is other = other (variables_stay old new words answer is).1

-- an engine is never opened by other variables than those of its settings
pub engine_never_by_other_settings : (settings : List ℕ) (engine : Engine) → Opens settings (Ok engine) → (engine.icv, engine.ignored.items) ≢ read_lines settings → ⊥
engine_never_by_other_settings settings engine is other = other is.1
