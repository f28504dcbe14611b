-- What a call makes of an engine: the team that stands answers it, or a new one takes its place. (own)
use Rattle.std.specs.Prelude.{ℕ, ◌≡◌, ◌⊎◌, List, [], ◌∷◌, Option, Some, None, Result, Ok, Err, slice_get}
use Rattle.std.specs.Str.{IsUtf8}
use Rattle.gomp_types.specs.declared.call.Step.{Step}
use Rattle.gomp_types.specs.declared.reply.Reply.{Reply}
use Rattle.gomp_types.specs.declared.reply.Reply.TheVariants.{Refused}
use Rattle.gomp_types.specs.declared.refusal.Refusal.TheVariants.{BadTeam, NoMemory}
use Rattle.gomp_types.specs.declared.lock.LockKind.{LockKind}
use Rattle.gomp_types.specs.Limits.{standard, IsTeamSize}
use Rattle.gomp_share_ring.specs.AllShares.{AllView, StandsForAll}
use Rattle.gomp_model.specs.Team.{Record, MayAnswer}
use Rattle.gomp_core.specs.Stands.{TeamView, Stands, members_of, Keeps, past}
use Rattle.gomp_core.specs.LocksMade.{lock_kinds_of, locks_made}
use Rattle.gomp_core.specs.Resolved.{resolved_step}
use Rattle.gomp_words.specs.declared.numbers.Numbers.{Numbers}
use Rattle.gomp_words.specs.declared.step.StepRead.TheVariants as asks
use Rattle.gomp_words.specs.Replies.{numbers_of}
use Rattle.gomp_words.specs.StepWords.{HasItems}
use Rattle.gomp_engine.specs.declared.engine.Engine.{Engine}
use Rattle.gomp_engine.specs.declared.engine.OpenError.{OpenError}
use Rattle.gomp_engine.specs.declared.engine.OpenError.TheVariants as fault
use Rattle.gomp_engine.specs.declared.call.EngineCall.{EngineCall}
use Rattle.gomp_engine.specs.declared.call.EngineCall.TheVariants.{NewTeam, NameByte, TeamStep}
use Rattle.gomp_engine.specs.declared.answer.OwnAnswer.TheVariants as own
use Rattle.gomp_engine.specs.Settings.{read_lines}
use Rattle.gomp_engine.specs.Calls.{engine_call_of}
use Rattle.gomp_engine.specs.Answers.{own_numbers, name_byte}

-- a team whose work-shares lie in the slots of the ring, with one seat for all members
abbrev pub RingTeam : Type 0
RingTeam = TeamView AllView

-- it stands for this record
abbrev pub HasRecord : RingTeam → Record → Type 0
HasRecord team before = Stands (λ shares h. StandsForAll shares.members shares.seats shares.did h) (λ shares. shares.members) team before

-- A step of the team

-- the definitions allow this reply after each record that the team stands for, and the team then stands for that record with this step in front
pub record TeamReplies (team next : RingTeam) (step : Step) (reply : Reply) : Type 0 where
  -- it stands for one
  pub known : (before : Record) × HasRecord team before
  pub allowed : (before : Record) → HasRecord team before → MayAnswer (past team before) (resolved_step team.icv step) reply
  pub stands : (before : Record) → HasRecord team before → HasRecord next ((resolved_step team.icv step, reply) ∷ before)
  -- what of the team stays as it was
  pub keeps : Keeps team next step.call reply

-- the numbers of its reply are the answer
abbrev pub TeamAnswered : RingTeam → RingTeam → Step → Numbers → Type 0
TeamAnswered team next step answer = (reply : Reply) × TeamReplies team next step reply × (answer ≡ numbers_of reply)

-- the answer to a step is the team's; if no team stands, that
abbrev pub StepAnswered : Engine → Engine → Step → Option RingTeam → Numbers → Type 0
StepAnswered old new step None answer = (answer ≡ own_numbers own.NoTeam) × (new ≡ old)
StepAnswered old new step (Some team) answer = (next : RingTeam) × TeamAnswered team next step answer × (new ≡ record old { team = Some next })

-- A new team

-- the kinds of the locks that stand, by their numbers
abbrev pub locks_left : Option RingTeam → List (Option LockKind)
locks_left None = []
locks_left (Some team) = lock_kinds_of team.book.locks

-- a team by the engine's control variables, in which nothing was done but that its primary made the locks of the one before it
pub record TeamBegins (old : Engine) (size : ℕ) (team : RingTeam) : Type 0 where
  pub size_is : members_of team ≡ size
  pub icv_is : team.icv ≡ old.icv
  pub limits_are : team.board.limits ≡ standard
  pub stands : HasRecord team (locks_made (locks_left old.team))

-- it stands in the place of the one before it
abbrev pub NewTeamStands : Engine → Engine → ℕ → Numbers → Type 0
NewTeamStands old new size answer =
    IsTeamSize size × (answer ≡ own_numbers own.NewTeam) × ((team : RingTeam) × TeamBegins old size team × (new ≡ record old { team = Some team }))

-- memory for it was refused: no team stands then
abbrev pub NewTeamLacksMemory : Engine → Engine → ℕ → Numbers → Type 0
NewTeamLacksMemory old new size answer = IsTeamSize size × (answer ≡ numbers_of (Refused NoMemory)) × (new ≡ record old { team = None })

-- no team may have this size: nothing changes
abbrev pub NewTeamRefused : Engine → Engine → ℕ → Numbers → Type 0
NewTeamRefused old new size answer = (IsTeamSize size → ⊥) × (answer ≡ numbers_of (Refused BadTeam)) × (new ≡ old)

abbrev pub NewTeamAnswered : Engine → Engine → ℕ → Numbers → Type 0
NewTeamAnswered old new size answer = NewTeamStands old new size answer ⊎ NewTeamLacksMemory old new size answer ⊎ NewTeamRefused old new size answer

-- Any call

abbrev pub CallAnswered : Engine → Engine → EngineCall → Numbers → Type 0
CallAnswered old new (NewTeam size) answer = NewTeamAnswered old new size answer
CallAnswered old new (NameByte setting byte) answer = (answer ≡ own_numbers (name_byte (slice_get old.ignored.items setting) byte)) × (new ≡ old)
CallAnswered old new (TeamStep (asks.Step step)) answer = StepAnswered old new step old.team answer
CallAnswered old new (TeamStep asks.NoMember) answer = (answer ≡ own_numbers own.NoMember) × (new ≡ old)
CallAnswered old new (TeamStep asks.NoCall) answer = (answer ≡ own_numbers own.NoCall) × (new ≡ old)

-- memory for the items of a `depend` clause was refused: the step is not made
abbrev pub LacksItems : Engine → Engine → List ℕ → Numbers → Type 0
LacksItems old new words answer = HasItems words × (answer ≡ own_numbers own.NoMemory) × (new ≡ old)

-- the answer to what these words ask, and the engine after it
abbrev pub Stepped : Engine → Engine → List ℕ → Numbers → Type 0
Stepped old new words answer = LacksItems old new words answer ⊎ CallAnswered old new (engine_call_of words) answer

-- How an engine begins

-- an engine by the settings of a text, in which no team stands yet; or it is no text, or memory was refused
abbrev pub Opens : List ℕ → Result Engine OpenError → Type 0
Opens settings (Ok engine) = IsUtf8 settings × ((engine.icv, engine.ignored.items) ≡ read_lines settings) × (engine.team ≡ None)
Opens settings (Err fault.NotUtf8) = IsUtf8 settings → ⊥
Opens settings (Err fault.NoMemory) = IsUtf8 settings
