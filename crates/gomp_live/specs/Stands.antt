-- When a talk stands for lines and what was said to them, and what an answer makes of it. (own)
use Rattle.std.specs.Prelude.{ℕ, ◌≡◌, ◌++◌, List, [], ◌∷◌, Option, Some, None, Result, ⊤, IfOk, string_bytes}
use Rattle.std.specs.declared.string.String.{String}
use Rattle.std.specs.declared.alloc.Global.{Global}
use Rattle.gomp_types.specs.declared.call.Step.{Step}
use Rattle.gomp_events.specs.declared.event.Event.{Event}
use Rattle.gomp_types.specs.Limits.{standard}
use Rattle.gomp_icv.specs.Variables.{Variables}
use Rattle.gomp_core.specs.Stands.{TeamView, Stands, members_of}
use Rattle.gomp_locks.specs.Book.{BookView}
use Rattle.gomp_service.specs.Statuses.{is_size}
use Rattle.gomp_live.specs.Talk.{Made, TeamAnswered, StepAnswered, Talked, next_number}

-- what a talk keeps
pub record TalkView (S : Type 0) : Type 0 where
  pub icv : Variables
  -- of the next line
  pub number : ℕ
  pub team : Option (TeamView S)

-- a team by these control variables, with the standard limits, is as its record leaves it
pub record TeamStands {S : Type 0} (stands : S → List Event → Type 0) (members : S → ℕ) (icv : Variables) (team : TeamView S) (made : Made) : Type 0 where
  pub size_is : members_of team ≡ made.size
  pub icv_is : team.icv ≡ icv
  pub limits_are : team.board.limits ≡ standard
  pub stands_for : Stands stands members team made.run

-- the same of the team that stands, if one does
abbrev pub TeamIs : {S : Type 0} → (S → List Event → Type 0) → (S → ℕ) → Variables → Option (TeamView S) → Option Made → Type 0
TeamIs stands members icv None None = ⊤
TeamIs stands members icv (Some team) (Some made) = TeamStands stands members icv team made
TeamIs stands members icv None (Some made) = ⊥
TeamIs stands members icv (Some team) None = ⊥

-- a talk is as these lines, the newest first, and what was said to them leave it
pub record TalkStands {S : Type 0} (stands : S → List Event → Type 0) (members : S → ℕ) (talk : TalkView S) (lines : List (List ℕ)) (said : List ℕ) : Type 0 where
  pub made : Option Made
  pub talked : Talked talk.icv lines said made
  pub number_is : talk.number ≡ next_number lines
  pub team_is : TeamIs stands members talk.icv talk.team made

-- Answers, and what they leave; of an error nothing is said, since the talk ends with it

-- a talk that stood for some lines stands for this one behind them, with this answer to it
abbrev pub AnswersLine : {S E : Type 0} → (S → List Event → Type 0) → (S → ℕ) → List ℕ → TalkView S → TalkView S → Result (String Global) E → Type 0
AnswersLine stands members line talk after result =
    (lines : List (List ℕ)) (said : List ℕ) → TalkStands stands members talk lines said
    → IfOk result (λ answer. TalkStands stands members after (line ∷ lines) (said ++ string_bytes answer))

-- the book of names and locks of a team; an empty one if there is none
abbrev pub book_of : {S : Type 0} → Option (TeamView S) → BookView
book_of None = record { names = []; locks = [] }
book_of (Some team) = team.book

-- a body of the work-shares: for what it stands, and how many members its team has
pub record SharesBody (S : Type 0) : Type 1 where
  pub stands : S → List Event → Type 0
  pub members : S → ℕ

-- a new team of this size stands, if one may have it, with the locks of the one before it
abbrev pub BeginsTeam : {S E : Type 0} → SharesBody S → Variables → ℕ → Option (TeamView S) → Option (TeamView S) → Result (String Global) E → Type 0
BeginsTeam body icv count team after result =
    IfOk result (λ answer. (made : Option Made) → TeamIs body.stands body.members icv team made
    → (then : Option Made) × TeamAnswered icv (is_size count) count made (string_bytes answer) then × TeamIs body.stands body.members icv after then)

-- the team made this step
abbrev pub MakesStep : {S E : Type 0} → (S → List Event → Type 0) → (S → ℕ) → Step → TeamView S → TeamView S → Result (String Global) E → Type 0
MakesStep stands members step team after result =
    IfOk result (λ answer. (icv : Variables) (made : Made) → TeamStands stands members icv team made
    → (then : Option Made) × StepAnswered icv made step (string_bytes answer) then × TeamIs stands members icv (Some after) then)
