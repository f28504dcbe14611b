-- The tasks that may be taken, as data. (own)
use Rattle.std.specs.Prelude.{ℕ, ◌≡◌, ◌<◌, nat_le, if◌then◌else◌, Bool, true, false, length, slice_index_or, List, [], ◌∷◌, Option, Some, None}
use Rattle.std.specs.List.{AllWithin, HoldsAt}
use Rattle.std.specs.Option.{MatchOption}
use Rattle.gomp_events.specs.Tasks.{contains}

-- the tasks, and how many more find room in memory
pub record ReadyView : Type 0 where
  -- so many members have a deque of their own
  pub members : ℕ
  -- the numbers of the tasks, the lowest first: in whose deque a task stands, or whether in the list, is not seen
  pub ids : List ℕ
  pub room : ℕ
  -- for each member and each of its levels the tasks at the front of the list that it has passed over there: it looks at them no more. Level 0 is its implicit task, each further one a task that it has started and not ended
  pub passed : List (List (List ℕ))

-- the tasks that a member has passed over at a level
abbrev pub passed_at : ℕ → ℕ → ReadyView → List ℕ
passed_at m l ready = slice_index_or (slice_index_or ready.passed m []) l []

-- some tasks, the lowest first, and one more
abbrev pub with_task : ℕ → List ℕ → List ℕ
with_task t [] = t ∷ []
with_task t (u ∷ ts) = if nat_le t u then t ∷ u ∷ ts else u ∷ with_task t ts

-- some tasks by their numbers, the lowest first
abbrev pub in_order : List ℕ → List ℕ
in_order [] = []
in_order (t ∷ ts) = with_task t (in_order ts)

-- some tasks, and the one that was taken out, if one was
abbrev pub with_taken : Option ℕ → List ℕ → List ℕ
with_taken None ts = ts
with_taken (Some t) ts = with_task t ts

-- no task stands twice
abbrev pub AreOnce : List ℕ → Type 0
AreOnce [] = Unit {0}
AreOnce (t ∷ ts) = (contains t ts ≡ false) × AreOnce ts

-- each of these tasks is one of those
abbrev pub AreAmong : List ℕ → List ℕ → Type 0
AreAmong ids others = (t : ℕ) → contains t ids ≡ true → contains t others ≡ true

-- a test of tasks answers by this
abbrev pub AnswersBy : (ℕ → Bool → Type 0) → (ℕ → Bool) → Type 0
AnswersBy answers test = (t : ℕ) (answer : Bool) → answers t answer → answer ≡ test t

-- the place of the first of some tasks for which a test answers yes: none, if it answers no for each
abbrev pub IsFirstBy : (ℕ → Bool → Type 0) → List ℕ → Option ℕ → Type 0
IsFirstBy answers ids place =
    MatchOption place (AllWithin (λ t. answers t false) ids 0 (length ids)) (λ i. (i < length ids) × HoldsAt (λ t. answers t true) ids i × AllWithin (λ t. answers t false) ids 0 i)
