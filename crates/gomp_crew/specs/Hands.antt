-- The line between a caller and its worker, and what each of the two knows of it. (own)
use Rattle.std.specs.Prelude.{◌≡◌, List, [], ◌∷◌, Result, MatchResult, ⊤}
use Rattle.gomp_crew.specs.declared.line.Hand.{Hand}
use Rattle.gomp_crew.specs.declared.line.Hand.TheVariants.{Whole, Free, Asked, Idle, Busy}

module _ {J : Type 0} where
  -- the caller has handed over a job, which is so
  abbrev pub OnAsked : Hand J → (J → Type 0) → Type 0
  OnAsked (Asked job) so = so job
  OnAsked _ so = ⊥

  -- the worker has a job, which is so
  abbrev pub OnBusy : Hand J → (J → Type 0) → Type 0
  OnBusy (Busy job) so = so job
  OnBusy _ so = ⊥

module _ {J O : Type 0} where
  -- the rule of a line: nothing is on it before it has two ends, between jobs and while the worker has the job; else there is the job of which the caller knows, or an outcome that is promised of it
  abbrev pub KeepsLine : (J → O → Type 0) → List (Result O J) → List (Hand J) → Type 0
  KeepsLine kept [] (Whole ∷ []) = ⊤
  KeepsLine kept [] (Free ∷ Idle ∷ []) = ⊤
  KeepsLine kept [] (Asked job ∷ Busy taken ∷ []) = job ≡ taken
  KeepsLine kept (item ∷ []) (Asked job ∷ Idle ∷ []) = MatchResult item (λ outcome. kept job outcome) (λ sent. job ≡ sent)
  KeepsLine kept _ _ = ⊥

  -- the caller put a job on the line, and knows which
  abbrev pub HasAsked : Result O J → Hand J → Type 0
  HasAsked item after = MatchResult item (λ outcome. ⊥) (λ job. after ≡ Asked job)

  -- the worker took the job, and knows it; or its own outcome, which is still promised of that job
  abbrev pub HasTaken : (J → O → Type 0) → Result O J → Hand J → Type 0
  HasTaken kept item after = MatchResult item (λ outcome. OnBusy after (λ job. kept job outcome)) (λ job. after ≡ Busy job)

  -- the caller took an outcome that is promised of its job, or that very job, and is free
  abbrev pub HasGot : (J → O → Type 0) → Hand J → Result O J → Hand J → Type 0
  HasGot kept before item after = (after ≡ Free) × MatchResult item (λ outcome. OnAsked before (λ job. kept job outcome)) (λ sent. before ≡ Asked sent)
