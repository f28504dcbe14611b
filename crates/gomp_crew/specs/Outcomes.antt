-- What is promised of the outcomes of jobs. (own)
use Rattle.std.specs.Prelude.{List, [], ◌∷◌, ⊤}

module _ {J O : Type 0} where
  -- whatever may come of a job is promised of it
  abbrev pub KeepsEach : (J → O → Type 0) → (J → O → Type 0) → Type 0
  KeepsEach post kept = (job : J) (outcome : O) → post job outcome → kept job outcome

  -- there is an outcome for each job, in the same place, which is promised of that job
  abbrev pub EachKept : (J → O → Type 0) → List J → List O → Type 0
  EachKept kept [] [] = ⊤
  EachKept kept (job ∷ jobs) (outcome ∷ outcomes) = kept job outcome × EachKept kept jobs outcomes
  EachKept kept _ _ = ⊥
