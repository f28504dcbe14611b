-- What is promised of the outcomes of jobs. (own)
use Rattle.std.proofs.Common.{◌≡◌, List, [], ◌∷◌, ◌++◌, ◌∙◌, length, map, refl, ap, suc}
use Rattle.gomp_crew.specs.Outcomes.{EachKept}

module _ {J O : Type 0} (kept : J → O → Type 0) where
  -- one more job with its outcome
  pub each_kept_longer : (jobs : List J) (outcomes : List O) (job : J) (outcome : O) → EachKept kept jobs outcomes → kept job outcome → EachKept kept (jobs ++ job ∷ []) (outcomes ++ outcome ∷ [])
  each_kept_longer [] [] job outcome each last = (last, tt)
  each_kept_longer [] (x ∷ outcomes) job outcome each last = absurd each
  each_kept_longer (x ∷ jobs) [] job outcome each last = absurd each
  each_kept_longer (x ∷ jobs) (y ∷ outcomes) job outcome each last = (each.0, each_kept_longer jobs outcomes job outcome each.1 last)

  -- there are as many outcomes as jobs
  pub one_outcome_each : (jobs : List J) (outcomes : List O) → EachKept kept jobs outcomes → length outcomes ≡ length jobs
  one_outcome_each [] [] each = refl
  one_outcome_each [] (x ∷ outcomes) each = absurd each
  one_outcome_each (x ∷ jobs) [] each = absurd each
  one_outcome_each (x ∷ jobs) (y ∷ outcomes) each = ap suc (one_outcome_each jobs outcomes each.1)

module _ {J O A : Type 0} (of_job : J → A) (of_outcome : O → A) where
  -- if it is promised that a job and its outcome have one value, such as the number of a member, then their lists have the same values in the same order
  pub outcomes_have_values_of_jobs : (jobs : List J) (outcomes : List O) → EachKept (λ job outcome. of_outcome outcome ≡ of_job job) jobs outcomes → map of_outcome outcomes ≡ map of_job jobs
  outcomes_have_values_of_jobs [] [] each = refl
  outcomes_have_values_of_jobs [] (x ∷ outcomes) each = absurd each
  outcomes_have_values_of_jobs (x ∷ jobs) [] each = absurd each
  outcomes_have_values_of_jobs (x ∷ jobs) (y ∷ outcomes) each = ap (λ first. first ∷ map of_outcome outcomes) (each.0) ∙ ap (λ rest. of_job x ∷ rest) (outcomes_have_values_of_jobs jobs outcomes (each.1))
