-- What the definitions rule out, of any promise, job and outcome. (own)
use Rattle.std.proofs.Common.{◌≡◌, ℕ, zero, suc, List, [], ◌∷◌, length, sym, Some, Result, Ok, Err}
use Rattle.std.specs.Prelude.{◌≢◌, slice_get}
use Rattle.gomp_crew.specs.declared.line.Hand.{Hand}
use Rattle.gomp_crew.specs.declared.line.Hand.TheVariants.{Whole, Free, Asked, Idle, Busy}
use Rattle.gomp_crew.specs.Hands.{OnAsked, OnBusy, KeepsLine, HasAsked, HasTaken, HasGot}
use Rattle.gomp_crew.specs.Outcomes.{KeepsEach, EachKept}
use Rattle.gomp_crew.proofs.Outcomes.{one_outcome_each}

module _ {J : Type 0} (so : J → Type 0) where
  -- a caller that is free has handed over nothing, and of one that is not the job is so
  pub never_asked_if_free : OnAsked Free so → ⊥
  never_asked_if_free on = on

  pub never_asked_if_not_so : (job : J) → (so job → ⊥) → OnAsked (Asked job) so → ⊥
  never_asked_if_not_so job other on = other on

  -- the same of a worker
  pub never_busy_if_idle : OnBusy Idle so → ⊥
  never_busy_if_idle on = on

  pub never_busy_if_not_so : (job : J) → (so job → ⊥) → OnBusy (Busy job) so → ⊥
  never_busy_if_not_so job other on = other on

  -- the worker's hand is never the caller's
  pub never_asked_by_a_worker : (job : J) → OnAsked (Busy job) so → ⊥
  never_asked_by_a_worker job on = on

  pub never_busy_as_a_caller : (job : J) → OnBusy (Asked job) so → ⊥
  never_busy_as_a_caller job on = on

module _ {J O : Type 0} (kept : J → O → Type 0) where
  -- nothing is on a line without two ends, nor before a job is handed over, nor while the worker has it
  pub never_an_item_before_two_ends : (item : Result O J) (items : List (Result O J)) → KeepsLine kept (item ∷ items) (Whole ∷ []) → ⊥
  never_an_item_before_two_ends item [] keeps = keeps
  never_an_item_before_two_ends item (other ∷ items) keeps = keeps

  pub never_an_item_if_free : (item : Result O J) (items : List (Result O J)) → KeepsLine kept (item ∷ items) (Free ∷ Idle ∷ []) → ⊥
  never_an_item_if_free item [] keeps = keeps
  never_an_item_if_free item (other ∷ items) keeps = keeps

  pub never_an_item_if_busy : (item : Result O J) (items : List (Result O J)) (caller : Hand J) (job : J) → KeepsLine kept (item ∷ items) (caller ∷ Busy job ∷ []) → ⊥
  never_an_item_if_busy item [] Whole job keeps = keeps
  never_an_item_if_busy item [] Free job keeps = keeps
  never_an_item_if_busy item [] (Asked asked) job keeps = keeps
  never_an_item_if_busy item [] Idle job keeps = keeps
  never_an_item_if_busy item [] (Busy taken) job keeps = keeps
  never_an_item_if_busy item (other ∷ items) caller job keeps = keeps

  pub never_two_items : (item other : Result O J) (items : List (Result O J)) (views : List (Hand J)) → KeepsLine kept (item ∷ other ∷ items) views → ⊥
  never_two_items item other items views keeps = keeps

  -- a job that was handed over is never lost, and nobody has one that was not
  pub never_a_job_lost : (job : J) → KeepsLine kept [] (Asked job ∷ Idle ∷ []) → ⊥
  never_a_job_lost job keeps = keeps

  pub never_a_job_of_nobody : (items : List (Result O J)) (job : J) → KeepsLine kept items (Free ∷ Busy job ∷ []) → ⊥
  never_a_job_of_nobody [] job keeps = keeps
  never_a_job_of_nobody (item ∷ []) job keeps = keeps
  never_a_job_of_nobody (item ∷ other ∷ items) job keeps = keeps

  -- the worker never has another job, none comes by another one, and no outcome that is not promised of it
  pub never_another_job_taken : (job taken : J) → job ≢ taken → KeepsLine kept [] (Asked job ∷ Busy taken ∷ []) → ⊥
  never_another_job_taken job taken differ keeps = differ keeps

  pub never_another_job_on_the_line : (job sent : J) → job ≢ sent → KeepsLine kept (Err sent ∷ []) (Asked job ∷ Idle ∷ []) → ⊥
  never_another_job_on_the_line job sent differ keeps = differ keeps

  pub never_an_outcome_of_another_job : (job : J) (outcome : O) → (kept job outcome → ⊥) → KeepsLine kept (Ok outcome ∷ []) (Asked job ∷ Idle ∷ []) → ⊥
  never_an_outcome_of_another_job job outcome other keeps = other keeps

  -- a line has two ends at most, and one at least
  pub never_three_ends : (items : List (Result O J)) (one two three : Hand J) (views : List (Hand J)) → KeepsLine kept items (one ∷ two ∷ three ∷ views) → ⊥
  never_three_ends [] Whole two three views keeps = keeps
  never_three_ends [] Free Idle three views keeps = keeps
  never_three_ends [] (Asked job) (Busy taken) three views keeps = keeps
  never_three_ends (item ∷ []) (Asked job) Idle three views keeps = keeps
  never_three_ends _ _ _ three views keeps = keeps

  pub never_without_an_end : (items : List (Result O J)) → KeepsLine kept items [] → ⊥
  never_without_an_end [] keeps = keeps
  never_without_an_end (item ∷ []) keeps = keeps
  never_without_an_end (item ∷ other ∷ items) keeps = keeps

  -- the caller's end comes first
  pub never_an_idle_caller : (items : List (Result O J)) (views : List (Hand J)) → KeepsLine kept items (Idle ∷ views) → ⊥
  never_an_idle_caller [] views keeps = keeps
  never_an_idle_caller (item ∷ []) views keeps = keeps
  never_an_idle_caller (item ∷ other ∷ items) views keeps = keeps

  pub never_a_busy_caller : (items : List (Result O J)) (job : J) (views : List (Hand J)) → KeepsLine kept items (Busy job ∷ views) → ⊥
  never_a_busy_caller [] job views keeps = keeps
  never_a_busy_caller (item ∷ []) job views keeps = keeps
  never_a_busy_caller (item ∷ other ∷ items) job views keeps = keeps

  -- who hands over a job knows that one, and no outcome is handed over
  pub never_asked_for_another : (job other : J) → job ≢ other → HasAsked {O = O} (Err job) (Asked other) → ⊥
  never_asked_for_another job other differ asked = differ cc

  pub never_an_outcome_handed_over : (outcome : O) (after : Hand J) → HasAsked (Ok outcome) after → ⊥
  never_an_outcome_handed_over outcome after asked = asked

  -- who takes a job has that one
  pub never_another_job_had : (job other : J) → job ≢ other → HasTaken kept (Err job) (Busy other) → ⊥
  never_another_job_had job other differ taken = differ cc

  pub never_idle_after_taking : (item : Result O J) → HasTaken kept item Idle → ⊥
  never_idle_after_taking (Ok outcome) taken = taken
  never_idle_after_taking (Err job) taken = absurd (cc)

  pub never_busy_with_another_outcome : (job : J) (outcome : O) → (kept job outcome → ⊥) → HasTaken kept (Ok outcome) (Busy job) → ⊥
  never_busy_with_another_outcome job outcome other taken = other taken

  -- who fetches is free, had handed over a job, and gets an outcome that is promised of it or that job
  pub never_asked_after_fetching : (before : Hand J) (item : Result O J) (job : J) → HasGot kept before item (Asked job) → ⊥
  never_asked_after_fetching before item job got = absurd (cc (got.0))

  pub never_fetched_if_free : (item : Result O J) (after : Hand J) → HasGot kept Free item after → ⊥
  never_fetched_if_free (Ok outcome) after got = got.1
  never_fetched_if_free (Err job) after got = absurd (cc (got.1))

  pub never_an_outcome_fetched_of_another : (job : J) (outcome : O) (after : Hand J) → (kept job outcome → ⊥) → HasGot kept (Asked job) (Ok outcome) after → ⊥
  never_an_outcome_fetched_of_another job outcome after other got = other (got.1)

  pub never_another_job_fetched : (job back : J) (after : Hand J) → job ≢ back → HasGot kept (Asked job) (Err back) after → ⊥
  never_another_job_fetched job back after differ got = differ (cc (got.1))

  -- nothing may come of a job that is not promised of it
  pub never_a_result_not_promised : (post : J → O → Type 0) (job : J) (outcome : O) → KeepsEach post kept → post job outcome → (kept job outcome → ⊥) → ⊥
  never_a_result_not_promised post job outcome keeps came other = other (keeps job outcome came)

  -- there are never fewer outcomes than jobs, nor more
  pub never_an_outcome_left_out : (jobs : List J) (outcomes : List O) → EachKept kept jobs outcomes → length outcomes ≢ length jobs → ⊥
  never_an_outcome_left_out jobs outcomes each differ = differ (one_outcome_each kept jobs outcomes each)

  -- at no place is there an outcome that is not promised of the job at that place
  pub never_an_outcome_in_the_place_of_another : (jobs : List J) (outcomes : List O) (place : ℕ) (job : J) (outcome : O)
      → EachKept kept jobs outcomes → slice_get jobs place ≡ Some job → slice_get outcomes place ≡ Some outcome → (kept job outcome → ⊥) → ⊥
  never_an_outcome_in_the_place_of_another [] [] place job outcome each at_job at_outcome other = absurd (cc)
  never_an_outcome_in_the_place_of_another [] (x ∷ outcomes) place job outcome each at_job at_outcome other = each
  never_an_outcome_in_the_place_of_another (x ∷ jobs) [] place job outcome each at_job at_outcome other = each
  never_an_outcome_in_the_place_of_another (x ∷ jobs) (y ∷ outcomes) zero job outcome each at_job at_outcome other =
      let same_job : x ≡ job = cc in
      let same_outcome : y ≡ outcome = cc in
      other (rw (sym same_job, sym same_outcome) (each.0))
  never_an_outcome_in_the_place_of_another (x ∷ jobs) (y ∷ outcomes) (suc place) job outcome each at_job at_outcome other =
      never_an_outcome_in_the_place_of_another jobs outcomes place job outcome (each.1) at_job at_outcome other
