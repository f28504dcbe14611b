-- Which tasks are free after each event: one that is free stays so, and one that was started is.
use Rattle.std.proofs.Common.{◌≡◌, ℕ, true, false, List, [], ◌∷◌, arith, inl, inr}
use Rattle.std.specs.Prelude.{◌==◌}
use Rattle.std.proofs.lemmas.Bool.{cases_Bool}
use Rattle.gomp_types.specs.declared.task.Task.{Task}
use Rattle.gomp_types.specs.declared.task.TaskDesc.{TaskDesc}
use Rattle.gomp_events.specs.declared.event.Event.{Event}
use Rattle.gomp_events.specs.declared.event.Event.TheVariants.{Create, Start, Done, Discard}
use Rattle.gomp_events.specs.Laws.{Always}
use Rattle.gomp_events.specs.Tasks.{has_started, is_complete}
use Rattle.gomp_events.specs.Depends.{waits_for, is_free}
use Rattle.gomp_events.specs.TaskRules.{TaskRule}
use Rattle.gomp_types.proofs.Booleans.{or_tells, or_right, is_equal, not_both}
use Rattle.gomp_events.proofs.GoalReadings.{waits_if_not_free}
use Rattle.gomp_events.proofs.OpenTasks.{complete_at}
use Rattle.gomp_events.proofs.Suspended.{startable_is_free}
use Rattle.gomp_events.proofs.TaskRoom.{uncreated_not_started}
use Rattle.gomp_events.proofs.TasksKeep.{named_is_created}

-- a task for which a free task waits is complete
free_waits_for_complete : (members t q : ℕ) (h : List Event) → Always (TaskRule members) h → is_free t h ≡ true → waits_for t q h ≡ true → is_complete q h ≡ true
free_waits_for_complete members t q h all free waits = complete_at (λ u. waits_for t u h) h q free (named_is_created members t q h all waits) waits

-- A free task stays free

pub free_once_created : (members u t m : ℕ) (p : Task) (desc : TaskDesc) (h : List Event) → Always (TaskRule members) h → (t == u) ≡ false → is_free u h ≡ true → is_free u (Create t m p desc ∷ h) ≡ true
free_once_created members u t m p desc h all other free = elim (cases_Bool (is_free u (Create t m p desc ∷ h))) [
  | inl is ↦ is
  | inr held ↦
      let found = waits_if_not_free u (Create t m p desc ∷ h) held in
      absurd (not_both (is_complete found.0 h) (free_waits_for_complete members u found.0 h all free (rw other at found.1)) found.2)
]

pub free_once_done : (members u t m : ℕ) (h : List Event) → Always (TaskRule members) h → is_free u h ≡ true → is_free u (Done t m ∷ h) ≡ true
free_once_done members u t m h all free = elim (cases_Bool (is_free u (Done t m ∷ h))) [
  | inl is ↦ is
  | inr held ↦
      let found = waits_if_not_free u (Done t m ∷ h) held in
      absurd (not_both (is_complete found.0 (Done t m ∷ h)) (or_right (t == found.0) (is_complete found.0 h) (free_waits_for_complete members u found.0 h all free found.1)) found.2)
]

-- A task that was started is free

started_waits_for_complete : (members t q : ℕ) (h : List Event) → Always (TaskRule members) h → has_started t h ≡ true → waits_for t q h ≡ true → is_complete q h ≡ true
started_waits_for_complete members t q [] all on waits = absurd (cc)
started_waits_for_complete members t q (Create task m parent desc ∷ earlier) all on waits = elim (cases_Bool (task == t)) [
  | inl here ↦ absurd (let same = is_equal task t here in let number = all.0.number in not_both (has_started t earlier) on (uncreated_not_started members earlier all.1 t (omega (arith, number, same))).0)
  | inr other ↦ started_waits_for_complete members t q earlier all.1 on (rw other at waits)
]
started_waits_for_complete members t q (Start task m ∷ earlier) all on waits = elim (or_tells (task == t) (has_started t earlier) on) [
  | inl here ↦ let same = is_equal task t here in free_waits_for_complete members t q earlier all.1 (rw (← same) (startable_is_free m task earlier all.0.may)) waits
  | inr before ↦ started_waits_for_complete members t q earlier all.1 before waits
]
started_waits_for_complete members t q (Done task m ∷ earlier) all on waits = or_right (task == q) (is_complete q earlier) (started_waits_for_complete members t q earlier all.1 on waits)
started_waits_for_complete members t q (Discard task m ∷ earlier) all on waits = or_right (task == q) (is_complete q earlier) (started_waits_for_complete members t q earlier all.1 on waits)
started_waits_for_complete members t q (_ ∷ earlier) all on waits = started_waits_for_complete members t q earlier all.1 on waits

pub started_is_free : (members t : ℕ) (h : List Event) → Always (TaskRule members) h → has_started t h ≡ true → is_free t h ≡ true
started_is_free members t h all on = elim (cases_Bool (is_free t h)) [
  | inl is ↦ is
  | inr held ↦
      let found = waits_if_not_free t h held in
      absurd (not_both (is_complete found.0 h) (started_waits_for_complete members t found.0 h all on found.1) found.2)
]
