-- No task that nobody has started is reached by a cancellation: so it stays after each event but a cancellation.
use Rattle.std.proofs.Common.{◌≡◌, ℕ, true, false, List, [], ◌∷◌, ◌++◌, refl, ap, ◌∙◌, arith, suc, inl, inr}
use Rattle.std.specs.Prelude.{◌||◌, ◌==◌}
use Rattle.std.proofs.lemmas.Bool.{or_parts}
use Rattle.std.proofs.lemmas.Bool.Decides.{eqb_tells}
use Rattle.gomp_types.specs.declared.cancel.Scope.TheVariants.{Region, OneShare, OneGroup}
use Rattle.gomp_types.specs.declared.task.Task.{Task}
use Rattle.gomp_types.specs.declared.task.Task.TheVariants.{Implicit, Explicit}
use Rattle.gomp_types.specs.declared.task.TaskDesc.{TaskDesc}
use Rattle.gomp_events.specs.declared.event.Event.{Event}
use Rattle.gomp_events.specs.declared.event.Event.TheVariants.{Create, Start, Done, Cancel, Discard}
use Rattle.gomp_events.specs.Laws.{Always}
use Rattle.gomp_events.specs.TaskRules.{TaskRule}
use Rattle.gomp_events.specs.TaskCalls.{creates}
use Rattle.gomp_events.specs.CancelCalls.{creates_covered}
use Rattle.gomp_events.specs.Tasks.{tasks_created, executed_task, has_started, is_complete}
use Rattle.gomp_events.specs.Groups.{groups_around}
use Rattle.gomp_events.specs.Goals.{is_unstarted}
use Rattle.gomp_events.specs.Cancels.{was_cancelled, some_cancelled, is_covered, would_be_covered, groups_within}
use Rattle.gomp_types.proofs.Booleans.{other_number}
use Rattle.gomp_events.proofs.OpenTasks.{created_high}
use Rattle.gomp_events.proofs.Suspended.{unstarted_is_fresh, current_open}
use Rattle.gomp_events.proofs.GoalReadings.{groups_since_created}
use Rattle.gomp_scheduler.specs.Schedulers.{AreSealed}
use Rattle.gomp_scheduler.proofs.ReadyKeeps.{no_number, unstarted_by, made_before}

-- at first there is no task
pub none_unsealed : AreSealed []
none_unsealed = λ t un. absurd (let none = no_number t in let never : false ≡ true = rw none at un in cc)

-- Events that neither create a task nor cancel the region or a group
abbrev pub IsNoSealEvent : Event → Type 0
IsNoSealEvent (Create t m parent desc) = ⊥
IsNoSealEvent (Cancel m Region) = ⊥
IsNoSealEvent (Cancel m (OneGroup q)) = ⊥
IsNoSealEvent _ = Unit {0}

region_as_before : (event : Event) (h : List Event) → IsNoSealEvent event → was_cancelled Region (event ∷ h) ≡ was_cancelled Region h
region_as_before (Create t m parent desc) h is = absurd is
region_as_before (Cancel m Region) h is = absurd is
region_as_before (Cancel m (OneGroup q)) h is = absurd is
region_as_before (Cancel m (OneShare i)) h is = refl
region_as_before _ h is = refl

group_as_before : (event : Event) (q : ℕ) (h : List Event) → IsNoSealEvent event → was_cancelled (OneGroup q) (event ∷ h) ≡ was_cancelled (OneGroup q) h
group_as_before (Create t m parent desc) q h is = absurd is
group_as_before (Cancel m Region) q h is = absurd is
group_as_before (Cancel m (OneGroup p)) q h is = absurd is
group_as_before (Cancel m (OneShare i)) q h is = refl
group_as_before _ q h is = refl

groups_as_before : (event : Event) (qs : List ℕ) (h : List Event) → IsNoSealEvent event → some_cancelled qs (event ∷ h) ≡ some_cancelled qs h
groups_as_before event [] h is = refl
groups_as_before event (q ∷ qs) h is = rw (group_as_before event q h is, groups_as_before event qs h is) refl

around_as_before : (event : Event) (t : ℕ) (h : List Event) → IsNoSealEvent event → groups_around t (event ∷ h) ≡ groups_around t h
around_as_before (Create t m parent desc) u h is = absurd is
around_as_before _ u h is = refl

pub covered_as_before : (event : Event) (t : ℕ) (h : List Event) → IsNoSealEvent event → is_covered t (event ∷ h) ≡ is_covered t h
covered_as_before event t h is = rw (region_as_before event h is, around_as_before event t h is, groups_as_before event (groups_around t h) h is) refl

-- who was not started then was not before
pub unstarted_before : (event : Event) (t : ℕ) (h : List Event) → IsNoSealEvent event → is_unstarted t (event ∷ h) ≡ true → is_unstarted t h ≡ true
unstarted_before (Create task m parent desc) t h is un = absurd is
unstarted_before (Start task m) t h is un = let fresh = unstarted_is_fresh t (Start task m ∷ h) un in unstarted_by t h fresh.0 (or_parts (task == t) (has_started t h) fresh.1).1 fresh.2
unstarted_before (Done task m) t h is un = let fresh = unstarted_is_fresh t (Done task m ∷ h) un in unstarted_by t h fresh.0 fresh.1 (or_parts (task == t) (is_complete t h) fresh.2).1
unstarted_before (Discard task m) t h is un = let fresh = unstarted_is_fresh t (Discard task m ∷ h) un in unstarted_by t h fresh.0 fresh.1 (or_parts (task == t) (is_complete t h) fresh.2).1
unstarted_before _ t h is un = un

pub sealed_aside : (event : Event) (h : List Event) → IsNoSealEvent event → AreSealed h → AreSealed (event ∷ h)
sealed_aside event h is sealed = λ t un. covered_as_before event t h is ∙ sealed t (unstarted_before event t h is un)

-- A task is created that nothing reaches

created_keeps : (t m : ℕ) (p : Task) (desc : TaskDesc) (qs : List ℕ) (h : List Event) → some_cancelled qs (Create t m p desc ∷ h) ≡ some_cancelled qs h
created_keeps t m p desc [] h = refl
created_keeps t m p desc (q ∷ qs) h = ap (λ b. was_cancelled (OneGroup q) h || b) (created_keeps t m p desc qs h)

around_other : (t u m : ℕ) (p : Task) (desc : TaskDesc) (h : List Event) → (t == u) ≡ false → groups_around u (Create t m p desc ∷ h) ≡ groups_around u h
around_other t u m (Implicit x) desc h other = rw other refl
around_other t u m (Explicit s) desc h other = rw other refl

new_is_uncovered : (t m : ℕ) (p : Task) (desc : TaskDesc) (h : List Event) → would_be_covered p h ≡ false → is_covered t (Create t m p desc ∷ h) ≡ false
new_is_uncovered t m p desc h uncovered = rw (groups_since_created t m p desc h, created_keeps t m p desc (groups_within p h) h) uncovered

other_is_covered : (t u m : ℕ) (p : Task) (desc : TaskDesc) (h : List Event) → (t == u) ≡ false → is_covered u (Create t m p desc ∷ h) ≡ is_covered u h
other_is_covered t u m p desc h other = rw (around_other t u m p desc h other, created_keeps t m p desc (groups_around u h) h) refl

pub sealed_created : (t m : ℕ) (p : Task) (desc : TaskDesc) (h : List Event) → t ≡ suc (tasks_created h) → would_be_covered p h ≡ false → AreSealed h → AreSealed (Create t m p desc ∷ h)
sealed_created t m p desc h number uncovered sealed = λ u un. elim (eqb_tells t u) [
  | inl same ↦ rw (← same.1) (new_is_uncovered t m p desc h uncovered)
  | inr other ↦
      let last : (suc (tasks_created h) == u) ≡ false = rw number at other.0 in
      other_is_covered t u m p desc h other.0 ∙ sealed u (rw (made_before u (tasks_created h) last) at un)
]

-- nor is another reached that is created in the same task next
within_as_before : (t m : ℕ) (p q : Task) (desc : TaskDesc) (h : List Event) → ((s : ℕ) → p ≡ Explicit s → (t == s) ≡ false) → would_be_covered p (Create t m q desc ∷ h) ≡ would_be_covered p h
within_as_before t m (Implicit x) q desc h differ = rw (created_keeps t m q desc (groups_within (Implicit x) h) h) refl
within_as_before t m (Explicit s) q desc h differ = rw (around_other t s m q desc h (differ s refl), created_keeps t m q desc (groups_within (Explicit s) h) h) refl

pub still_uncovered : (members m : ℕ) (desc : TaskDesc) (h : List Event) → Always (TaskRule members) h → creates_covered m h ≡ false → creates_covered m (creates m desc h ++ h) ≡ false
still_uncovered members m desc h all uncovered =
    within_as_before (suc (tasks_created h)) m (executed_task m h) (executed_task m h) desc h
    (λ s e. other_number (suc (tasks_created h)) s (λ same. let high = created_high s h (current_open members m s h all e).0 in omega (arith, high, same))) ∙ uncovered
