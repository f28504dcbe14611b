-- Which tasks a cancellation does not reach, or leaves to nobody to discard.
use Rattle.std.proofs.Common.{◌≡◌, ℕ, ◌<◌, ◌≤◌, Bool, true, false, List, ◌∷◌, refl, ◌∙◌, arith, inl, inr, length}
use Rattle.std.specs.Prelude.{◌&&◌, max, nat_le}
use Rattle.std.proofs.lemmas.Bool.{cases_Bool}
use Rattle.std.proofs.lemmas.Bool.Decides.{nat_tests}
use Rattle.gomp_types.specs.declared.cancel.Scope.{Scope}
use Rattle.gomp_types.specs.declared.cancel.Scope.TheVariants.{OneGroup}
use Rattle.gomp_events.specs.declared.event.Event.{Event}
use Rattle.gomp_events.specs.declared.event.Event.TheVariants.{Cancel}
use Rattle.gomp_events.specs.Groups.{in_group}
use Rattle.gomp_events.specs.Cancels.{is_covered}
use Rattle.gomp_events.specs.Goals.{is_unstarted}
use Rattle.gomp_types.proofs.Booleans.{and_false}
use Rattle.gomp_tasks.specs.Stands.{count_of}
use Rattle.gomp_cancel.proofs.Laws.{other_tasks_discarded_as_before}
use Rattle.gomp_scheduler.specs.Schedulers.{SchedulerView, Stands, AreSealed}

none_and : (a b : Bool) → a ≡ false → (a && b) ≡ false
none_and true b e = absurd (cc)
none_and false b e = refl

-- nobody is to discard a task that was started or is complete
pub over_stays_over : (t m : ℕ) (scope : Scope) (h : List Event) → is_unstarted t h ≡ false → (is_unstarted t (Cancel m scope ∷ h) && is_covered t (Cancel m scope ∷ h)) ≡ false
over_stays_over t m scope h over = none_and (is_unstarted t h) (is_covered t (Cancel m scope ∷ h)) over

-- nor one that is not in the group that is cancelled, if none was to be discarded before
pub outside_stays_uncovered : (t m q : ℕ) (h : List Event) → AreSealed h → in_group q t h ≡ false → (is_unstarted t (Cancel m (OneGroup q) ∷ h) && is_covered t (Cancel m (OneGroup q) ∷ h)) ≡ false
outside_stays_uncovered t m q h sealed away = other_tasks_discarded_as_before t q m h away ∙ elim (cases_Bool (is_unstarted t h)) [
  | inl un ↦ and_false (is_unstarted t h) (is_covered t h) (sealed t un)
  | inr over ↦ none_and (is_unstarted t h) (is_covered t h) over
]

-- so each of the oldest, which are complete, and each that was created before the group was opened
pub older_unreached : (oldest before most t m q : ℕ) (h : List Event) → most ≡ max oldest before → t ≤ most → AreSealed h → (t ≤ oldest → is_unstarted t h ≡ false) → (t ≤ before → in_group q t h ≡ false) → (is_unstarted t (Cancel m (OneGroup q) ∷ h) && is_covered t (Cancel m (OneGroup q) ∷ h)) ≡ false
older_unreached oldest before most t m q h is low sealed over away = elim (cases_Bool (nat_le t oldest)) [
  | inl old ↦ over_stays_over t m (OneGroup q) h (over (grind (arith, nat_tests, old)))
  | inr later ↦ outside_stays_uncovered t m q h sealed (away (let past : oldest < t = grind (arith, nat_tests, later) in omega (arith, is, low, past)))
]

-- so many tasks were created, if so many were before the group was opened
pub beyond_is_few : (s : SchedulerView) (oldest before most : ℕ) (h : List Event) → Stands s h → oldest ≤ count_of s.tasks → before ≤ length s.groups.tasks → most ≡ max oldest before → most ≤ count_of s.tasks
beyond_is_few s oldest before most h st few older is = let tasks = st.tasks.count in let groups = st.groups.created in omega (arith, tasks, groups, few, older, is)
