-- A child of the task that a member executes was created by that member: a task is executed by one member alone.
use Rattle.std.proofs.Common.{◌≡◌, ℕ, true, List, [], ◌∷◌, refl, ◌∙◌, sym, subst, inl, inr}
use Rattle.std.specs.Prelude.{◌&&◌, ◌==◌}
use Rattle.std.proofs.lemmas.Bool.{cases_Bool}
use Rattle.gomp_types.specs.declared.task.Task.{Task}
use Rattle.gomp_events.specs.declared.event.Event.{Event}
use Rattle.gomp_events.specs.declared.event.Event.TheVariants.{Create, Start}
use Rattle.gomp_events.specs.Tasks.{same_task, executed_task, task_runner, is_child, is_created_by}
use Rattle.gomp_events.specs.Goals.{is_own}
use Rattle.gomp_events.specs.Laws.{Always}
use Rattle.gomp_events.specs.TaskRules.{TaskRule}
use Rattle.gomp_types.proofs.Booleans.{and_right, same_number, not_both}
use Rattle.gomp_events.proofs.GroupsKeep.{same_is_one, Executes, executed_by, one_executes, still_executes}
use Rattle.gomp_events.proofs.Suspended.{startable_is_fresh}

-- what a member created is a child
created_is_child : (m : ℕ) (p : Task) (t : ℕ) (h : List Event) → is_created_by m p t h ≡ true → is_child p t h ≡ true
created_is_child m p t [] e = absurd (cc)
created_is_child m p t (Create task member parent desc ∷ earlier) e = elim (cases_Bool (task == t)) [
  | inl same ↦ let by : (member == m && same_task parent p) ≡ true = rw same at e in rw same (and_right (member == m) (same_task parent p) by)
  | inr other ↦ rw other (created_is_child m p t earlier (rw other at e))
]
created_is_child m p t (_ ∷ earlier) e = created_is_child m p t earlier e

-- a child was created by a member that executes its parent, or has done so
child_has_creator : (members : ℕ) (p : Task) (t : ℕ) (h : List Event) → Always (TaskRule members) h → is_child p t h ≡ true → (m : ℕ) × (is_created_by m p t h ≡ true) × Executes (λ u. task_runner u h) m p
child_has_creator members p t [] all e = absurd (cc)
child_has_creator members p t (Create task member parent desc ∷ earlier) all e = elim (cases_Bool (task == t)) [
  | inl same ↦
      let is : same_task parent p ≡ true = rw same at e in
      let current : executed_task member earlier ≡ p = sym all.0.current ∙ same_is_one parent p is in
      (member, rw (same, same_number member) is, executed_by members member earlier all.1 p current)
  | inr other ↦ let was = child_has_creator members p t earlier all.1 (rw other at e) in (was.0, rw other was.1, was.2)
]
child_has_creator members p t (Start task member ∷ earlier) all e =
    let was = child_has_creator members p t earlier all.1 e in
    (was.0, was.1, still_executes was.0 task member p earlier (startable_is_fresh member task earlier all.0.may).1 was.2)
child_has_creator members p t (_ ∷ earlier) all e = child_has_creator members p t earlier all.1 e

-- so the children of the task that a member executes are its own
pub child_of_current_is_own : (members m t : ℕ) (h : List Event) → Always (TaskRule members) h → is_own m t h ≡ is_child (executed_task m h) t h
child_of_current_is_own members m t h all = elim (cases_Bool (is_child (executed_task m h) t h)) [
  | inl child ↦
      let made = child_has_creator members (executed_task m h) t h all child in
      let who = one_executes (λ u. task_runner u h) made.0 m (executed_task m h) made.2 (executed_by members m h all (executed_task m h) refl) in
      let own : is_own m t h ≡ true = subst (λ (x : ℕ). is_created_by x (executed_task m h) t h ≡ true) who made.1 in
      rw (own, child) refl
  | inr not_child ↦ elim (cases_Bool (is_own m t h)) [
    | inl own ↦ absurd (not_both (is_child (executed_task m h) t h) (created_is_child m (executed_task m h) t h own) not_child)
    | inr not_own ↦ rw (not_own, not_child) refl
  ]
]
