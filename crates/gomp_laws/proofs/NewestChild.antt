-- The newest child of a task, and what is known of it while its creator waits.
use Rattle.std.proofs.Common.{◌≡◌, ℕ, ◌<◌, true, false, List, [], ◌∷◌, Some, refl, arith, inl, inr}
use Rattle.std.specs.Prelude.{◌==◌, ◌&&◌}
use Rattle.std.proofs.lemmas.Bool.{cases_Bool}
use Rattle.gomp_types.specs.declared.task.Task.{Task}
use Rattle.gomp_types.specs.declared.task.TaskDesc.{TaskDesc}
use Rattle.gomp_events.specs.declared.event.Event.{Event}
use Rattle.gomp_events.specs.declared.event.Event.TheVariants.{Create}
use Rattle.gomp_events.specs.Laws.{Always, Happened}
use Rattle.gomp_events.specs.Tasks.{same_task, task_desc, is_child, is_created_by, newest_child}
use Rattle.gomp_events.specs.TaskRules.{TaskRule}
use Rattle.gomp_types.proofs.Booleans.{and_left, and_right, same_number, is_equal, other_number}
use Rattle.gomp_events.proofs.GroupsKeep.{same_is_one}
use Rattle.gomp_events.proofs.TasksKeep.{newest_is_created}

-- in that task
pub newest_is_child : (members : ℕ) (p : Task) (t : ℕ) (h : List Event) → Always (TaskRule members) h → newest_child p h ≡ t → 0 < t → is_child p t h ≡ true
newest_is_child members p t [] all newest low = absurd (omega (arith, newest, low))
newest_is_child members p t (Create task m parent desc ∷ earlier) all newest low = elim (cases_Bool (same_task parent p)) [
  | inl own ↦
      let is : task ≡ t = rw own at newest in
      rw (is, same_number t) own
  | inr other ↦
      let was : newest_child p earlier ≡ t = rw other at newest in
      let below = newest_is_created members p earlier all.1 in
      let number = all.0.number in
      let old : (task == t) ≡ false = other_number task t (λ same. omega (arith, same, number, below, was)) in
      rw old (newest_is_child members p t earlier all.1 was low)
]
newest_is_child members p t (_ ∷ earlier) all newest low = newest_is_child members p t earlier all.1 newest low

-- a task that this member created, with this description
pub created_so : (m : ℕ) (p : Task) (t : ℕ) (desc : TaskDesc) (h : List Event) → is_created_by m p t h ≡ true → task_desc t h ≡ Some desc → Happened (Create t m p desc) h
created_so m p t desc [] own described = absurd (cc)
created_so m p t desc (Create task member parent other ∷ earlier) own described = elim (cases_Bool (task == t)) [
  | inl same ↦
      let by : (member == m && same_task parent p) ≡ true = rw same at own in
      let who = is_equal member m (and_left (member == m) (same_task parent p) by) in
      let where_ = same_is_one parent p (and_right (member == m) (same_task parent p) by) in
      let number = is_equal task t same in
      let asked : Some other ≡ Some desc = rw same at described in
      let what : other ≡ desc = cc in inl (rw (number, who, where_, what) refl)
  | inr differ ↦ inr (created_so m p t desc earlier (rw differ at own) (rw differ at described))
]
created_so m p t desc (_ ∷ earlier) own described = inr (created_so m p t desc earlier own described)
