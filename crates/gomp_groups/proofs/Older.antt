-- Which tasks are in a group: only such as were created after it was opened.
use Rattle.std.proofs.Common.{◌≡◌, ℕ, ◌+◌, ◌<◌, ◌≤◌, Bool, true, false, List, [], ◌∷◌, ◌++◌, refl, arith, inl, inr}
use Rattle.std.specs.Prelude.{◌==◌, ◌⊎◌, if◌then◌else◌}
use Rattle.std.proofs.lemmas.Bool.{cases_Bool}
use Rattle.gomp_types.specs.declared.task.Task.TheVariants.{Implicit, Explicit}
use Rattle.gomp_events.specs.declared.event.Event.{Event}
use Rattle.gomp_events.specs.declared.event.Event.TheVariants.{Create, Group}
use Rattle.gomp_events.specs.Laws.{Always}
use Rattle.gomp_events.specs.Tasks.{contains, tasks_created}
use Rattle.gomp_events.specs.Groups.{groups_opened, open_groups, groups_around, in_group}
use Rattle.gomp_events.specs.TaskRules.{TaskRule}
use Rattle.gomp_types.proofs.Booleans.{is_equal}
use Rattle.gomp_events.proofs.GroupsKeep.{group_open_below}
use Rattle.gomp_groups.specs.Calls.{tasks_before}

-- what is in two lists is in one of them
in_either_list : (q : ℕ) (xs ys : List ℕ) → contains q (xs ++ ys) ≡ true → (contains q xs ≡ true) ⊎ (contains q ys ≡ true)
in_either_list q [] ys there = inr there
in_either_list q (x ∷ xs) ys there =
    elim (cases_Bool (x == q)) [
      | inl here ↦ inl (rw here refl)
      | inr away ↦ rw away (in_either_list q xs ys (rw away at there))
    ]

-- a group around a task was opened
group_around_was_opened : (members q t : ℕ) (h : List Event) → Always (TaskRule members) h → in_group q t h ≡ true → q < groups_opened h
group_around_was_opened members q t [] all there = absurd (cc)
group_around_was_opened members q t (Create u m (Implicit x) desc ∷ earlier) all there = by (u == t) (group_around_was_opened members q t earlier all.1) there
  where
    by : (b : Bool) → (in_group q t earlier ≡ true → q < groups_opened earlier) → contains q (if b then open_groups (Implicit x) earlier else groups_around t earlier) ≡ true → q < groups_opened earlier
    by true was there = group_open_below members q (Implicit x) earlier all.1 there
    by false was there = was there
group_around_was_opened members q t (Create u m (Explicit p) desc ∷ earlier) all there = by (u == t) (group_around_was_opened members q t earlier all.1) (group_around_was_opened members q p earlier all.1) there
  where
    by : (b : Bool) → (in_group q t earlier ≡ true → q < groups_opened earlier) → (in_group q p earlier ≡ true → q < groups_opened earlier) → contains q (if b then open_groups (Explicit p) earlier ++ groups_around p earlier else groups_around t earlier) ≡ true → q < groups_opened earlier
    by true was over there = elim (in_either_list q (open_groups (Explicit p) earlier) (groups_around p earlier) there) [
      | inl own ↦ group_open_below members q (Explicit p) earlier all.1 own
      | inr around ↦ over around
    ]
    by false was over there = was there
group_around_was_opened members q t (Group g m ∷ earlier) all there = let lt = group_around_was_opened members q t earlier all.1 there in omega (arith, lt)
group_around_was_opened members q t (_ ∷ earlier) all there = group_around_was_opened members q t earlier all.1 there

-- no more tasks were created before a group than there are
pub tasks_before_were_created : (q : ℕ) (h : List Event) → tasks_before q h ≤ tasks_created h
tasks_before_were_created q [] = omega arith
tasks_before_were_created q (Create u m parent desc ∷ earlier) = let le = tasks_before_were_created q earlier in omega (arith, le)
tasks_before_were_created q (Group g m ∷ earlier) = by (g == q) (tasks_before_were_created q earlier)
  where
    by : (b : Bool) → tasks_before q earlier ≤ tasks_created earlier → (if b then tasks_created earlier else tasks_before q earlier) ≤ tasks_created earlier
    by true le = omega arith
    by false le = le
tasks_before_were_created q (_ ∷ earlier) = tasks_before_were_created q earlier

-- a task in the group was created after them
pub group_holds_later_tasks : (members q t : ℕ) (h : List Event) → Always (TaskRule members) h → in_group q t h ≡ true → tasks_before q h < t
group_holds_later_tasks members q t [] all there = absurd (cc)
group_holds_later_tasks members q t (Create u m (Implicit x) desc ∷ earlier) all there = by (u == t) refl (group_holds_later_tasks members q t earlier all.1) there
  where
    by : (b : Bool) → (u == t) ≡ b → (in_group q t earlier ≡ true → tasks_before q earlier < t) → contains q (if b then open_groups (Implicit x) earlier else groups_around t earlier) ≡ true → tasks_before q earlier < t
    by true same was there = let here = is_equal u t same in let number = all.0.number in let le = tasks_before_were_created q earlier in omega (arith, here, number, le)
    by false other was there = was there
group_holds_later_tasks members q t (Create u m (Explicit p) desc ∷ earlier) all there = by (u == t) refl (group_holds_later_tasks members q t earlier all.1) there
  where
    by : (b : Bool) → (u == t) ≡ b → (in_group q t earlier ≡ true → tasks_before q earlier < t) → contains q (if b then open_groups (Explicit p) earlier ++ groups_around p earlier else groups_around t earlier) ≡ true → tasks_before q earlier < t
    by true same was there = let here = is_equal u t same in let number = all.0.number in let le = tasks_before_were_created q earlier in omega (arith, here, number, le)
    by false other was there = was there
group_holds_later_tasks members q t (Group g m ∷ earlier) all there = by (g == q) refl (group_holds_later_tasks members q t earlier all.1 there)
  where
    by : (b : Bool) → (g == q) ≡ b → tasks_before q earlier < t → (if b then tasks_created earlier else tasks_before q earlier) < t
    by true same was =
        let here = is_equal g q same in
        let number = all.0.number in
        let lt = group_around_was_opened members q t earlier all.1 there in
        absurd (omega (arith, here, number, lt))
    by false other was = was
group_holds_later_tasks members q t (_ ∷ earlier) all there = group_holds_later_tasks members q t earlier all.1 there

-- so no task that was created before the group is in it
pub earlier_task_is_in_no_later_group : (members q t : ℕ) (h : List Event) → Always (TaskRule members) h → t ≤ tasks_before q h → in_group q t h ≡ false
earlier_task_is_in_no_later_group members q t h all before =
    elim (cases_Bool (in_group q t h)) [
      | inl there ↦ absurd (let later = group_holds_later_tasks members q t h all there in omega (arith, later, before))
      | inr away ↦ away
    ]
