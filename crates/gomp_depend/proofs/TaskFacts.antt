-- What the events say of the tasks in lines.
use Rattle.std.proofs.Common.{◌≡◌, ℕ, Bool, true, false, List, [], ◌∷◌, Option, None, refl, ap, ◌∙◌, sym, arith, suc, inl, inr}
use Rattle.std.specs.Prelude.{◌==◌, ◌&&◌, not, if◌then◌else◌, is_some, nat_lt, nat_le}
use Rattle.std.proofs.lemmas.Bool.{cases_Bool}
use Rattle.std.proofs.lemmas.Bool.Decides.{nat_tests}
use Rattle.gomp_types.specs.declared.task.Task.{Task}
use Rattle.gomp_events.specs.declared.event.Event.{Event}
use Rattle.gomp_events.specs.declared.event.Event.TheVariants.{Create, Done}
use Rattle.gomp_events.specs.Laws.{Always}
use Rattle.gomp_events.specs.Tasks.{same_task, tasks_created, is_created, is_complete, is_child}
use Rattle.gomp_events.specs.Depends.{task_items}
use Rattle.gomp_types.proofs.Booleans.{is_equal, same_number, and_left, and_right, false_of_not, not_both}
use Rattle.gomp_events.proofs.OpenTasks.{created_low, created_high}
use Rattle.gomp_events.proofs.LaterTasks.{old_created}
use Rattle.gomp_events.proofs.GroupsKeep.{same_is_one, one_is_same}
use Rattle.gomp_lines.specs.declared.classes.Class.{Class}
use Rattle.gomp_lines.specs.Classes.{class_at}
use Rattle.gomp_lines.specs.Order.{InOrder, IsOpen, task_parent}
use Rattle.gomp_lines.specs.Lines.{Entry, without, class_in, is_in, line_of}
use Rattle.gomp_lines.proofs.LineTasks.{class_in_line, uncreated_is_no_child}
use Rattle.gomp_depend.specs.Books.{names, left_by, LeavesLines}
use Rattle.gomp_depend.specs.Stands.{open_items, open_parent}
use Rattle.gomp_depend.proofs.Addresses.{class_at_named, named_has_items}

-- a task is a child of the one in which it was created, and of no other
pub child_by_parent : (h : List Event) → Always InOrder h → (q : ℕ) → is_created q h ≡ true → (p : Task) → is_child p q h ≡ same_task (task_parent q h) p
child_by_parent [] all q made p = absurd (let low = created_low q [] made in let high = created_high q [] made in omega (arith, low, high))
child_by_parent (Create task m parent desc ∷ earlier) all q made p = elim (cases_Bool (task == q)) [
  | inl same ↦ rw same refl
  | inr other ↦ rw other (child_by_parent earlier all.1 q (old_created q task earlier all.0 other made) p)
]
child_by_parent (_ ∷ earlier) all q made p = child_by_parent earlier all.1 q made p

first_is_created : (n : ℕ) → (nat_lt 0 (suc n) && nat_le (suc n) (suc n)) ≡ true
first_is_created n = grind (arith, nat_tests)

created_still : (t n : ℕ) → (nat_lt 0 t && nat_le t n) ≡ true → (nat_lt 0 t && nat_le t (suc n)) ≡ true
created_still t n made = grind (arith, nat_tests, made)

-- a task that was not created has no items
pub uncreated_has_no_items : (h : List Event) → Always InOrder h → (t : ℕ) → is_created t h ≡ false → task_items t h ≡ []
uncreated_has_no_items [] all t new = refl
uncreated_has_no_items (Create task m parent desc ∷ earlier) all t new = elim (cases_Bool (task == t)) [
  | inl same ↦ absurd (let it = is_equal task t same in let made : is_created t (Create task m parent desc ∷ earlier) ≡ true = rw (← it, all.0) (first_is_created (tasks_created earlier)) in cc)
  | inr other ↦ rw other (elim (cases_Bool (is_created t earlier)) [
    | inl made ↦ absurd (let still = created_still t (tasks_created earlier) made in cc)
    | inr unmade ↦ uncreated_has_no_items earlier all.1 t unmade
  ])
]
uncreated_has_no_items (_ ∷ earlier) all t new = uncreated_has_no_items earlier all.1 t new

is_in_by_class : (t : ℕ) (line : List Entry) → is_in t line ≡ is_some (class_in t line)
is_in_by_class t [] = refl
is_in_by_class t (entry ∷ line) = elim (cases_Bool (entry.task == t)) [
  | inl here ↦ rw here refl
  | inr away ↦ rw away (is_in_by_class t line)
]

pub without_one_not_in : (t : ℕ) (line : List Entry) → is_in t line ≡ false → without t line ≡ line
without_one_not_in t [] out = refl
without_one_not_in t (entry ∷ line) out = elim (cases_Bool (entry.task == t)) [
  | inl here ↦ absurd (let in_it : is_in t (entry ∷ line) ≡ true = rw here refl in cc)
  | inr away ↦ rw away (ap (λ rest. entry ∷ rest) (without_one_not_in t line (rw away at out)))
]

some_of_case : (b : Bool) (class : Option Class) → is_some (if b then class else None) ≡ true → (b ≡ true) × (is_some class ≡ true)
some_of_case true class e = (refl, e)
some_of_case false class e = absurd (cc)

-- a task of a line is open, names the address, and is a child of the parent
pub in_line_tells : (h : List Event) → Always InOrder h → (p : Task) (a u : ℕ) → is_in u (line_of p a h) ≡ true → (open_parent h u ≡ p) × (names a (open_items h u) ≡ true)
in_line_tells h all p a u is =
    let case = some_of_case (is_child p u h && not (is_complete u h)) (class_at a (task_items u h)) (sym (ap is_some (class_in_line p a u h all)) ∙ sym (is_in_by_class u (line_of p a h)) ∙ is) in
    let child = and_left (is_child p u h) (not (is_complete u h)) case.0 in
    let incomplete = false_of_not (is_complete u h) (and_right (is_child p u h) (not (is_complete u h)) case.0) in
    let named : names a (task_items u h) ≡ true = sym (class_at_named a (task_items u h)) ∙ case.1 in
    elim (cases_Bool (is_created u h)) [
      | inl made ↦
          let own = same_is_one (task_parent u h) p (sym (child_by_parent h all u made p) ∙ child) in
          (rw (incomplete, named_has_items a (task_items u h) named) own, rw incomplete named)
      | inr new ↦ absurd (not_both (is_child p u h) child ((uncreated_is_no_child h all u new).0 p))
    ]

-- an open task is in the line of each address that it names
pub named_is_in : (h : List Event) → Always InOrder h → (t : ℕ) → IsOpen t h → (a : ℕ) → names a (task_items t h) ≡ true → is_in t (line_of (task_parent t h) a h) ≡ true
named_is_in h all t is a named =
    let child : is_child (task_parent t h) t h ≡ true = child_by_parent h all t is.created (task_parent t h) ∙ one_is_same (task_parent t h) in
    is_in_by_class t (line_of (task_parent t h) a h) ∙ ap is_some (class_in_line (task_parent t h) a t h all) ∙ rw (child, is.incomplete) (class_at_named a (task_items t h) ∙ named)

-- When a task is complete

-- it has no items from then on, and each other task has what it had
pub done_has_no_items : (task m : ℕ) (h : List Event) → open_items (Done task m ∷ h) task ≡ []
done_has_no_items task m h = rw (same_number task) refl

pub done_other_items : (task m t : ℕ) (h : List Event) → (task == t) ≡ false → open_items (Done task m ∷ h) t ≡ open_items h t
done_other_items task m t h other = rw other refl

pub done_other_parent : (task m t : ℕ) (h : List Event) → (task == t) ≡ false → open_parent (Done task m ∷ h) t ≡ open_parent h t
done_other_parent task m t h other = rw other refl

-- its lines are those that it leaves
pub done_task_leaves : (task m : ℕ) (h : List Event) → Always InOrder h → IsOpen task h → LeavesLines task (open_parent h task) (open_items h task) (open_parent (Done task m ∷ h)) (open_items (Done task m ∷ h)) (λ p a. line_of p a h)
done_task_leaves task m h all is = record {
  no_items = done_has_no_items task m h;
  there = λ a named.
      let own : names a (task_items task h) ≡ true = rw is.incomplete at named in
      let parent : open_parent h task ≡ task_parent task h = rw (is.incomplete, named_has_items a (task_items task h) own) refl in
      rw parent (named_is_in h all task is a own);
  others = λ u differ p a there.
      let was = in_line_tells h all p a u there in
      (done_other_parent task m u h differ ∙ was.0, ap (names a) (done_other_items task m u h differ) ∙ was.1);
}

pub done_lines : (task : ℕ) (h : List Event) → Always InOrder h → (p : Task) (a : ℕ) → left_by task (open_parent h task) (open_items h task) (λ q b. line_of q b h) p a ≡ without task (line_of p a h)
done_lines task h all p a = elim (cases_Bool (same_task (open_parent h task) p && names a (open_items h task))) [
  | inl here ↦ rw here refl
  | inr away ↦
      let out : is_in task (line_of p a h) ≡ false = elim (cases_Bool (is_in task (line_of p a h))) [
        | inl there ↦ absurd (let was = in_line_tells h all p a task there in not_both (same_task (open_parent h task) p && names a (open_items h task)) (rw (was.0, was.1, one_is_same p) refl) away)
        | inr gone ↦ gone
      ] in
      rw away (sym (without_one_not_in task (line_of p a h) out))
]
