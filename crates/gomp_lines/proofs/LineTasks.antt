-- Which tasks a line has, and of what class.
use Rattle.std.proofs.Common.{◌≡◌, ℕ, Bool, true, false, List, [], ◌∷◌, Option, Some, None, refl, ◌∙◌, sym, arith, suc, inl, inr}
use Rattle.std.specs.Prelude.{◌&&◌, ◌||◌, ◌==◌, not, if◌then◌else◌, nat_lt, nat_le}
use Rattle.std.proofs.lemmas.Bool.{cases_Bool}
use Rattle.std.proofs.lemmas.Bool.Decides.{nat_tests}
use Rattle.gomp_types.specs.declared.task.Task.{Task}
use Rattle.gomp_events.specs.declared.event.Event.{Event}
use Rattle.gomp_events.specs.declared.event.Event.TheVariants.{Create, Done, Discard}
use Rattle.gomp_events.specs.Laws.{Always}
use Rattle.gomp_events.specs.Tasks.{same_task, tasks_created, is_created, is_complete, is_child}
use Rattle.gomp_events.specs.Depends.{task_items}
use Rattle.gomp_types.proofs.Booleans.{same_number, other_number, is_equal, and_false}
use Rattle.gomp_lines.specs.declared.classes.Class.{Class}
use Rattle.gomp_lines.specs.Classes.{shares, class_at, waits_in_line}
use Rattle.gomp_lines.specs.Order.{InOrder}
use Rattle.gomp_lines.specs.Lines.{Entry, joined, without, class_in, waits_in, line_of}
use Rattle.gomp_lines.specs.Queues.{Fall}
use Rattle.gomp_lines.proofs.QueueTasks.{fall_more}

-- Tasks that were not created

uncreated_before : (task t n : ℕ) → task ≡ suc n → (nat_lt 0 t && nat_le t (suc n)) ≡ false → ((task == t) ≡ false) × ((nat_lt 0 t && nat_le t n) ≡ false)
uncreated_before task t n number e = (other_number task t (λ same. grind (arith, nat_tests, e, same, number)), grind (arith, nat_tests, e))

created_differs : (task t : ℕ) (h : List Event) → is_created task h ≡ true → is_created t h ≡ false → (task == t) ≡ false
created_differs task t h made not_made = other_number task t (λ e. let is : is_created t h ≡ true = rw (← e) made in absurd (cc))

-- a task that was not created is nobody's child, and not complete
pub uncreated_is_no_child : (h : List Event) → Always InOrder h → (t : ℕ) → is_created t h ≡ false → ((p : Task) → is_child p t h ≡ false) × (is_complete t h ≡ false)
uncreated_is_no_child [] all t e = ((λ p. refl), refl)
uncreated_is_no_child (Create task m parent desc ∷ earlier) all t e =
    let before = uncreated_before task t (tasks_created earlier) all.0 e in
    let was = uncreated_is_no_child earlier all.1 t before.1 in
    ((λ p. rw before.0 (was.0 p)), was.1)
uncreated_is_no_child (Done task m ∷ earlier) all t e =
    let was = uncreated_is_no_child earlier all.1 t e in
    (was.0, rw (created_differs task t earlier all.0.created e) was.1)
uncreated_is_no_child (Discard task m ∷ earlier) all t e =
    let was = uncreated_is_no_child earlier all.1 t e in
    (was.0, rw (created_differs task t earlier all.0.created e) was.1)
uncreated_is_no_child (_ ∷ earlier) all t e = uncreated_is_no_child earlier all.1 t e

-- the next task was not
pub next_is_uncreated : (h : List Event) → is_created (suc (tasks_created h)) h ≡ false
next_is_uncreated h = by (tasks_created h)
  where
    by : (n : ℕ) → (nat_lt 0 (suc n) && nat_le (suc n) n) ≡ false
    by n = grind (arith, nat_tests)

-- What a line says of a task

class_without : (t q : ℕ) (line : List Entry) → class_in q (without t line) ≡ (if t == q then None else class_in q line)
class_without t q [] = by (t == q)
  where
    by : (b : Bool) → ◌≡◌ {A = Option Class} None (if b then None else None)
    by true = refl
    by false = refl
class_without t q (entry ∷ line) = elim (cases_Bool (entry.task == t)) [
  | inl here ↦ elim (cases_Bool (t == q)) [
    | inl same ↦ rw (here, class_without t q line, same) refl
    | inr other ↦
        let away : (entry.task == q) ≡ false = rw (is_equal entry.task t here) other in
        rw (here, class_without t q line, other, away) refl
  ]
  | inr there ↦ elim (cases_Bool (t == q)) [
    | inl same ↦
        let away : (entry.task == q) ≡ false = rw (← is_equal t q same) there in
        rw (there, away, class_without t q line, same) refl
    | inr other ↦ elim (cases_Bool (entry.task == q)) [
      | inl it ↦ rw (there, it, other) refl
      | inr away ↦ rw (there, away, class_without t q line, other) refl
    ]
  ]
]

class_joined : (t q : ℕ) (class : Option Class) (line : List Entry) → class_in q line ≡ None → (t == q) ≡ true → class_in q (joined t class line) ≡ class
class_joined t q None line none same = none
class_joined t q (Some class) line none same = rw same refl

class_joined_other : (t q : ℕ) (class : Option Class) (line : List Entry) → (t == q) ≡ false → class_in q (joined t class line) ≡ class_in q line
class_joined_other t q None line other = refl
class_joined_other t q (Some class) line other = rw other refl

-- a task that is complete leaves
left_line : (p : Task) (a q task : ℕ) (h : List Event) → class_in q (line_of p a h) ≡ (if is_child p q h && not (is_complete q h) then class_at a (task_items q h) else None) →
    class_in q (without task (line_of p a h)) ≡ (if is_child p q h && not (task == q || is_complete q h) then class_at a (task_items q h) else None)
left_line p a q task h was = class_without task q (line_of p a h) ∙ elim (cases_Bool (task == q)) [
  | inl same ↦ rw (same, and_false (is_child p q h) false refl) refl
  | inr other ↦ rw other was
]

-- the line of a parent and an address has the open children that name it, each of its class there
pub class_in_line : (p : Task) (a q : ℕ) (h : List Event) → Always InOrder h →
    class_in q (line_of p a h) ≡ (if is_child p q h && not (is_complete q h) then class_at a (task_items q h) else None)
class_in_line p a q [] all = refl
class_in_line p a q (Create task m parent desc ∷ earlier) all = elim (cases_Bool (task == q)) [
  | inl same ↦
      let it = is_equal task q same in
      let new : is_created q earlier ≡ false = rw (← it, all.0) (next_is_uncreated earlier) in
      let was = uncreated_is_no_child earlier all.1 q new in
      let none : class_in q (line_of p a earlier) ≡ None = class_in_line p a q earlier all.1 ∙ rw (was.0 p) refl in
      elim (cases_Bool (same_task parent p)) [
        | inl own ↦ rw (own, same, was.1) (class_joined task q (class_at a desc.deps) (line_of p a earlier) none same)
        | inr alien ↦ rw (alien, same) none
      ]
  | inr other ↦ elim (cases_Bool (same_task parent p)) [
    | inl own ↦ rw (own, other) (class_joined_other task q (class_at a desc.deps) (line_of p a earlier) other ∙ class_in_line p a q earlier all.1)
    | inr alien ↦ rw (alien, other) (class_in_line p a q earlier all.1)
  ]
]
class_in_line p a q (Done task m ∷ earlier) all = left_line p a q task earlier (class_in_line p a q earlier all.1)
class_in_line p a q (Discard task m ∷ earlier) all = left_line p a q task earlier (class_in_line p a q earlier all.1)
class_in_line p a q (_ ∷ earlier) all = class_in_line p a q earlier all.1

-- Who waits in a line for whom

-- a task that is not in a line waits there for none, and none for it
pub waits_not_outside : (t q : ℕ) (line : List Entry) → class_in t line ≡ None → waits_in t q line ≡ false
waits_not_outside t q [] none = refl
waits_not_outside t q (entry ∷ line) none = elim (cases_Bool (entry.task == t)) [
  | inl here ↦ absurd (let some : Some entry.class ≡ None = rw here at none in cc)
  | inr away ↦ rw away (waits_not_outside t q line (rw away at none))
]

-- a new task waits for those in the line with which it does not share the address
pub waits_joined : (t q : ℕ) (class : Option Class) (line : List Entry) → class_in t line ≡ None → waits_in t q (joined t class line) ≡ waits_in_line class (class_in q line)
waits_joined t q None line none = waits_not_outside t q line none
waits_joined t q (Some class) line none = rw (same_number t) refl

-- of the others nothing changes
pub waits_joined_other : (u t q : ℕ) (class : Option Class) (line : List Entry) → (u == t) ≡ false → waits_in t q (joined u class line) ≡ waits_in t q line
waits_joined_other u t q None line other = refl
waits_joined_other u t q (Some class) line other = rw other refl

pub true_adds_nothing : (b : Bool) → b ≡ (b && true)
true_adds_nothing true = refl
true_adds_nothing false = refl

-- no task waits for one that left
pub waits_without : (u t q : ℕ) (line : List Entry) → (u == t) ≡ false → waits_in t q (without u line) ≡ (waits_in t q line && not (u == q))
waits_without u t q [] other = refl
waits_without u t q (entry ∷ line) other = elim (cases_Bool (entry.task == u)) [
  | inl here ↦
      let away : (entry.task == t) ≡ false = rw (is_equal entry.task u here) other in
      rw (here, away) (waits_without u t q line other)
  | inr there ↦ elim (cases_Bool (entry.task == t)) [
    | inl it ↦ rw (there, it) (rw (class_without u q line) (by (u == q) entry.class (class_in q line)))
    | inr away ↦ rw (there, away) (waits_without u t q line other)
  ]
]
  where
    by : (b : Bool) (class : Class) (in_line : Option Class) → waits_in_line (Some class) (if b then None else in_line) ≡ (waits_in_line (Some class) in_line && not b)
    by true class None = refl
    by true class (Some other) = sym (and_false (not (shares class other)) false refl)
    by false class None = refl
    by false class (Some other) = true_adds_nothing (not (shares class other))

-- Numbers

pub fall_without : (t n : ℕ) (line : List Entry) → Fall n line → Fall n (without t line)
fall_without t n [] fall = tt
fall_without t n (entry ∷ line) fall = elim (cases_Bool (entry.task == t)) [
  | inl here ↦ rw here (fall_more entry.task n (without t line) (let lt = fall.0 in omega (arith, lt)) (fall_without t entry.task line fall.1))
  | inr away ↦ rw away (fall.0, fall_without t entry.task line fall.1)
]

fall_joined : (t n : ℕ) (own : Bool) (class : Option Class) (line : List Entry) → t ≡ suc n → Fall (suc n) line → Fall (suc (suc n)) (if own then joined t class line else line)
fall_joined t n true None line number fall = fall_more (suc n) (suc (suc n)) line (omega arith) fall
fall_joined t n true (Some class) line number fall = (omega (arith, number), rw number fall)
fall_joined t n false class line number fall = fall_more (suc n) (suc (suc n)) line (omega arith) fall

-- the tasks of a line have falling numbers
pub line_falls : (p : Task) (a : ℕ) (h : List Event) → Always InOrder h → Fall (suc (tasks_created h)) (line_of p a h)
line_falls p a [] all = tt
line_falls p a (Create task m parent desc ∷ earlier) all = fall_joined task (tasks_created earlier) (same_task parent p) (class_at a desc.deps) (line_of p a earlier) all.0 (line_falls p a earlier all.1)
line_falls p a (Done task m ∷ earlier) all = fall_without task _ (line_of p a earlier) (line_falls p a earlier all.1)
line_falls p a (Discard task m ∷ earlier) all = fall_without task _ (line_of p a earlier) (line_falls p a earlier all.1)
line_falls p a (_ ∷ earlier) all = line_falls p a earlier all.1
