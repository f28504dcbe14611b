-- The tasks that a member has started and not ended: each is open, and on no other member.
use Rattle.std.proofs.Common.{◌≡◌, ℕ, Bool, true, false, List, [], ◌∷◌, Some, refl, ◌∙◌, sym, arith, suc, inl, inr}
use Rattle.std.specs.Prelude.{◌&&◌, ◌==◌, nat_lt, nat_le, not, if◌then◌else◌}
use Rattle.std.proofs.lemmas.Bool.{cases_Bool}
use Rattle.std.proofs.lemmas.Bool.Decides.{nat_tests}
use Rattle.gomp_types.specs.declared.task.Task.TheVariants.{Explicit}
use Rattle.gomp_events.specs.declared.event.Event.{Event}
use Rattle.gomp_events.specs.declared.event.Event.TheVariants.{Create, Start, Done, Discard}
use Rattle.gomp_events.specs.Tasks.{contains, tasks_created, is_created, task_stack, executed_task, innermost_task, after_first, has_started, task_runner, is_complete}
use Rattle.gomp_events.specs.Goals.{is_unstarted, is_ready, may_descend, may_start}
use Rattle.gomp_events.specs.Cancels.{is_covered}
use Rattle.gomp_events.specs.Depends.{is_free}
use Rattle.gomp_events.specs.Laws.{Always}
use Rattle.gomp_events.specs.TaskRules.{TaskRule}
use Rattle.gomp_types.proofs.Booleans.{false_of_not, and_left, and_right, same_number, is_equal, not_both}

-- a task that may be started: it was created, and is neither started nor complete
abbrev pub IsFresh : ℕ → List Event → Type 0
IsFresh t h = (is_created t h ≡ true) × (has_started t h ≡ false) × (is_complete t h ≡ false)

pub unstarted_is_fresh : (t : ℕ) (h : List Event) → is_unstarted t h ≡ true → IsFresh t h
unstarted_is_fresh t h is =
    let made = and_left (is_created t h) (not (has_started t h) && not (is_complete t h)) is in
    let rest = and_right (is_created t h) (not (has_started t h) && not (is_complete t h)) is in
    (made, false_of_not (has_started t h) (and_left (not (has_started t h)) (not (is_complete t h)) rest), false_of_not (is_complete t h) (and_right (not (has_started t h)) (not (is_complete t h)) rest))

pub startable_is_fresh : (m t : ℕ) (h : List Event) → may_start m t h ≡ true → IsFresh t h
startable_is_fresh m t h may = unstarted_is_fresh t h (and_left (is_unstarted t h) (is_free t h && not (is_covered t h)) (and_left (is_ready t h) (may_descend m t h) may))

-- and it waits for no task that is not complete
pub startable_is_free : (m t : ℕ) (h : List Event) → may_start m t h ≡ true → is_free t h ≡ true
startable_is_free m t h may = and_left (is_free t h) (not (is_covered t h)) (and_right (is_unstarted t h) (is_free t h && not (is_covered t h)) (and_left (is_ready t h) (may_descend m t h) may))

-- nor does a cancellation reach it
pub startable_is_uncovered : (m t : ℕ) (h : List Event) → may_start m t h ≡ true → is_covered t h ≡ false
startable_is_uncovered m t h may =
    false_of_not (is_covered t h) (and_right (is_free t h) (not (is_covered t h)) (and_right (is_unstarted t h) (is_free t h && not (is_covered t h)) (and_left (is_ready t h) (may_descend m t h) may)))

-- a task that has a runner was started
pub runner_has_started : (t m : ℕ) (h : List Event) → task_runner t h ≡ Some m → has_started t h ≡ true
runner_has_started t m [] e = absurd (cc)
runner_has_started t m (Start task member ∷ earlier) e =
    elim (cases_Bool (task == t)) [
      | inl same ↦ rw same refl
      | inr other ↦ rw other (runner_has_started t m earlier (rw other at e))
    ]
runner_has_started t m (_ ∷ earlier) e = runner_has_started t m earlier e

-- no task stands twice in the list
abbrev pub Apart : List ℕ → Type 0
Apart [] = Unit {0}
Apart (t ∷ ts) = (contains t ts ≡ false) × Apart ts

-- a task that this member has started and not ended: it was created, is not complete, and this member started it
abbrev pub IsOpen : ℕ → ℕ → List Event → Type 0
IsOpen m t h = (is_created t h ≡ true) × (is_complete t h ≡ false) × (task_runner t h ≡ Some m)

-- no task stands twice in a stack, and each is such a task of its member
abbrev pub Stacked : List Event → Type 0
Stacked h = (m : ℕ) → Apart (task_stack m h) × ((t : ℕ) → contains t (task_stack m h) ≡ true → IsOpen m t h)

pub after_first_apart : (ts : List ℕ) → Apart ts → Apart (after_first ts)
after_first_apart [] all = tt
after_first_apart (t ∷ ts) all = all.1

pub in_after_first : (t : ℕ) (ts : List ℕ) → contains t (after_first ts) ≡ true → contains t ts ≡ true
in_after_first t [] e = e
in_after_first t (x ∷ xs) e = elim (cases_Bool (x == t)) [ inl same ↦ rw same refl | inr other ↦ rw other e ]

-- the innermost task is in the stack, and not below the first place
pub innermost_in_stack : (m t : ℕ) (ts : List ℕ) → innermost_task m ts ≡ Explicit t → contains t ts ≡ true
innermost_in_stack m t [] e = absurd (cc)
innermost_in_stack m t (x ∷ xs) e = let same : x ≡ t = cc in rw (same, same_number t) refl

innermost_not_below : (m t : ℕ) (ts : List ℕ) → innermost_task m ts ≡ Explicit t → Apart ts → contains t (after_first ts) ≡ false
innermost_not_below m t [] e all = absurd (cc)
innermost_not_below m t (x ∷ xs) e all = let same : x ≡ t = cc in rw (← same) all.0

-- two members that started one task are one
pub one_runner : (t a b : ℕ) (h : List Event) → task_runner t h ≡ Some a → task_runner t h ≡ Some b → a ≡ b
one_runner t a b h x y = let e : Some a ≡ Some b = sym x ∙ y in cc

pub unstarted_has_no_runner : (t m : ℕ) (h : List Event) → has_started t h ≡ false → task_runner t h ≡ Some m → ⊥
unstarted_has_no_runner t m h e r = not_both (has_started t h) (runner_has_started t m h r) e

-- a task that was created stays so when the next one is
pub created_stays : (t : ℕ) (h : List Event) → is_created t h ≡ true → (nat_lt 0 t && nat_le t (suc (tasks_created h))) ≡ true
created_stays t h e =
    let low = and_left (nat_lt 0 t) (nat_le t (tasks_created h)) e in
    let high = and_right (nat_lt 0 t) (nat_le t (tasks_created h)) e in
    rw low (grind (arith, nat_tests, high))

-- After a start

-- no task stands twice in the stack
started_stack_apart : (m task member : ℕ) (h : List Event) → Stacked h → IsFresh task h → (b : Bool) → (member == m) ≡ b → Apart (if b then task ∷ task_stack m h else task_stack m h)
started_stack_apart m task member h known new true e = (
  elim (cases_Bool (contains task (task_stack m h))) [
    | inl there ↦ absurd (unstarted_has_no_runner task m h new.1 ((known m).1 task there).2)
    | inr away ↦ away
  ],
  (known m).0,
)
started_stack_apart m task member h known new false e = (known m).0

-- a task that its member has started is not the one that is started now
open_after_start : (m t task member : ℕ) (h : List Event) → IsFresh task h → IsOpen m t h → IsOpen m t (Start task member ∷ h)
open_after_start m t task member h new is =
    elim (cases_Bool (task == t)) [
      | inl same ↦ absurd (unstarted_has_no_runner t m h (rw (← is_equal task t same) new.1) is.2)
      | inr other ↦ (is.0, is.1, rw other is.2)
    ]

started_stack_open : (m t task member : ℕ) (h : List Event) → Stacked h → IsFresh task h → (b : Bool) → (member == m) ≡ b → contains t (if b then task ∷ task_stack m h else task_stack m h) ≡ true → IsOpen m t (Start task member ∷ h)
started_stack_open m t task member h known new true e there =
    elim (cases_Bool (task == t)) [
      | inl same ↦ let here = is_equal task t same in let a : is_created t h ≡ true = rw (← here) new.0 in let b : is_complete t h ≡ false = rw (← here) new.2 in (a, b, rw (same, is_equal member m e) refl)
      | inr other ↦ open_after_start m t task member h new ((known m).1 t (rw other at there))
    ]
started_stack_open m t task member h known new false e there = open_after_start m t task member h new ((known m).1 t there)

-- After an end

ended_stack_apart : (m member : ℕ) (h : List Event) → Stacked h → (b : Bool) → (member == m) ≡ b → Apart (if b then after_first (task_stack m h) else task_stack m h)
ended_stack_apart m member h known true e = after_first_apart (task_stack m h) (known m).0
ended_stack_apart m member h known false e = (known m).0

ended_stack_open : (m t task member : ℕ) (h : List Event) → Stacked h → executed_task member h ≡ Explicit task → (b : Bool) → (member == m) ≡ b → contains t (if b then after_first (task_stack m h) else task_stack m h) ≡ true → IsOpen m t (Done task member ∷ h)
ended_stack_open m t task member h known top true e there =
    let who = is_equal member m e in
    let was = (known m).1 t (in_after_first t (task_stack m h) there) in
    elim (cases_Bool (task == t)) [
      | inl same ↦ absurd (not_both (contains t (after_first (task_stack m h))) there (innermost_not_below m t (task_stack m h) (rw (who, is_equal task t same) at top) (known m).0))
      | inr other ↦ (was.0, rw other was.1, was.2)
    ]
ended_stack_open m t task member h known top false e there =
    let was = (known m).1 t there in
    elim (cases_Bool (task == t)) [
      | inl same ↦
          let mine : task_runner t h ≡ Some member = ((known member).1 t (innermost_in_stack member t (task_stack member h) (rw (is_equal task t same) at top))).2 in
          let who : member ≡ m = one_runner t member m h mine was.2 in
          absurd (not_both (member == m) (rw who (same_number m)) e)
      | inr other ↦ (was.0, rw other was.1, was.2)
    ]

-- a task that its member has started is not the one that is discarded now
open_after_discard : (m t task member : ℕ) (h : List Event) → IsFresh task h → IsOpen m t h → IsOpen m t (Discard task member ∷ h)
open_after_discard m t task member h new is =
    elim (cases_Bool (task == t)) [
      | inl same ↦ absurd (unstarted_has_no_runner t m h (rw (← is_equal task t same) new.1) is.2)
      | inr other ↦ (is.0, rw other is.1, is.2)
    ]

-- so the stacks hold the tasks that are started and not ended, each once and on one member
pub tasks_stacked : (members : ℕ) (h : List Event) → Always (TaskRule members) h → Stacked h
tasks_stacked members [] all = λ m. (tt, λ t there. absurd (cc))
tasks_stacked members (Start task member ∷ earlier) all =
    let known = tasks_stacked members earlier all.1 in
    let new = startable_is_fresh member task earlier all.0.may in
    λ m. (started_stack_apart m task member earlier known new (member == m) refl, λ t there. started_stack_open m t task member earlier known new (member == m) refl there)
tasks_stacked members (Done task member ∷ earlier) all =
    let known = tasks_stacked members earlier all.1 in
    λ m. (ended_stack_apart m member earlier known (member == m) refl, λ t there. ended_stack_open m t task member earlier known all.0.current (member == m) refl there)
tasks_stacked members (Discard task member ∷ earlier) all =
    let known = tasks_stacked members earlier all.1 in
    let new = unstarted_is_fresh task earlier all.0.unstarted in
    λ m. ((known m).0, λ t there. open_after_discard m t task member earlier new ((known m).1 t there))
tasks_stacked members (Create task member p desc ∷ earlier) all =
    let known = tasks_stacked members earlier all.1 in
    λ m. ((known m).0, λ t there. let was = (known m).1 t there in (created_stays t earlier was.0, was.1, was.2))
tasks_stacked members (_ ∷ earlier) all = tasks_stacked members earlier all.1

-- the explicit task that a member executes is open
pub current_open : (members m t : ℕ) (h : List Event) → Always (TaskRule members) h → executed_task m h ≡ Explicit t → IsOpen m t h
current_open members m t h all top = ((tasks_stacked members h all) m).1 t (innermost_in_stack m t (task_stack m h) top)
