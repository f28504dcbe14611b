-- The tasks that a member has started and not ended: all that it has started and that are not complete, each a descendant of those before it.
use Rattle.std.proofs.Common.{◌≡◌, ℕ, Bool, true, false, List, [], ◌∷◌, refl, ◌∙◌, sym, inl, inr, ◌+◌, ◌++◌, ap}
use Rattle.std.specs.Prelude.{◌||◌, ◌==◌, ◌⊎◌}
use Rattle.std.proofs.lemmas.Bool.{cases_Bool}
use Rattle.gomp_types.specs.declared.task.Task.{Task}
use Rattle.gomp_types.specs.declared.task.Task.TheVariants.{Implicit, Explicit}
use Rattle.gomp_types.specs.declared.task.TaskDesc.{TaskDesc}
use Rattle.gomp_events.specs.declared.event.Event.{Event}
use Rattle.gomp_events.specs.declared.event.Event.TheVariants.{Create, Start, Done, Discard}
use Rattle.gomp_events.specs.Events.{at_barrier}
use Rattle.gomp_events.specs.Tasks.{contains, task_stack, innermost_task, after_first, is_complete, is_ancestor}
use Rattle.gomp_events.specs.Goals.{is_ready, each_of, may_descend, may_start}
use Rattle.gomp_events.specs.Laws.{Always, Happened}
use Rattle.gomp_events.specs.TaskRules.{TaskRule}
use Rattle.gomp_types.proofs.Booleans.{and_left, and_right, or_tells, or_right, same_number, is_equal}
use Rattle.gomp_events.proofs.Suspended.{tasks_stacked}
use Rattle.gomp_events.proofs.LaterTasks.{not_new}

-- a task that its member has started and not ended is in the member's stack
rest_contains : (x s : ℕ) (ts : List ℕ) → innermost_task x ts ≡ Explicit s → (t : ℕ) → (s == t) ≡ false → contains t ts ≡ true → contains t (after_first ts) ≡ true
rest_contains x s [] e t other there = absurd (cc)
rest_contains x s (first ∷ ts) e t other there = let same : first ≡ s = cc in rw (same, other) at there

pub running_in_stack : (members t m : ℕ) (h : List Event) → Always (TaskRule members) h → Happened (Start t m) h → is_complete t h ≡ false → contains t (task_stack m h) ≡ true
running_in_stack members t m [] all start incomplete = absurd start
running_in_stack members t m (Start task member ∷ earlier) all (inl e) incomplete =
    let here : task ≡ t = cc in let who : member ≡ m = cc in rw (who, same_number m, here, same_number t) refl
running_in_stack members t m (Start task member ∷ earlier) all (inr start) incomplete =
    let was = running_in_stack members t m earlier all.1 start incomplete in
    elim (cases_Bool (member == m)) [ inl who ↦ rw who (or_right (task == t) (contains t (task_stack m earlier)) was) | inr other ↦ rw other was ]
running_in_stack members t m (Done task member ∷ earlier) all (inr start) incomplete =
    elim (cases_Bool (task == t)) [
      | inl same ↦ let done : true ≡ false = rw same at incomplete in absurd (cc)
      | inr another ↦
          let was = running_in_stack members t m earlier all.1 start (rw another at incomplete) in
          elim (cases_Bool (member == m)) [
            | inl who ↦ rw who (rest_contains m task (task_stack m earlier) (rw (is_equal member m who) at all.0.current) t another was)
            | inr other ↦ rw other was
          ]
    ]
running_in_stack members t m (Discard task member ∷ earlier) all (inl e) incomplete = absurd (cc)
running_in_stack members t m (Discard task member ∷ earlier) all (inr start) incomplete =
    elim (cases_Bool (task == t)) [
      | inl same ↦ let done : true ≡ false = rw same at incomplete in absurd (cc)
      | inr another ↦ running_in_stack members t m earlier all.1 start (rw another at incomplete)
    ]
running_in_stack members t m (_ ∷ earlier) all (inl e) incomplete = absurd (cc)
running_in_stack members t m (_ ∷ earlier) all (inr start) incomplete = running_in_stack members t m earlier all.1 start incomplete

-- what holds of each task of a list holds of one of them
pub each_tells : (test : ℕ → Bool) (ts : List ℕ) (s : ℕ) → each_of test ts ≡ true → contains s ts ≡ true → test s ≡ true
each_tells test [] s all there = absurd (cc)
each_tells test (t ∷ ts) s all there =
    elim (or_tells (t == s) (contains s ts) there) [
      | inl same ↦ rw (← is_equal t s same) (and_left (test t) (each_of test ts) all)
      | inr within ↦ each_tells test ts s (and_right (test t) (each_of test ts) all) within
    ]

-- the ancestors of another task stay when one is created
old_ancestor : (a : Task) (t task member : ℕ) (p : Task) (desc : TaskDesc) (h : List Event) → (task == t) ≡ false → is_ancestor a t (Create task member p desc ∷ h) ≡ is_ancestor a t h
old_ancestor a t task member p desc h other = rw other refl

-- each task of a stack descends from those below it
abbrev Descending : (ℕ → ℕ → Bool) → List ℕ → Type 0
Descending above [] = Unit {0}
Descending above (t ∷ ts) = (each_of (λ s. above s t) ts ≡ true) × Descending above ts

pub each_same : (test other : ℕ → Bool) (ts : List ℕ) → ((s : ℕ) → other s ≡ test s) → each_of test ts ≡ true → each_of other ts ≡ true
each_same test other [] same all = refl
each_same test other (t ∷ ts) same all =
    rw (same t, and_left (test t) (each_of test ts) all) (each_same test other ts same (and_right (test t) (each_of test ts) all))

descending_same : (above other : ℕ → ℕ → Bool) (ts : List ℕ) → ((s t : ℕ) → contains t ts ≡ true → other s t ≡ above s t) → Descending above ts → Descending other ts
descending_same above other [] same all = tt
descending_same above other (t ∷ ts) same all = (
  each_same (λ s. above s t) (λ s. other s t) ts (λ s. same s t (rw (same_number t) refl)) all.0,
  descending_same above other ts (λ s u there. same s u (or_right (t == u) (contains u ts) there)) all.1,
)

descending_started : (m t : ℕ) (h : List Event) → may_start m t h ≡ true → Descending (λ a u. is_ancestor (Explicit a) u h) (task_stack m h) → Descending (λ a u. is_ancestor (Explicit a) u h) (t ∷ task_stack m h)
descending_started m t h may all =
    let down = and_right (is_ready t h) (may_descend m t h) may in
    (and_left (each_of (λ s. is_ancestor (Explicit s) t h) (task_stack m h)) (at_barrier m h || is_ancestor (Implicit m) t h) down, all)

descending_rest : (above : ℕ → ℕ → Bool) (ts : List ℕ) → Descending above ts → Descending above (after_first ts)
descending_rest above [] all = tt
descending_rest above (t ∷ ts) all = all.1

pub stack_descends : (members m : ℕ) (h : List Event) → Always (TaskRule members) h → Descending (λ a u. is_ancestor (Explicit a) u h) (task_stack m h)
stack_descends members m [] all = tt
stack_descends members m (Start task member ∷ earlier) all =
    elim (cases_Bool (member == m)) [
      | inl who ↦ rw who (descending_started m task earlier (let here = is_equal member m who in rw (← here) all.0.may) (stack_descends members m earlier all.1))
      | inr other ↦ rw other (stack_descends members m earlier all.1)
    ]
stack_descends members m (Done task member ∷ earlier) all =
    elim (cases_Bool (member == m)) [
      | inl who ↦ rw who (descending_rest (λ a u. is_ancestor (Explicit a) u earlier) (task_stack m earlier) (stack_descends members m earlier all.1))
      | inr other ↦ rw other (stack_descends members m earlier all.1)
    ]
stack_descends members m (Create task member p desc ∷ earlier) all =
    descending_same (λ a u. is_ancestor (Explicit a) u earlier) (λ a u. is_ancestor (Explicit a) u (Create task member p desc ∷ earlier)) (task_stack m earlier)
    (λ a u there. old_ancestor (Explicit a) u task member p desc earlier (not_new u task earlier (((tasks_stacked members earlier all.1) m).1 u there).0 all.0.number)) (stack_descends members m earlier all.1)
stack_descends members m (_ ∷ earlier) all = stack_descends members m earlier all.1

-- so the innermost descends from all others
pub innermost_descends : (above : ℕ → ℕ → Bool) (m t s : ℕ) (ts : List ℕ) → innermost_task m ts ≡ Explicit t → Descending above ts → contains s ts ≡ true → (s ≡ t) ⊎ (above s t ≡ true)
innermost_descends above m t s [] top all there = absurd (cc)
innermost_descends above m t s (first ∷ ts) top all there =
    let same : first ≡ t = cc in
    elim (or_tells (first == s) (contains s ts) there) [
      | inl own ↦ inl (let here = is_equal first s own in sym here ∙ same)
      | inr below ↦ inr (rw (← same) (each_tells (λ u. above u first) ts s all.0 below))
    ]

-- a number is in two lists put together if it is in one of them
pub contains_in_either : (t : ℕ) (one other : List ℕ) → contains t (one ++ other) ≡ (contains t one || contains t other)
contains_in_either t [] other = refl
contains_in_either t (u ∷ one) other = ap (λ (b : Bool). u == t || b) (contains_in_either t one other) ∙ sym (or_grouped (u == t) (contains t one) (contains t other))
  where
    or_grouped : (a b c : Bool) → ((a || b) || c) ≡ (a || (b || c))
    or_grouped true b c = refl
    or_grouped false b c = refl
