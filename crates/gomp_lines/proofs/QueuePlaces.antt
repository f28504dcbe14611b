-- Where a task stands among those that wait.
use Rattle.std.proofs.Common.{◌≡◌, ℕ, ◌+◌, ◌<◌, ◌≤◌, true, false, List, [], ◌∷◌, length, get_or, slice_set, refl, ap, ◌∙◌, sym, arith, suc, zero, inl, inr}
use Rattle.std.specs.Prelude.{◌==◌, ◌≢◌, nat_lt}
use Rattle.std.proofs.lemmas.Bool.{cases_lt}
use Rattle.std.proofs.lemmas.Bool.Decides.{nat_tests}
use Rattle.gomp_types.proofs.Booleans.{same_number, other_number, and_false}
use Rattle.gomp_lines.specs.declared.lines.Waiting.{Waiting}
use Rattle.gomp_lines.specs.Queues.{is_held_back, Rise}
use Rattle.gomp_lines.proofs.QueueSteps.{closed, HasPlace}

-- numbers rise with the places
rise_at : (low n : ℕ) (tasks : List Waiting) → Rise low n tasks → (k : ℕ) (d : Waiting) → k < length tasks → low ≤ (get_or tasks k d).task
rise_at low n [] rise k d lt = absurd (omega (arith, lt))
rise_at low n (task ∷ tasks) rise zero d lt = rise.0
rise_at low n (task ∷ tasks) rise (suc k) d lt =
    let from = rise.0 in
    let rest = rise_at (task.task + 1) n tasks rise.1 k d (omega (arith, lt)) in
    omega (arith, from, rest)

pub rise_in_order : (low n : ℕ) (tasks : List Waiting) → Rise low n tasks → (i j : ℕ) (d : Waiting) → i ≤ j → j < length tasks → (get_or tasks i d).task ≤ (get_or tasks j d).task
rise_in_order low n [] rise i j d le lt = absurd (omega (arith, lt))
rise_in_order low n (task ∷ tasks) rise zero zero d le lt = omega arith
rise_in_order low n (task ∷ tasks) rise zero (suc j) d le lt = let rest = rise_at (task.task + 1) n tasks rise.1 j d (omega (arith, lt)) in omega (arith, rest)
rise_in_order low n (task ∷ tasks) rise (suc i) zero d le lt = absurd (omega (arith, le))
rise_in_order low n (task ∷ tasks) rise (suc i) (suc j) d le lt = rise_in_order (task.task + 1) n tasks rise.1 i j d (omega (arith, le)) (omega (arith, lt))

-- a task that has no place is not held
held_nowhere : (t : ℕ) (tasks : List Waiting) (d : Waiting) → ((k : ℕ) → k < length tasks → (get_or tasks k d).task ≢ t) → is_held_back t tasks ≡ false
held_nowhere t [] d none = refl
held_nowhere t (task ∷ tasks) d none =
    rw (and_false task.is_open (task.task == t) (other_number task.task t (none 0 (omega arith)))) (held_nowhere t tasks d (λ k lt. none (suc k) (omega (arith, lt))))

-- and one at a place has it
pub has_place : (t : ℕ) (tasks : List Waiting) (k : ℕ) (d : Waiting) → k < length tasks → (get_or tasks k d).task ≡ t → HasPlace t tasks
has_place t [] k d lt is = absurd (omega (arith, lt))
has_place t (task ∷ tasks) zero d lt is = inl is
has_place t (task ∷ tasks) (suc k) d lt is = inr (has_place t tasks k d (omega (arith, lt)) is)

closed_below : (t low n : ℕ) (tasks : List Waiting) → Rise low n tasks → t < low → closed t tasks ≡ tasks
closed_below t low n [] rise lt = refl
closed_below t low n (task ∷ tasks) rise lt =
    let from = rise.0 in
    rw (other_number task.task t (λ e. omega (arith, from, lt, e)), closed_below t (task.task + 1) n tasks rise.1 (omega (arith, from, lt))) refl

-- a task is closed at its place
pub set_closed : (t low n : ℕ) (tasks : List Waiting) (k : ℕ) (task : Waiting) → Rise low n tasks → k < length tasks → task ≡ get_or tasks k task → task.task ≡ t →
    slice_set tasks k (record { task = task.task; class = task.class; is_open = false }) ≡ closed t tasks
set_closed t low n [] k task rise lt is number = absurd (omega (arith, lt))
set_closed t low n (first ∷ tasks) zero task rise lt is number =
    let it : first.task ≡ t = ap (λ (one : Waiting). one.task) (sym is) ∙ number in
    let here : (first.task == t) ≡ true = rw it (same_number t) in
    rw (here, closed_below t (first.task + 1) n tasks rise.1 (omega (arith, it)), is) refl
set_closed t low n (first ∷ tasks) (suc k) task rise lt is number =
    let from = rise_at (first.task + 1) n tasks rise.1 k task (omega (arith, lt)) in
    let it : (get_or tasks k task).task ≡ t = ap (λ (one : Waiting). one.task) (sym is) ∙ number in
    rw (other_number first.task t (λ e. omega (arith, from, it, e))) (ap (λ rest. first ∷ rest) (set_closed t (first.task + 1) n tasks k task rise.1 (omega (arith, lt)) is number))

-- of a task the numbers of those before a place are below, and those from there on are not
pub record Parts (t : ℕ) (tasks : List Waiting) (place : ℕ) : Type 0 where
  pub below : (k : ℕ) (d : Waiting) → 0 ≤ k → k < place → nat_lt (get_or tasks k d).task t ≡ true
  pub above : (k : ℕ) (d : Waiting) → place ≤ k → k < length tasks → nat_lt (get_or tasks k d).task t ≡ false

-- tests of numbers by places
pub below_in_order : (t low n : ℕ) (tasks : List Waiting) → Rise low n tasks → (i j : ℕ) (d : Waiting) → i ≤ j → j < length tasks → nat_lt (get_or tasks j d).task t ≡ true → nat_lt (get_or tasks i d).task t ≡ true
below_in_order t low n tasks rise i j d le lt is =
    let order = rise_in_order low n tasks rise i j d le lt in
    grind (arith, nat_tests, order, is)

-- a task that does not stand at its place stands nowhere
pub held_unless_at_place : (t low n : ℕ) (tasks : List Waiting) (place : ℕ) (d : Waiting) → Rise low n tasks → Parts t tasks place → (place < length tasks → (get_or tasks place d).task ≢ t) → is_held_back t tasks ≡ false
held_unless_at_place t low n tasks place d rise parts differs = held_nowhere t tasks d (λ k lt same. elim (cases_lt k place) [
  | inl before ↦ let less = parts.below k d (omega arith) before in grind (arith, nat_tests, less, same)
  | inr from ↦
      let low_is = parts.above place d (omega arith) (omega (arith, from, lt)) in
      let order = rise_in_order low n tasks rise place k d from lt in
      differs (omega (arith, from, lt)) (grind (arith, nat_tests, low_is, order, same))
])
