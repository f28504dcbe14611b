-- Each task that a member has started and not ended lies deeper in the tree than those that it started before, so they are at most 64.
use Rattle.std.proofs.Common.{◌≡◌, ℕ, ◌+◌, ◌<◌, ◌≤◌, Bool, true, false, List, [], ◌∷◌, refl, sym, subst, arith, inl, inr, length}
use Rattle.std.specs.Prelude.{◌||◌, ◌==◌, if◌then◌else◌}
use Rattle.std.proofs.lemmas.Bool.{cases_Bool}
use Rattle.gomp_types.specs.declared.task.Task.{Task}
use Rattle.gomp_types.specs.declared.task.Task.TheVariants.{Implicit, Explicit}
use Rattle.gomp_types.specs.declared.task.TaskDesc.{TaskDesc}
use Rattle.gomp_events.specs.declared.event.Event.{Event}
use Rattle.gomp_events.specs.declared.event.Event.TheVariants.{Create, Start, Done}
use Rattle.gomp_events.specs.Events.{at_barrier}
use Rattle.gomp_events.specs.Tasks.{contains, is_created, task_stack, executed_task, after_first, task_depth, depth_of, is_ancestor, same_task, of_explicit}
use Rattle.gomp_events.specs.Goals.{each_of, is_ready, may_descend, may_start}
use Rattle.gomp_events.specs.Laws.{Always}
use Rattle.gomp_events.specs.TaskRules.{TaskRule}
use Rattle.gomp_types.proofs.Booleans.{and_left, and_right, or_tells, or_right, same_number, is_equal}
use Rattle.gomp_events.proofs.OpenTasks.{created_low, created_high}
use Rattle.gomp_events.proofs.Suspended.{startable_is_fresh, tasks_stacked, current_open, created_stays}
use Rattle.gomp_events.proofs.LaterTasks.{old_created, not_new}

-- Depths

-- another task keeps its depth
pub old_depth : (t task member : ℕ) (p : Task) (desc : TaskDesc) (h : List Event) → (task == t) ≡ false → task_depth t (Create task member p desc ∷ h) ≡ task_depth t h
old_depth t task member (Implicit x) desc h other = rw other refl
old_depth t task member (Explicit q) desc h other = rw other refl

-- a new one lies one deeper than its parent
pub new_depth : (task member : ℕ) (p : Task) (desc : TaskDesc) (h : List Event) → task_depth task (Create task member p desc ∷ h) ≡ depth_of p h + 1
new_depth task member (Implicit x) desc h = rw (same_number task) refl
new_depth task member (Explicit q) desc h = rw (same_number task) refl

-- so it lies deeper than its ancestors
new_is_deeper : (members task member : ℕ) (p : Task) (desc : TaskDesc) (h : List Event) → Always (TaskRule members) h → p ≡ executed_task member h → (s : ℕ) → ((q : ℕ) → is_ancestor (Explicit s) q h ≡ true → (is_created s h ≡ true) × (task_depth s h < task_depth q h)) →
    (same_task p (Explicit s) || of_explicit (λ q. is_ancestor (Explicit s) q h) p) ≡ true → (is_created s h ≡ true) × (task_depth s h < depth_of p h + 1)
new_is_deeper members task member (Implicit x) desc h all parent s known e = absurd (cc)
new_is_deeper members task member (Explicit q) desc h all parent s known e =
    elim (or_tells (q == s) (is_ancestor (Explicit s) q h) e) [
      | inl same ↦ let is = current_open members member q h all (sym parent) in let here = is_equal q s same in (rw (← here) is.0, rw (← here) (omega arith))
      | inr far ↦ let was = known q far in (was.0, let lt = was.1 in omega (arith, lt))
    ]

-- and each task lies deeper than its ancestors
ancestor_less_deep : (members : ℕ) (h : List Event) → Always (TaskRule members) h → (s t : ℕ) → is_ancestor (Explicit s) t h ≡ true → (is_created s h ≡ true) × (task_depth s h < task_depth t h)
ancestor_less_deep members [] all s t e = absurd (cc)
ancestor_less_deep members (Create task member p desc ∷ earlier) all s t e =
    elim (cases_Bool (task == t)) [
      | inl new ↦
          let was = new_is_deeper members task member p desc earlier all.1 all.0.current s (λ q is. ancestor_less_deep members earlier all.1 s q is) (rw new at e) in
          let low = old_depth s task member p desc earlier (not_new s task earlier was.0 all.0.number) in
          let high = new_depth task member p desc earlier in
          let lt = was.1 in
          (created_stays s earlier was.0, subst (λ (x : ℕ). task_depth s (Create task member p desc ∷ earlier) < task_depth x (Create task member p desc ∷ earlier)) (is_equal task t new) (omega (arith, low, high, lt)))
      | inr other ↦
          let was = ancestor_less_deep members earlier all.1 s t (rw other at e) in
          let low = old_depth s task member p desc earlier (not_new s task earlier was.0 all.0.number) in
          let high = old_depth t task member p desc earlier other in
          let lt = was.1 in
          (created_stays s earlier was.0, omega (arith, low, high, lt))
    ]
ancestor_less_deep members (_ ∷ earlier) all s t e = ancestor_less_deep members earlier all.1 s t e

-- the depth of a task is at least 1 and at most 64
depth_range : (members : ℕ) (h : List Event) → Always (TaskRule members) h → (t : ℕ) → is_created t h ≡ true → (0 < task_depth t h) × (task_depth t h ≤ 64)
depth_range members [] all t made = absurd (let low = created_low t [] made in let high = created_high t [] made in omega (arith, low, high))
depth_range members (Create task member p desc ∷ earlier) all t made =
    elim (cases_Bool (task == t)) [
      | inl new ↦
          let here = new_depth task member p desc earlier in
          let few = all.0.shallow in
          subst (λ (x : ℕ). (0 < task_depth x (Create task member p desc ∷ earlier)) × (task_depth x (Create task member p desc ∷ earlier) ≤ 64)) (is_equal task t new) (omega (arith, here), omega (arith, here, few))
      | inr other ↦
          let here = old_depth t task member p desc earlier other in
          let was = depth_range members earlier all.1 t (old_created t task earlier all.0.number other made) in
          let low = was.0 in let high = was.1 in
          (omega (arith, here, low), omega (arith, here, high))
    ]
depth_range members (_ ∷ earlier) all t made = depth_range members earlier all.1 t made

-- The tasks that a member has started and not ended

-- the depth of each is at least the number of those up to it
abbrev Deep : (ℕ → ℕ) → List ℕ → Type 0
Deep deep [] = Unit {0}
Deep deep (t ∷ ts) = (length (t ∷ ts) ≤ deep t) × Deep deep ts

deep_same : (deep other : ℕ → ℕ) (ts : List ℕ) → ((t : ℕ) → contains t ts ≡ true → other t ≡ deep t) → Deep deep ts → Deep other ts
deep_same deep other [] same all = tt
deep_same deep other (t ∷ ts) same all =
    (rw (same t (rw (same_number t) refl)) all.0, deep_same deep other ts (λ u there. same u (or_right (t == u) (contains u ts) there)) all.1)

deep_rest : (deep : ℕ → ℕ) (ts : List ℕ) → Deep deep ts → Deep deep (after_first ts)
deep_rest deep [] all = tt
deep_rest deep (t ∷ ts) all = all.1

-- a task that descends from all of them is deeper than their number
deeper_than_stack : (members task : ℕ) (ts : List ℕ) (h : List Event) → Always (TaskRule members) h → each_of (λ s. is_ancestor (Explicit s) task h) ts ≡ true → Deep (λ t. task_depth t h) ts → 0 < task_depth task h → length ts < task_depth task h
deeper_than_stack members task [] h all each deep some = some
deeper_than_stack members task (s ∷ ss) h all each deep some =
    let up = (ancestor_less_deep members h all s task (and_left (is_ancestor (Explicit s) task h) (each_of (λ u. is_ancestor (Explicit u) task h) ss) each)).1 in
    let here = deep.0 in omega (arith, up, here)

deep_started : (members m task member : ℕ) (h : List Event) → Always (TaskRule members) h → may_start member task h ≡ true → Deep (λ t. task_depth t h) (task_stack m h) → (b : Bool) → (member == m) ≡ b → Deep (λ t. task_depth t h) (if b then task ∷ task_stack m h else task_stack m h)
deep_started members m task member h all may deep false e = deep
deep_started members m task member h all may deep true e =
    let who = is_equal member m e in
    let down = and_right (is_ready task h) (may_descend member task h) may in
    let each = and_left (each_of (λ s. is_ancestor (Explicit s) task h) (task_stack member h)) (at_barrier member h || is_ancestor (Implicit member) task h) down in
    let some = (depth_range members h all task (startable_is_fresh member task h may).0).0 in
    let far = deeper_than_stack members task (task_stack m h) h all (rw (← who) each) deep some in
    (omega (arith, far), deep)

deep_ended : (deep : ℕ → ℕ) (ts : List ℕ) → Deep deep ts → (b : Bool) → Deep deep (if b then after_first ts else ts)
deep_ended deep ts all true = deep_rest deep ts all
deep_ended deep ts all false = all

stack_deep : (members : ℕ) (h : List Event) → Always (TaskRule members) h → (m : ℕ) → Deep (λ t. task_depth t h) (task_stack m h)
stack_deep members [] all m = tt
stack_deep members (Start task member ∷ earlier) all m =
    deep_started members m task member earlier all.1 all.0.may (stack_deep members earlier all.1 m) (member == m) refl
stack_deep members (Done task member ∷ earlier) all m = deep_ended (λ t. task_depth t earlier) (task_stack m earlier) (stack_deep members earlier all.1 m) (member == m)
stack_deep members (Create task member p desc ∷ earlier) all m =
    deep_same (λ t. task_depth t earlier) (λ t. task_depth t (Create task member p desc ∷ earlier)) (task_stack m earlier)
    (λ t there. old_depth t task member p desc earlier (not_new t task earlier (((tasks_stacked members earlier all.1) m).1 t there).0 all.0.number)) (stack_deep members earlier all.1 m)
stack_deep members (_ ∷ earlier) all m = stack_deep members earlier all.1 m

few_in_stack : (members : ℕ) (h : List Event) → Always (TaskRule members) h → (ts : List ℕ) → ((t : ℕ) → contains t ts ≡ true → is_created t h ≡ true) → Deep (λ t. task_depth t h) ts → length ts ≤ 64
few_in_stack members h all [] made deep = omega arith
few_in_stack members h all (t ∷ ts) made deep = let few = (depth_range members h all t (made t (rw (same_number t) refl))).1 in let here = deep.0 in omega (arith, few, here)

-- so they are at most 64
pub few_suspended : (members m : ℕ) (h : List Event) → Always (TaskRule members) h → length (task_stack m h) ≤ 64
few_suspended members m h all = few_in_stack members h all (task_stack m h) (λ t there. (((tasks_stacked members h all) m).1 t there).0) (stack_deep members h all m)
