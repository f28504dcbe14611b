-- What the rules of holds and of critical names keep: which tasks of a member may hold a critical name, and that none does as it passes.
use Rattle.std.proofs.Common.{◌≡◌, ℕ, ◌-◌, ◌<◌, Bool, true, false, List, [], ◌∷◌, Option, Some, None, refl, ap, ◌∙◌, arith, inl, inr}
use Rattle.std.specs.Prelude.{if◌then◌else◌, ◌&&◌, ◌||◌, ◌==◌, ◌⊎◌, not}
use Rattle.std.proofs.lemmas.Bool.{cases_Bool}
use Rattle.gomp_types.specs.declared.task.Task.TheVariants.{Implicit}
use Rattle.gomp_types.specs.declared.task.Owner.{Owner}
use Rattle.gomp_types.specs.declared.lock.Held.{Held}
use Rattle.gomp_types.specs.declared.key.Key.TheVariants.{Critical}
use Rattle.gomp_events.specs.declared.event.Event.{Event}
use Rattle.gomp_events.specs.declared.event.Event.TheVariants.{Hold, Free, Arrive, Pass, Start, Done}
use Rattle.gomp_events.specs.Events.{at_barrier}
use Rattle.gomp_events.specs.Tasks.{contains, after_first, task_stack, innermost_task, executed_task, of_explicit, in_task}
use Rattle.gomp_events.specs.Laws.{Always}
use Rattle.gomp_types.specs.Owners.{same_owner}
use Rattle.gomp_types.proofs.Booleans.{is_equal, and_left, and_right, not_both, or_left, or_right, or_tells, other_number, same_number}
use Rattle.gomp_locks.specs.Book.{held_times}
use Rattle.gomp_locks.specs.Locks.{times_held}
use Rattle.gomp_locks.specs.Holders.{same_key, task_number, owner_of, asker, held_once_less, holder, holds_critical}
use Rattle.gomp_locks.specs.HoldRules.{HoldRule}
use Rattle.gomp_locks.specs.NameRules.{NameRule}
use Rattle.gomp_locks.specs.HoldLaws.{holds_left, PassesFree}
use Rattle.gomp_locks.proofs.NameLemmas.{one_owner}
use Rattle.gomp_locks.proofs.HoldsKeep.{hold_of_key, free_name, holds_left_is_count, name_is_held, critical_name_held, frees_its_own}

-- The task that a member executes

-- a member that executes no explicit task has ended all that it has started
empty_outside : (m : ℕ) (ts : List ℕ) → of_explicit (λ t. true) (innermost_task m ts) ≡ false → ts ≡ []
empty_outside m [] outside = refl
empty_outside m (t ∷ ts) outside = absurd (cc)

pub no_task_outside : (m : ℕ) (h : List Event) → in_task m h ≡ false → task_stack m h ≡ []
no_task_outside m h outside = empty_outside m (task_stack m h) outside

-- and asks as its implicit task
pub asker_outside : (m : ℕ) (h : List Event) → in_task m h ≡ false → asker m h ≡ owner_of m (Implicit m)
asker_outside m h outside = ap (λ (ts : List ℕ). owner_of m (innermost_task m ts)) (no_task_outside m h outside)

-- no explicit task has the number 0
above_zero_in_rest : (ts : List ℕ) → contains 0 ts ≡ false → contains 0 (after_first ts) ≡ false
above_zero_in_rest [] above = refl
above_zero_in_rest (t ∷ ts) above = elim (cases_Bool (t == 0)) [ inl zero ↦ absurd (let is : true ≡ false = rw zero at above in cc) | inr more ↦ rw more at above ]

pub stack_above_zero : (m : ℕ) (h : List Event) → Always NameRule h → contains 0 (task_stack m h) ≡ false
stack_above_zero m [] all = refl
stack_above_zero m (Start task member ∷ earlier) all = by_member (member == m) (stack_above_zero m earlier all.1)
  where
    more : (task == 0) ≡ false
    more = other_number task 0 (λ zero. absurd (let number = all.0.number in omega (arith, number, zero)))

    by_member : (b : Bool) → contains 0 (task_stack m earlier) ≡ false → contains 0 (if b then task ∷ task_stack m earlier else task_stack m earlier) ≡ false
    by_member true above = rw more above
    by_member false above = above
stack_above_zero m (Done task member ∷ earlier) all = by_member (member == m) (stack_above_zero m earlier all.1)
  where
    by_member : (b : Bool) → contains 0 (task_stack m earlier) ≡ false → contains 0 (if b then after_first (task_stack m earlier) else task_stack m earlier) ≡ false
    by_member true above = above_zero_in_rest (task_stack m earlier) above
    by_member false above = above
stack_above_zero m (_ ∷ earlier) all = stack_above_zero m earlier all.1

innermost_above_zero : (m : ℕ) (ts : List ℕ) → contains 0 ts ≡ false → of_explicit (λ t. true) (innermost_task m ts) ≡ true → same_owner (owner_of m (innermost_task m ts)) (owner_of m (Implicit m)) ≡ false
innermost_above_zero m [] above within = absurd (cc)
innermost_above_zero m (t ∷ ts) above within = elim (cases_Bool (t == 0)) [
  | inl zero ↦ absurd (let is : true ≡ false = rw zero at above in cc)
  | inr more ↦ rw (same_number m, more) refl
]

-- so a member that executes one asks as another owner than its implicit task
pub asker_within : (m : ℕ) (h : List Event) → in_task m h ≡ true → Always NameRule h → same_owner (asker m h) (owner_of m (Implicit m)) ≡ false
asker_within m h within all = innermost_above_zero m (task_stack m h) (stack_above_zero m h all) within

-- Which tasks may hold a name

-- whether the task of this number may: one that the member has started and not ended, and its implicit one unless it waits at a barrier
abbrev can_own : ℕ → List ℕ → Bool → Bool
can_own number ts waits = (number == 0 && not waits) || contains number ts

-- nobody holds it, or such a task of its member
abbrev IsOwned : (ℕ → List ℕ) → (ℕ → Bool) → Option Held → Type 0
IsOwned stack waits None = Unit {0}
IsOwned stack waits (Some held) = (held.owner.team ≡ 0) × (can_own held.owner.task (stack held.owner.member) (waits held.owner.member) ≡ true)

-- the same after these events
abbrev IsOwnedAfter : List Event → Option Held → Type 0
IsOwnedAfter h found = IsOwned (λ m. task_stack m h) (λ m. at_barrier m h) found

-- the task that a member executes may, if it takes nothing itself while it waits
own_innermost : (m : ℕ) (ts : List ℕ) (waits : Bool) → (of_explicit (λ t. true) (innermost_task m ts) ≡ false → waits ≡ false) → can_own (task_number (innermost_task m ts)) ts waits ≡ true
own_innermost m [] waits away = rw (away refl) refl
own_innermost m (t ∷ ts) waits away = or_right (t == 0 && not waits) (t == t || contains t ts) (or_left (t == t) (contains t ts) (same_number t))

-- one that may still does once another is started
own_started : (number task : ℕ) (ts : List ℕ) (waits b : Bool) → can_own number ts waits ≡ true → can_own number (if b then task ∷ ts else ts) waits ≡ true
own_started number task ts waits false may = may
own_started number task ts waits true may = elim (or_tells (number == 0 && not waits) (contains number ts) may) [
  | inl implicit ↦ or_left (number == 0 && not waits) (task == number || contains number ts) implicit
  | inr started ↦ or_right (number == 0 && not waits) (task == number || contains number ts) (or_right (task == number) (contains number ts) started)
]

-- and once another is ended
own_ended : (m number : ℕ) (ts : List ℕ) (waits : Bool) → (task_number (innermost_task m ts) ≡ number → ⊥) → can_own number ts waits ≡ true → can_own number (after_first ts) waits ≡ true
own_ended m number [] waits another may = may
own_ended m number (t ∷ ts) waits another may = let apart : (t == number) ≡ false = other_number t number another in rw apart at may

-- and once a barrier is passed
own_passed : (number : ℕ) (ts : List ℕ) (waits b : Bool) → can_own number ts waits ≡ true → can_own number ts (if b then false else waits) ≡ true
own_passed number ts waits false may = may
own_passed number ts waits true may = elim (or_tells (number == 0 && not waits) (contains number ts) may) [
  | inl implicit ↦ rw (and_left (number == 0) (not waits) implicit) refl
  | inr started ↦ or_right (number == 0 && true) (contains number ts) started
]

-- one that may is the implicit one or not ended
own_tells : (number : ℕ) (ts : List ℕ) (waits : Bool) → can_own number ts waits ≡ true → (number ≡ 0) ⊎ (contains number ts ≡ true)
own_tells number ts waits may = elim (or_tells (number == 0 && not waits) (contains number ts) may) [
  | inl implicit ↦ inl (is_equal number 0 (and_left (number == 0) (not waits) implicit))
  | inr started ↦ inr started
]

-- and not the implicit one at a barrier
own_waiting : (number : ℕ) (ts : List ℕ) (waits : Bool) → waits ≡ true → can_own number ts waits ≡ true → contains number ts ≡ true
own_waiting number ts waits at_it may = elim (or_tells (number == 0 && not waits) (contains number ts) may) [
  | inl implicit ↦ absurd (not_both (not waits) (and_right (number == 0) (not waits) implicit) (rw at_it refl))
  | inr started ↦ started
]

-- What the events keep

-- a release
owned_less : (stack : ℕ → List ℕ) (waits : ℕ → Bool) (found : Option Held) → IsOwned stack waits found → IsOwned stack waits (held_once_less found)
owned_less stack waits None may = tt
owned_less stack waits (Some held) may = by_count (held.count - 1 == 0) refl
  where
    by_count : (b : Bool) → (held.count - 1 == 0) ≡ b → IsOwned stack waits (held_times held.owner (held.count - 1))
    by_count true e = rw e tt
    by_count false e = rw e may

-- a start
owned_started : (task m : ℕ) (h : List Event) (found : Option Held) → IsOwnedAfter h found → IsOwnedAfter (Start task m ∷ h) found
owned_started task m h None may = tt
owned_started task m h (Some held) may = (may.0, own_started held.owner.task task (task_stack held.owner.member h) (at_barrier held.owner.member h) (m == held.owner.member) may.1)

-- a pass
owned_passed : (barrier m : ℕ) (h : List Event) (found : Option Held) → IsOwnedAfter h found → IsOwnedAfter (Pass barrier m ∷ h) found
owned_passed barrier m h None may = tt
owned_passed barrier m h (Some held) may = (may.0, own_passed held.owner.task (task_stack held.owner.member h) (at_barrier held.owner.member h) (m == held.owner.member) may.1)

-- a member that holds no name as it asks does not hold this one so
not_asker : (name : List ℕ) (held : Held) (h : List Event) → Always HoldRule h → holds_critical (asker held.owner.member h) h ≡ false → holder (Critical name) h ≡ Some held → held.owner.team ≡ 0 → task_number (executed_task held.owner.member h) ≡ held.owner.task → ⊥
not_asker name held h all free is team which =
    let same : same_owner held.owner (asker held.owner.member h) ≡ true = rw (team, which, same_number held.owner.member, same_number held.owner.task) refl in
    not_both (holds_critical (asker held.owner.member h) h) (name_is_held (asker held.owner.member h) name h all (rw is same)) free

-- so the end of its task
owned_ended : (task m : ℕ) (name : List ℕ) (h : List Event) → Always HoldRule h → holds_critical (asker m h) h ≡ false → (found : Option Held) → holder (Critical name) h ≡ found → IsOwnedAfter h found → IsOwnedAfter (Done task m ∷ h) found
owned_ended task m name h all free None is may = tt
owned_ended task m name h all free (Some held) is may = (may.0, by_member (m == held.owner.member) refl)
  where
    by_member : (b : Bool) → (m == held.owner.member) ≡ b → can_own held.owner.task (if b then after_first (task_stack held.owner.member h) else task_stack held.owner.member h) (at_barrier held.owner.member h) ≡ true
    by_member false e = may.1
    by_member true e =
        own_ended held.owner.member held.owner.task (task_stack held.owner.member h) (at_barrier held.owner.member h)
        (not_asker name held h all (rw (is_equal m held.owner.member e) at free) is may.0) may.1

-- and its arrival
owned_arrived : (m : ℕ) (name : List ℕ) (h : List Event) → Always HoldRule h → in_task m h ≡ false → holds_critical (asker m h) h ≡ false → (found : Option Held) → holder (Critical name) h ≡ found → IsOwnedAfter h found → IsOwned (λ k. task_stack k h) (λ k. if m == k then true else at_barrier k h) found
owned_arrived m name h all outside free None is may = tt
owned_arrived m name h all outside free (Some held) is may = (may.0, by_member (m == held.owner.member) refl)
  where
    nobody : m ≡ held.owner.member → ⊥
    nobody who =
        let empty : task_stack held.owner.member h ≡ [] = no_task_outside held.owner.member h (rw who at outside) in
        elim (own_tells held.owner.task (task_stack held.owner.member h) (at_barrier held.owner.member h) may.1) [
          | inl zero ↦ not_asker name held h all (rw who at free) is may.0 (rw (empty, zero) refl)
          | inr started ↦ let never : false ≡ true = rw empty at started in absurd (cc)
        ]

    by_member : (b : Bool) → (m == held.owner.member) ≡ b → can_own held.owner.task (task_stack held.owner.member h) (if b then true else at_barrier held.owner.member h) ≡ true
    by_member false e = may.1
    by_member true e = absurd (nobody (is_equal m held.owner.member e))

-- who holds a critical name is a task that its member has not ended, and at a barrier not the implicit one
name_owner_may_hold : (name : List ℕ) (h : List Event) → Always HoldRule h → Always NameRule h → IsOwnedAfter h (holder (Critical name) h)
name_owner_may_hold name [] holds names = tt
name_owner_may_hold name (Hold other m task ∷ earlier) holds names = by_key (same_key other (Critical name)) refl (name_owner_may_hold name earlier holds.1 names.1)
  where
    may : can_own (task_number task) (task_stack m earlier) (at_barrier m earlier) ≡ true
    may = rw holds.0.current (own_innermost m (task_stack m earlier) (at_barrier m earlier) names.0.away)

    by_key : (b : Bool) → same_key other (Critical name) ≡ b → IsOwnedAfter earlier (holder (Critical name) earlier) → IsOwnedAfter earlier (holder (Critical name) (Hold other m task ∷ earlier))
    by_key true e before =
        let none : holder (Critical name) earlier ≡ None = free_name (owner_of m task) name (holder (Critical name) earlier) (hold_of_key (Critical name) other m task earlier e holds.0) in
        rw (e, none) (refl, may)
    by_key false e before = rw e before
name_owner_may_hold name (Free other m task ∷ earlier) holds names = by_key (same_key other (Critical name)) refl (name_owner_may_hold name earlier holds.1 names.1)
  where
    by_key : (b : Bool) → same_key other (Critical name) ≡ b → IsOwnedAfter earlier (holder (Critical name) earlier) → IsOwnedAfter earlier (holder (Critical name) (Free other m task ∷ earlier))
    by_key true e before = rw e (owned_less (λ k. task_stack k earlier) (λ k. at_barrier k earlier) (holder (Critical name) earlier) before)
    by_key false e before = rw e before
name_owner_may_hold name (Start task m ∷ earlier) holds names = owned_started task m earlier (holder (Critical name) earlier) (name_owner_may_hold name earlier holds.1 names.1)
name_owner_may_hold name (Done task m ∷ earlier) holds names = owned_ended task m name earlier holds.1 names.0.left (holder (Critical name) earlier) refl (name_owner_may_hold name earlier holds.1 names.1)
name_owner_may_hold name (Arrive barrier m tag ∷ earlier) holds names =
    owned_arrived m name earlier holds.1 names.0.outside names.0.free (holder (Critical name) earlier) refl (name_owner_may_hold name earlier holds.1 names.1)
name_owner_may_hold name (Pass barrier m ∷ earlier) holds names = owned_passed barrier m earlier (holder (Critical name) earlier) (name_owner_may_hold name earlier holds.1 names.1)
name_owner_may_hold name (_ ∷ earlier) holds names = name_owner_may_hold name earlier holds.1 names.1

-- so it is held by its member's implicit task or by one that the member has started and not ended
pub name_owner_not_ended : (name : List ℕ) (held : Held) (h : List Event) → Always HoldRule h → Always NameRule h → holder (Critical name) h ≡ Some held → (held.owner.task ≡ 0) ⊎ (contains held.owner.task (task_stack held.owner.member h) ≡ true)
name_owner_not_ended name held h holds names is =
    let may = rw is at (name_owner_may_hold name h holds names) in own_tells held.owner.task (task_stack held.owner.member h) (at_barrier held.owner.member h) may.1

-- and while the member waits at a barrier by such a one
pub name_owner_at_barrier : (name : List ℕ) (held : Held) (h : List Event) → Always HoldRule h → Always NameRule h → at_barrier held.owner.member h ≡ true → holder (Critical name) h ≡ Some held → contains held.owner.task (task_stack held.owner.member h) ≡ true
name_owner_at_barrier name held h holds names waits is =
    let may = rw is at (name_owner_may_hold name h holds names) in own_waiting held.owner.task (task_stack held.owner.member h) (at_barrier held.owner.member h) waits may.1

-- At the pass

no_task_holds : (m : ℕ) (owner : Owner) (h : List Event) (found : Option Held) → task_stack m h ≡ [] → at_barrier m h ≡ true → IsOwnedAfter h found → owner.member ≡ m → times_held owner found ≡ 0
no_task_holds m owner h None empty waits may own = refl
no_task_holds m owner h (Some held) empty waits may own = by_owner (same_owner held.owner owner) refl
  where
    nobody : held.owner.member ≡ m → ⊥
    nobody who =
        let started = own_waiting held.owner.task (task_stack held.owner.member h) (at_barrier held.owner.member h) (rw who waits) may.1 in
        let never : false ≡ true = rw (who, empty) at started in absurd (cc)

    by_owner : (b : Bool) → same_owner held.owner owner ≡ b → times_held owner (Some held) ≡ 0
    by_owner true e = absurd (nobody (ap (λ (one : Owner). one.member) (one_owner held.owner owner e) ∙ own))
    by_owner false e = rw e refl

-- a member that waits at a barrier and executes no explicit task holds no critical name in any of its tasks
pub passes_free_holds : (barrier m : ℕ) (earlier : List Event) → in_task m earlier ≡ false → at_barrier m earlier ≡ true → Always HoldRule earlier → Always NameRule earlier → PassesFree (Pass barrier m) earlier
passes_free_holds barrier m earlier outside waits holds names = λ name owner own.
    rw (holds_left_is_count owner (Critical name) earlier holds)
    (no_task_holds m owner earlier (holder (Critical name) earlier) (no_task_outside m earlier outside) waits (name_owner_may_hold name earlier holds names) own)

-- nor in the one in which it asks
pub no_name_at_barrier : (m : ℕ) (h : List Event) → in_task m h ≡ false → at_barrier m h ≡ true → Always HoldRule h → Always NameRule h → holds_critical (asker m h) h ≡ false
no_name_at_barrier m h outside waits holds names = by_names (holds_critical (asker m h) h) refl
  where
    by_names : (b : Bool) → holds_critical (asker m h) h ≡ b → holds_critical (asker m h) h ≡ false
    by_names false e = e
    by_names true e =
        let one = critical_name_held (asker m h) h holds e in
        let some : 0 < holds_left (asker m h) (Critical one.0) h = frees_its_own (Free (Critical one.0) m (executed_task m h)) h (record { current = refl; held = one.1 }) holds in
        let none : holds_left (asker m h) (Critical one.0) h ≡ 0 = passes_free_holds 0 m h outside waits holds names one.0 (asker m h) refl in
        absurd (omega (arith, some, none))
