-- What the rule and the laws of names and locks allow, computed, and what they refuse beside it: Refutations says what they forbid of any
-- member, task and key. OpenMP API 5.2, sections 15.2 and 18.9.
use Rattle.std.proofs.Common.{◌≡◌, ℕ, true, false, List, [], ◌∷◌, ◌++◌, None, refl, arith, rules}
use Rattle.gomp_types.specs.declared.task.Task.{Task}
use Rattle.gomp_types.specs.declared.task.Task.TheVariants.{Explicit}
use Rattle.gomp_types.specs.declared.key.Key.TheVariants.{Critical, Lock, NestLock}
use Rattle.gomp_events.specs.declared.event.Event.{Event}
use Rattle.gomp_events.specs.declared.event.Event.TheVariants.{Hold, Free, Arrive, Pass, Start, Done}
use Rattle.gomp_events.specs.declared.event.Arrival.TheVariants.{Barrier}
use Rattle.gomp_events.specs.EventLists.{at}
use Rattle.gomp_events.specs.Laws.{Always}
use Rattle.gomp_locks.specs.HoldRules.{can_hold, HoldRule}
use Rattle.gomp_locks.specs.HoldLaws.{holds_left, HeldOnce, FreesItsOwn, PassesFree}
use Rattle.gomp_locks.proofs.BookExamples.{zero_owner, other_owner, task_owner}
use Rattle.gomp_locks.proofs.NamesKeep.{passes_free_holds}
use Rattle.gomp_locks.proofs.HolderExamples.{short_name, longer_name, hold_by, free_by, held_so, after_events, nest_thrice, freed_by}

-- after these events a law of each event refuses this one
abbrev RefusedAfter : (Event → List Event → Type 0) → List Event → Event → Type 0
RefusedAfter Law events event = Law event (after_events events) → ⊥

-- an explicit task is not another one
other_task : (one other : ℕ) → (one ≡ other → ⊥) → ◌≡◌ {A = Task} (Explicit one) (Explicit other) → ⊥
other_task one other differ e = differ (let same : one ≡ other = cc in same)

-- Whether an owner may hold it once more

-- a name and a simple lock: while nobody holds it
pub hold_of_a_name : (can_hold (Critical short_name) zero_owner None ≡ true) × (can_hold (Critical short_name) zero_owner (held_so zero_owner 1) ≡ false) × (can_hold (Critical short_name) zero_owner (held_so other_owner 1) ≡ false)
hold_of_a_name = (refl, refl, refl)

pub hold_of_a_simple_lock : (can_hold (Lock 0) zero_owner None ≡ true) × (can_hold (Lock 0) zero_owner (held_so zero_owner 1) ≡ false) × (can_hold (Lock 0) zero_owner (held_so other_owner 1) ≡ false)
hold_of_a_simple_lock = (refl, refl, refl)

-- a nestable lock: while no other owner holds it, be it another task of the member, and up to 65,535 times
pub hold_of_a_nestable_lock :
    (can_hold (NestLock 0) zero_owner None ≡ true) × (can_hold (NestLock 0) zero_owner (held_so zero_owner 1) ≡ true) × (can_hold (NestLock 0) zero_owner (held_so other_owner 1) ≡ false)
    × (can_hold (NestLock 0) zero_owner (held_so task_owner 1) ≡ false)
hold_of_a_nestable_lock = (refl, refl, refl, refl)

pub hold_up_to_the_limit : (can_hold (NestLock 0) zero_owner (held_so zero_owner 65534) ≡ true) × (can_hold (NestLock 0) zero_owner (held_so zero_owner 65535) ≡ false)
hold_up_to_the_limit = (refl, refl)

-- The rule refuses

-- a release once more than it was held
pub rule_free_once_too_often : RefusedAfter HoldRule (hold_by 0 (NestLock 3) ∷ hold_by 0 (NestLock 3) ∷ free_by 0 (NestLock 3) ∷ free_by 0 (NestLock 3) ∷ []) (free_by 0 (NestLock 3))
rule_free_once_too_often may = absurd (let held = may.held in cc)

-- The rule allows

-- two names at once
abbrev two_names : List Event
two_names = hold_by 0 (Critical short_name) ∷ hold_by 0 (Critical longer_name) ∷ free_by 0 (Critical short_name) ∷ free_by 0 (Critical longer_name) ∷ []

pub rule_allows_two_names : Always HoldRule (after_events two_names)
rule_allows_two_names = (record { current = refl; held = refl }, (record { current = refl; held = refl }, (record { current = refl; free = refl }, (record { current = refl; free = refl }, tt))))

-- a nestable lock three times
pub rule_allows_nest_thrice : Always HoldRule (freed_by 0 (freed_by 0 (freed_by 0 (after_events nest_thrice))))
rule_allows_nest_thrice =
    (record { current = refl; held = refl }, (record { current = refl; held = refl }, (record { current = refl; held = refl }, (record { current = refl; free = refl }, (tt, (record { current = refl; free = refl }, (record { current = refl; free = refl }, tt)))))))

-- a name by one member after the other, and two locks of one number by two members
abbrev handed_over : List Event
handed_over = hold_by 0 (Critical short_name) ∷ free_by 0 (Critical short_name) ∷ hold_by 1 (Critical short_name) ∷ hold_by 1 (Lock 0) ∷ hold_by 0 (NestLock 0) ∷ []

pub rule_allows_next_holder : Always HoldRule (after_events handed_over)
rule_allows_next_holder =
    (record { current = refl; free = refl }, (record { current = refl; free = refl }, (record { current = refl; free = refl }, (record { current = refl; held = refl }, (record { current = refl; free = refl }, tt)))))

-- Two tasks of one member

-- a member holds in the task that it executes, and in the next one that it starts; then each frees its own, the inner one first
abbrev two_task_holds : List Event
two_task_holds = hold_by 0 (Lock 0) ∷ Start 1 0 ∷ Hold (NestLock 3) 0 (Explicit 1) ∷ Start 2 0 ∷ Hold (Lock 1) 0 (Explicit 2) ∷ []

abbrev two_task_frees : List Event
two_task_frees = Free (Lock 1) 0 (Explicit 2) ∷ Done 2 0 ∷ Free (NestLock 3) 0 (Explicit 1) ∷ Done 1 0 ∷ free_by 0 (Lock 0) ∷ []

pub rule_allows_two_tasks : Always HoldRule (after_events (two_task_holds ++ two_task_frees))
rule_allows_two_tasks = search rules

-- the inner one may not hold what the suspended one holds, be it a nestable lock, nor free it
pub rule_hold_of_suspended : RefusedAfter HoldRule two_task_holds (Hold (NestLock 3) 0 (Explicit 2))
rule_hold_of_suspended may = absurd (let free = may.free in cc)

pub rule_free_of_suspended : RefusedAfter HoldRule two_task_holds (Free (NestLock 3) 0 (Explicit 2))
rule_free_of_suspended may = absurd (let held = may.held in cc)

-- nor what the implicit task holds
pub rule_hold_of_implicit : RefusedAfter HoldRule two_task_holds (Hold (Lock 0) 0 (Explicit 2))
rule_hold_of_implicit may = absurd (let free = may.free in cc)

pub rule_free_of_implicit : RefusedAfter HoldRule two_task_holds (Free (Lock 0) 0 (Explicit 2))
rule_free_of_implicit may = absurd (let held = may.held in cc)

-- the suspended ones neither hold once more nor free what they hold, until the inner one has ended
pub rule_hold_while_suspended : RefusedAfter HoldRule two_task_holds (Hold (NestLock 3) 0 (Explicit 1))
rule_hold_while_suspended may = other_task 1 2 (λ same. absurd (omega (arith, same))) may.current

pub rule_free_while_suspended : RefusedAfter HoldRule two_task_holds (Free (NestLock 3) 0 (Explicit 1))
rule_free_while_suspended may = other_task 1 2 (λ same. absurd (omega (arith, same))) may.current

pub rule_free_in_implicit : RefusedAfter HoldRule two_task_holds (free_by 0 (Lock 0))
rule_free_in_implicit may = absurd (let current = may.current in cc)

pub rule_allows_hold_after_end : HoldRule (Hold (NestLock 3) 0 (Explicit 1)) (after_events (two_task_holds ++ Done 2 0 ∷ []))
rule_allows_hold_after_end = record { current = refl; free = refl }

-- Open holds

-- they are counted up and down, for each owner and each key
pub holds_are_counted :
    (holds_left zero_owner (NestLock 1) (after_events nest_thrice) ≡ 3) × (holds_left zero_owner (NestLock 1) (freed_by 0 (after_events nest_thrice)) ≡ 2)
    × (holds_left other_owner (NestLock 1) (after_events nest_thrice) ≡ 0) × (holds_left zero_owner (Lock 1) (after_events nest_thrice) ≡ 0)
holds_are_counted = (refl, refl, refl, refl)

-- a release by another ends none of an owner's holds
pub holds_another_frees : holds_left zero_owner (NestLock 1) (freed_by 1 (after_events nest_thrice)) ≡ 3
holds_another_frees = refl

-- Held once

-- a nestable lock may be held three times
pub nest_held_thrice : HeldOnce (after_events nest_thrice)
nest_held_thrice (Critical name) owner single = omega arith
nest_held_thrice (Lock number) owner single = omega arith
nest_held_thrice (NestLock number) owner single = absurd (cc)

-- Each release is by the owner of an open hold

-- it was freed as often as it was held
pub freed_once_too_often : RefusedAfter FreesItsOwn (hold_by 0 (NestLock 3) ∷ hold_by 0 (NestLock 3) ∷ free_by 0 (NestLock 3) ∷ free_by 0 (NestLock 3) ∷ []) (free_by 0 (NestLock 3))
freed_once_too_often law = absurd (omega (arith, law))

-- its owner may free it
pub freed_by_its_owner : FreesItsOwn (free_by 0 (NestLock 1)) (freed_by 0 (freed_by 0 (after_events nest_thrice)))
freed_by_its_owner = omega arith

-- Who passes a barrier holds no name

-- a member that freed one of two holds the other
pub passed_with_one_of_two : RefusedAfter PassesFree (hold_by 0 (Critical short_name) ∷ hold_by 0 (Critical longer_name) ∷ free_by 0 (Critical short_name) ∷ []) (Pass 0 0)
passed_with_one_of_two law = absurd (let none = law longer_name zero_owner refl in omega (arith, none))

-- it may hold a lock
pub passed_with_lock : PassesFree (Pass 0 0) (after_events (hold_by 0 (Lock 3) ∷ hold_by 0 (NestLock 1) ∷ []))
passed_with_lock name owner own = refl

-- and another member may hold a name
pub passed_while_another_holds : PassesFree (Pass 0 0) (after_events (handed_over ++ Arrive 0 0 (at Barrier 0) ∷ []))
passed_while_another_holds = passes_free_holds 0 0 (after_events (handed_over ++ Arrive 0 0 (at Barrier 0) ∷ [])) refl refl (tt, rule_allows_next_holder) (search rules)

-- it may have freed what it held
pub passed_after_release : PassesFree (Pass 0 0) (after_events (two_names ++ Arrive 0 0 (at Barrier 0) ∷ []))
passed_after_release = passes_free_holds 0 0 (after_events (two_names ++ Arrive 0 0 (at Barrier 0) ∷ [])) refl refl (tt, rule_allows_two_names) (search rules)
