-- Each clause of the rule of critical names by itself refuses an event after some others, which every other clause and the rule of holds
-- allow, and a pass beside it shows what that clause is for. OpenMP API 5.2, section 15.2.
use Rattle.std.proofs.Common.{◌≡◌, List, [], ◌∷◌, ◌++◌, refl, arith, rules}
use Rattle.gomp_types.specs.declared.task.Task.TheVariants.{Explicit}
use Rattle.gomp_types.specs.declared.key.Key.TheVariants.{Critical, Lock}
use Rattle.gomp_events.specs.declared.event.Arrival.TheVariants.{Barrier}
use Rattle.gomp_events.specs.declared.event.Event.{Event}
use Rattle.gomp_events.specs.declared.event.Event.TheVariants.{Hold, Free, Arrive, Pass, Start, Done}
use Rattle.gomp_events.specs.EventLists.{at}
use Rattle.gomp_events.specs.Laws.{Always}
use Rattle.gomp_locks.specs.Holders.{asker}
use Rattle.gomp_locks.specs.HoldRules.{HoldRule}
use Rattle.gomp_locks.specs.NameRules.{NameRule}
use Rattle.gomp_locks.specs.HoldLaws.{PassesFree}
use Rattle.gomp_locks.proofs.BookExamples.{zero_owner, task_owner}
use Rattle.gomp_locks.proofs.HolderExamples.{short_name, longer_name, hold_by, free_by, after_events}
use Rattle.gomp_locks.proofs.NamesKeep.{passes_free_holds}

-- both rules allow these events, and the rule of holds this one after them
abbrev AllowedTo : List Event → Event → Type 0
AllowedTo events event = Always HoldRule (event ∷ after_events events) × Always NameRule (after_events events)

-- the rule of critical names alone refuses it
abbrev RefusedByNames : List Event → Event → Type 0
RefusedByNames events event = (NameRule event (after_events events) → ⊥) × AllowedTo events event

-- it allows it too
abbrev AllowedByNames : List Event → Event → Type 0
AllowedByNames events event = NameRule event (after_events events) × AllowedTo events event

-- a pass of the first member that holds the name 'a' in one of its tasks
abbrev PassesHolding : List Event → Type 0
PassesHolding events = PassesFree (Pass 0 0) (after_events events) → ⊥

-- the first member arrives at the first barrier
abbrev arrives : Event
arrives = Arrive 0 0 (at Barrier 0)

-- its task 1 holds the name 'a', or holds it no longer
abbrev task_holds : Event
task_holds = Hold (Critical short_name) 0 (Explicit 1)

abbrev task_frees : Event
task_frees = Free (Critical short_name) 0 (Explicit 1)

-- A member arrives

-- while it holds a name
abbrev held_region : List Event
held_region = hold_by 0 (Critical short_name) ∷ []

pub names_arrive_in_region : RefusedByNames held_region arrives
names_arrive_in_region = (λ may. absurd (let free = may.free in cc), (search rules, search rules))

pub pass_of_arrived_in_region : PassesHolding (held_region ++ arrives ∷ [])
pass_of_arrived_in_region law = absurd (let none = law short_name zero_owner refl in omega (arith, none))

-- also if it freed another
pub names_arrive_in_one_of_two : RefusedByNames (hold_by 0 (Critical short_name) ∷ hold_by 0 (Critical longer_name) ∷ free_by 0 (Critical longer_name) ∷ []) arrives
names_arrive_in_one_of_two = (λ may. absurd (let free = may.free in cc), (search rules, search rules))

-- in an explicit task, which holds none, though the implicit one does
abbrev in_task_of_region : List Event
in_task_of_region = hold_by 0 (Critical short_name) ∷ Start 1 0 ∷ []

pub names_arrive_in_task : RefusedByNames in_task_of_region arrives
names_arrive_in_task = (λ may. absurd (let outside = may.outside in cc), (search rules, search rules))

pub pass_of_arrived_in_task : PassesHolding (in_task_of_region ++ arrives ∷ Done 1 0 ∷ [])
pass_of_arrived_in_task law = absurd (let none = law short_name zero_owner refl in omega (arith, none))

-- it may hold a lock, and another member a name
pub names_arrive_with_lock : AllowedByNames (hold_by 0 (Lock 3) ∷ hold_by 1 (Critical short_name) ∷ Start 1 1 ∷ []) arrives
names_arrive_with_lock = (search rules, (search rules, search rules))

-- once it has left the region and ended the task
pub names_arrive_after_region : AllowedByNames (in_task_of_region ++ Done 1 0 ∷ free_by 0 (Critical short_name) ∷ []) arrives
names_arrive_after_region = (search rules, (search rules, search rules))

-- A task ends

-- in a region
abbrev task_in_region : List Event
task_in_region = arrives ∷ Start 1 0 ∷ task_holds ∷ []

pub names_end_in_region : RefusedByNames task_in_region (Done 1 0)
names_end_in_region = (λ may. absurd (let left = may.left in cc), (search rules, search rules))

pub pass_of_ended_in_region : PassesHolding (task_in_region ++ Done 1 0 ∷ [])
pass_of_ended_in_region law = absurd (let none = law short_name task_owner refl in omega (arith, none))

-- once it has left it
pub names_end_after_region : AllowedByNames (task_in_region ++ task_frees ∷ []) (Done 1 0)
names_end_after_region = (search rules, (search rules, search rules))

-- with a lock
pub names_end_with_lock : AllowedByNames (Start 1 0 ∷ Hold (Lock 3) 0 (Explicit 1) ∷ []) (Done 1 0)
names_end_with_lock = (search rules, (search rules, search rules))

-- in the region of a task that it suspends
pub names_end_within_region : AllowedByNames (hold_by 0 (Critical short_name) ∷ Start 1 0 ∷ []) (Done 1 0)
names_end_within_region = (search rules, (search rules, search rules))

-- A task holds

-- a member that waits at a barrier, in its implicit task: a name or a lock
pub names_hold_at_barrier : RefusedByNames (arrives ∷ []) (hold_by 0 (Critical short_name))
names_hold_at_barrier = (λ may. absurd (let away = may.away refl in cc), (search rules, search rules))

pub names_lock_at_barrier : RefusedByNames (arrives ∷ []) (hold_by 0 (Lock 3))
names_lock_at_barrier = (λ may. absurd (let away = may.away refl in cc), (search rules, search rules))

pub pass_of_held_at_barrier : PassesHolding (arrives ∷ hold_by 0 (Critical short_name) ∷ [])
pass_of_held_at_barrier law = absurd (let none = law short_name zero_owner refl in omega (arith, none))

-- in the task that it executes there
pub names_hold_in_task_at_barrier : AllowedByNames (arrives ∷ Start 1 0 ∷ []) task_holds
names_hold_in_task_at_barrier = (record { away = λ outside. absurd (cc) }, (search rules, search rules))

-- another member, and the same once it has passed
pub names_hold_beside_barrier : AllowedByNames (arrives ∷ []) (hold_by 1 (Critical short_name))
names_hold_beside_barrier = (search rules, (search rules, search rules))

pub names_hold_past_barrier : AllowedByNames (arrives ∷ Pass 0 0 ∷ []) (hold_by 0 (Critical short_name))
names_hold_past_barrier = (search rules, (search rules, search rules))

-- A task starts

-- by the number of an implicit one
pub names_start_numbered_zero : RefusedByNames [] (Start 0 0)
names_start_numbered_zero = (λ may. absurd (let number = may.number in omega (arith, number)), (search rules, search rules))

-- since it would be one owner with its member's implicit task, and free what that holds
pub task_zero_is_implicit : (asker 0 (after_events (Start 0 0 ∷ [])) ≡ zero_owner) × HoldRule (Free (Lock 3) 0 (Explicit 0)) (after_events (hold_by 0 (Lock 3) ∷ Start 0 0 ∷ []))
task_zero_is_implicit = (refl, record { current = refl; held = refl })

-- by the number 1
pub names_start_first : AllowedByNames [] (Start 1 0)
names_start_first = (record { number = omega arith }, (search rules, search rules))

-- The whole

-- a member holds a name in its implicit task and in one that it executes meanwhile, arrives, holds one in a task there, and passes
abbrev regions_and_barrier : List Event
regions_and_barrier =
    hold_by 0 (Critical longer_name) ∷ Start 1 0 ∷ task_holds ∷ task_frees ∷ Done 1 0 ∷ free_by 0 (Critical longer_name) ∷ arrives
    ∷ Start 2 0 ∷ Hold (Critical short_name) 0 (Explicit 2) ∷ Free (Critical short_name) 0 (Explicit 2) ∷ Done 2 0 ∷ []

pub rules_allow_regions : Always HoldRule (after_events regions_and_barrier) × Always NameRule (after_events regions_and_barrier)
rules_allow_regions = (search rules, names)
  where
    held_in_task : NameRule (Hold (Critical short_name) 0 (Explicit 2)) (after_events (hold_by 0 (Critical longer_name) ∷ Start 1 0 ∷ task_holds ∷ task_frees ∷ Done 1 0 ∷ free_by 0 (Critical longer_name) ∷ arrives ∷ Start 2 0 ∷ []))
    held_in_task = record { away = λ outside. absurd (cc) }

    names : Always NameRule (after_events regions_and_barrier)
    names = search (rules, held_in_task)

pub pass_after_regions : PassesFree (Pass 0 0) (after_events regions_and_barrier)
pass_after_regions = passes_free_holds 0 0 (after_events regions_and_barrier) refl refl rules_allow_regions.0 rules_allow_regions.1

-- but not while a task runs there that holds one
pub pass_within_region_of_task : PassesHolding task_in_region
pass_within_region_of_task law = absurd (let none = law short_name task_owner refl in omega (arith, none))
