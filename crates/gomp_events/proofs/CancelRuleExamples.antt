-- Each field of the rules that a cancellation changes by itself refuses an event after some others, and the rule allows one beside it. All is computed.
use Rattle.std.proofs.Common.{◌≡◌, List, [], ◌∷◌, Some, refl, ap, arith, rules}
use Rattle.gomp_events.specs.declared.event.Tag.{Tag}
use Rattle.gomp_types.specs.declared.cancel.CancelKind.{CancelKind}
use Rattle.gomp_types.specs.declared.cancel.CancelKind.TheVariants.{Parallel, Loop, Sections, Taskgroup}
use Rattle.gomp_types.specs.declared.cancel.Scope.TheVariants.{Region, OneShare, OneGroup}
use Rattle.gomp_types.specs.declared.task.Task.TheVariants.{Implicit}
use Rattle.gomp_events.specs.declared.event.Arrival.TheVariants.{Barrier, RegionEnd}
use Rattle.gomp_events.specs.declared.event.Event.{Event}
use Rattle.gomp_events.specs.declared.event.Event.TheVariants.{Create, Start, Group, Arrive, Pass, Cancel, Discard, See}
use Rattle.gomp_events.specs.EventLists.{at}
use Rattle.gomp_events.specs.Arrivals.{ArrivalRule}
use Rattle.gomp_events.specs.TaskRules.{TaskRule}
use Rattle.gomp_events.specs.Cancels.{scope_of}
use Rattle.gomp_events.specs.CancelRules.{CancelRule}
use Rattle.gomp_events.specs.TaskExamples.{after, Allows, Forbids, one_job}

-- Arrivals

-- member 0 waits at a barrier, and member 1 cancels the region
abbrev cancelled_at_a_barrier : List Event
cancelled_at_a_barrier = Arrive 0 0 (at Barrier 0) ∷ Cancel 1 Region ∷ []

-- member 1 arrives at that barrier
pub arrive_when_cancelled : Forbids (ArrivalRule 2) cancelled_at_a_barrier (Arrive 0 1 (at Barrier 0))
arrive_when_cancelled may = absurd (let ends = may.ends refl in cc)

-- it arrives at the region's end, though the other arrived otherwise; and so does the other, which has not passed its barrier
pub end_when_cancelled : Allows (ArrivalRule 2) cancelled_at_a_barrier (Arrive 0 1 (at RegionEnd 0))
end_when_cancelled = record { number = refl; same = λ whole. absurd (cc); ends = λ cancelled. refl }

pub end_after_a_barrier : Allows (ArrivalRule 2) cancelled_at_a_barrier (Arrive 0 0 (at RegionEnd 0))
end_after_a_barrier = record { number = refl; same = λ whole. absurd (cc); ends = λ cancelled. refl }

-- if a share or a group is cancelled, or nothing, tags are compared still
pub end_when_a_share_is_cancelled : Forbids (ArrivalRule 2) (Arrive 0 0 (at Barrier 0) ∷ Cancel 1 (OneShare 0) ∷ Cancel 1 (OneGroup 0) ∷ []) (Arrive 0 1 (at RegionEnd 0))
end_when_a_share_is_cancelled may = absurd (let same = ap (λ (tag : Tag). tag.kind) (may.same refl (at Barrier 0) refl) in cc)

-- Passes

-- all members have arrived at a barrier, and then one has cancelled the region
pub pass_when_cancelled : Forbids (ArrivalRule 2) (Arrive 0 0 (at Barrier 0) ∷ Arrive 0 1 (at Barrier 0) ∷ Cancel 1 Region ∷ []) (Pass 0 0)
pass_when_cancelled may = absurd (let met = may.met in cc)

pub pass_when_not_cancelled : Allows (ArrivalRule 2) (Arrive 0 0 (at Barrier 0) ∷ Arrive 0 1 (at Barrier 0) ∷ Cancel 1 (OneGroup 0) ∷ []) (Pass 0 0)
pass_when_not_cancelled = search rules

-- in a cancelled region members pass its end once all have arrived there, by whatever number
abbrev ends_by_two_numbers : List Event
ends_by_two_numbers = Arrive 0 0 (at Barrier 0) ∷ Arrive 0 1 (at Barrier 0) ∷ Pass 0 1 ∷ Cancel 1 Region ∷ Arrive 1 1 (at RegionEnd 0) ∷ []

pub pass_before_all_end : Forbids (ArrivalRule 2) ends_by_two_numbers (Pass 1 1)
pass_before_all_end may = absurd (let met = may.met in cc)

pub pass_after_all_end : Allows (ArrivalRule 2) (Arrive 0 0 (at Barrier 0) ∷ Arrive 0 1 (at Barrier 0) ∷ Pass 0 1 ∷ Cancel 1 Region ∷ Arrive 1 1 (at RegionEnd 0) ∷ Arrive 0 0 (at RegionEnd 0) ∷ []) (Pass 1 1)
pass_after_all_end = search rules

-- not while a task runs; once it has ended or was discarded they do
pub pass_beside_a_task : Forbids (ArrivalRule 1) (Create 1 0 (Implicit 0) one_job ∷ Start 1 0 ∷ Cancel 0 Region ∷ Arrive 0 0 (at RegionEnd 0) ∷ []) (Pass 0 0)
pass_beside_a_task may = absurd (let met = may.met in cc)

pub pass_after_a_discard : Allows (ArrivalRule 1) (Create 1 0 (Implicit 0) one_job ∷ Cancel 0 Region ∷ Discard 1 0 ∷ Arrive 0 0 (at RegionEnd 0) ∷ []) (Pass 0 0)
pass_after_a_discard = search rules

-- Tasks

-- a task is started, created or discarded by what reaches it
pub start_when_cancelled : Forbids (TaskRule 1) (Create 1 0 (Implicit 0) one_job ∷ Cancel 0 Region ∷ []) (Start 1 0)
start_when_cancelled may = absurd (let start = may.may in cc)

pub create_when_cancelled : Forbids (TaskRule 1) (Cancel 0 Region ∷ []) (Create 1 0 (Implicit 0) one_job)
create_when_cancelled may = absurd (let covered = may.uncovered in cc)

pub create_beside_a_group : Allows (TaskRule 2) (Group 0 0 ∷ Cancel 0 (OneGroup 0) ∷ []) (Create 1 1 (Implicit 1) one_job)
create_beside_a_group = search rules

pub discard_when_cancelled : Allows (TaskRule 2) (Create 1 0 (Implicit 0) one_job ∷ Cancel 1 Region ∷ []) (Discard 1 1)
discard_when_cancelled = search rules

pub discard_uncovered : Forbids (TaskRule 2) (Create 1 0 (Implicit 0) one_job ∷ Cancel 1 (OneGroup 0) ∷ []) (Discard 1 1)
discard_uncovered may = absurd (let covered = may.covered in cc)

pub discard_running : Forbids (TaskRule 2) (Create 1 0 (Implicit 0) one_job ∷ Start 1 0 ∷ Cancel 1 Region ∷ []) (Discard 1 1)
discard_running may = absurd (let unstarted = may.unstarted in cc)

pub discard_twice : Forbids (TaskRule 2) (Create 1 0 (Implicit 0) one_job ∷ Cancel 1 Region ∷ Discard 1 1 ∷ []) (Discard 1 1)
discard_twice may = absurd (let unstarted = may.unstarted in cc)

-- Cancellation

-- a member cancels the region, or the group whose end waits for its task, and nothing else
pub cancel_the_region : Allows (CancelRule 2) [] (Cancel 1 Region)
cancel_the_region = record { member = omega arith; kind = Parallel; named = refl }

pub cancel_the_group : Allows (CancelRule 1) (Group 0 0 ∷ Create 1 0 (Implicit 0) one_job ∷ Start 1 0 ∷ []) (Cancel 0 (OneGroup 0))
cancel_the_group = record { member = omega arith; kind = Taskgroup; named = refl }

pub cancel_another_group : Forbids (CancelRule 1) (Group 0 0 ∷ Group 1 0 ∷ Create 1 0 (Implicit 0) one_job ∷ Start 1 0 ∷ []) (Cancel 0 (OneGroup 0))
cancel_another_group may = names_it_not may.kind may.named
  where
    names_it_not : (kind : CancelKind) → scope_of kind 0 (after (Group 0 0 ∷ Group 1 0 ∷ Create 1 0 (Implicit 0) one_job ∷ Start 1 0 ∷ [])) ≡ Some (OneGroup 0) → ⊥
    names_it_not Parallel e = absurd (cc)
    names_it_not Loop e = absurd (cc)
    names_it_not Sections e = absurd (cc)
    names_it_not Taskgroup e = absurd (cc)

-- a member sees a cancellation only after it
pub see_what_is_cancelled : Allows (CancelRule 2) (Cancel 1 Region ∷ []) (See 0 Parallel)
see_what_is_cancelled = search rules

pub see_what_is_not : Forbids (CancelRule 2) (Cancel 1 (OneShare 0) ∷ []) (See 0 Parallel)
see_what_is_not may = absurd (let cancelled = may.cancelled in cc)
