-- Events that a law of tasks and groups allows after some others, and such as it refuses by several words at once; what each part of a law refuses of
-- any member and task stands in Refutations. Of each law there are events that it alone refuses, while all others hold. All is computed, with none of the
-- lemmas that prove the laws.
use Rattle.std.proofs.Common.{◌≡◌, ℕ, false, List, [], ◌∷◌, refl, arith, rules, inl, inr}
use Rattle.std.specs.Prelude.{◌==◌, ◌≢◌}
use Rattle.std.proofs.lemmas.Bool.{cases_Bool}
use Rattle.gomp_events.proofs.TaskEvents.{open_is_not_done}
use Rattle.gomp_events.specs.Laws.{Always}
use Rattle.gomp_types.specs.declared.task.Task.TheVariants.{Implicit, Explicit}
use Rattle.gomp_events.specs.declared.event.Arrival.TheVariants.{Barrier, RegionEnd}
use Rattle.gomp_events.specs.declared.event.Event.{Event}
use Rattle.gomp_events.specs.declared.event.Event.TheVariants.{Create, Start, Done, Group, GroupEnd, Waited, Arrive, Pass, Cancel, Discard}
use Rattle.gomp_types.specs.declared.cancel.Scope.TheVariants.{Region, OneGroup}
use Rattle.gomp_events.specs.EventLists.{at}
use Rattle.gomp_events.specs.TaskLaws.{IsCreated, IsTaskDone, CreatesOnce, CreatesInItsOwn, StartsOnce, StartsAfterNamed, StartsDescendant, EndsItsOwn, WaitsForTasks, OpensOnce, EndsItsGroup, PassesAfterTasks, CreatesLater, EndsAfterTasks, TaskLaws, BoundIsDone}
use Rattle.gomp_events.specs.TaskExamples.{after, Allows, Forbids, TaskLaw, CreatedOnce, CreatedIn, StartedOnce, AfterNamed, Descendants, EndedOnce, StartedUncovered, CreatedUncovered, Discarded, Waits, OpenedOnce, GroupsEnded, Passes, Later, AtTheEnd, law_of, RefusedAlone, one_job, other_job, task_tree, child_ended, across_barrier, whole_region}
use Rattle.gomp_events.specs.Tasks.{is_child}
use Rattle.gomp_events.specs.Depends.{waits_for}
use Rattle.gomp_types.proofs.Booleans.{and_false, not_both}
use Rattle.gomp_events.proofs.TasksKeep.{tasks_keep}
use Rattle.gomp_events.proofs.TaskRuleExamples.{whole_region_keeps_task_rule, whole_region_keeps_arrival_rule}

-- What happened

-- a task was created by any member in any task, whatever it is to do
pub created_by_any : IsCreated 1 (after (Create 1 0 (Implicit 0) one_job ∷ Create 2 1 (Implicit 1) other_job ∷ []))
created_by_any = (0, Implicit 0, one_job, inr (inl refl))

-- a task was ended by any member
pub done_by_any : IsTaskDone 1 (after (Done 1 1 ∷ Done 2 0 ∷ []))
done_by_any = (1, inl (inr (inl refl)))

-- Created once, in the task that the member executes

-- a member creates a task by another number than one that was given
pub create_two : Allows CreatesOnce (Create 1 0 (Implicit 0) one_job ∷ []) (Create 2 1 (Implicit 1) other_job)
create_two made = elim made.3 [ inl e ↦ absurd (cc) | inr never ↦ never ]

-- a member creates one in the task of another
pub create_in_another : Forbids CreatesInItsOwn [] (Create 1 0 (Implicit 1) one_job)
create_in_another law = absurd (cc)

-- it creates one in the innermost task that it executes
pub create_in_innermost : Allows CreatesInItsOwn task_tree (Create 5 0 (Explicit 2) one_job)
create_in_innermost = refl

-- Started once

-- a task is started beside another that is started and done
pub start_beside : Allows StartsOnce (Create 1 0 (Implicit 0) one_job ∷ Create 2 0 (Implicit 0) one_job ∷ Start 2 0 ∷ Done 2 0 ∷ []) (Start 1 0)
start_beside = ((0, Implicit 0, one_job, inr (inr (inr (inl refl)))), search rules, search rules)

-- Descendants

-- a member starts a task of the same parent as the one that it executes
pub start_sibling : Forbids StartsDescendant (Create 1 0 (Implicit 0) one_job ∷ Create 2 0 (Implicit 0) one_job ∷ Start 1 0 ∷ []) (Start 2 0)
start_sibling law = absurd (let ancestor = law.0 1 (inl refl) (search rules) in cc)

-- a descendant of an inner one, and not of an outer one
pub start_of_inner :
    Forbids StartsDescendant (Create 1 0 (Implicit 0) one_job ∷ Create 2 0 (Implicit 0) one_job ∷ Create 3 0 (Explicit 2) one_job ∷ Start 1 0 ∷ Start 2 0 ∷ []) (Start 3 0)
start_of_inner law = absurd (let ancestor = law.0 1 (inr (inl refl)) (search rules) in cc)

-- a member that does not wait at a barrier starts a task of another's tree
pub start_in_another_tree : Forbids StartsDescendant (Create 1 0 (Implicit 0) one_job ∷ []) (Start 1 1)
start_in_another_tree law = absurd (let own = law.1 refl in cc)

-- one that waits at a barrier does
pub start_at_barrier : Allows StartsDescendant (Create 1 0 (Implicit 0) one_job ∷ Arrive 0 1 (at Barrier 0) ∷ []) (Start 1 1)
start_at_barrier = search rules

-- what another member has started does not count, nor what is done
pub start_beside_others :
    Allows StartsDescendant (Create 1 0 (Implicit 0) one_job ∷ Create 2 0 (Implicit 0) one_job ∷ Create 3 0 (Implicit 0) one_job ∷ Start 1 0 ∷ Done 1 0 ∷ Start 2 1 ∷ []) (Start 3 0)
start_beside_others = search rules

-- Ended once

-- a member ends a task that is done
pub end_again : Forbids EndsItsOwn (Create 1 0 (Implicit 0) one_job ∷ Start 1 0 ∷ Done 1 0 ∷ []) (Done 1 0)
end_again law = law.1 0 (inl refl)

-- one in which it has started another
pub end_outer : Forbids EndsItsOwn task_tree (Done 1 0)
end_outer law = elim (law.2 2 (inr (inl refl)) (search rules)) [ inl e ↦ absurd (omega arith) | inr e ↦ absurd (cc) ]

-- the innermost
pub end_innermost : Allows EndsItsOwn task_tree (Done 2 0)
end_innermost = search rules

-- the outer one after that
pub end_outer_last : Allows EndsItsOwn child_ended (Done 1 0)
end_outer_last = search rules

-- Waits

-- a task has waited, and its child is open
pub wait_open : Forbids WaitsForTasks (Create 1 0 (Implicit 0) one_job ∷ []) (Waited 0 [])
wait_open law = open_is_not_done 1 (after (Create 1 0 (Implicit 0) one_job ∷ [])) refl (law 1 refl)

-- the task that it executes has an open child
pub wait_in_task : Forbids WaitsForTasks (Create 1 0 (Implicit 0) one_job ∷ Start 1 0 ∷ Create 2 0 (Explicit 1) one_job ∷ []) (Waited 0 [])
wait_in_task law = open_is_not_done 2 (after (Create 1 0 (Implicit 0) one_job ∷ Start 1 0 ∷ Create 2 0 (Explicit 1) one_job ∷ [])) refl (law 2 refl)

-- the child of the task is done, that of the child is open, and so are those of the implicit tasks
pub wait_for_children : Allows WaitsForTasks child_ended (Waited 0 [])
wait_for_children = search rules

-- a group has ended, and its task is open
pub group_open : Forbids WaitsForTasks (Group 0 0 ∷ Create 1 0 (Implicit 0) one_job ∷ []) (GroupEnd 0 0)
group_open law = open_is_not_done 1 (after (Group 0 0 ∷ Create 1 0 (Implicit 0) one_job ∷ [])) refl (law 1 refl)

-- or the child of its task
pub group_open_child : Forbids WaitsForTasks (Group 0 0 ∷ Create 1 0 (Implicit 0) one_job ∷ Start 1 0 ∷ Create 2 0 (Explicit 1) one_job ∷ Done 1 0 ∷ []) (GroupEnd 0 0)
group_open_child law = open_is_not_done 2 (after (Group 0 0 ∷ Create 1 0 (Implicit 0) one_job ∷ Start 1 0 ∷ Create 2 0 (Explicit 1) one_job ∷ Done 1 0 ∷ [])) refl (law 2 refl)

-- a task that was created before the group is open
pub group_beside : Allows WaitsForTasks (Create 1 0 (Implicit 0) one_job ∷ Group 0 0 ∷ []) (GroupEnd 0 0)
group_beside = search rules

-- Groups

-- a member opens a group by the number of another's
pub group_twice : Forbids OpensOnce (Group 0 0 ∷ []) (Group 0 1)
group_twice law = law 0 (inl refl)

-- by another
pub group_two : Allows OpensOnce (Group 0 0 ∷ []) (Group 1 0)
group_two = search rules

-- a member ends a group that another opened, while it runs the task of that member
pub end_group_of_another : Forbids EndsItsGroup (Start 1 1 ∷ Group 0 1 ∷ Start 1 0 ∷ []) (GroupEnd 0 0)
end_group_of_another law = elim law.0 [ inl e ↦ absurd (cc) | inr (inl e) ↦ absurd (cc) | inr (inr (inl e)) ↦ absurd (cc) | inr (inr (inr never)) ↦ never ]

-- an outer group
pub end_group_outer : Forbids EndsItsGroup (Group 0 0 ∷ Group 1 0 ∷ []) (GroupEnd 0 0)
end_group_outer law = absurd (let last = law.1.1 in cc)

-- a group of the task in which it runs this one
pub end_group_of_the_parent : Forbids EndsItsGroup (Group 0 0 ∷ Create 1 0 (Implicit 0) one_job ∷ Start 1 0 ∷ []) (GroupEnd 0 0)
end_group_of_the_parent law = absurd (let last = law.1.1 in cc)

-- the inner group, then the outer one
pub end_group_inner : Allows EndsItsGroup (Group 0 0 ∷ Group 1 0 ∷ []) (GroupEnd 1 0)
end_group_inner = (inl refl, (0 ∷ [], refl), search rules)

pub end_group_outer_last : Allows EndsItsGroup (Group 0 0 ∷ Group 1 0 ∷ GroupEnd 1 0 ∷ []) (GroupEnd 0 0)
end_group_outer_last = (inr (inr (inl refl)), ([], refl), search rules)

-- Barriers

-- a member passes a barrier, and a task that is bound to it is open
pub pass_open : Forbids PassesAfterTasks (Create 1 0 (Implicit 0) one_job ∷ Arrive 0 0 (at Barrier 0) ∷ []) (Pass 0 0)
pass_open law = open_is_not_done 1 (after (Create 1 0 (Implicit 0) one_job ∷ Arrive 0 0 (at Barrier 0) ∷ [])) refl (law 1 (0, Implicit 0, one_job, inr (inl refl)) (omega arith))

-- or the child of such a task, that was created by a member which has passed more barriers
pub pass_open_child : Forbids PassesAfterTasks (Create 1 0 (Implicit 0) one_job ∷ Pass 0 1 ∷ Create 2 1 (Explicit 1) one_job ∷ Done 1 0 ∷ []) (Pass 0 0)
pass_open_child law = open_is_not_done 2 (after (Create 1 0 (Implicit 0) one_job ∷ Pass 0 1 ∷ Create 2 1 (Explicit 1) one_job ∷ Done 1 0 ∷ [])) refl (law 2 (1, Explicit 1, one_job, inr (inl refl)) (omega arith))

-- tasks that are bound to the next barrier are open
pub pass_with_later_tasks : Allows PassesAfterTasks across_barrier (Pass 0 1)
pass_with_later_tasks t made early = elim made.3 [
  | inl e ↦ let same : 2 ≡ t = cc in absurd (let late = rw (← same) at early in omega (arith, late))
  | inr (inl e) ↦ absurd (cc)
  | inr (inr (inl e)) ↦ let same : 1 ≡ t = cc in absurd (let late = rw (← same) at early in omega (arith, late))
  | inr (inr (inr (inl e))) ↦ absurd (cc)
  | inr (inr (inr (inr (inl e)))) ↦ absurd (cc)
  | inr (inr (inr (inr (inr (inl e))))) ↦ absurd (cc)
  | inr (inr (inr (inr (inr (inr never))))) ↦ absurd never
]

-- a member that has not passed a barrier creates a task after another has
pub create_late : Forbids CreatesLater (Pass 0 0 ∷ []) (Create 1 1 (Implicit 1) one_job)
create_late law = absurd (let past = law 0 0 (inl refl) in omega (arith, past))

-- or creates a child in a task that is bound to it
pub create_child_late : Forbids CreatesLater (Create 1 1 (Implicit 1) one_job ∷ Pass 0 0 ∷ []) (Create 2 0 (Explicit 1) one_job)
create_child_late law = absurd (let past = law 0 0 (inl refl) in omega (arith, past))

-- the one that has passed it creates a task
pub create_past : Allows CreatesLater (Pass 0 0 ∷ []) (Create 1 0 (Implicit 0) one_job)
create_past = search rules

-- and another member a child in it
pub create_child_past : Allows CreatesLater (Pass 0 0 ∷ Create 1 0 (Implicit 0) one_job ∷ []) (Create 2 1 (Explicit 1) one_job)
create_child_past = search rules

-- a member passes the region's end, and a task is open that is bound to a later barrier
pub end_open : Forbids EndsAfterTasks (Arrive 0 0 (at RegionEnd 0) ∷ Pass 0 1 ∷ Create 1 1 (Implicit 1) one_job ∷ []) (Pass 0 0)
end_open law = open_is_not_done 1 (after (Arrive 0 0 (at RegionEnd 0) ∷ Pass 0 1 ∷ Create 1 1 (Implicit 1) one_job ∷ [])) refl (law refl 1 (1, Implicit 1, one_job, inl refl))

-- another barrier is passed, or another member waits at the region's end
pub pass_not_the_end : Allows EndsAfterTasks (Create 1 0 (Implicit 0) one_job ∷ Arrive 0 0 (at Barrier 0) ∷ Arrive 0 1 (at RegionEnd 0) ∷ []) (Pass 0 0)
pass_not_the_end = search rules

-- each task is done
pub end_all_done : Allows EndsAfterTasks (Create 1 0 (Implicit 0) one_job ∷ Arrive 0 0 (at RegionEnd 0) ∷ Start 1 0 ∷ Done 1 0 ∷ []) (Pass 0 0)
end_all_done ended t made = elim made.3 [
  | inl e ↦ absurd (cc)
  | inr (inl e) ↦ absurd (cc)
  | inr (inr (inl e)) ↦ absurd (cc)
  | inr (inr (inr (inl e))) ↦ let same : 1 ≡ t = cc in (0, inl (inl (rw same refl)))
  | inr (inr (inr (inr never))) ↦ absurd never
]

-- The whole list

-- a task that is bound to a barrier is created and done after a member passed it
pub bound_created_late : BoundIsDone (after (Pass 0 0 ∷ Create 1 1 (Implicit 1) one_job ∷ Done 1 0 ∷ [])) → ⊥
bound_created_late law = open_is_not_done 1 [] refl (law (Done 1 0 ∷ Create 1 1 (Implicit 1) one_job ∷ []) [] 0 0 refl 1 (1, Implicit 1, one_job, inr (inl refl)) (omega arith))

-- Each law alone

-- no task of these has items
abbrev pub NoItems : List Event → Type 0
NoItems [] = Unit {0}
NoItems (Create t m p desc ∷ earlier) = (desc.deps ≡ []) × NoItems earlier
NoItems (_ ∷ earlier) = NoItems earlier

-- so none of them waits
no_items_wait : (t q : ℕ) (h : List Event) → NoItems h → waits_for t q h ≡ false
no_items_wait t q [] none = refl
no_items_wait t q (Create task m p desc ∷ earlier) none = elim (cases_Bool (task == t)) [
  | inl same ↦ rw (same, none.0) (and_false (is_child p q earlier) false refl)
  | inr other ↦ rw other (no_items_wait t q earlier none.1)
]
no_items_wait t q (_ ∷ earlier) none = no_items_wait t q earlier none

-- and each may start
pub starts_without_items : (h : List Event) → NoItems h → Always StartsAfterNamed h
starts_without_items [] none = tt
starts_without_items (Start t m ∷ earlier) none = ((λ q waits. absurd (not_both (waits_for t q earlier) waits (no_items_wait t q earlier none))), starts_without_items earlier none)
starts_without_items (Create t m p desc ∷ earlier) none = (tt, starts_without_items earlier none.1)
starts_without_items (_ ∷ earlier) none = (tt, starts_without_items earlier none)

-- a task may be started that was just created
starts_first : (m : ℕ) → StartsOnce (Start 1 m) (Create 1 0 (Implicit 0) one_job ∷ [])
starts_first m = ((0, Implicit 0, one_job, inl refl), search rules, search rules)

-- two tasks have one number
pub created_once_alone : RefusedAlone CreatedOnce (Create 1 0 (Implicit 0) one_job ∷ Create 1 1 (Implicit 1) one_job ∷ [])
created_once_alone = ((λ laws. laws.0 (0, Implicit 0, one_job, inl refl)), others)
  where
    others : (other : TaskLaw) → other ≢ CreatedOnce → law_of other (after (Create 1 0 (Implicit 0) one_job ∷ Create 1 1 (Implicit 1) one_job ∷ []))
    others CreatedOnce differ = absurd (differ refl)
    others _ differ = search rules

-- a task is created in the implicit task of another member
pub created_in_alone : RefusedAlone CreatedIn (Create 1 0 (Implicit 1) one_job ∷ [])
created_in_alone = ((λ laws. create_in_another laws.0), others)
  where
    others : (other : TaskLaw) → other ≢ CreatedIn → law_of other (after (Create 1 0 (Implicit 1) one_job ∷ []))
    others CreatedIn differ = absurd (differ refl)
    others _ differ = search rules

-- a task is started by two members
abbrev started_by_two : List Event
started_by_two = Create 1 0 (Implicit 0) one_job ∷ Start 1 0 ∷ Arrive 0 1 (at Barrier 0) ∷ Start 1 1 ∷ []

pub started_once_alone : RefusedAlone StartedOnce started_by_two
started_once_alone = ((λ laws. laws.0.1 0 (inr (inl refl))), others)
  where
    others : (other : TaskLaw) → other ≢ StartedOnce → law_of other (after started_by_two)
    others StartedOnce differ = absurd (differ refl)
    others AfterNamed differ = starts_without_items (after started_by_two) (search rules)
    others _ differ = search rules

-- one that was not created is started at a barrier
abbrev started_uncreated : List Event
started_uncreated = Create 1 0 (Implicit 0) one_job ∷ Arrive 0 1 (at Barrier 0) ∷ Start 2 1 ∷ []

pub started_created_alone : RefusedAlone StartedOnce started_uncreated
started_created_alone = ((λ laws. elim laws.0.0.3 [ inl e ↦ absurd (cc) | inr (inl e) ↦ absurd (cc) | inr (inr never) ↦ never ]), others)
  where
    others : (other : TaskLaw) → other ≢ StartedOnce → law_of other (after started_uncreated)
    others StartedOnce differ = absurd (differ refl)
    others AfterNamed differ = starts_without_items (after started_uncreated) (search rules)
    others _ differ = search rules

-- a member runs two tasks of one parent at once
abbrev siblings_at_once : List Event
siblings_at_once = Create 1 0 (Implicit 0) one_job ∷ Create 2 0 (Implicit 0) one_job ∷ Start 1 0 ∷ Start 2 0 ∷ []

pub descendants_alone : RefusedAlone Descendants siblings_at_once
descendants_alone = ((λ laws. start_sibling laws.0), others)
  where
    others : (other : TaskLaw) → other ≢ Descendants → law_of other (after siblings_at_once)
    others Descendants differ = absurd (differ refl)
    others AfterNamed differ = starts_without_items (after siblings_at_once) (search rules)
    others StartedOnce differ = (((0, Implicit 0, one_job, inr (inl refl)), search rules, search rules), (((0, Implicit 0, one_job, inr (inl refl)), search rules, search rules), (tt, (tt, tt))))
    others _ differ = search rules

-- it runs a task of another member's, and does not wait at a barrier
abbrev started_away : List Event
started_away = Create 1 0 (Implicit 0) one_job ∷ Start 1 1 ∷ []

pub own_descendants_alone : RefusedAlone Descendants started_away
own_descendants_alone = ((λ laws. start_in_another_tree laws.0), others)
  where
    others : (other : TaskLaw) → other ≢ Descendants → law_of other (after started_away)
    others Descendants differ = absurd (differ refl)
    others AfterNamed differ = starts_without_items (after started_away) (search rules)
    others StartedOnce differ = (starts_first 1, (tt, tt))
    others _ differ = search rules

-- a member ends a task that nobody has started
abbrev ended_unstarted : List Event
ended_unstarted = Create 1 0 (Implicit 0) one_job ∷ Done 1 0 ∷ []

pub ended_own_alone : RefusedAlone EndedOnce ended_unstarted
ended_own_alone = ((λ laws. elim laws.0.0 [ inl e ↦ absurd (cc) | inr never ↦ never ]), others)
  where
    others : (other : TaskLaw) → other ≢ EndedOnce → law_of other (after ended_unstarted)
    others EndedOnce differ = absurd (differ refl)
    others _ differ = search rules

-- it ends a task twice
abbrev ended_again : List Event
ended_again = Create 1 0 (Implicit 0) one_job ∷ Start 1 0 ∷ Done 1 0 ∷ Done 1 0 ∷ []

pub ended_once_alone : RefusedAlone EndedOnce ended_again
ended_once_alone = ((λ laws. end_again laws.0), others)
  where
    others : (other : TaskLaw) → other ≢ EndedOnce → law_of other (after ended_again)
    others EndedOnce differ = absurd (differ refl)
    others AfterNamed differ = starts_without_items (after ended_again) (search rules)
    others StartedOnce differ = (tt, (tt, (starts_first 0, (tt, tt))))
    others _ differ = search rules

-- it ends a task in which it runs another
abbrev ended_outer : List Event
ended_outer = Create 1 0 (Implicit 0) one_job ∷ Start 1 0 ∷ Create 2 0 (Explicit 1) one_job ∷ Start 2 0 ∷ Done 1 0 ∷ []

pub ended_innermost_alone : RefusedAlone EndedOnce ended_outer
ended_innermost_alone = ((λ laws. elim (laws.0.2 2 (inl refl) (search rules)) [ inl e ↦ absurd (omega arith) | inr e ↦ absurd (cc) ]), others)
  where
    others : (other : TaskLaw) → other ≢ EndedOnce → law_of other (after ended_outer)
    others EndedOnce differ = absurd (differ refl)
    others AfterNamed differ = starts_without_items (after ended_outer) (search rules)
    others StartedOnce differ = (tt, (((0, Explicit 1, one_job, inl refl), search rules, search rules), (tt, (starts_first 0, (tt, tt)))))
    others _ differ = search rules

-- a task is started that a cancellation reaches
abbrev started_covered : List Event
started_covered = Create 1 0 (Implicit 0) one_job ∷ Cancel 1 Region ∷ Start 1 0 ∷ []

pub started_uncovered_alone : RefusedAlone StartedUncovered started_covered
started_uncovered_alone = ((λ laws. absurd (let covered = laws.0 in cc)), others)
  where
    others : (other : TaskLaw) → other ≢ StartedUncovered → law_of other (after started_covered)
    others StartedUncovered differ = absurd (differ refl)
    others AfterNamed differ = starts_without_items (after started_covered) (search rules)
    others StartedOnce differ = (((0, Implicit 0, one_job, inr (inl refl)), search rules, search rules), (tt, (tt, tt)))
    others _ differ = search rules

-- or created
pub created_uncovered_alone : RefusedAlone CreatedUncovered (Cancel 1 Region ∷ Create 1 0 (Implicit 0) one_job ∷ [])
created_uncovered_alone = ((λ laws. absurd (let covered = laws.0 in cc)), others)
  where
    others : (other : TaskLaw) → other ≢ CreatedUncovered → law_of other (after (Cancel 1 Region ∷ Create 1 0 (Implicit 0) one_job ∷ []))
    others CreatedUncovered differ = absurd (differ refl)
    others _ differ = search rules

-- a task is discarded that no cancellation reaches
pub discarded_covered_alone : RefusedAlone Discarded (Create 1 0 (Implicit 0) one_job ∷ Cancel 1 (OneGroup 0) ∷ Discard 1 1 ∷ [])
discarded_covered_alone = ((λ laws. absurd (let covered = laws.0.0 in cc)), others)
  where
    others : (other : TaskLaw) → other ≢ Discarded → law_of other (after (Create 1 0 (Implicit 0) one_job ∷ Cancel 1 (OneGroup 0) ∷ Discard 1 1 ∷ []))
    others Discarded differ = absurd (differ refl)
    others _ differ = search rules

-- one that runs
abbrev discarded_running : List Event
discarded_running = Create 1 0 (Implicit 0) one_job ∷ Start 1 0 ∷ Cancel 1 Region ∷ Discard 1 1 ∷ []

pub discarded_running_alone : RefusedAlone Discarded discarded_running
discarded_running_alone = ((λ laws. laws.0.2 0 (inr (inl refl))), others)
  where
    others : (other : TaskLaw) → other ≢ Discarded → law_of other (after discarded_running)
    others Discarded differ = absurd (differ refl)
    others AfterNamed differ = starts_without_items (after discarded_running) (search rules)
    others StartedOnce differ = (tt, (tt, (starts_first 0, (tt, tt))))
    others _ differ = search rules

-- one that was discarded
abbrev discarded_again : List Event
discarded_again = Create 1 0 (Implicit 0) one_job ∷ Cancel 1 Region ∷ Discard 1 1 ∷ Discard 1 1 ∷ []

pub discarded_once_alone : RefusedAlone Discarded discarded_again
discarded_once_alone = ((λ laws. laws.0.3 (1, inr (inl refl))), others)
  where
    others : (other : TaskLaw) → other ≢ Discarded → law_of other (after discarded_again)
    others Discarded differ = absurd (differ refl)
    others _ differ = search rules

-- or one that was not created
pub discarded_created_alone : RefusedAlone Discarded (Cancel 1 Region ∷ Discard 1 1 ∷ [])
discarded_created_alone = ((λ laws. elim laws.0.1.3 [ inl e ↦ absurd (cc) | inr never ↦ never ]), others)
  where
    others : (other : TaskLaw) → other ≢ Discarded → law_of other (after (Cancel 1 Region ∷ Discard 1 1 ∷ []))
    others Discarded differ = absurd (differ refl)
    others _ differ = search rules

-- a task waits, and its child is open
pub waits_alone : RefusedAlone Waits (Create 1 0 (Implicit 0) one_job ∷ Waited 0 [] ∷ [])
waits_alone = ((λ laws. wait_open laws.0), others)
  where
    others : (other : TaskLaw) → other ≢ Waits → law_of other (after (Create 1 0 (Implicit 0) one_job ∷ Waited 0 [] ∷ []))
    others Waits differ = absurd (differ refl)
    others _ differ = search rules

-- a group ends, and its task is open
pub group_waits_alone : RefusedAlone Waits (Group 0 0 ∷ Create 1 0 (Implicit 0) one_job ∷ GroupEnd 0 0 ∷ [])
group_waits_alone = ((λ laws. group_open laws.0), others)
  where
    others : (other : TaskLaw) → other ≢ Waits → law_of other (after (Group 0 0 ∷ Create 1 0 (Implicit 0) one_job ∷ GroupEnd 0 0 ∷ []))
    others Waits differ = absurd (differ refl)
    others GroupsEnded differ = ((inr (inl refl), ([], refl), search rules), search rules)
    others _ differ = search rules

-- two groups have one number
pub opened_once_alone : RefusedAlone OpenedOnce (Group 0 0 ∷ Group 0 1 ∷ [])
opened_once_alone = ((λ laws. group_twice laws.0), others)
  where
    others : (other : TaskLaw) → other ≢ OpenedOnce → law_of other (after (Group 0 0 ∷ Group 0 1 ∷ []))
    others OpenedOnce differ = absurd (differ refl)
    others _ differ = search rules

-- a group ends before one in it
pub groups_ended_alone : RefusedAlone GroupsEnded (Group 0 0 ∷ Group 1 0 ∷ GroupEnd 0 0 ∷ [])
groups_ended_alone = ((λ laws. end_group_outer laws.0), others)
  where
    others : (other : TaskLaw) → other ≢ GroupsEnded → law_of other (after (Group 0 0 ∷ Group 1 0 ∷ GroupEnd 0 0 ∷ []))
    others GroupsEnded differ = absurd (differ refl)
    others _ differ = search rules

-- a barrier is passed, and its task is open
abbrev passed_open : List Event
passed_open = Create 1 0 (Implicit 0) one_job ∷ Arrive 0 0 (at Barrier 0) ∷ Pass 0 0 ∷ []

pub passes_alone : RefusedAlone Passes passed_open
passes_alone = ((λ laws. pass_open laws.0), others)
  where
    others : (other : TaskLaw) → other ≢ Passes → law_of other (after passed_open)
    others Passes differ = absurd (differ refl)
    others _ differ = search rules

-- a task that is bound to a barrier is created after a member passed it
pub later_alone : RefusedAlone Later (Pass 0 0 ∷ Create 1 1 (Implicit 1) one_job ∷ [])
later_alone = ((λ laws. create_late laws.0), others)
  where
    others : (other : TaskLaw) → other ≢ Later → law_of other (after (Pass 0 0 ∷ Create 1 1 (Implicit 1) one_job ∷ []))
    others Later differ = absurd (differ refl)
    others _ differ = search rules

-- a member passes the region's end, and a task is open that is bound to a later barrier
abbrev ended_open : List Event
ended_open = Arrive 0 0 (at RegionEnd 0) ∷ Pass 0 1 ∷ Create 1 1 (Implicit 1) one_job ∷ Pass 0 0 ∷ []

pub at_the_end_alone : RefusedAlone AtTheEnd ended_open
at_the_end_alone = ((λ laws. end_open laws.0), others)
  where
    passes_early : PassesAfterTasks (Pass 0 0) (after (Arrive 0 0 (at RegionEnd 0) ∷ Pass 0 1 ∷ Create 1 1 (Implicit 1) one_job ∷ []))
    passes_early t made early = elim made.3 [
      | inl e ↦ let same : 1 ≡ t = cc in absurd (let late = rw (← same) at early in omega (arith, late))
      | inr (inl e) ↦ absurd (cc)
      | inr (inr (inl e)) ↦ absurd (cc)
      | inr (inr (inr never)) ↦ absurd never
    ]

    others : (other : TaskLaw) → other ≢ AtTheEnd → law_of other (after ended_open)
    others AtTheEnd differ = absurd (differ refl)
    others Passes differ = (passes_early, search rules)
    others _ differ = search rules

-- A region

-- all laws hold of the region of two members, with tasks that one runs for the other, a wait for a child and a group
pub whole_region_keeps_laws : TaskLaws (after whole_region)
whole_region_keeps_laws = tasks_keep 2 (after whole_region) whole_region_keeps_arrival_rule whole_region_keeps_task_rule
