-- Operations in a cancelled team, by examples: for each line of a definition what it says, and what it alone refuses.
use Rattle.std.proofs.Common.{◌≡◌, true, false, List, [], ◌∷◌, None, Some, refl, rules}
use Rattle.std.specs.Prelude.{map}
use Rattle.gomp_types.specs.declared.cancel.CancelKind.{CancelKind}
use Rattle.gomp_types.specs.declared.cancel.Scope.TheVariants.{Region, OneShare, OneGroup}
use Rattle.gomp_types.specs.declared.refusal.Refusal.TheVariants.{Waiting, InsideTask, NotInTask, NoGroup, GroupOpen, Mismatch, TraceFull, NoMemory}
use Rattle.gomp_types.specs.declared.reply.Reply.TheVariants.{Finished, Passed, Wait, Cancelled, Created, Dropped, Cancelling, Refused}
use Rattle.gomp_events.specs.declared.event.Arrival.TheVariants.{Barrier, ShareEnd, RegionEnd}
use Rattle.gomp_events.specs.declared.event.Event.{Event}
use Rattle.gomp_events.specs.declared.event.Event.TheVariants.{Arrive, Start, Group, Cancel as CancelEvent, Discard, See}
use Rattle.gomp_events.specs.EventLists.{at}
use Rattle.gomp_board.specs.declared.op.Op.TheVariants.{Create as CreateTask, AwaitOwn, EndTask, OpenGroup, Arrive as ArriveAt, AwaitBarrier, Cancel, Point}
use Rattle.gomp_board.specs.declared.op.TeamCancel.TheVariants.{Parallel, Taskgroup}
use Rattle.gomp_board.specs.Ops.{named_kind, op_asks, keeps_room, goes_to_the_end, op_drops, op_may_lack, op_begins, op_after, op_refusal}
use Rattle.gomp_board.specs.Stored.{is_stored, IsNotStored}
use Rattle.gomp_board.specs.Boards.{op_room_after}
use Rattle.gomp_board.specs.Examples.{seven, creates_root, creates_in, one_ready, one_runs, group_empty, group_ready, first_waits, limits_of, usual_refusal, Allows, Excludes, ExcludesEach}

-- Lists of events, the newest first

-- the other member cancels the region at once, and while the first waits at a barrier; then the first arrives at the region's end
abbrev cancelled_at_first : List Event
cancelled_at_first = CancelEvent 1 Region ∷ []

abbrev cancelled_waits : List Event
cancelled_waits = CancelEvent 1 Region ∷ first_waits

abbrev cancelled_ends : List Event
cancelled_ends = Arrive 0 0 (at RegionEnd 0) ∷ cancelled_waits

-- the first member runs task 1 of its group, in which it has created task 2
abbrev runs_in_group : List Event
runs_in_group = creates_root 2 ∷ Start 1 0 ∷ group_ready

-- three tasks of which the second runs
abbrev second_runs : List Event
second_runs = creates_root 3 ∷ Start 2 1 ∷ creates_root 2 ∷ one_ready

-- Constructs

-- what they name
pub named_constructs : (named_kind Parallel ≡ CancelKind.Parallel) × (named_kind Taskgroup ≡ CancelKind.Taskgroup)
named_constructs = (refl, refl)

-- a cancel construct asks for room, a cancellation point for none
pub constructs_ask : map (λ op. op_asks op 2) (Cancel Parallel true true ∷ Cancel Taskgroup false true ∷ Point Parallel true ∷ Point Taskgroup true ∷ []) ≡ 1 ∷ 1 ∷ 0 ∷ 0 ∷ []
constructs_ask = refl

-- it keeps that if it cancels
pub constructs_keep_room :
    map (keeps_room (Cancel Parallel true true)) (Cancelling true ∷ Cancelling false ∷ []) ≡ true ∷ false ∷ []
constructs_keep_room = refl

pub false_clauses_keep_none : map (keeps_room (Cancel Parallel false true)) (Cancelling true ∷ Cancelling false ∷ []) ≡ false ∷ false ∷ []
false_clauses_keep_none = refl

-- a task that is dropped keeps none, one that is created does
pub creations_keep_room : (map (keeps_room (CreateTask seven)) (Dropped ∷ Created 1 ∷ Wait ∷ []) ≡ false ∷ true ∷ true ∷ []) × (keeps_room OpenGroup Finished ≡ true) × (keeps_room AwaitOwn Dropped ≡ true)
creations_keep_room = (refl, refl, refl)

pub room_afterwards : (op_room_after (CreateTask seven) 0 Dropped 5 ≡ 5) × (op_room_after (CreateTask seven) 0 (Created 1) 5 ≡ 8) × (op_room_after (Cancel Parallel true true) 0 (Cancelling true) 5 ≡ 6) × (op_room_after (Cancel Parallel true false) 0 (Cancelling false) 5 ≡ 5)
room_afterwards = (refl, refl, refl, refl)

-- Barriers

-- a member goes on to the region's end from wherever it waits, and waits there
pub cut_short_in_a_cancelled_region : map (goes_to_the_end 0) (first_waits ∷ cancelled_waits ∷ cancelled_ends ∷ (CancelEvent 1 (OneGroup 0) ∷ first_waits) ∷ []) ≡ false ∷ true ∷ false ∷ false ∷ []
cut_short_in_a_cancelled_region = refl

pub busy_at_the_end_alone : map (λ h. usual_refusal AwaitOwn h) (first_waits ∷ cancelled_waits ∷ cancelled_ends ∷ []) ≡ Some Waiting ∷ None ∷ Some Waiting ∷ []
busy_at_the_end_alone = refl

-- it is answered at once that the region is cancelled
pub wait_is_cancelled : Allows AwaitBarrier cancelled_waits Cancelled
wait_is_cancelled = (refl, refl)

pub wrong_at_cancelled_wait : ExcludesEach AwaitBarrier cancelled_waits (Passed ∷ Wait ∷ Finished ∷ [])
wrong_at_cancelled_wait = search rules

pub arrival_is_cancelled : Allows (ArriveAt (at Barrier 0) false) cancelled_at_first Cancelled × Allows (ArriveAt (at ShareEnd 0) false) cancelled_at_first Cancelled
arrival_is_cancelled = ((refl, refl), (refl, refl))

pub wrong_at_cancelled_arrival : ExcludesEach (ArriveAt (at Barrier 0) false) cancelled_at_first (Passed ∷ Wait ∷ Finished ∷ [])
wrong_at_cancelled_arrival = search rules

-- at the region's end it is not, but waits for the others
pub waits_at_the_end : Allows (ArriveAt (at RegionEnd 0) false) cancelled_waits Wait × Allows AwaitBarrier cancelled_ends Wait
waits_at_the_end = search rules

pub wrong_at_the_end : Excludes (ArriveAt (at RegionEnd 0) false) cancelled_waits Cancelled × Excludes AwaitBarrier cancelled_ends Cancelled × Excludes AwaitBarrier cancelled_ends Passed
wrong_at_the_end = search rules

-- no arrival comes to the events but that at the end
pub cancelled_arrivals_begin_nothing : (op_begins 0 (ArriveAt (at Barrier 0) false) cancelled_at_first ≡ []) × (op_begins 0 (ArriveAt (at RegionEnd 0) false) cancelled_at_first ≡ Arrive 0 0 (at RegionEnd 0) ∷ []) × (op_begins 0 (ArriveAt (at Barrier 0) false) [] ≡ Arrive 0 0 (at Barrier 0) ∷ [])
cancelled_arrivals_begin_nothing = (refl, refl, refl)

-- nor is it compared with those of the others
pub not_compared_when_cancelled : (usual_refusal (ArriveAt (at RegionEnd 0) false) (CancelEvent 1 Region ∷ Arrive 0 1 (at Barrier 0) ∷ []) ≡ None) × (usual_refusal (ArriveAt (at RegionEnd 0) false) (Arrive 0 1 (at Barrier 0) ∷ []) ≡ Some Mismatch)
not_compared_when_cancelled = (refl, refl)

-- Groups that are given up

pub ends_with_groups_given_up : map (λ op. usual_refusal op group_empty) (ArriveAt (at RegionEnd 0) true ∷ ArriveAt (at RegionEnd 0) false ∷ ArriveAt (at Barrier 0) true ∷ []) ≡ None ∷ Some GroupOpen ∷ None ∷ []
ends_with_groups_given_up = refl

pub task_ends_with_groups_given_up : (map (λ op. usual_refusal op (Group 0 0 ∷ one_runs)) (EndTask true ∷ EndTask false ∷ []) ≡ None ∷ Some GroupOpen ∷ []) × (usual_refusal (EndTask true) one_ready ≡ Some NotInTask)
task_ends_with_groups_given_up = (refl, refl)

-- Creations

-- a task that would be reached is dropped, whatever room there is
pub dropped_in_a_cancelled_region : Allows (CreateTask seven) cancelled_at_first Dropped × Allows AwaitOwn cancelled_at_first Dropped
dropped_in_a_cancelled_region = ((refl, refl), (refl, refl))

pub wrong_when_dropped : ExcludesEach (CreateTask seven) cancelled_at_first (Created 1 ∷ Wait ∷ Refused NoMemory ∷ Refused TraceFull ∷ []) × ExcludesEach AwaitOwn cancelled_at_first (Created 0 ∷ Wait ∷ [])
wrong_when_dropped = search rules

pub dropped_without_room : (op_refusal (limits_of 64 5) 5 0 0 (CreateTask seven) cancelled_at_first ≡ None) × (op_refusal (limits_of 64 5) 5 0 0 (CreateTask seven) [] ≡ Some TraceFull)
dropped_without_room = (refl, refl)

-- no other is
pub not_dropped : Excludes (CreateTask seven) [] Dropped × Excludes AwaitOwn one_ready Dropped × Excludes (CreateTask seven) (CancelEvent 1 (OneShare 0) ∷ []) Dropped
not_dropped = search rules

-- one in a cancelled group is
pub dropped_in_a_group : Allows (CreateTask seven) (CancelEvent 1 (OneGroup 0) ∷ group_empty) Dropped
dropped_in_a_group = (refl, refl)

pub drops_by_covering : (map (op_drops (CreateTask seven) 0) ([] ∷ cancelled_at_first ∷ (CancelEvent 1 (OneGroup 0) ∷ group_empty) ∷ []) ≡ false ∷ true ∷ true ∷ []) × (op_drops OpenGroup 0 cancelled_at_first ≡ false)
drops_by_covering = (refl, refl)

pub memory_unless_dropped : (map (op_may_lack (CreateTask seven) 0 0) ([] ∷ cancelled_at_first ∷ []) ≡ true ∷ false ∷ []) × (op_may_lack (Cancel Parallel true true) 0 0 [] ≡ true) × (op_may_lack (Point Parallel true) 0 0 [] ≡ false)
memory_unless_dropped = (refl, refl, refl)

-- and gives no event
pub dropped_begins_nothing : (op_begins 0 (CreateTask seven) cancelled_at_first ≡ []) × (op_begins 0 (CreateTask seven) [] ≡ creates_root 1 ∷ [])
dropped_begins_nothing = (refl, refl)

-- Cancellation

-- a true clause cancels, if that is allowed
pub allows_cancel_of_region : Allows (Cancel Parallel true true) [] (Cancelling true) × Allows (Cancel Parallel true false) [] (Cancelling false) × Allows (Cancel Parallel false true) [] (Cancelling false) × Allows (Cancel Parallel false true) cancelled_at_first (Cancelling true)
allows_cancel_of_region = ((refl, refl), (refl, refl), (refl, refl), (refl, refl))

pub wrong_at_a_cancel : Excludes (Cancel Parallel true true) [] (Cancelling false) × Excludes (Cancel Parallel true false) [] (Cancelling true) × Excludes (Cancel Parallel false true) [] (Cancelling true) × Excludes (Cancel Parallel false true) cancelled_at_first (Cancelling false)
wrong_at_a_cancel = search rules

-- a point tells of it
pub points_tell : Allows (Point Parallel true) cancelled_at_first (Cancelling true) × Allows (Point Parallel true) [] (Cancelling false) × Allows (Point Parallel false) cancelled_at_first (Cancelling false)
points_tell = ((refl, refl), (refl, refl), (refl, refl))

pub wrong_at_a_point : Excludes (Point Parallel true) cancelled_at_first (Cancelling false) × Excludes (Point Parallel true) [] (Cancelling true) × Excludes (Point Parallel true) [] (Refused NoMemory)
wrong_at_a_point = search rules

-- where a construct may stand
pub regions_are_cancelled_outside_tasks : map (λ op. usual_refusal op one_runs) (Cancel Parallel true true ∷ Point Parallel true ∷ Cancel Taskgroup true true ∷ []) ≡ Some InsideTask ∷ Some InsideTask ∷ Some NoGroup ∷ []
regions_are_cancelled_outside_tasks = refl

pub groups_are_cancelled_in_tasks : (map (usual_refusal (Cancel Taskgroup true true)) ([] ∷ (Start 1 0 ∷ group_ready) ∷ (Group 1 0 ∷ Start 1 0 ∷ group_ready) ∷ []) ≡ Some NotInTask ∷ None ∷ Some GroupOpen ∷ []) × (usual_refusal (Point Taskgroup true) group_empty ≡ Some NotInTask)
groups_are_cancelled_in_tasks = (refl, refl)

pub cancels_without_room : (op_refusal (limits_of 64 5) 5 0 0 (Cancel Parallel true true) [] ≡ Some TraceFull) × (op_refusal (limits_of 64 5) 5 0 0 (Point Parallel true) [] ≡ None)
cancels_without_room = (refl, refl)

-- the tasks that nobody has started are discarded in the order of their numbers, and one that runs is not
pub discards_after_a_cancel : op_after 0 (Cancel Parallel true true) (Cancelling true) second_runs ≡ Discard 3 0 ∷ Discard 1 0 ∷ CancelEvent 0 Region ∷ second_runs
discards_after_a_cancel = refl

-- those of the group alone
pub discards_of_a_group : op_after 0 (Cancel Taskgroup true true) (Cancelling true) (Start 2 0 ∷ creates_root 2 ∷ Group 0 0 ∷ one_ready) ≡ CancelEvent 0 (OneGroup 0) ∷ Start 2 0 ∷ creates_root 2 ∷ Group 0 0 ∷ one_ready
discards_of_a_group = refl

pub discards_in_a_group : op_after 0 (Cancel Taskgroup true true) (Cancelling true) (creates_in 1 2 ∷ Start 1 0 ∷ group_ready) ≡ Discard 2 0 ∷ CancelEvent 0 (OneGroup 0) ∷ creates_in 1 2 ∷ Start 1 0 ∷ group_ready
discards_in_a_group = refl

-- a false clause gives nothing, nor one that is not allowed, nor a point
pub nothing_after_these : (op_after 0 (Cancel Parallel false true) (Cancelling true) second_runs ≡ second_runs) × (op_after 0 (Cancel Parallel true false) (Cancelling false) second_runs ≡ second_runs) × (op_after 0 (Point Parallel true) (Cancelling true) second_runs ≡ second_runs)
nothing_after_these = (refl, refl, refl)

-- Stored events

pub cancels_are_stored : (is_stored (CancelEvent 0 Region) ≡ true) × (is_stored (CancelEvent 0 (OneGroup 1)) ≡ true) × (is_stored (Discard 1 0) ≡ true)
cancels_are_stored = (refl, refl, refl)

pub share_cancels_are_not_stored : (is_stored (CancelEvent 0 (OneShare 1)) ≡ false) × ((kind : CancelKind) → is_stored (See 0 kind) ≡ false)
share_cancels_are_not_stored = (refl, λ kind. refl)

pub cancels_are_not_aside : (IsNotStored (CancelEvent 0 Region) → ⊥) × (IsNotStored (CancelEvent 0 (OneGroup 1)) → ⊥) × (IsNotStored (Discard 1 0) → ⊥)
cancels_are_not_aside = (λ is. is, λ is. is, λ is. is)

pub share_cancels_change_no_board : (kind : CancelKind) → IsNotStored (CancelEvent 0 (OneShare 1)) × IsNotStored (See 0 kind)
share_cancels_change_no_board kind = (tt, tt)
