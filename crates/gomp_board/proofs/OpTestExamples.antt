-- What each operation is tested for, what room it asks for, and which events it gives: each line of a definition by an example that it alone decides.
use Rattle.std.proofs.Common.{◌≡◌, true, false, List, [], ◌∷◌, ◌++◌, Some, None, refl}
use Rattle.std.specs.Prelude.{map}
use Rattle.gomp_types.specs.declared.task.Task.TheVariants.{Explicit}
use Rattle.gomp_types.specs.declared.refusal.Place.TheVariants.{Share, Barrier as AtBarrier, Stopped as AtStop}
use Rattle.gomp_types.specs.declared.refusal.Refusal.TheVariants.{Ended, Broken, Waiting, InsideTask, NotInTask, NotInside, NoGroup, GroupOpen, TooDeep, TooManyTasks, Mismatch, TraceFull, NoMemory}
use Rattle.gomp_types.specs.declared.reply.Reply.TheVariants.{Finished, Passed, Wait, Created, Run, TaskDone, Stopped, Refused}
use Rattle.gomp_events.specs.declared.event.Arrival.TheVariants.{Barrier, ShareEnd, RegionEnd}
use Rattle.gomp_events.specs.declared.event.Event.TheVariants.{Put, Got, Arrive, Pass, Create, Start, Done, Group, GroupEnd, Waited, Break}
use Rattle.gomp_events.specs.EventLists.{at}
use Rattle.gomp_board.specs.declared.op.Op.{Op}
use Rattle.gomp_board.specs.declared.op.Op.TheVariants.{Create as CreateTask, AwaitOwn, EndTask, AwaitChildren, OpenGroup, EndGroup, AwaitGroup, Arrive as ArriveAt, AwaitBarrier, Reserve, Put as PutWords, Got as GiveWords, Break as BreakAt}
use Rattle.gomp_board.specs.Ops.{arrival_asks, words_ask, op_asks, arrival_keeps, words_keep, op_keeps, awaits_barrier, is_stop, op_refusal, op_begins, begun, op_after, op_may_lack, goes_on_waiting}
use Rattle.gomp_board.specs.Examples.{seven, eight, creates_root, one_ready, one_runs, one_done, nested, group_empty, group_ready, first_waits, both_wait, runs_there, second_ends, both_end, first_left, stopped, limits_of, usual_refusal, words}

-- Room

-- an arrival asks for two, save at the region's end and at the end of a share that has kept them
pub arrivals_ask :
    (map (arrival_asks Barrier) (0 ∷ 2 ∷ []) ≡ 2 ∷ 2 ∷ []) × (map (arrival_asks ShareEnd) (0 ∷ 1 ∷ 2 ∷ 5 ∷ []) ≡ 2 ∷ 2 ∷ 0 ∷ 0 ∷ []) × (map (arrival_asks RegionEnd) (0 ∷ 2 ∷ []) ≡ 0 ∷ 0 ∷ [])
arrivals_ask = (refl, refl, refl)

-- words ask for one, unless their member has kept it
pub words_ask_for_room : map words_ask (0 ∷ 1 ∷ 2 ∷ []) ≡ 1 ∷ 0 ∷ 0 ∷ []
words_ask_for_room = refl

-- when they are put, and when they are given to a member
pub words_ask_alike : (map (op_asks (PutWords 3 words)) (0 ∷ 1 ∷ []) ≡ 1 ∷ 0 ∷ []) × (map (op_asks (GiveWords 3 words)) (0 ∷ 1 ∷ []) ≡ 1 ∷ 0 ∷ [])
words_ask_alike = (refl, refl)

-- each operation asks for so much if its member has kept two
pub operations_ask :
    map (λ op. op_asks op 2)
    (CreateTask seven ∷ EndTask false ∷ AwaitChildren [] ∷ OpenGroup ∷ EndGroup ∷ ArriveAt (at Barrier 0) false ∷ ArriveAt (at ShareEnd 0) false ∷ ArriveAt (at RegionEnd 0) false ∷ AwaitBarrier ∷ Reserve 0 ∷ Reserve 4 ∷ PutWords 3 words ∷ GiveWords 3 words ∷ BreakAt AtStop 0 ∷ AwaitGroup ∷ AwaitOwn ∷ [])
    ≡ 3 ∷ 0 ∷ 0 ∷ 2 ∷ 0 ∷ 2 ∷ 0 ∷ 0 ∷ 0 ∷ 0 ∷ 4 ∷ 0 ∷ 0 ∷ 0 ∷ 0 ∷ 0 ∷ []
operations_ask = refl

-- so for memory: those that ask for room
pub operations_take_memory :
    map (λ op. op_may_lack op 1 0 [])
    (CreateTask seven ∷ EndTask false ∷ AwaitChildren [] ∷ OpenGroup ∷ EndGroup ∷ ArriveAt (at Barrier 0) false ∷ ArriveAt (at ShareEnd 0) false ∷ ArriveAt (at RegionEnd 0) false ∷ AwaitBarrier ∷ Reserve 0 ∷ Reserve 4 ∷ PutWords 3 words ∷ GiveWords 3 words ∷ BreakAt AtStop 0 ∷ AwaitGroup ∷ AwaitOwn ∷ [])
    ≡ true ∷ false ∷ false ∷ true ∷ false ∷ true ∷ true ∷ false ∷ false ∷ false ∷ true ∷ false ∷ false ∷ false ∷ false ∷ false ∷ []
operations_take_memory = refl

-- words do if none is kept
pub words_take_memory : map (λ op. op_may_lack op 0 0 []) (PutWords 3 words ∷ GiveWords 3 words ∷ []) ≡ true ∷ true ∷ []
words_take_memory = refl

-- the end of a share uses two of what was kept, if there is so much
pub arrivals_keep_room :
    (map (arrival_keeps ShareEnd) (0 ∷ 1 ∷ 2 ∷ 5 ∷ []) ≡ 0 ∷ 1 ∷ 0 ∷ 3 ∷ []) × (map (arrival_keeps Barrier) (0 ∷ 2 ∷ 5 ∷ []) ≡ 0 ∷ 2 ∷ 5 ∷ []) × (map (arrival_keeps RegionEnd) (0 ∷ 2 ∷ 5 ∷ []) ≡ 0 ∷ 2 ∷ 5 ∷ [])
arrivals_keep_room = (refl, refl, refl)

-- words use one
pub words_keep_room : map words_keep (0 ∷ 1 ∷ 2 ∷ 5 ∷ []) ≡ 0 ∷ 0 ∷ 1 ∷ 4 ∷ []
words_keep_room = refl

-- a member keeps more after it has reserved it
pub operations_keep_room :
    map (λ op. op_keeps op 3)
    (CreateTask seven ∷ EndTask false ∷ AwaitChildren [] ∷ OpenGroup ∷ EndGroup ∷ ArriveAt (at Barrier 0) false ∷ ArriveAt (at ShareEnd 0) false ∷ ArriveAt (at RegionEnd 0) false ∷ AwaitBarrier ∷ Reserve 4 ∷ PutWords 3 words ∷ GiveWords 3 words ∷ BreakAt AtStop 0 ∷ AwaitGroup ∷ AwaitOwn ∷ [])
    ≡ 3 ∷ 3 ∷ 3 ∷ 3 ∷ 3 ∷ 3 ∷ 1 ∷ 3 ∷ 3 ∷ 7 ∷ 2 ∷ 2 ∷ 3 ∷ 3 ∷ 3 ∷ []
operations_keep_room = refl

-- Tests of every operation

abbrev all_operations : List Op
all_operations = CreateTask seven ∷ EndTask false ∷ AwaitChildren [] ∷ OpenGroup ∷ EndGroup ∷ AwaitGroup ∷ ArriveAt (at Barrier 0) false ∷ AwaitBarrier ∷ Reserve 4 ∷ PutWords 3 words ∷ GiveWords 3 words ∷ BreakAt AtStop 0 ∷ AwaitOwn ∷ []

-- a member that has left the region
pub refused_after_the_region :
    map (λ op. usual_refusal op first_left) all_operations
    ≡ Some Ended ∷ Some Ended ∷ Some Ended ∷ Some Ended ∷ Some Ended ∷ Some Ended ∷ Some Ended ∷ Some Ended ∷ Some Ended ∷ Some Ended ∷ Some Ended ∷ Some Ended ∷ Some Ended ∷ []
refused_after_the_region = refl

-- a team that is broken, by its first break
pub refused_in_a_broken_team :
    map (λ op. usual_refusal op (Break 0 (Share 3) ∷ stopped)) (CreateTask seven ∷ EndGroup ∷ BreakAt AtStop 0 ∷ [])
    ≡ Some (Broken (record { member = 1; place = AtStop })) ∷ Some (Broken (record { member = 1; place = AtStop })) ∷ Some (Broken (record { member = 1; place = AtStop })) ∷ []
refused_in_a_broken_team = refl

pub each_refused_in_a_broken_team :
    map (λ op. usual_refusal op stopped) (EndTask false ∷ AwaitOwn ∷ AwaitChildren [] ∷ OpenGroup ∷ AwaitGroup ∷ ArriveAt (at Barrier 0) false ∷ AwaitBarrier ∷ Reserve 4 ∷ PutWords 3 words ∷ GiveWords 3 words ∷ [])
    ≡ map (λ op. Some (Broken (record { member = 1; place = AtStop }))) (EndTask false ∷ AwaitOwn ∷ AwaitChildren [] ∷ OpenGroup ∷ AwaitGroup ∷ ArriveAt (at Barrier 0) false ∷ AwaitBarrier ∷ Reserve 4 ∷ PutWords 3 words ∷ GiveWords 3 words ∷ [])
each_refused_in_a_broken_team = refl

-- a member that has left is told so, in a broken team too
pub left_before_broken : usual_refusal (EndTask false) (stopped ++ first_left) ≡ Some Ended
left_before_broken = refl

-- Waiting

-- a member waits from its arrival to its pass, whatever others do, and not while it executes a task there
pub waiting_members :
    (map (awaits_barrier 0) ([] ∷ first_waits ∷ both_wait ∷ (Pass 0 0 ∷ both_wait) ∷ runs_there ∷ (Done 1 0 ∷ runs_there) ∷ []) ≡ false ∷ true ∷ true ∷ false ∷ false ∷ true ∷ [])
    × (map (awaits_barrier 1) (first_waits ∷ both_wait ∷ []) ≡ false ∷ true ∷ [])
waiting_members = (refl, refl)

-- then only its wait and a stop are let in
pub refused_while_waiting :
    map (λ op. usual_refusal op first_waits) all_operations
    ≡ Some Waiting ∷ Some Waiting ∷ Some Waiting ∷ Some Waiting ∷ Some Waiting ∷ Some Waiting ∷ Some Waiting ∷ None ∷ Some Waiting ∷ Some Waiting ∷ Some Waiting ∷ None ∷ Some Waiting ∷ []
refused_while_waiting = refl

-- in a task at a barrier what is refused in any task, and else only the wait there
pub let_in_at_a_barrier :
    map (λ op. usual_refusal op runs_there) all_operations
    ≡ None ∷ None ∷ None ∷ None ∷ Some NoGroup ∷ None ∷ Some InsideTask ∷ Some NotInside ∷ Some InsideTask ∷ Some InsideTask ∷ None ∷ None ∷ None ∷ []
let_in_at_a_barrier = refl

-- elsewhere what the operation itself is tested for
pub let_in_at_first :
    map (λ op. usual_refusal op []) all_operations
    ≡ None ∷ Some NotInTask ∷ None ∷ None ∷ Some NoGroup ∷ None ∷ None ∷ Some NotInside ∷ None ∷ None ∷ None ∷ None ∷ None ∷ []
let_in_at_first = refl

-- Tests of one operation

-- a task at depth 65, and one at depth 64
pub refused_too_deep : (usual_refusal (CreateTask seven) (nested 64) ≡ Some TooDeep) × (op_refusal (limits_of 64 100) 5 0 0 (CreateTask seven) (nested 63) ≡ None)
refused_too_deep = (refl, refl)

-- one more than the limit on tasks
pub refused_too_many : map (λ limit. op_refusal (limits_of limit 100) 5 0 0 (CreateTask seven) one_done) (0 ∷ 1 ∷ 2 ∷ []) ≡ Some TooManyTasks ∷ Some TooManyTasks ∷ None ∷ []
refused_too_many = refl

-- a task for whose events there is no room
pub refused_task_without_room : map (λ limit. op_refusal (limits_of 64 limit) 5 0 0 (CreateTask seven) []) (4 ∷ 7 ∷ 8 ∷ []) ≡ Some TraceFull ∷ Some TraceFull ∷ None ∷ []
refused_task_without_room = refl

-- of these three the depth is named first, and the room last
pub task_refused_by_the_least :
    map (λ h. op_refusal (limits_of 1 5) 5 0 0 (CreateTask seven) h) (nested 64 ∷ one_done ∷ [] ∷ []) ≡ Some TooDeep ∷ Some TooManyTasks ∷ Some TraceFull ∷ []
task_refused_by_the_least = refl

-- the end of a task by a member that executes none, and one that leaves a group open
pub refused_task_ends :
    map (usual_refusal (EndTask false)) (one_ready ∷ (Start 1 1 ∷ one_ready) ∷ one_runs ∷ (Group 0 0 ∷ one_runs) ∷ (GroupEnd 0 0 ∷ Group 0 0 ∷ one_runs) ∷ [])
    ≡ Some NotInTask ∷ Some NotInTask ∷ None ∷ Some GroupOpen ∷ None ∷ []
refused_task_ends = refl

-- a group of another task does not count
pub task_ends_in_a_group : usual_refusal (EndTask false) (Start 1 0 ∷ creates_root 1 ∷ group_empty) ≡ None
task_ends_in_a_group = refl

-- a group for whose events there is no room
pub refused_group_without_room : map (λ limit. op_refusal (limits_of 64 limit) 5 0 0 OpenGroup []) (4 ∷ 6 ∷ 7 ∷ []) ≡ Some TraceFull ∷ Some TraceFull ∷ None ∷ []
refused_group_without_room = refl

-- the end of a group by a member whose task has opened none
pub refused_group_ends :
    map (usual_refusal EndGroup) (group_empty ∷ (Group 0 1 ∷ []) ∷ (Start 1 0 ∷ group_ready) ∷ (GroupEnd 0 0 ∷ group_empty) ∷ []) ≡ None ∷ Some NoGroup ∷ Some NoGroup ∷ Some NoGroup ∷ []
refused_group_ends = refl

-- an arrival in a task
pub refused_arrivals_in_tasks : map (λ kind. usual_refusal (ArriveAt (at kind 0) false) one_runs) (Barrier ∷ ShareEnd ∷ RegionEnd ∷ []) ≡ Some InsideTask ∷ Some InsideTask ∷ Some InsideTask ∷ []
refused_arrivals_in_tasks = refl

-- at the region's end with a group open; at a barrier one may be
pub refused_arrivals_in_groups : map (λ kind. usual_refusal (ArriveAt (at kind 0) false) group_empty) (Barrier ∷ ShareEnd ∷ RegionEnd ∷ []) ≡ None ∷ None ∷ Some GroupOpen ∷ []
refused_arrivals_in_groups = refl

-- one with another tag than that of the others
pub refused_differing_arrivals :
    map (λ tag. usual_refusal (ArriveAt tag false) second_ends) (at RegionEnd 0 ∷ at Barrier 0 ∷ at ShareEnd 0 ∷ at RegionEnd 1 ∷ []) ≡ None ∷ Some Mismatch ∷ Some Mismatch ∷ Some Mismatch ∷ []
refused_differing_arrivals = refl

-- which is compared at the member's next barrier alone
pub compared_at_its_barrier : usual_refusal (ArriveAt (at RegionEnd 0) false) (Pass 0 0 ∷ both_wait) ≡ None
compared_at_its_barrier = refl

-- one for which there is no room, save at the region's end and at a share's end with room kept
pub refused_arrivals_without_room :
    (map (λ limit. op_refusal (limits_of 64 limit) 5 0 0 (ArriveAt (at Barrier 0) false) []) (6 ∷ 7 ∷ []) ≡ Some TraceFull ∷ None ∷ [])
    × (map (λ kept. op_refusal (limits_of 64 6) 5 kept 0 (ArriveAt (at ShareEnd 0) false) []) (0 ∷ 1 ∷ 2 ∷ []) ≡ Some TraceFull ∷ Some TraceFull ∷ None ∷ [])
    × (op_refusal (limits_of 64 0) 5 0 0 (ArriveAt (at RegionEnd 0) false) [] ≡ None)
refused_arrivals_without_room = (refl, refl, refl)

-- of these the tag is named before the room
pub arrival_refused_by_the_least : op_refusal (limits_of 64 0) 5 0 0 (ArriveAt (at Barrier 0) false) second_ends ≡ Some Mismatch
arrival_refused_by_the_least = refl

-- room that is kept in a task, and too much of it; none can always be
pub refused_reserves :
    (map (λ more. op_refusal (limits_of 64 7) 5 0 0 (Reserve more) []) (0 ∷ 2 ∷ 3 ∷ []) ≡ None ∷ None ∷ Some TraceFull ∷ []) × (usual_refusal (Reserve 0) one_runs ≡ Some InsideTask)
    × (op_refusal (limits_of 64 0) 5 0 0 (Reserve 0) [] ≡ None)
refused_reserves = (refl, refl, refl)

-- words that are put in a task, and words for which there is no room; none is asked for if it was kept
pub refused_puts :
    (map (λ limit. op_refusal (limits_of 64 limit) 5 0 0 (PutWords 3 words) []) (5 ∷ 6 ∷ []) ≡ Some TraceFull ∷ None ∷ []) × (op_refusal (limits_of 64 0) 5 1 0 (PutWords 3 words) [] ≡ None)
    × (usual_refusal (PutWords 3 words) one_runs ≡ Some InsideTask)
refused_puts = (refl, refl, refl)

pub refused_gifts :
    (map (λ limit. op_refusal (limits_of 64 limit) 5 0 0 (GiveWords 3 words) []) (5 ∷ 6 ∷ []) ≡ Some TraceFull ∷ None ∷ []) × (op_refusal (limits_of 64 0) 5 1 0 (GiveWords 3 words) [] ≡ None)
    × (usual_refusal (GiveWords 3 words) one_runs ≡ None)
refused_gifts = (refl, refl, refl)

-- of these the task is named before the room
pub words_refused_by_the_least : map (λ op. op_refusal (limits_of 64 0) 5 0 0 op one_runs) (PutWords 3 words ∷ GiveWords 3 words ∷ []) ≡ Some InsideTask ∷ Some TraceFull ∷ []
words_refused_by_the_least = refl

-- a break that is no stop
pub refused_breaks : map (λ place. usual_refusal (BreakAt place 0) []) (AtStop ∷ Share 2 ∷ AtBarrier 1 ∷ []) ≡ None ∷ Some Mismatch ∷ Some Mismatch ∷ []
refused_breaks = refl

pub stops_alone : map is_stop (AtStop ∷ Share 2 ∷ AtBarrier 1 ∷ []) ≡ true ∷ false ∷ false ∷ []
stops_alone = refl

-- Waits that go on

-- a wait for a creation's own task, for children, for a group's tasks, and at a barrier, and no other operation
pub waits_that_go_on : map goes_on_waiting all_operations ≡ false ∷ false ∷ true ∷ false ∷ true ∷ true ∷ false ∷ true ∷ false ∷ false ∷ false ∷ false ∷ true ∷ []
waits_that_go_on = refl

-- Events

-- a task's creation, an arrival and words come before the reply, and nothing else
pub events_at_the_beginning :
    map (λ op. op_begins 0 op (Pass 0 0 ∷ both_wait)) all_operations
    ≡ (creates_root 1 ∷ []) ∷ [] ∷ [] ∷ [] ∷ [] ∷ [] ∷ (Arrive 1 0 (at Barrier 0) ∷ []) ∷ [] ∷ [] ∷ (Put 3 0 words ∷ []) ∷ (Got 3 0 words ∷ []) ∷ [] ∷ [] ∷ []
events_at_the_beginning = refl

pub begun_is_added : begun 0 (CreateTask eight) one_runs ≡ Create 2 0 (Explicit 1) eight ∷ one_runs
begun_is_added = refl

-- after a creation and its reply
pub after_a_creation : op_after 0 (CreateTask seven) (Created 1) [] ≡ one_ready
after_a_creation = refl

-- after the resume of a creation that runs a task, its own or another, or that waits
pub after_a_resumed_creation :
    map (λ reply. op_after 0 AwaitOwn reply one_ready) (Run 1 7 9 true ∷ Run 1 7 9 false ∷ Wait ∷ []) ≡ one_runs ∷ one_runs ∷ one_ready ∷ []
after_a_resumed_creation = refl

-- after the end of a task
pub after_a_task : op_after 0 (EndTask false) (TaskDone 1 true) one_runs ≡ one_done
after_a_task = refl

-- after a taskwait that is passed, that runs a task, or that waits
pub after_a_taskwait :
    map (λ reply. op_after 0 (AwaitChildren []) reply one_ready) (Passed ∷ Run 1 7 9 false ∷ Wait ∷ []) ≡ (Waited 0 [] ∷ one_ready) ∷ one_runs ∷ one_ready ∷ []
after_a_taskwait = refl

-- after a group was opened, and after its end is passed, runs a task, or waits
pub after_a_group :
    (op_after 0 OpenGroup Finished [] ≡ group_empty) × (op_after 0 OpenGroup Finished group_empty ≡ Group 1 0 ∷ group_empty)
    × (map (λ reply. op_after 0 EndGroup reply (Group 1 0 ∷ group_empty)) (Passed ∷ Run 1 7 9 false ∷ Wait ∷ []) ≡ (GroupEnd 1 0 ∷ Group 1 0 ∷ group_empty) ∷ (Start 1 0 ∷ Group 1 0 ∷ group_empty) ∷ (Group 1 0 ∷ group_empty) ∷ [])
after_a_group = (refl, refl, refl)

-- so after the wait there
pub after_a_group_wait :
    map (λ reply. op_after 0 AwaitGroup reply (Group 1 0 ∷ group_empty)) (Passed ∷ Run 1 7 9 false ∷ Wait ∷ []) ≡ (GroupEnd 1 0 ∷ Group 1 0 ∷ group_empty) ∷ (Start 1 0 ∷ Group 1 0 ∷ group_empty) ∷ (Group 1 0 ∷ group_empty) ∷ []
after_a_group_wait = refl

-- after an arrival that passes at once, runs a task, or waits
pub after_an_arrival :
    map (λ reply. op_after 0 (ArriveAt (at RegionEnd 0) false) reply second_ends) (Passed ∷ Run 1 7 9 false ∷ Wait ∷ []) ≡ first_left ∷ (Start 1 0 ∷ both_end) ∷ both_end ∷ []
after_an_arrival = refl

-- and after the wait there
pub after_a_barrier : map (λ reply. op_after 0 AwaitBarrier reply both_end) (Passed ∷ Run 1 7 9 false ∷ Wait ∷ []) ≡ first_left ∷ (Start 1 0 ∷ both_end) ∷ both_end ∷ []
after_a_barrier = refl

-- room that is kept gives no event
pub after_a_reserve : op_after 0 (Reserve 2) Finished one_ready ≡ one_ready
after_a_reserve = refl

-- words are put by their member, or given to it, and that is all
pub after_words :
    (op_after 1 (PutWords 3 words) Finished one_ready ≡ Put 3 1 words ∷ one_ready) × (op_after 1 (GiveWords 3 words) Finished one_ready ≡ Got 3 1 words ∷ one_ready)
    × (map (λ op. op_after 1 op (Refused NoMemory) one_ready) (PutWords 3 words ∷ GiveWords 3 words ∷ []) ≡ one_ready ∷ one_ready ∷ [])
after_words = (refl, refl, refl)

-- a stop gives a break
pub after_a_stop : op_after 1 (BreakAt AtStop 0) Stopped [] ≡ stopped
after_a_stop = refl

-- a refusal changes nothing
pub after_a_refusal : map (λ refusal. op_after 0 (CreateTask seven) (Refused refusal) one_done) (TooDeep ∷ TraceFull ∷ NoMemory ∷ []) ≡ one_done ∷ one_done ∷ one_done ∷ []
after_a_refusal = refl

-- but for a mismatch, which breaks the team at the member's next barrier, or where the break says
pub after_a_mismatch :
    (op_after 0 (ArriveAt (at Barrier 0) false) (Refused Mismatch) (Pass 0 0 ∷ both_wait) ≡ Break 0 (AtBarrier 1) ∷ Pass 0 0 ∷ both_wait)
    × (op_after 0 (BreakAt (Share 2) 0) (Refused Mismatch) (Pass 0 0 ∷ both_wait) ≡ Break 0 (Share 2) ∷ Pass 0 0 ∷ both_wait)
after_a_mismatch = (refl, refl)
