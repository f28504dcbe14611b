-- Two regions that keep all laws, one with tasks and one that is cancelled: each list has the oldest event first. (own)
use Rattle.std.specs.Prelude.{List, [], ◌∷◌, ◌++◌, false}
use Rattle.gomp_events.specs.declared.event.Arrival.TheVariants.{Barrier, RegionEnd}
use Rattle.gomp_events.specs.declared.event.Event.{Event}
use Rattle.gomp_events.specs.declared.event.Event.TheVariants.{Enter, Take, End, Arrive, Pass, Create, Start, Done, Group, GroupEnd, Waited, Hold, Free, Cancel, Discard, See}
use Rattle.gomp_types.specs.declared.cancel.CancelKind.TheVariants.{Parallel, Loop, Taskgroup}
use Rattle.gomp_types.specs.declared.cancel.Scope.TheVariants.{Region, OneShare, OneGroup}
use Rattle.gomp_types.specs.declared.loop_desc.EndKind.TheVariants.{Cancellable}
use Rattle.gomp_types.specs.declared.shape.Shape.{Shape}
use Rattle.gomp_types.specs.declared.key.Key.TheVariants.{Critical}
use Rattle.gomp_types.specs.declared.task.Task.TheVariants.{Implicit, Explicit}
use Rattle.gomp_types.specs.ExampleShapes.{four}
use Rattle.gomp_events.specs.EventLists.{at}
use Rattle.gomp_events.specs.TaskExamples.{one_job, other_job}

-- A region with tasks

-- a region that keeps all laws: a member waits at a barrier and executes there a task of the other, which holds a critical name for a while; the other
-- has a group with a task, waits for a child, and arrives; both pass, and the region ends
abbrev pub region_with_tasks : List Event
region_with_tasks =
    Create 1 0 (Implicit 0) one_job ∷ Arrive 0 1 (at Barrier 0) ∷ Start 1 1 ∷ Hold (Critical (97 ∷ [])) 1 (Explicit 1) ∷ Free (Critical (97 ∷ [])) 1 (Explicit 1) ∷ Done 1 1
    ∷ Group 0 0 ∷ Create 2 0 (Implicit 0) other_job ∷ Start 2 0 ∷ Done 2 0 ∷ GroupEnd 0 0
    ∷ Create 3 0 (Implicit 0) one_job ∷ Start 3 0 ∷ Done 3 0 ∷ Waited 0 []
    ∷ Arrive 0 0 (at Barrier 0) ∷ Pass 0 0 ∷ Pass 0 1 ∷ Arrive 1 0 (at RegionEnd 0) ∷ Arrive 1 1 (at RegionEnd 0) ∷ Pass 1 0 ∷ Pass 1 1 ∷ []

-- A cancelled region

-- a loop of four iterations in chunks of two that may be cancelled
abbrev pub cancellable_four : Shape
cancellable_four = record (four false) { end_kind = Cancellable }

-- a member of two cancels the loop in which both are, and sees that
abbrev pub loop_cancelled : List Event
loop_cancelled = Enter 0 0 cancellable_four ∷ Take 0 0 0 2 ∷ Enter 0 1 cancellable_four ∷ Cancel 0 (OneShare 0) ∷ See 0 Loop ∷ []

-- it leaves, and the other sees it
abbrev pub loop_cancelled_for_both : List Event
loop_cancelled_for_both = loop_cancelled ++ End 0 0 ∷ See 1 Loop ∷ []

-- which then leaves too, and the first has a group of two tasks
abbrev pub tasks_in_group : List Event
tasks_in_group = loop_cancelled_for_both ++ End 0 1 ∷ Group 0 0 ∷ Create 1 0 (Implicit 0) one_job ∷ Create 2 0 (Implicit 0) one_job ∷ []

-- the second waits at a barrier, and executes one of them there
abbrev pub task_in_group : List Event
task_in_group = tasks_in_group ++ Arrive 0 1 (at Barrier 1) ∷ Start 1 1 ∷ []

-- it cancels the group, of which the other task is discarded, and ends its task
abbrev pub group_cancelled : List Event
group_cancelled = task_in_group ++ Cancel 1 (OneGroup 0) ∷ Discard 2 1 ∷ See 1 Taskgroup ∷ Done 1 1 ∷ []

-- the first ends the group, and creates a task
abbrev pub group_left : List Event
group_left = group_cancelled ++ GroupEnd 0 0 ∷ Create 3 0 (Implicit 0) other_job ∷ []

-- and cancels the region: the task is discarded
abbrev pub all_cancelled : List Event
all_cancelled = group_left ++ Cancel 0 Region ∷ Discard 3 0 ∷ See 0 Parallel ∷ []

-- it arrives at the region's end, and the other sees that the region is cancelled
abbrev pub first_at_end : List Event
first_at_end = all_cancelled ++ Arrive 0 0 (at RegionEnd 1) ∷ See 1 Parallel ∷ []

-- and leaves the barrier for the region's end: both pass
abbrev pub region_with_cancels : List Event
region_with_cancels = first_at_end ++ Arrive 0 1 (at RegionEnd 1) ∷ Pass 0 0 ∷ Pass 0 1 ∷ []
