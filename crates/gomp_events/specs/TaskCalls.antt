-- The calls on tasks and groups: what each is tested for, what it is answered, and which events it gives. OpenMP API 5.2, chapter 12 and sections 15.3 to 15.5.
use Rattle.std.specs.Prelude.{ℕ, ◌+◌, ◌≡◌, nat_le, nat_lt, not, Bool, true, false, List, [], ◌∷◌, ◌++◌, length, Option, Some, None}
use Rattle.std.proofs.Common.{zero, suc}
use Rattle.gomp_types.specs.declared.task.Task.{Task}
use Rattle.gomp_types.specs.declared.task.Task.TheVariants.{Implicit, Explicit}
use Rattle.gomp_types.specs.declared.task.TaskDesc.{TaskDesc}
use Rattle.gomp_types.specs.declared.depend.Dep.{Dep}
use Rattle.gomp_types.specs.declared.limits.TheConstants.{MAX_TASK_DEPTH, MAX_DEPENDS}
use Rattle.gomp_types.specs.declared.limits.Limits.{Limits}
use Rattle.gomp_types.specs.declared.refusal.Refusal.TheVariants.{InsideTask, NotInTask, NoGroup, GroupOpen, TooDeep, TooManyTasks, TooManyDepends, TraceFull}
use Rattle.gomp_types.specs.declared.reply.Reply.{Reply}
use Rattle.gomp_types.specs.declared.reply.Reply.TheVariants.{Finished, Passed, Wait, Created, Run, TaskDone}
use Rattle.gomp_events.specs.declared.room.TheConstants.{ARRIVAL_ROOM}
use Rattle.gomp_events.specs.declared.event.Event.{Event}
use Rattle.gomp_events.specs.declared.event.Event.TheVariants.{Create, Start, Done, Group, GroupEnd, Waited}
use Rattle.gomp_types.specs.Tests.{Test}
use Rattle.gomp_events.specs.Tasks.{tasks_created, executed_task, in_task, depth_of, task_desc, newest_child, is_undeferred}
use Rattle.gomp_events.specs.Groups.{groups_opened, open_groups, group_complete}
use Rattle.gomp_events.specs.Goals.{may_start, is_startable, some_startable, taskwait_met}

-- Tests

-- a call that no explicit task makes
abbrev pub outside_tasks_tests : ℕ → List Event → List Test
outside_tasks_tests m h = (in_task m h, InsideTask) ∷ []

-- whether a list has an element
abbrev pub has_some : List ℕ → Bool
has_some [] = false
has_some (x ∷ xs) = true

-- whether the current task has opened a group that it has not ended
abbrev pub group_is_open : ℕ → List Event → Bool
group_is_open m h = has_some (open_groups (executed_task m h) h)

-- tests that are not made of a member which gives up what they ask about
abbrev pub unless_given_up : Bool → List Test → List Test
unless_given_up true tests = []
unless_given_up false tests = tests

-- what leaves no group open
abbrev pub group_open_tests : ℕ → List Event → List Test
group_open_tests m h = (group_is_open m h, GroupOpen) ∷ []

-- a `depend` clause with more items than it may have: they count as they are written
abbrev pub items_tests : List Dep → List Test
items_tests items = (nat_lt MAX_DEPENDS (length items), TooManyDepends) ∷ []

-- the creation of a task with these items
abbrev pub create_tests : Limits → List Dep → ℕ → List Event → List Test
create_tests limits items m h =
    (nat_le MAX_TASK_DEPTH (depth_of (executed_task m h) h), TooDeep) ∷ (nat_le limits.tasks (tasks_created h), TooManyTasks) ∷ items_tests items

-- its end, which leaves no group open, unless its member gives up those that are
abbrev pub end_task_tests : Bool → ℕ → List Event → List Test
end_task_tests gives_up m h = (not (in_task m h), NotInTask) ∷ unless_given_up gives_up (group_open_tests m h)

-- the end of the region, likewise
abbrev pub end_region_tests : Bool → ℕ → List Event → List Test
end_region_tests gives_up m h = outside_tasks_tests m h ++ unless_given_up gives_up (group_open_tests m h)

-- the end of a group
abbrev pub end_group_tests : ℕ → List Event → List Test
end_group_tests m h = (not (group_is_open m h), NoGroup) ∷ []

-- Room for events (own)

-- whether so much more is asked for than the limit allows, if `room` was asked for before
abbrev pub lacks_room : ℕ → ℕ → ℕ → Bool
lacks_room limit room zero = false
lacks_room limit room (suc more) = nat_lt limit (room + suc more)

-- a call that asks for room
abbrev pub room_tests : Limits → ℕ → ℕ → List Test
room_tests limits room more = (lacks_room limits.events room more, TraceFull) ∷ []

-- the room of a new team: the arrival of each member at the region's end and its pass, and one break
abbrev pub first_room : ℕ → ℕ
first_room zero = 1
first_room (suc m) = first_room m + ARRIVAL_ROOM

-- Answers

-- this code with this argument was asked for
abbrev pub HasJob : Option TaskDesc → ℕ → ℕ → Type 0
HasJob None code arg = ⊥
HasJob (Some desc) code arg = (desc.code ≡ code) × (desc.arg ≡ arg)

-- the answer at a wait at which tasks are run: passed if its goal is met; if not, a task that the member may start, with what was asked for; if there is none, wait
abbrev pub AwaitsTasks : ℕ → Bool → List Event → Reply → Type 0
AwaitsTasks m met h Passed = met ≡ true
AwaitsTasks m met h (Run task code arg own) =
    (met ≡ false) × (own ≡ false) × (is_startable m task h ≡ true) × HasJob (task_desc task h) code arg
AwaitsTasks m met h Wait = (met ≡ false) × (some_startable m h ≡ false)
AwaitsTasks m met h _ = ⊥

-- the answer to the creator of an undeferred task: that task as its own, if it may be started; if not, another that the member may start; if there is none, wait
abbrev pub AwaitsOwn : ℕ → ℕ → List Event → Reply → Type 0
AwaitsOwn m t h (Run task code arg true) = (task ≡ t) × (may_start m t h ≡ true) × HasJob (task_desc t h) code arg
AwaitsOwn m t h Passed = ⊥
AwaitsOwn m t h reply = AwaitsTasks m (may_start m t h) h reply

-- the answer to the creator of a task, which is undeferred or not: of one that is not, its number
abbrev pub AnswersCreator : Bool → ℕ → ℕ → List Event → Reply → Type 0
AnswersCreator true m t h reply = AwaitsOwn m t h reply
AnswersCreator false m t h reply = reply ≡ Created t

-- the answer to a member that has created a task: that is the newest in the one that it executes
abbrev pub CreatesTask : ℕ → List Event → Reply → Type 0
CreatesTask m h reply = AnswersCreator (is_undeferred (newest_child (executed_task m h) h) h) m (newest_child (executed_task m h) h) h reply

-- the answer at the end of the task that the member executes: the wait at which it was started is open again, unless it is undeferred, so that its creator goes on
abbrev pub EndsTask : Task → List Event → Reply → Type 0
EndsTask (Explicit t) h reply = reply ≡ TaskDone t (not (is_undeferred t h))
EndsTask (Implicit m) h reply = ⊥

-- the answer at a taskwait of the member's current task
abbrev pub AwaitsChildren : ℕ → List Dep → List Event → Reply → Type 0
AwaitsChildren m items h reply = AwaitsTasks m (taskwait_met (executed_task m h) items h) h reply

-- whether the tasks of the last open group are complete
abbrev pub last_complete : List ℕ → List Event → Bool
last_complete [] h = false
last_complete (q ∷ outer) h = group_complete q h

-- the answer at the end of its last open group
abbrev pub AwaitsGroup : ℕ → List Event → Reply → Type 0
AwaitsGroup m h reply = AwaitsTasks m (last_complete (open_groups (executed_task m h) h) h) h reply

-- Events, the newest first

-- the next task, in the member's current one
abbrev pub creates : ℕ → TaskDesc → List Event → List Event
creates m desc h = Create (suc (tasks_created h)) m (executed_task m h) desc ∷ []

-- the task that a reply has the member execute
abbrev pub starts_task : ℕ → Reply → List Event
starts_task m (Run task code arg own) = Start task m ∷ []
starts_task m _ = []

-- the task that it has ended
abbrev pub ends_task : ℕ → Reply → List Event
ends_task m (TaskDone task waiting) = Done task m ∷ []
ends_task m _ = []

-- a taskwait with these items: a reply that it is passed gives the wait, and a reply Run the start of the task that it has the member execute
abbrev pub waited : ℕ → List Dep → Reply → List Event
waited m items Passed = Waited m items ∷ []
waited m items reply = starts_task m reply

-- the next group
abbrev pub opens_group : ℕ → List Event → Reply → List Event
opens_group m h Finished = Group (groups_opened h) m ∷ []
opens_group m h _ = []

-- the end of the first of these groups
abbrev pub ends_first : List ℕ → ℕ → List Event
ends_first [] m = []
ends_first (q ∷ outer) m = GroupEnd q m ∷ []

-- the end of the last open group: a reply that it is passed gives its end, and a reply Run the start of the task that it has the member execute
abbrev pub ends_group : ℕ → List Event → Reply → List Event
ends_group m h Passed = ends_first (open_groups (executed_task m h) h) m
ends_group m h reply = starts_task m reply
