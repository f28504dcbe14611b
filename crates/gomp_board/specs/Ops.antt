-- What each operation on a board is tested for, what it is answered, and which events it gives. OpenMP API 5.2, chapter 12 and sections 5.7.2 and 15.3 to 15.5.
use Rattle.std.specs.Prelude.{ℕ, ◌+◌, ◌-◌, ◌≡◌, ◌&&◌, nat_lt, nat_le, not, Bool, true, false, if◌then◌else◌, IsTrue, List, [], ◌∷◌, ◌++◌, Option, Some, None}
use Rattle.gomp_types.specs.declared.limits.Limits.{Limits}
use Rattle.gomp_types.specs.declared.refusal.Place.{Place}
use Rattle.gomp_types.specs.declared.refusal.Place.TheVariants.{Barrier as AtBarrier, Stopped as AtStop}
use Rattle.gomp_types.specs.declared.refusal.Refusal.{Refusal}
use Rattle.gomp_types.specs.declared.refusal.Refusal.TheVariants.{Ended, Waiting, NotInside, Mismatch, NoMemory}
use Rattle.gomp_types.specs.declared.reply.Reply.{Reply}
use Rattle.gomp_types.specs.declared.reply.Reply.TheVariants.{Finished, Passed, Stopped, Dropped, Cancelling, Refused}
use Rattle.gomp_events.specs.declared.event.Arrival.{Arrival}
use Rattle.gomp_events.specs.declared.event.Arrival.TheVariants.{Barrier, ShareEnd, RegionEnd}
use Rattle.gomp_events.specs.declared.event.Tag.{Tag}
use Rattle.gomp_types.specs.declared.cancel.CancelKind.{CancelKind}
use Rattle.gomp_types.specs.declared.cancel.CancelKind.TheVariants.{Parallel, Taskgroup}
use Rattle.gomp_events.specs.Cancels.{is_cancelled}
use Rattle.gomp_events.specs.CancelCalls.{cancel_tests, cancel_room, keeps_cancel, TellsCancelled, creates_covered, CreatesOrDrops, OrIsCancelled, unless_cancelled, creates_uncovered, cancels_by}
use Rattle.gomp_events.specs.declared.event.Event.{Event}
use Rattle.gomp_events.specs.declared.event.Event.TheVariants.{Put as PutEvent, Got as GotEvent, Arrive as ArriveEvent, Pass, Break as BreakEvent}
use Rattle.gomp_types.specs.Tests.{Test}
use Rattle.gomp_types.specs.Least.{least}
use Rattle.gomp_types.specs.Limits.{shown_number}
use Rattle.gomp_events.specs.Tags.{tag_differs}
use Rattle.gomp_events.specs.Events.{barriers_passed, tag_at, at_barrier, at_region_end, is_region_end, has_left_region, clash_of}
use Rattle.gomp_events.specs.Tasks.{executed_task, in_task}
use Rattle.gomp_events.specs.Goals.{may_pass}
use Rattle.gomp_events.specs.TaskCalls.{outside_tasks_tests, unless_given_up, group_open_tests, items_tests, create_tests, end_task_tests, end_group_tests, room_tests, AwaitsTasks, EndsTask, AwaitsChildren, AwaitsGroup, starts_task, ends_task, waited, opens_group, ends_group}
use Rattle.gomp_events.specs.declared.room.TheConstants.{TASK_ROOM, GROUP_ROOM, ARRIVAL_ROOM, PAYLOAD_ROOM}
use Rattle.gomp_events.specs.Breaks.{broken_tests, refusal_gives}
use Rattle.gomp_board.specs.declared.op.Op.{Op}
use Rattle.gomp_board.specs.declared.op.Op.TheVariants.{Create, AwaitOwn, EndTask, Taskwait, AwaitChildren, OpenGroup, EndGroup, AwaitGroup, Arrive, AwaitBarrier, Reserve, Put, Got, Cancel, Point, Break}
use Rattle.gomp_board.specs.declared.op.TeamCancel.{TeamCancel}

-- Room

-- the room that an arrival asks for: none at the region's end, whose room every team is made with, and none at the end of a share that has kept it
abbrev pub arrival_asks : Arrival → ℕ → ℕ
arrival_asks Barrier kept = ARRIVAL_ROOM
arrival_asks ShareEnd kept = if nat_le ARRIVAL_ROOM kept then 0 else ARRIVAL_ROOM
arrival_asks RegionEnd kept = 0

-- the room that words ask for, when they are put and when they are given to a member: none if the member has kept it
abbrev pub words_ask : ℕ → ℕ
words_ask kept = if nat_le PAYLOAD_ROOM kept then 0 else PAYLOAD_ROOM

-- the kind of construct that names the region or a group
abbrev pub named_kind : TeamCancel → CancelKind
named_kind TeamCancel.Parallel = Parallel
named_kind TeamCancel.Taskgroup = Taskgroup

-- the room that an operation asks for, if its member has kept so much
abbrev pub op_asks : Op → ℕ → ℕ
op_asks (Create desc) kept = TASK_ROOM
op_asks OpenGroup kept = GROUP_ROOM
op_asks (Arrive tag leaving) kept = arrival_asks tag.kind kept
op_asks (Reserve more) kept = more
op_asks (Put share words) kept = words_ask kept
op_asks (Got share words) kept = words_ask kept
op_asks (Cancel named clause allowed) kept = cancel_room (named_kind named)
op_asks _ kept = 0

-- whether its reply has the operation keep the room that it asked for: not a task that is dropped, nor a construct that cancels nothing
abbrev pub keeps_room : Op → Reply → Bool
keeps_room (Create desc) Dropped = false
keeps_room (Cancel named clause allowed) reply = keeps_cancel clause reply
keeps_room op reply = true

-- what its member keeps after it: the end of a share uses what was kept
abbrev pub arrival_keeps : Arrival → ℕ → ℕ
arrival_keeps ShareEnd kept = if nat_le ARRIVAL_ROOM kept then kept - ARRIVAL_ROOM else kept
arrival_keeps _ kept = kept

-- so do words
abbrev pub words_keep : ℕ → ℕ
words_keep kept = if nat_le PAYLOAD_ROOM kept then kept - PAYLOAD_ROOM else kept

-- what its member keeps after an operation
abbrev pub op_keeps : Op → ℕ → ℕ
op_keeps (Arrive tag leaving) kept = arrival_keeps tag.kind kept
op_keeps (Reserve more) kept = kept + more
op_keeps (Put share words) kept = words_keep kept
op_keeps (Got share words) kept = words_keep kept
op_keeps _ kept = kept

-- of so much that a member keeps, what goes back if this much is to: no more than it keeps
abbrev pub given_back : ℕ → ℕ → ℕ
given_back back kept = if nat_le back kept then back else kept

-- and by an operation that is refused: a construct that differs breaks the team, and then its member needs that room no more
abbrev pub op_gives_back : Op → Refusal → ℕ → ℕ
op_gives_back (Break place back) Mismatch kept = given_back back kept
op_gives_back _ refusal kept = 0

-- Tests

-- what every operation is tested for: the member has passed the region's end, the team is broken
abbrev pub op_member_tests : ℕ → List Event → List Test
op_member_tests m h = (has_left_region m h, Ended) ∷ broken_tests (clash_of h)

-- whether the member waits at a barrier itself, and does not execute a task there
abbrev pub awaits_barrier : ℕ → List Event → Bool
awaits_barrier m h = at_barrier m h && not (in_task m h)

-- whether a cancelled region has the member arrive nowhere but at its end, or wait there
abbrev pub goes_to_the_end : ℕ → List Event → Bool
goes_to_the_end m h = is_cancelled h && not (at_region_end m h)

-- an operation that is not asked while the member waits at a barrier; in a cancelled region it waits at the region's end alone
abbrev pub busy_tests : ℕ → List Event → List Test
busy_tests m h = (awaits_barrier m h && not (goes_to_the_end m h), Waiting) ∷ []

-- the region's end leaves no group open, unless its member gives it up
abbrev pub region_end_tests : Arrival → Bool → ℕ → List Event → List Test
region_end_tests RegionEnd leaving m h = unless_given_up leaving (group_open_tests m h)
region_end_tests _ leaving m h = []

-- an arrival is compared with those of the others at its barrier, unless the region is cancelled
abbrev pub arrival_tests : Tag → ℕ → List Event → List Test
arrival_tests tag m h = (not (is_cancelled h) && tag_differs tag (tag_at (barriers_passed m h) h), Mismatch) ∷ []

-- a task that a cancellation would reach asks for no room
abbrev pub creation_room_tests : Bool → Limits → ℕ → List Test
creation_room_tests true limits room = []
creation_room_tests false limits room = room_tests limits room TASK_ROOM

-- whether a break is that of a stop
abbrev pub is_stop : Place → Bool
is_stop AtStop = true
is_stop _ = false

-- the tests of an operation, if so much room was asked for, of which its member has kept so much
abbrev pub op_tests : Limits → ℕ → ℕ → ℕ → Op → List Event → List Test
op_tests limits room kept m (Create desc) h = busy_tests m h ++ (create_tests limits desc.deps m h ++ creation_room_tests (creates_covered m h) limits room)
op_tests limits room kept m AwaitOwn h = busy_tests m h
op_tests limits room kept m (EndTask leaving) h = busy_tests m h ++ end_task_tests leaving m h
op_tests limits room kept m (Taskwait items) h = busy_tests m h ++ items_tests items
op_tests limits room kept m (AwaitChildren items) h = busy_tests m h
op_tests limits room kept m OpenGroup h = busy_tests m h ++ room_tests limits room GROUP_ROOM
op_tests limits room kept m EndGroup h = busy_tests m h ++ end_group_tests m h
op_tests limits room kept m AwaitGroup h = busy_tests m h
op_tests limits room kept m (Arrive tag leaving) h =
    busy_tests m h
    ++ (outside_tasks_tests m h ++ (region_end_tests tag.kind leaving m h
    ++ (arrival_tests tag m h ++ room_tests limits room (arrival_asks tag.kind kept))))
op_tests limits room kept m AwaitBarrier h = (not (awaits_barrier m h), NotInside) ∷ []
op_tests limits room kept m (Reserve more) h = busy_tests m h ++ (outside_tasks_tests m h ++ room_tests limits room more)
op_tests limits room kept m (Put share words) h = busy_tests m h ++ (outside_tasks_tests m h ++ room_tests limits room (words_ask kept))
op_tests limits room kept m (Got share words) h = busy_tests m h ++ room_tests limits room (words_ask kept)
op_tests limits room kept m (Cancel named clause allowed) h = busy_tests m h ++ (cancel_tests (named_kind named) m h ++ room_tests limits room (cancel_room (named_kind named)))
op_tests limits room kept m (Point named allowed) h = busy_tests m h ++ cancel_tests (named_kind named) m h
op_tests limits room kept m (Break place back) h = (not (is_stop place), Mismatch) ∷ []

-- an operation is refused by that of its tests that hold whose refusal has the least number
abbrev pub op_refusal : Limits → ℕ → ℕ → ℕ → Op → List Event → Option Refusal
op_refusal limits room kept m op h = least (op_member_tests m h ++ op_tests limits room kept m op h)

-- Events, the newest first

-- those that it gives before its reply, unless it is refused
abbrev pub op_begins : ℕ → Op → List Event → List Event
op_begins m (Create desc) h = creates_uncovered m desc h
op_begins m (Arrive tag leaving) h = unless_cancelled (is_cancelled h && not (is_region_end tag.kind)) (ArriveEvent (barriers_passed m h) m tag ∷ [])
op_begins m (Put share words) h = PutEvent share m words ∷ []
op_begins m (Got share words) h = GotEvent share m words ∷ []
op_begins m _ h = []

-- the events once it has begun
abbrev pub begun : ℕ → Op → List Event → List Event
begun m op h = op_begins m op h ++ h

-- the barrier at which the member waits is passed, or a task is started there
abbrev pub passes_barrier : ℕ → List Event → Reply → List Event
passes_barrier m h Passed = Pass (barriers_passed m h) m ∷ []
passes_barrier m h reply = starts_task m reply

-- a stop breaks the team
abbrev pub breaks : ℕ → Place → Reply → List Event
breaks m place Stopped = BreakEvent m place ∷ []
breaks m place _ = []

-- what a construct with this clause cancels, if its member is answered so, and the tasks that this discards
abbrev pub cancelled_by : Bool → CancelKind → ℕ → List Event → Reply → List Event
cancelled_by clause kind m h (Cancelling true) = cancels_by clause kind m h
cancelled_by clause kind m h _ = []

-- those that its reply gives
abbrev pub op_gives : ℕ → Op → List Event → Reply → List Event
op_gives m (Create desc) h reply = starts_task m reply
op_gives m AwaitOwn h reply = starts_task m reply
op_gives m (EndTask leaving) h reply = ends_task m reply
op_gives m (Taskwait items) h reply = waited m items reply
op_gives m (AwaitChildren items) h reply = waited m items reply
op_gives m OpenGroup h reply = opens_group m h reply
op_gives m EndGroup h reply = ends_group m h reply
op_gives m AwaitGroup h reply = ends_group m h reply
op_gives m (Arrive tag leaving) h reply = passes_barrier m h reply
op_gives m AwaitBarrier h reply = passes_barrier m h reply
op_gives m (Reserve more) h reply = []
op_gives m (Put share words) h reply = []
op_gives m (Got share words) h reply = []
op_gives m (Cancel named clause allowed) h reply = cancelled_by clause (named_kind named) m h reply
op_gives m (Point named allowed) h reply = []
op_gives m (Break place back) h reply = breaks m place reply

-- an operation that goes on with a wait and gives no event before its reply
abbrev pub goes_on_waiting : Op → Bool
goes_on_waiting AwaitOwn = true
goes_on_waiting (Taskwait items) = true
goes_on_waiting (AwaitChildren items) = true
goes_on_waiting EndGroup = true
goes_on_waiting AwaitGroup = true
goes_on_waiting AwaitBarrier = true
goes_on_waiting _ = false

-- where the member's construct differs
abbrev pub op_place : ℕ → Op → List Event → Place
op_place m (Break place back) h = place
op_place m _ h = AtBarrier (shown_number (barriers_passed m h))

-- the events after an operation and its reply, if the team was not broken before
abbrev pub op_after : ℕ → Op → Reply → List Event → List Event
op_after m op (Refused refusal) h = refusal_gives refusal m (op_place m op h) ++ h
op_after m op reply h = op_gives m op (begun m op h) reply ++ begun m op h

-- Replies

-- at a barrier: passed once that may be, and until then tasks are run; in a cancelled region the member is answered so at once, unless it has arrived at the region's end
abbrev pub AwaitsPass : ℕ → ℕ → List Event → Reply → Type 0
AwaitsPass members m h reply = OrIsCancelled (goes_to_the_end m h) (AwaitsTasks m (may_pass members m h) h) reply

-- the reply to an operation that no test refuses, by the events once it has begun
abbrev pub OpReply : ℕ → ℕ → Op → List Event → Reply → Type 0
OpReply members m (Create desc) h reply = CreatesOrDrops m h reply
OpReply members m AwaitOwn h reply = CreatesOrDrops m h reply
OpReply members m (EndTask leaving) h reply = EndsTask (executed_task m h) h reply
OpReply members m (Taskwait items) h reply = AwaitsChildren m items h reply
OpReply members m (AwaitChildren items) h reply = AwaitsChildren m items h reply
OpReply members m OpenGroup h reply = reply ≡ Finished
OpReply members m EndGroup h reply = AwaitsGroup m h reply
OpReply members m AwaitGroup h reply = AwaitsGroup m h reply
OpReply members m (Arrive tag leaving) h reply = AwaitsPass members m h reply
OpReply members m AwaitBarrier h reply = AwaitsPass members m h reply
OpReply members m (Reserve more) h reply = reply ≡ Finished
OpReply members m (Put share words) h reply = reply ≡ Finished
OpReply members m (Got share words) h reply = reply ≡ Finished
OpReply members m (Cancel named clause allowed) h reply = TellsCancelled allowed (named_kind named) clause m h reply
OpReply members m (Point named allowed) h reply = TellsCancelled allowed (named_kind named) false m h reply
OpReply members m (Break place back) h reply = reply ≡ Stopped

-- whether an operation is dropped whatever room and memory there are: the creation of a task that a cancellation would reach
abbrev pub op_drops : Op → ℕ → List Event → Bool
op_drops (Create desc) m h = creates_covered m h
op_drops op m h = false

-- whether an operation may find no memory: it asks for room, and is not dropped
abbrev pub op_may_lack : Op → ℕ → ℕ → List Event → Bool
op_may_lack op kept m h = nat_lt 0 (op_asks op kept) && not (op_drops op m h)

-- the answer of a board of a team of this size: a refusal is that of the tests; if none holds, an operation that asks for room may find no memory; any other reply is the operation's
abbrev pub OpAnswer : Limits → ℕ → ℕ → ℕ → ℕ → Op → List Event → Reply → Type 0
OpAnswer limits room kept members m op h (Refused NoMemory) = (op_refusal limits room kept m op h ≡ None) × IsTrue (op_may_lack op kept m h)
OpAnswer limits room kept members m op h (Refused refusal) = op_refusal limits room kept m op h ≡ Some refusal
OpAnswer limits room kept members m op h reply = (op_refusal limits room kept m op h ≡ None) × OpReply members m op (begun m op h) reply
