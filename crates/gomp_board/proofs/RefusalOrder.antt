-- The refusal of an operation is that of the first test that holds, since the tests stand in the order of their numbers.
use Rattle.std.proofs.Common.{◌≡◌, ℕ, Bool, true, false, List, ◌∷◌, ◌++◌, Option, Some, None, refl, ◌∙◌, sym, []}
use Rattle.std.specs.Prelude.{nat_le, not, ◌&&◌, if◌then◌else◌}
use Rattle.gomp_types.specs.declared.limits.Limits.{Limits}
use Rattle.gomp_types.specs.declared.refusal.Clash.{Clash}
use Rattle.gomp_types.specs.declared.refusal.Refusal.{Refusal}
use Rattle.gomp_types.specs.declared.refusal.Refusal.TheVariants.{Ended, GroupOpen, Mismatch, TraceFull}
use Rattle.gomp_events.specs.declared.event.Arrival.{Arrival}
use Rattle.gomp_events.specs.declared.event.Arrival.TheVariants.{Barrier, ShareEnd, RegionEnd}
use Rattle.gomp_events.specs.declared.event.Event.{Event}
use Rattle.gomp_events.specs.Tags.{tag_differs}
use Rattle.gomp_events.specs.Events.{barriers_passed, tag_at, has_left_region, clash_of}
use Rattle.gomp_types.specs.Tests.{Test, first_holding}
use Rattle.gomp_types.specs.Least.{least}
use Rattle.gomp_events.specs.TaskCalls.{outside_tasks_tests, unless_given_up, create_tests, end_task_tests, end_region_tests, lacks_room, room_tests}
use Rattle.gomp_events.specs.declared.room.TheConstants.{TASK_ROOM}
use Rattle.gomp_types.specs.declared.task.TaskDesc.{TaskDesc}
use Rattle.gomp_events.specs.Cancels.{is_cancelled}
use Rattle.gomp_events.specs.CancelCalls.{cancel_tests, cancel_room, creates_covered}
use Rattle.gomp_events.specs.Breaks.{broken_tests}
use Rattle.gomp_types.proofs.LeastTests.{from, first_is_least}
use Rattle.gomp_types.proofs.TestRows.{front_holds, front_fails}
use Rattle.gomp_board.specs.declared.op.Op.{Op}
use Rattle.gomp_board.specs.declared.op.Op.TheVariants.{Create, AwaitOwn, EndTask, Taskwait, AwaitChildren, OpenGroup, EndGroup, AwaitGroup, Arrive, AwaitBarrier, Reserve, Put, Got, Cancel, Point, Break}
use Rattle.gomp_board.specs.declared.op.TeamCancel.{TeamCancel}
use Rattle.gomp_board.specs.Ops.{op_member_tests, busy_tests, region_end_tests, creation_room_tests, named_kind, arrival_asks, op_tests, op_refusal}

-- those of an arrival
arrival_order : (n : ℕ) (kind : Arrival) (leaving : Bool) (limits : Limits) (room more m : ℕ) (differs : Bool) (h : List Event) → nat_le n 4 ≡ true → from n (busy_tests m h ++ (outside_tasks_tests m h ++ (region_end_tests kind leaving m h ++ ((differs, Mismatch) ∷ room_tests limits room more)))) ≡ true
arrival_order n Barrier leaving limits room more m differs h low = rw low refl
arrival_order n ShareEnd leaving limits room more m differs h low = rw low refl
arrival_order n RegionEnd true limits room more m differs h low = rw low refl
arrival_order n RegionEnd false limits room more m differs h low = rw low refl

-- of the end of a task
task_end_order : (n : ℕ) (leaving : Bool) (m : ℕ) (h : List Event) → nat_le n 4 ≡ true → from n (busy_tests m h ++ end_task_tests leaving m h) ≡ true
task_end_order n true m h low = rw low refl
task_end_order n false m h low = rw low refl

-- of a creation
creation_order : (n : ℕ) (covered : Bool) (limits : Limits) (room m : ℕ) (desc : TaskDesc) (h : List Event) → nat_le n 4 ≡ true → from n (busy_tests m h ++ (create_tests limits desc.deps m h ++ creation_room_tests covered limits room)) ≡ true
creation_order n true limits room m desc h low = rw low refl
creation_order n false limits room m desc h low = rw low refl

-- and of constructs that cancel
cancel_order : (n : ℕ) (named : TeamCancel) (limits : Limits) (room m : ℕ) (h : List Event) → nat_le n 4 ≡ true → from n (busy_tests m h ++ (cancel_tests (named_kind named) m h ++ room_tests limits room (cancel_room (named_kind named)))) ≡ true
cancel_order n TeamCancel.Parallel limits room m h low = rw low refl
cancel_order n TeamCancel.Taskgroup limits room m h low = rw low refl

point_order : (n : ℕ) (named : TeamCancel) (m : ℕ) (h : List Event) → nat_le n 4 ≡ true → from n (busy_tests m h ++ cancel_tests (named_kind named) m h) ≡ true
point_order n TeamCancel.Parallel m h low = rw low refl
point_order n TeamCancel.Taskgroup m h low = rw low refl

op_order : (n : ℕ) (limits : Limits) (room kept m : ℕ) (op : Op) (h : List Event) → nat_le n 4 ≡ true → nat_le n 22 ≡ true → nat_le n 35 ≡ true → from n (op_tests limits room kept m op h) ≡ true
op_order n limits room kept m (Create desc) h low mid high = creation_order n (creates_covered m h) limits room m desc h low
op_order n limits room kept m (EndTask leaving) h low mid high = task_end_order n leaving m h low
op_order n limits room kept m AwaitOwn h low mid high = rw low refl
op_order n limits room kept m (Taskwait items) h low mid high = rw low refl
op_order n limits room kept m (AwaitChildren items) h low mid high = rw low refl
op_order n limits room kept m OpenGroup h low mid high = rw low refl
op_order n limits room kept m EndGroup h low mid high = rw low refl
op_order n limits room kept m AwaitGroup h low mid high = rw low refl
op_order n limits room kept m (Arrive tag leaving) h low mid high = arrival_order n tag.kind leaving limits room (arrival_asks tag.kind kept) m (not (is_cancelled h) && tag_differs tag (tag_at (barriers_passed m h) h)) h low
op_order n limits room kept m AwaitBarrier h low mid high = rw mid refl
op_order n limits room kept m (Reserve more) h low mid high = rw low refl
op_order n limits room kept m (Put share words) h low mid high = rw low refl
op_order n limits room kept m (Got share words) h low mid high = rw low refl
op_order n limits room kept m (Cancel named clause allowed) h low mid high = cancel_order n named limits room m h low
op_order n limits room kept m (Point named allowed) h low mid high = point_order n named m h low
op_order n limits room kept m (Break place back) h low mid high = rw high refl

-- and those of every member before them
all_order : (clash : Option Clash) (left : Bool) (limits : Limits) (room kept m : ℕ) (op : Op) (h : List Event) → from 0 (((left, Ended) ∷ broken_tests clash) ++ op_tests limits room kept m op h) ≡ true
all_order None left limits room kept m op h = op_order 2 limits room kept m op h refl refl refl
all_order (Some clash) left limits room kept m op h = op_order 3 limits room kept m op h refl refl refl

pub refusal_is : (limits : Limits) (room kept m : ℕ) (op : Op) (h : List Event) → first_holding (op_member_tests m h ++ op_tests limits room kept m op h) ≡ op_refusal limits room kept m op h
refusal_is limits room kept m op h = first_is_least 0 (op_member_tests m h ++ op_tests limits room kept m op h) (all_order (clash_of h) (has_left_region m h) limits room kept m op h)

-- So it is that of every member if there is one
pub team_refusal_first : (limits : Limits) (room kept m : ℕ) (op : Op) (refusal : Refusal) (h : List Event) → Some refusal ≡ first_holding (op_member_tests m h) → Some refusal ≡ op_refusal limits room kept m op h
team_refusal_first limits room kept m op refusal h first = sym (front_holds (op_member_tests m h) (op_tests limits room kept m op h) refusal (sym first)) ∙ refusal_is limits room kept m op h

-- and else that of the operation's own tests
pub own_refusal_next : (limits : Limits) (room kept m : ℕ) (op : Op) (found : Option Refusal) (h : List Event) → None ≡ first_holding (op_member_tests m h) → found ≡ first_holding (op_tests limits room kept m op h) → found ≡ op_refusal limits room kept m op h
own_refusal_next limits room kept m op found h none own = own ∙ sym (front_fails (op_member_tests m h) (op_tests limits room kept m op h) (sym none)) ∙ refusal_is limits room kept m op h

-- Tests that are not always made

-- a group that is open, if it is not given up
pub given_up_is : (leaving opened : Bool) → (if not leaving && opened then Some GroupOpen else None) ≡ first_holding (unless_given_up leaving ((opened, GroupOpen) ∷ []))
given_up_is true opened = refl
given_up_is false opened = refl

pub given_up_then : (leaving opened : Bool) (other : Option Refusal) (tests : List Test) → other ≡ first_holding tests → (if not leaving && opened then Some GroupOpen else other) ≡ first_holding (unless_given_up leaving ((opened, GroupOpen) ∷ []) ++ tests)
given_up_then true opened other tests e = e
given_up_then false true other tests e = refl
given_up_then false false other tests e = e

-- room for a task, if it is not dropped
pub creation_room_is : (covered : Bool) (limits : Limits) (room : ℕ) → (if lacks_room limits.events room TASK_ROOM && not covered then Some TraceFull else None) ≡ first_holding (creation_room_tests covered limits room)
creation_room_is true limits room = by (lacks_room limits.events room TASK_ROOM)
  where
    by : (b : Bool) → (if b && false then Some TraceFull else None) ≡ None
    by true = refl
    by false = refl
creation_room_is false limits room = by (lacks_room limits.events room TASK_ROOM)
  where
    by : (b : Bool) → (if b && true then Some TraceFull else None) ≡ (if b then Some TraceFull else None)
    by true = refl
    by false = refl

-- The tests of a call alone stand in the order of their numbers

pub task_end_is_least : (leaving : Bool) (m : ℕ) (h : List Event) → first_holding (end_task_tests leaving m h) ≡ least (end_task_tests leaving m h)
task_end_is_least true m h = first_is_least 0 (end_task_tests true m h) refl
task_end_is_least false m h = first_is_least 0 (end_task_tests false m h) refl

pub region_end_is_least : (leaving : Bool) (m : ℕ) (h : List Event) → first_holding (end_region_tests leaving m h) ≡ least (end_region_tests leaving m h)
region_end_is_least true m h = first_is_least 0 (end_region_tests true m h) refl
region_end_is_least false m h = first_is_least 0 (end_region_tests false m h) refl

pub cancel_is_least : (named : TeamCancel) (m : ℕ) (h : List Event) → first_holding (cancel_tests (named_kind named) m h ++ []) ≡ least (cancel_tests (named_kind named) m h)
cancel_is_least TeamCancel.Parallel m h = first_is_least 0 (cancel_tests (named_kind TeamCancel.Parallel) m h) refl
cancel_is_least TeamCancel.Taskgroup m h = first_is_least 0 (cancel_tests (named_kind TeamCancel.Taskgroup) m h) refl

-- the room of a cancellation
pub cancel_room_is : (named : TeamCancel) (limits : Limits) (room : ℕ) → (if lacks_room limits.events room 1 then Some TraceFull else None) ≡ first_holding (room_tests limits room (cancel_room (named_kind named)))
cancel_room_is TeamCancel.Parallel limits room = refl
cancel_room_is TeamCancel.Taskgroup limits room = refl
