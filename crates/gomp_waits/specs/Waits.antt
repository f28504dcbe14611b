-- A board with the open waits of its members: what it refuses, what it is answered, and what a reply leaves of a wait. OpenMP API 5.2, sections 12.5, 12.9, 15.3 to 15.5 (the refusals are own).
use Rattle.std.specs.Prelude.{ℕ, ◌≡◌, ◌&&◌, ◌||◌, not, Bool, true, false, IsTrue, List, [], ◌∷◌, ◌++◌, Option, Some, None, length, slice_index_or, slice_set}
use Rattle.gomp_types.specs.declared.limits.Limits.{Limits}
use Rattle.gomp_types.specs.declared.refusal.Refusal.{Refusal}
use Rattle.gomp_types.specs.declared.refusal.Refusal.TheVariants.{Waiting, NotInside, NoMemory}
use Rattle.gomp_types.specs.declared.reply.Reply.{Reply}
use Rattle.gomp_types.specs.declared.reply.Reply.TheVariants.{Wait, TaskDone, Refused}
use Rattle.gomp_events.specs.declared.event.Event.{Event}
use Rattle.gomp_types.specs.Tests.{Test}
use Rattle.gomp_types.specs.Least.{least}
use Rattle.gomp_types.specs.Limits.{IsTeamSize}
use Rattle.gomp_board.specs.declared.op.Op.{Op}
use Rattle.gomp_board.specs.declared.op.Op.TheVariants.{AwaitOwn, AwaitChildren, AwaitGroup, AwaitBarrier, Break}
use Rattle.gomp_board.specs.Ops.{is_stop, op_member_tests, op_tests, begun, op_may_lack, OpReply}
use Rattle.gomp_board.specs.Boards.{BoardView, Stands, Performs, members_of, kept_by}

-- a board and the open waits of its members, as data
pub record WaitBoardView : Type 0 where
  pub board : BoardView
  -- for each member whether its wait is open
  pub waiting : List Bool

-- whether the member's wait is open
abbrev pub is_waiting : ℕ → WaitBoardView → Bool
is_waiting m view = slice_index_or view.waiting m false

-- an operation that goes on with an open wait
abbrev pub resumes_wait : Op → Bool
resumes_wait AwaitOwn = true
resumes_wait (AwaitChildren items) = true
resumes_wait AwaitGroup = true
resumes_wait AwaitBarrier = true
resumes_wait _ = false

-- an operation that stops the team
abbrev pub stops_team : Op → Bool
stops_team (Break place back) = is_stop place
stops_team _ = false

-- what a member may ask while its wait is open
abbrev pub comes_amid_wait : Op → Bool
comes_amid_wait op = resumes_wait op || stops_team op

-- an open wait refuses what neither goes on with it nor stops the team; without one there is none to go on with
abbrev pub open_wait_tests : Bool → Op → List Test
open_wait_tests waiting op = (waiting && not (comes_amid_wait op), Waiting) ∷ (not waiting && resumes_wait op, NotInside) ∷ []

-- what the wait alone refuses
abbrev pub open_wait_refusal : Bool → Op → Option Refusal
open_wait_refusal waiting op = least (open_wait_tests waiting op)

-- a board's limits, the room that was asked for, and what of it the member keeps
pub record RoomTerms : Type 0 where
  pub limits : Limits
  pub room : ℕ
  pub kept : ℕ

-- those of a member of this board
abbrev pub room_terms : ℕ → BoardView → RoomTerms
room_terms m board = record { limits = board.limits; room = board.room; kept = kept_by m board }

-- an operation is refused by that of all tests that hold, the wait's and the board's, whose refusal has the least number
abbrev pub asked_refusal : RoomTerms → ℕ → Bool → Op → List Event → Option Refusal
asked_refusal terms m waiting op h = least (open_wait_tests waiting op ++ (op_member_tests m h ++ op_tests terms.limits terms.room terms.kept m op h))

-- whether the member's wait is open after a reply: a refusal leaves it, Wait opens it, the wait at which an ended task was started is open again, and every other reply closes it
abbrev pub waits_on : Reply → Bool → Bool
waits_on (Refused refusal) waiting = waiting
waits_on Wait waiting = true
waits_on (TaskDone task again) waiting = again
waits_on _ waiting = false

-- the answer of a board of a team of this size to a member whose wait is open or not: a refusal is that of all tests; if none holds, an operation that asks for room may find no memory; any other reply is the operation's
abbrev pub AskedAnswer : Limits → ℕ → ℕ → ℕ → ℕ → Bool → Op → List Event → Reply → Type 0
AskedAnswer limits room kept members m waiting op h (Refused NoMemory) = (asked_refusal (record { limits = limits; room = room; kept = kept }) m waiting op h ≡ None) × IsTrue (op_may_lack op kept m h)
AskedAnswer limits room kept members m waiting op h (Refused refusal) = asked_refusal (record { limits = limits; room = room; kept = kept }) m waiting op h ≡ Some refusal
AskedAnswer limits room kept members m waiting op h reply = (asked_refusal (record { limits = limits; room = room; kept = kept }) m waiting op h ≡ None) × OpReply members m op (begun m op h) reply

-- whose waits are open after a reply to the member: its own by the reply, no other's moves
abbrev pub waiting_after : ℕ → Reply → WaitBoardView → List Bool
waiting_after m reply view = slice_set view.waiting m (waits_on reply (is_waiting m view))

-- what an operation of a member does to a board with open waits, and what it is answered
pub record PerformsOrWaits (op : Op) (m : ℕ) (view after : WaitBoardView) (reply : Reply) : Type 0 where
  -- the answer is that of the definitions, on every list of events for which the board stands
  pub answer : (h : List Event) → Stands view.board h → AskedAnswer view.board.limits view.board.room (kept_by m view.board) (members_of view.board) m (is_waiting m view) op h reply
  -- the board performs the operation, if the wait does not refuse it
  pub performs : open_wait_refusal (is_waiting m view) op ≡ None → Performs op m view.board after.board reply
  -- and stays as it is, if the wait does
  pub stays : (refusal : Refusal) → open_wait_refusal (is_waiting m view) op ≡ Some refusal → after.board ≡ view.board
  -- the team keeps its members
  pub members : members_of after.board ≡ members_of view.board
  -- the reply opens or closes the member's wait, and no other's
  pub waits : after.waiting ≡ waiting_after m reply view

-- what holds of every board with open waits: one flag for each member of the team
pub record IsWaitBoard (view : WaitBoardView) : Type 0 where
  pub size : IsTeamSize (members_of view.board)
  pub flags : length view.waiting ≡ members_of view.board
