-- What it means that a board is the same as another (`IsSame`), and that an operation is performed (`Performs`), field by field, of any two boards: each field is had whole.
use Rattle.std.proofs.Common.{◌≡◌, ◌≢◌, ℕ, ◌+◌, true, List, if◌then◌else◌, refl, sym}
use Rattle.std.specs.Prelude.{◌-◌, slice_index_or, slice_set}
use Rattle.gomp_events.specs.declared.event.Event.{Event}
use Rattle.gomp_types.specs.declared.refusal.Refusal.{Refusal}
use Rattle.gomp_types.specs.declared.refusal.Refusal.TheVariants.{Mismatch}
use Rattle.gomp_types.specs.declared.reply.Reply.{Reply}
use Rattle.gomp_types.specs.declared.reply.Reply.TheVariants.{Refused, Wait, Passed}
use Rattle.gomp_board.specs.declared.op.Op.{Op}
use Rattle.gomp_board.specs.Ops.{op_after, op_asks, op_gives_back, op_keeps, goes_on_waiting, keeps_room, OpAnswer}
use Rattle.gomp_board.specs.Boards.{BoardView, IsSame, Performs, Stands, kept_by, kept_after, members_of, op_room_after}

-- The same board

-- it has the same history
pub same_board_has_the_same_history : (board after : BoardView) → IsSame board after → after.history ≡ board.history
same_board_has_the_same_history board after same = same.history

-- the same room
pub same_board_has_the_same_room : (board after : BoardView) → IsSame board after → after.room ≡ board.room
same_board_has_the_same_room board after same = same.room

-- and the same kept by each member
pub same_board_keeps_the_same : (board after : BoardView) → IsSame board after → after.kept ≡ board.kept
same_board_keeps_the_same board after same = same.kept

-- what the first stands for, all of it, the second stands for
pub same_board_stands_for_the_same : (board after : BoardView) (h : List Event) → IsSame board after → Stands board h → Stands after h
same_board_stands_for_the_same board after h same stands = same.stands h stands

-- and what the second stands for, all of it, the first stood for
pub same_board_stood_for_the_same : (board after : BoardView) (h : List Event) → IsSame board after → Stands after h → Stands board h
same_board_stood_for_the_same board after h same stands = same.stood h stands

-- the first is the same as the second
pub same_board_both_ways : (board after : BoardView) → IsSame board after → IsSame after board
same_board_both_ways board after same = record { history = sym same.history; room = sym same.room; kept = sym same.kept; stands = same.stood; stood = same.stands }

-- An operation

-- the reply is one of those that there are, for whatever the board stands
pub operation_is_answered : (op : Op) (m : ℕ) (board after : BoardView) (reply : Reply) (h : List Event) → Performs op m board after reply → Stands board h → OpAnswer board.limits board.room (kept_by m board) (members_of board) m op h reply
operation_is_answered op m board after reply h performs stands = performs.answer h stands

-- and the board stands for what it stood for and what came to that
pub operation_leads_on : (op : Op) (m : ℕ) (board after : BoardView) (reply : Reply) (h : List Event) → Performs op m board after reply → Stands board h → Stands after (op_after m op reply h)
operation_leads_on op m board after reply h performs stands = performs.stands h stands

-- it keeps its limits and its members, has the room that was asked for, and each member keeps its own
pub operation_keeps_the_terms : (op : Op) (m : ℕ) (board after : BoardView) (reply : Reply) → Performs op m board after reply →
    (after.limits ≡ board.limits) × (members_of after ≡ members_of board) × (after.room ≡ op_room_after op (kept_by m board) reply board.room) × (after.kept ≡ kept_after op m reply board.kept)
operation_keeps_the_terms op m board after reply performs = (performs.limits, performs.members, performs.room, performs.kept)

-- a refusal leaves the same board, unless it breaks the team
pub refused_operation_leaves_the_same : (op : Op) (m : ℕ) (board after : BoardView) (refusal : Refusal) → Performs op m board after (Refused refusal) → refusal ≢ Mismatch → IsSame board after
refused_operation_leaves_the_same op m board after refusal performs other = performs.same refusal refl other

-- and a wait that goes on that board itself
pub wait_that_goes_on_changes_nothing : (op : Op) (m : ℕ) (board after : BoardView) → Performs op m board after Wait → goes_on_waiting op ≡ true → after ≡ board
wait_that_goes_on_changes_nothing op m board after performs goes_on = performs.waits refl goes_on

-- a refusal asks for no room and keeps none, and gives back what a construct that differs does
pub refusal_asks_for_no_room : (op : Op) (m kept room : ℕ) (refusal : Refusal) (all : List ℕ) →
    (op_room_after op kept (Refused refusal) room ≡ room - op_gives_back op refusal kept) × (kept_after op m (Refused refusal) all ≡ slice_set all m (slice_index_or all m 0 - op_gives_back op refusal (slice_index_or all m 0)))
refusal_asks_for_no_room op m kept room refusal all = (refl, refl)

-- a pass asks for what its operation does, if the reply has it keep that
pub passed_operation_asks_for_its_room : (op : Op) (m kept room : ℕ) (all : List ℕ) →
    (op_room_after op kept Passed room ≡ (if keeps_room op Passed then room + op_asks op kept else room)) × (kept_after op m Passed all ≡ slice_set all m (op_keeps op (slice_index_or all m 0)))
passed_operation_asks_for_its_room op m kept room all = (refl, refl)
