-- How a member goes on with a call that waits for the board. (own)
use Rattle.std.specs.Prelude.{◌≡◌, Bool, true, Option, None, option_and_then}
use Rattle.std.specs.Bool.{then_some}
use Rattle.std.specs.Option.{option_or}
use Rattle.gomp_types.specs.declared.call.Call.{Call}
use Rattle.gomp_types.specs.declared.reply.Reply.{Reply}
use Rattle.gomp_board.specs.declared.op.Op.{Op}
use Rattle.gomp_dispatch.specs.Serves.{board_op}
use Rattle.gomp_model.specs.Calls.{row_of}
use Rattle.gomp_team_board.specs.Parts.{PartView, part_after}
use Rattle.gomp_waits.specs.Waits.{resumes_wait}
use Rattle.gomp_member.specs.Own.{OwnView}
use Rattle.gomp_ring.specs.RingSeats.{SeatView}
use Rattle.gomp_team_board.specs.Locked.{IsAnsweredUnless}
use Rattle.gomp_team.specs.Answers.{TeamAnswers}
use Rattle.gomp_team.specs.Moves.{made_plainly, arriving_op, book_call, events_part}
use Rattle.gomp_team.specs.Seats.{seat_ask}
use Rattle.gomp_team.specs.Seats.SeatAsk.{Aside}

-- an operation, if it goes on with a wait
abbrev pub if_resuming : Op → Option Op
if_resuming op = then_some (resumes_wait op) op

-- the operation on the board by which a member goes on with a call, if it waits for the board: for a barrier or for tasks
abbrev pub awaited_op : Call → Option Op
awaited_op call = option_or (arriving_op true (row_of call).arrives) (option_and_then if_resuming (board_op (made_plainly true) call))

-- the operation goes on with the call: it is one that waits, it moves the part of the events as the call does, neither the book nor the member's seat has a part in it, and the team may answer the call as some board answers it
pub record GoesOnByOp (op : Op) (call : Call) : Type 0 where
  pub resumes : resumes_wait op ≡ true
  pub events : (reply : Reply) (part : PartView) → part_after op reply part ≡ events_part true call reply part
  pub aside : book_call true call ≡ None
  pub unseated : (allowed : Bool) → seat_ask allowed true call ≡ Aside
  pub answers : (allowed : Bool) (own : OwnView) (seat : SeatView) (reply : Reply) → IsAnsweredUnless None op seat.member reply → TeamAnswers allowed true own call seat reply
