-- The start of a construct that is a share, by a member's own seat, under the lock of the board. (own; OpenMP API 5.2, sections 11.1, 11.3, 11.5 and 5.7.2)
use Rattle.std.specs.Prelude.{ℕ, ◌≡◌, ◌<◌, ◌⊎◌, Bool, true, false, List, reverse, Option, Some, None, IsSome}
use Rattle.gomp_types.specs.declared.limits.Limits.{Limits}
use Rattle.gomp_types.specs.declared.refusal.Refusal.{Refusal}
use Rattle.gomp_types.specs.declared.refusal.Refusal.TheVariants.{Mismatch}
use Rattle.gomp_types.specs.declared.reply.Reply.{Reply}
use Rattle.gomp_types.specs.declared.reply.Reply.TheVariants.{Copied, Finished, Refused, Wait}
use Rattle.gomp_types.specs.Least.{lesser}
use Rattle.gomp_events.specs.Cancels.{is_cancelled}
use Rattle.gomp_events.specs.Events.{share_number}
use Rattle.gomp_shares.specs.Calls.{EachStands}
use Rattle.gomp_board.specs.declared.op.Op.{Op}
use Rattle.gomp_board.specs.declared.op.Op.TheVariants.{Got, Reserve}
use Rattle.gomp_board.specs.Boards.{Stands}
use Rattle.gomp_board.specs.KeptPayload.{HasPayload}
use Rattle.gomp_waits.specs.Waits.{WaitBoardView}
use Rattle.gomp_dispatch.specs.Serves.{cut_reply}
use Rattle.gomp_team_board.specs.Locked.{AnswersNumber, locked_refusal, team_size}
use Rattle.gomp_team_calls.specs.Arrivals.{IsAccepted}
use Rattle.gomp_team_calls.specs.Starts.{LesserAnswers, reserve_op}
use Rattle.gomp_team_shares.specs.declared.start.ShareStart.{ShareStart}
use Rattle.gomp_team_shares.specs.Constructs.{construct_start_tests}
use Rattle.gomp_ring.specs.RingSeats.{SeatView}
use Rattle.gomp_seat_team.specs.Moved.{TeamMoved, moved}
use Rattle.gomp_seat_calls.specs.Starts.{StartsBySeat, awaits_payload}
use Rattle.gomp_seat_calls.specs.Stays.{FindsRefusal, LeavesShare}

-- of what was found and of the board's tests of this operation the least by number answers, and nothing of the member changes
abbrev pub RefusesLeast : Option Refusal → Op → TeamMoved → Reply → Type 0
RefusesLeast found op move reply =
    EachStands (Stands move.view.board) (λ k. (refusal : Refusal) → lesser found (locked_refusal move.before.member move.view op k) ≡ Some refusal → (reply ≡ Refused refusal) × (move.now ≡ move.before))

-- Words

-- a member that waits for the words of its share is given them, if they are put: the board notes that, and the member has left the share; else it waits, or the wait is cut short in a cancelled region
abbrev pub GivesWords : Option (List ℕ) → Bool → TeamMoved → Reply → Type 0
GivesWords (Some words) cancelled moved reply =
    (reply ≡ Copied words) × AnswersNumber (Got (share_number moved.before.seen.current) words) moved.before.member moved.view moved.after Finished × LeavesShare moved.before moved.now
GivesWords None cancelled moved reply = (reply ≡ cut_reply cancelled Wait) × (moved.after ≡ moved.view) × (moved.now ≡ moved.before)

-- so it goes on in its share, at this board
pub record TakesWords (moved : TeamMoved) (reply : Reply) : Type 0 where
  -- the words that the board has for the share
  pub words : Option (List ℕ)
  pub has_words : HasPayload moved.view.board (share_number moved.before.seen.current) words
  -- whether the region is cancelled
  pub cancelled : Bool
  pub is_cancelled : EachStands (Stands moved.view.board) (λ k. is_cancelled k ≡ cancelled)
  pub gives : GivesWords words cancelled moved reply

-- Causes

-- a board that has words for the share in which a member with this seat waits for them, and is to note that it is given these, has answered so
pub record AnswersNote (seat : SeatView) (reply : Reply) : Type 0 where
  pub waits : awaits_payload seat.seen ≡ true
  pub words : List ℕ
  pub board : WaitBoardView
  pub left : WaitBoardView
  pub known : Stands board.board (reverse board.board.history)
  pub has_words : HasPayload board.board (share_number seat.seen.current) (Some words)
  pub answer : AnswersNumber (Got (share_number seat.seen.current) words) seat.member board left reply

-- why a member that waits for words in its share is refused so: its caller found a refusal; or the board has answered so, asked whether it is refused at all, or when it was to note the words
abbrev pub IsRefusedFor : Option Refusal → Op → TeamMoved → Reply → Type 0
IsRefusedFor found op move reply = IsSome found ⊎ AnswersNumber op move.before.member move.view move.after reply ⊎ AnswersNote move.before reply

-- the board keeps the room of a start, but the team's share of this number is another construct: that refuses it, or the board, which is asked again by a lesser number
pub record DiffersFromTeams (start : ShareStart) (op : Op) (move : TeamMoved) (reply : Reply) : Type 0 where
  pub between : SeatView
  pub differs : StartsBySeat start move.before (Refused Mismatch) between
  pub kept : WaitBoardView
  pub reserves : AnswersNumber op move.before.member move.view kept Finished
  pub known : Stands kept.board (reverse kept.board.history)
  pub answers : move.before.member < team_size kept → LesserAnswers Mismatch (locked_refusal move.before.member kept op) kept.board reply

-- a member has entered its share, and waits there for words: the board that was to note these has answered so
pub record EntersUnnoted (start : ShareStart) (move : TeamMoved) (reply : Reply) : Type 0 where
  pub served : Reply
  pub between : SeatView
  pub starts : StartsBySeat start move.before served between
  pub notes : AnswersNote between reply

-- why a member that starts a construct is refused so: its caller or its place found a refusal; the board has answered so that was asked for the room; the team's share is another; or the words of the share that it has entered could not be noted
abbrev pub IsStartRefusedFor : ShareStart → Option Refusal → Op → TeamMoved → Reply → Type 0
IsStartRefusedFor start found op move reply = IsSome found ⊎ AnswersNumber op move.before.member move.view move.after reply ⊎ DiffersFromTeams start op move reply ⊎ EntersUnnoted start move reply

-- a member that waits for words in its share asks the board for no more room, and goes on; of what its caller found and of the board the least by number answers
pub record GoesOnWaiting (found : Option Refusal) (move : TeamMoved) (reply : Reply) : Type 0 where
  pub refused : move.before.member < team_size move.view → RefusesLeast found (Reserve 0) move reply
  pub goes_on : IsAccepted reply → (kept : WaitBoardView) × AnswersNumber (Reserve 0) move.before.member move.view kept Finished × TakesWords (moved move.before move.now kept move.after) reply
  pub cause : (refusal : Refusal) → reply ≡ Refused refusal → IsRefusedFor found (Reserve 0) move reply

-- Starts

-- a start that a member asks for, or goes on with (`repeated`), by the limits of its team, of which its caller found this refusal, or none
pub record SeatStart : Type 0 where
  pub start : ShareStart
  pub repeated : Bool
  pub limits : Limits
  pub found : Option Refusal

abbrev pub seat_start : ShareStart → Bool → Limits → Option Refusal → SeatStart
seat_start start repeated limits found = record { start = start; repeated = repeated; limits = limits; found = found }

-- the answer stands, but in a cancelled region a wait is answered so
pub record IsCutReply (served : Reply) (move : TeamMoved) (reply : Reply) : Type 0 where
  pub cancelled : Bool
  pub is_cancelled : EachStands (Stands move.view.board) (λ k. is_cancelled k ≡ cancelled)
  pub answer : reply ≡ cut_reply cancelled served
  pub same : move.now ≡ move.before
  pub board : move.after ≡ move.view

-- once it has tried to enter its share, and was answered so, a member that waits there for words goes on with these; another's answer stands
abbrev pub GoesOnBy : Bool → Reply → TeamMoved → Reply → Type 0
GoesOnBy true served move reply = TakesWords move reply
GoesOnBy false served move reply = IsCutReply served move reply

-- a start that is not refused: the board keeps its room by this operation, and the member starts by its seat, and goes on
pub record EntersBySeat (start : ShareStart) (op : Op) (move : TeamMoved) (reply : Reply) : Type 0 where
  -- the board that keeps the room
  pub kept : WaitBoardView
  pub reserves : AnswersNumber op move.before.member move.view kept Finished
  -- what the member was answered when it tried to enter its share, and its seat then
  pub served : Reply
  pub between : SeatView
  pub starts : StartsBySeat start move.before served between
  pub goes_on : GoesOnBy (awaits_payload between.seen) served (moved between move.now kept move.after) reply

-- a start of a member that waits in no share
pub record StartsShare (asked : SeatStart) (move : TeamMoved) (reply : Reply) : Type 0 where
  -- why it may not start, by its place and by the team's share of the same number
  pub place : Option Refusal
  pub finds : FindsRefusal (construct_start_tests asked.start asked.limits) move.before place move.before
  -- of what its caller found, of that and of the board the least by number answers
  pub refused : move.before.member < team_size move.view → RefusesLeast (lesser asked.found place) (reserve_op asked.start asked.repeated) move reply
  pub enters : IsAccepted reply → EntersBySeat asked.start (reserve_op asked.start asked.repeated) move reply
  -- and it is refused for no other cause than these, or that the team's share of this number is another
  pub cause : (refusal : Refusal) → reply ≡ Refused refusal → IsStartRefusedFor asked.start (lesser asked.found place) (reserve_op asked.start asked.repeated) move reply
