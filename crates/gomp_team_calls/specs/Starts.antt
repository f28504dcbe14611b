-- The start of a construct that is a share, at the board under its lock. (own; OpenMP API 5.2, sections 11.1, 11.3, 11.5 and 5.7.2)
use Rattle.std.specs.Prelude.{ℕ, ◌+◌, ◌≡◌, ◌≤◌, Bool, true, List, Option, Some, None}
use Rattle.gomp_types.specs.declared.refusal.Refusal.{Refusal}
use Rattle.gomp_types.specs.declared.refusal.Refusal.TheVariants.{Mismatch}
use Rattle.gomp_types.specs.declared.reply.Reply.{Reply}
use Rattle.gomp_types.specs.declared.reply.Reply.TheVariants.{Finished, Copied, Refused}
use Rattle.gomp_types.specs.RefusalTexts.{number_of}
use Rattle.gomp_types.specs.Least.{lesser}
use Rattle.gomp_events.specs.declared.event.Event.{Event}
use Rattle.gomp_events.specs.declared.room.TheConstants.{PAYLOAD_ROOM}
use Rattle.gomp_shares.specs.Calls.{EachStands}
use Rattle.gomp_board.specs.declared.op.Op.{Op}
use Rattle.gomp_board.specs.declared.op.Op.TheVariants.{Reserve, Got}
use Rattle.gomp_board.specs.Boards.{BoardView, Stands}
use Rattle.gomp_waits.specs.Waits.{WaitBoardView}
use Rattle.gomp_model.specs.Starts.{end_room}
use Rattle.gomp_team_board.specs.Locked.{locked_refusal}
use Rattle.gomp_team_board.specs.Parts.{PartView, part_after}
use Rattle.gomp_team_shares.specs.declared.start.ShareStart.{ShareStart}
use Rattle.gomp_team_shares.specs.declared.start.ShareStart.TheVariants.{Loop, Sections, Single, SingleCopy}

-- the room that a start asks for: that of the arrival at a barrier at the construct's end, and of words
abbrev pub start_room : ShareStart → ℕ
start_room (Loop loop) = end_room loop.end_kind
start_room (Sections count end_kind) = end_room end_kind
start_room Single = 0
start_room SingleCopy = PAYLOAD_ROOM

-- the operation that asks the board for it; a start that goes on has asked before
abbrev pub reserve_op : ShareStart → Bool → Op
reserve_op start true = Reserve 0
reserve_op start repeated = Reserve (start_room start)

-- the room that a start gives back if it differs: what it has asked for before
abbrev pub back_room : ShareStart → Bool → ℕ
back_room start true = start_room start
back_room start repeated = 0

-- an operation that is done at once unless it is refused: it asks for room, or notes words that a member is given
abbrev pub IsDoneAtOnce : Op → Type 0
IsDoneAtOnce (Reserve more) = Unit {0}
IsDoneAtOnce (Got share words) = Unit {0}
IsDoneAtOnce op = ⊥

-- a refusal, if there is one, that does not come before a mismatch
abbrev pub IsLate : Option Refusal → Type 0
IsLate None = Unit {0}
IsLate (Some refusal) = number_of Mismatch ≤ number_of refusal

-- the part after a start: a mismatch moves it by the break that it gives, and a reply with words by the note that the member is given them
abbrev pub start_part : Reply → PartView → PartView
start_part (Copied words) part = part_after (Got 0 words) Finished part
start_part (Refused Mismatch) part = record part { amount = part.amount + 1 }
start_part reply part = part

-- the lesser of this refusal and the board's answers
abbrev pub LesserAnswers : Refusal → (List Event → Option Refusal) → BoardView → Reply → Type 0
LesserAnswers found by_board board reply =
    EachStands (Stands board) (λ k. (refusal : Refusal) → lesser (Some found) (by_board k) ≡ Some refusal → reply ≡ Refused refusal)

-- the board refuses an operation of a member by this refusal
abbrev pub IsRefusedBy : Refusal → ℕ → Op → WaitBoardView → Type 0
IsRefusedBy refusal m op view = EachStands (Stands view.board) (λ k. locked_refusal m view op k ≡ Some refusal)
