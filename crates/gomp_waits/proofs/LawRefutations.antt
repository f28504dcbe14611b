-- What a member whose wait is open never does, of any board, members, operations and replies.
use Rattle.std.proofs.Common.{◌≡◌, ◌≢◌, ℕ, true, false, List, ◌⊎◌}
use Rattle.gomp_types.specs.declared.reply.Reply.{Reply}
use Rattle.gomp_types.specs.declared.reply.Reply.TheVariants.{Wait}
use Rattle.gomp_events.specs.declared.event.Event.{Event}
use Rattle.gomp_board.specs.declared.op.Op.{Op}
use Rattle.gomp_board.specs.Boards.{Stands}
use Rattle.gomp_waits.specs.Waits.{WaitBoardView, is_waiting, comes_amid_wait, PerformsOrWaits}
use Rattle.gomp_waits.specs.Runs.{Asked, Leads, KeepsWaiting, HoldsOff, StaysWaiting}
use Rattle.gomp_waits.proofs.Laws.{waiting_on_keeps_all, wait_changes_nothing, still_stands, waiting_member_changes_nothing}

-- a wait that goes on never changes anything
pub waiting_on_never_changes_a_board : (op : Op) (m : ℕ) (view after : WaitBoardView) (h : List Event) → Stands view.board h → PerformsOrWaits op m view after Wait → is_waiting m view ≡ true → comes_amid_wait op ≡ true → after ≢ view → ⊥
waiting_on_never_changes_a_board op m view after h st performs waits comes other = other (waiting_on_keeps_all op m view after h st performs waits comes)

-- nor does an operation that is held off
pub held_off_never_changes_a_board : (op : Op) (m : ℕ) (view after : WaitBoardView) (reply : Reply) (h : List Event) → Stands view.board h → PerformsOrWaits op m view after reply → is_waiting m view ≡ true → (comes_amid_wait op ≡ false) ⊎ (reply ≡ Wait) → after ≢ view → ⊥
held_off_never_changes_a_board op m view after reply h st performs waits keeps other = other (wait_changes_nothing op m view after reply h st performs waits keeps).0

-- which is never answered otherwise than to wait, or by a refusal of the wait or one below it
pub held_off_never_answered_otherwise : (op : Op) (m : ℕ) (view after : WaitBoardView) (reply : Reply) (h : List Event) → Stands view.board h → PerformsOrWaits op m view after reply → is_waiting m view ≡ true → (comes_amid_wait op ≡ false) ⊎ (reply ≡ Wait) → (HoldsOff reply → ⊥) → ⊥
held_off_never_answered_otherwise op m view after reply h st performs waits keeps other = other (wait_changes_nothing op m view after reply h st performs waits keeps).1

-- no operation leaves a board that stands for no events
pub board_never_stands_for_nothing : (op : Op) (m : ℕ) (view after : WaitBoardView) (reply : Reply) (h : List Event) → Stands view.board h → PerformsOrWaits op m view after reply → ((later : List Event) → Stands after.board later → ⊥) → ⊥
board_never_stands_for_nothing op m view after reply h st performs none = let (later, now) = still_stands op m view after reply h st performs in none later now

-- in a run too a member whose wait is open never stops to wait, is never answered otherwise, and never changes anything
pub waiting_member_never_changes_a_run : (m : ℕ) (steps : List Asked) (view after : WaitBoardView) (h : List Event) → Stands view.board h → is_waiting m view ≡ true → KeepsWaiting m steps → Leads steps view after → (StaysWaiting m steps view after → ⊥) → ⊥
waiting_member_never_changes_a_run m steps view after h st waits keeps leads changes = changes (waiting_member_changes_nothing m steps view after h st waits keeps leads)
