-- A team's board under a lock, and the ledger of its events. (own)
use Rattle.std.specs.Prelude.{ℕ, ◌≡◌, ◌≢◌, ◌<◌, ◌≤◌, nat_le, Bool, true, false, List, Option, Some, None, reverse}
use Rattle.gomp_types.specs.declared.refusal.Refusal.{Refusal}
use Rattle.gomp_types.specs.declared.refusal.Refusal.TheVariants.{BadMember}
use Rattle.gomp_types.specs.RefusalTexts.{number_of}
use Rattle.gomp_types.specs.declared.reply.Reply.{Reply}
use Rattle.gomp_types.specs.declared.reply.Reply.TheVariants.{Refused}
use Rattle.gomp_events.specs.declared.event.Event.{Event}
use Rattle.gomp_events.specs.Laws.{Always}
use Rattle.gomp_types.specs.Least.{lesser}
use Rattle.gomp_board.specs.declared.op.Op.{Op}
use Rattle.gomp_board.specs.Boards.{Stands, members_of}
use Rattle.gomp_board.specs.KeptLaws.{KeepsLaws}
use Rattle.gomp_waits.specs.Waits.{WaitBoardView, is_waiting, asked_refusal, room_terms, PerformsOrWaits}
use Rattle.gomp_waits.specs.Words.{payload_refusal, WordsRule, WordsLaws}
use Rattle.gomp_team_board.specs.Counts.{counted_events}
use Rattle.gomp_team_board.specs.Parts.{counts_after, counts_in}

-- how many members the team of a board has
abbrev pub team_size : WaitBoardView → ℕ
team_size view = members_of view.board

-- the ledger has as many events as the board's history, discards aside
abbrev pub IsLedgerOf : ℕ → WaitBoardView → Type 0
IsLedgerOf total view = total ≡ counted_events view.board.history

-- what the lock guards
pub record IsGuarded (total : ℕ) (view : WaitBoardView) : Type 0 where
  pub counted : IsLedgerOf total view
  -- the words of singles keep their rule
  pub words : Always WordsRule (reverse view.board.history)

-- why an operation of a member is refused, by all tests: those of words, of the wait, and of the board
abbrev pub locked_refusal : ℕ → WaitBoardView → Op → List Event → Option Refusal
locked_refusal m view op h = lesser (payload_refusal op h) (asked_refusal (room_terms m view.board) m (is_waiting m view) op h)

-- the operation is refused by the least of all tests, and changes nothing
pub record RefusesWords (op : Op) (m : ℕ) (view after : WaitBoardView) (h : List Event) (reply : Reply) : Type 0 where
  pub found : Refusal
  pub answer : reply ≡ Refused found
  pub least : locked_refusal m view op h ≡ Some found
  pub same : after ≡ view

-- what an operation of a member does to the board, and what it is answered, by each list of events for which the board stands
pub record AnswersMember (op : Op) (m : ℕ) (view after : WaitBoardView) (reply : Reply) : Type 0 where
  -- if its words are not refused, what the board with open waits has it do
  pub performs : (h : List Event) → Stands view.board h → payload_refusal op h ≡ None → PerformsOrWaits op m view after reply
  pub refused : (h : List Event) → Stands view.board h → payload_refusal op h ≢ None → RefusesWords op m view after h reply

-- the same, whatever number its member has
pub record AnswersNumber (op : Op) (m : ℕ) (view after : WaitBoardView) (reply : Reply) : Type 0 where
  -- that of a member of the team
  pub member : m < team_size view → AnswersMember op m view after reply
  -- another number is refused,
  pub bad_member : team_size view ≤ m → reply ≡ Refused BadMember
  -- and changes nothing
  pub same : team_size view ≤ m → after ≡ view

-- An operation that its caller refuses by a test of its own

-- whether the refusal that the caller found, if it found one, comes before that of the other tests, if one of these holds: its number is not above that one's
abbrev pub comes_first : Option Refusal → Option Refusal → Bool
comes_first None other = false
comes_first (Some found) None = true
comes_first (Some found) (Some other) = nat_le (number_of found) (number_of other)

-- the operation is refused as its caller found, and changes nothing
pub record RefusesFound (found : Option Refusal) (view after : WaitBoardView) (reply : Reply) : Type 0 where
  pub refusal : Refusal
  pub is_found : found ≡ Some refusal
  pub answer : reply ≡ Refused refusal
  pub same : after ≡ view

-- what the operation of a member does to the board, if its caller found a refusal or none, and what it is answered
pub record AnswersMemberUnless (found : Option Refusal) (op : Op) (m : ℕ) (view after : WaitBoardView) (reply : Reply) : Type 0 where
  -- if the refusal that was found comes before those of all tests, it answers
  pub first : (h : List Event) → Stands view.board h → comes_first found (locked_refusal m view op h) ≡ true → RefusesFound found view after reply
  -- else the operation is answered as if none was found
  pub other : (h : List Event) → Stands view.board h → comes_first found (locked_refusal m view op h) ≡ false → AnswersMember op m view after reply

-- the same, whatever number its member has
pub record AnswersUnless (found : Option Refusal) (op : Op) (m : ℕ) (view after : WaitBoardView) (reply : Reply) : Type 0 where
  -- that of a member of the team
  pub member : m < team_size view → AnswersMemberUnless found op m view after reply
  -- another number is refused, whatever was found,
  pub bad_member : team_size view ≤ m → reply ≡ Refused BadMember
  -- and changes nothing
  pub same : team_size view ≤ m → after ≡ view

-- Counts, and calls that take the lock

-- what it does to the counts that the history has of members: its own move by the reply, no other's move
pub record MovesCounts (op : Op) (m : ℕ) (view after : WaitBoardView) (reply : Reply) : Type 0 where
  pub own : counts_in m after.board.history ≡ counts_after op reply (counts_in m view.board.history)
  pub others : (k : ℕ) → k ≢ m → counts_in k after.board.history ≡ counts_in k view.board.history

-- the answer to a call that takes the lock: on the board that lay there, which stood for its own history, the operation was answered so
pub record IsAnsweredUnderLock (op : Op) (m : ℕ) (reply : Reply) : Type 0 where
  -- the board that the call found, and the one that it left
  pub found : WaitBoardView
  pub left : WaitBoardView
  pub known : Stands found.board (reverse found.board.history)
  pub answer : AnswersNumber op m found left reply
  pub counts : MovesCounts op m found left reply

-- the answer to a call that takes the lock, if its caller found a refusal or none: likewise
pub record IsAnsweredUnless (refusal : Option Refusal) (op : Op) (m : ℕ) (reply : Reply) : Type 0 where
  pub found : WaitBoardView
  pub left : WaitBoardView
  pub known : Stands found.board (reverse found.board.history)
  pub answer : AnswersUnless refusal op m found left reply
  pub counts : MovesCounts op m found left reply

-- the laws of a team's events, the newest first, whoever made the calls
pub record KeptLaws (members : ℕ) (h : List Event) : Type 0 where
  -- of tasks, groups and cancellation, and of barriers
  pub board : KeepsLaws members h
  -- of words
  pub words : WordsLaws h
