-- What the parts of a team and its book of names and locks are asked together, and what they stand for after the reply. (own)
use Rattle.std.specs.Prelude.{ℕ, ◌≡◌, true, false, List, Some, IsSome}
use Rattle.gomp_types.specs.declared.call.Call.{Call}
use Rattle.gomp_events.specs.declared.event.Event.{Event}
use Rattle.gomp_types.specs.declared.refusal.Refusal.{Refusal}
use Rattle.gomp_types.specs.declared.refusal.Refusal.TheVariants.{NoMemory}
use Rattle.gomp_types.specs.declared.reply.Reply.{Reply}
use Rattle.gomp_types.specs.declared.reply.Reply.TheVariants.{Wait, Refused}
use Rattle.gomp_events.specs.Laws.{Always}
use Rattle.gomp_locks.specs.Book.{BookView, name_at}
use Rattle.gomp_locks.specs.HoldRules.{HoldRule}
use Rattle.gomp_model.specs.Past.{Past}
use Rattle.gomp_model.specs.Row.{Row, MayGive, past_given}
use Rattle.gomp_model.specs.Admits.{BookAdmits}
use Rattle.gomp_model.specs.Calls.{row_of}
use Rattle.gomp_board.specs.Boards.{BoardView}
use Rattle.gomp_dispatch.specs.declared.leaving.Manner.{Manner}
use Rattle.gomp_dispatch.specs.Answers.{CallAsked, ArePartsKept, KeepsStart, LeavesBoard, ServersAdmitMember, ServersStand}
use Rattle.gomp_dispatch.specs.Leaves.{IsMadeSo}
use Rattle.gomp_book_calls.specs.Stands.{BookStands, IsKnown}

-- the parts and the book stand for this past
abbrev pub AllStand : {S : Type 0} → (S → List Event → Type 0) → S → BoardView → BookView → Past → Type 0
AllStand stands shares board book p = ServersStand stands shares board p × BookStands book p

-- the parts admit a call with this row of a member that makes it so, and so does the book, whose rule what happened keeps
abbrev pub TeamAdmits : Row → Manner → ℕ → BoardView → Past → Type 0
TeamAdmits row manner m board p = ServersAdmitMember row manner.repeated m board p × IsMadeSo manner m p × Always HoldRule p.events × BookAdmits row manner.repeated m p

-- for some past for which the parts and the book stand they admit it
abbrev pub SomeTeamAdmits : {S : Type 0} → CallAsked S → S → BoardView → BookView → Type 0
SomeTeamAdmits asked shares board book = (p : Past) × AllStand asked.stands shares board book p × TeamAdmits asked.row asked.manner asked.m board p

-- for each such past this holds
abbrev pub EachTeamAdmits : {S : Type 0} → (S → List Event → Type 0) → S → BoardView → BookView → Row → Manner → ℕ → (Past → Type 0) → Type 0
EachTeamAdmits stands shares board book row manner m P = (p : Past) → AllStand stands shares board book p → TeamAdmits row manner m board p → P p

-- the book knows each name still that it knew
abbrev pub NamesStay : BookView → BookView → Type 0
NamesStay book after = (name : List ℕ) → IsSome (name_at name book) → IsSome (name_at name after)

-- a call of a member, made so, its reply, and for what the shares stand
pub record CallReplied (S : Type 0) : Type 1 where
  pub stands : S → List Event → Type 0
  pub call : Call
  pub manner : Manner
  pub m : ℕ
  pub reply : Reply

-- the parts of a team and its book
pub record AllParts (S : Type 0) : Type 0 where
  pub shares : S
  pub board : BoardView
  pub book : BookView

-- these shares, this board and this book
abbrev pub all_parts : {S : Type 0} → S → BoardView → BookView → AllParts S
all_parts shares board book = record { shares = shares; board = board; book = book }

-- what the parts and the book promise of their reply to a call that they admit, over each such past
pub record AnswersAll {S : Type 0} (asked : CallReplied S) (before after : AllParts S) : Type 0 where
  pub leaves : LeavesBoard asked.m before.board after.board
  -- a wait that goes on changes nothing
  pub waits : asked.manner.repeated ≡ true → asked.reply ≡ Wait → (after.shares ≡ before.shares) × (after.board ≡ before.board) × (after.book ≡ before.book)
  -- there is no memory: of a call that is made for the first time, and nothing changes
  pub lacks : asked.reply ≡ Refused NoMemory → ArePartsKept before.shares before.board after.shares after.board × (after.book ≡ before.book)
  pub once : asked.reply ≡ Refused NoMemory → asked.manner.repeated ≡ false
  -- there is no other refusal
  pub refuses : (refusal : Refusal) → asked.reply ≡ Refused refusal → refusal ≡ NoMemory
  -- the reply is one that the row has
  pub answer : EachTeamAdmits asked.stands before.shares before.board before.book (row_of asked.call) asked.manner asked.m (λ p. MayGive (row_of asked.call) asked.manner.repeated asked.m p asked.reply)
  -- and all then stand for the past after it
  pub stands_for : EachTeamAdmits asked.stands before.shares before.board before.book (row_of asked.call) asked.manner asked.m (λ p. AllStand asked.stands after.shares after.board after.book (past_given (row_of asked.call) asked.manner.repeated asked.m p asked.reply))
  -- a known name stays known, and one that is waited for is known
  pub names : NamesStay before.book after.book
  pub known : asked.reply ≡ Wait → IsKnown after.book (Some asked.call)
  -- a start that waits has its room
  pub keeps : asked.reply ≡ Wait → KeepsStart (row_of asked.call) asked.m after.board
