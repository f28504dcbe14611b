-- When a board stands for a list of all events of its team. (own)
use Rattle.std.specs.Prelude.{ℕ, ◌+◌, ◌-◌, ◌≤◌, ◌≡◌, ◌≢◌, Bool, true, false, if◌then◌else◌, List, Option, None, length, reverse, sum, slice_index_or, slice_set}
use Rattle.gomp_types.specs.declared.limits.Limits.{Limits}
use Rattle.gomp_types.specs.declared.refusal.Clash.{Clash}
use Rattle.gomp_types.specs.declared.reply.Reply.{Reply}
use Rattle.gomp_types.specs.declared.reply.Reply.TheVariants.{Wait, Run, Refused}
use Rattle.gomp_events.specs.declared.event.Event.{Event}
use Rattle.gomp_types.specs.Limits.{capped_limits}
use Rattle.gomp_events.specs.declared.event.Arrival.{Arrival}
use Rattle.gomp_events.specs.declared.event.Tag.{Tag}
use Rattle.gomp_events.specs.Tags.{tag_differs}
use Rattle.gomp_events.specs.Events.{barriers_passed, tag_at, at_barrier, at_region_end, is_region_end, clash_of}
use Rattle.gomp_events.specs.Tasks.{task_desc}
use Rattle.gomp_events.specs.Cancels.{is_cancelled}
use Rattle.gomp_events.specs.TaskCalls.{AwaitsTasks, HasJob}
use Rattle.gomp_types.specs.declared.refusal.Refusal.{Refusal}
use Rattle.gomp_types.specs.declared.refusal.Refusal.TheVariants.{Mismatch}
pub use Rattle.gomp_scheduler.specs.Schedulers.{AreSealed}
use Rattle.gomp_scheduler.specs.Schedulers.{SchedulerView, Stands as SchedulerStands, SchedulerHasMembers as SchedulerHas}
use Rattle.gomp_board.specs.declared.op.Op.{Op}
use Rattle.gomp_board.specs.declared.payloads.Put.{Put}
use Rattle.gomp_board.specs.Ops.{arrival_keeps, op_asks, op_keeps, op_gives_back, keeps_room, op_refusal, op_after, goes_on_waiting, OpAnswer}
use Rattle.gomp_board.specs.Payloads.{PayloadsStand}
use Rattle.gomp_board.specs.Stored.{stored}
use Rattle.gomp_board.specs.Owed.{owed}

-- a board, as data
pub record BoardView : Type 0 where
  pub limits : Limits
  -- the stored events, the oldest first
  pub history : List Event
  -- for so many events room was asked, these and those still to come
  pub room : ℕ
  -- so much of it each member keeps for its shares: for their ends, and for words
  pub kept : List ℕ
  pub clash : Option Clash
  -- the tasks, groups and barriers, what tasks wait for, and what is cancelled
  pub scheduler : SchedulerView
  -- the words that executors of singles put, at most one share's at each of eight places
  pub payloads : List (Option Put)

-- how many members the team has
abbrev pub members_of : BoardView → ℕ
members_of board = length board.kept

-- what a member keeps for its shares
abbrev pub kept_by : ℕ → BoardView → ℕ
kept_by m board = slice_index_or board.kept m 0

-- the board once the member has used what it kept for an arrival of this kind
abbrev pub with_kept_used : Arrival → ℕ → BoardView → BoardView
with_kept_used kind m board = record board { kept = slice_set board.kept m (arrival_keeps kind (kept_by m board)) }

-- the scheduler and the words stand for the events, each task that a cancellation reaches was started or discarded, and the history has those of them that are stored
pub record Stands (board : BoardView) (h : List Event) : Type 0 where
  pub scheduler : SchedulerStands board.scheduler h
  pub sealed : AreSealed h
  pub payloads : PayloadsStand board.payloads h
  pub clash : clash_of h ≡ board.clash
  pub history : stored h ≡ reverse board.history

-- a team of 1 to 64 members, and one place for each of them in every part
abbrev pub HasMembers : BoardView → Type 0
HasMembers board = SchedulerHas (members_of board) board.scheduler

-- the room asked for is enough for the history, for what is still to come, and for what members keep
abbrev pub HasRoom : BoardView → Type 0
HasRoom board = length board.history + owed (members_of board) (reverse board.history) + sum board.kept ≤ board.room

-- and for so many events more
abbrev pub HasSpare : ℕ → BoardView → Type 0
HasSpare more board = length board.history + owed (members_of board) (reverse board.history) + sum board.kept + more ≤ board.room

-- what holds of every board, whose history has memory for so many events: it stands for its own history
pub record IsBoard (capacity : ℕ) (board : BoardView) : Type 0 where
  pub stands : Stands board (reverse board.history)
  pub members : HasMembers board
  pub room : HasRoom board
  pub space : board.room ≤ capacity
  -- no limit is above the standard one
  pub limits : capped_limits board.limits ≡ board.limits

-- nothing that a list of events says has changed, nor the room that was asked for: it stands for the same lists; there may be more memory
pub record IsSame (board after : BoardView) : Type 0 where
  pub history : after.history ≡ board.history
  pub room : after.room ≡ board.room
  pub kept : after.kept ≡ board.kept
  pub stands : (h : List Event) → Stands board h → Stands after h
  pub stood : (h : List Event) → Stands after h → Stands board h

-- the room that was asked for after an operation: less what a refusal gives back, and not every other reply has it keep what it asked for
abbrev pub op_room_after : Op → ℕ → Reply → ℕ → ℕ
op_room_after op kept (Refused refusal) room = room - op_gives_back op refusal kept
op_room_after op kept reply room = if keeps_room op reply then room + op_asks op kept else room

-- what each member keeps of it then: the one whose operation it is what the operation leaves, or what a refusal does not give back
abbrev pub kept_after : Op → ℕ → Reply → List ℕ → List ℕ
kept_after op m (Refused refusal) kept = slice_set kept m (slice_index_or kept m 0 - op_gives_back op refusal (slice_index_or kept m 0))
kept_after op m reply kept = slice_set kept m (op_keeps op (slice_index_or kept m 0))

-- no test refuses the operation
abbrev pub IsOpAdmitted : Op → ℕ → BoardView → Type 0
IsOpAdmitted op m board = (h : List Event) → Stands board h → op_refusal board.limits board.room (kept_by m board) m op h ≡ None

-- none refuses it on one list of events for which the board stands: so none does on any, since the board says what the tests ask
abbrev pub IsOpAdmittedOnce : Op → ℕ → BoardView → Type 0
IsOpAdmittedOnce op m board = (h : List Event) × Stands board h × (op_refusal board.limits board.room (kept_by m board) m op h ≡ None)

-- what an operation of a member does to a board, and what it is answered
pub record Performs (op : Op) (m : ℕ) (board after : BoardView) (reply : Reply) : Type 0 where
  -- the answer is that of the definitions, on every list of events for which the board stands
  pub answer : (h : List Event) → Stands board h → OpAnswer board.limits board.room (kept_by m board) (members_of board) m op h reply
  -- and the board stands for the events with those that operation and reply give
  pub stands : (h : List Event) → Stands board h → Stands after (op_after m op reply h)
  pub limits : after.limits ≡ board.limits
  pub members : members_of after ≡ members_of board
  pub room : after.room ≡ op_room_after op (kept_by m board) reply board.room
  pub kept : after.kept ≡ kept_after op m reply board.kept
  -- a refusal changes nothing, save that a mismatch breaks the team
  pub same : (refusal : Refusal) → reply ≡ Refused refusal → refusal ≢ Mismatch → IsSame board after
  -- nor does a wait that goes on
  pub waits : reply ≡ Wait → goes_on_waiting op ≡ true → after ≡ board

-- an arrival that comes first: the member waits at no barrier, unless the region is cancelled, has not arrived at the region's end, and nobody has arrived at its barrier with another tag
pub record ArrivesFirst (m : ℕ) (tag : Tag) (h : List Event) : Type 0 where
  pub away : is_cancelled h ≡ false → at_barrier m h ≡ false
  pub before : at_region_end m h ≡ false
  pub alike : is_cancelled h ≡ false → tag_differs tag (tag_at (barriers_passed m h) h) ≡ false
  -- in a cancelled region it is at the region's end
  pub ends : is_cancelled h ≡ true → is_region_end tag.kind ≡ true

-- what a member is answered at a wait whose goal is not met: a task to execute, or to wait
abbrev pub RunsOrWaits : ℕ → List Event → Reply → Type 0
RunsOrWaits m h reply = AwaitsTasks m false h reply

-- the reply has the member execute this task, as its own or not, with what was asked for
abbrev pub RunsTask : ℕ → Bool → List Event → Reply → Type 0
RunsTask t own h (Run task code arg is_own) = (task ≡ t) × (is_own ≡ own) × HasJob (task_desc t h) code arg
RunsTask t own h _ = ⊥
