-- What holds of the replies to calls on names and locks, on tasks, and in a cancelled region, beside the laws of the events. OpenMP API 5.2, chapters 12 and 16 and sections 15.2 and 18.9.
use Rattle.std.specs.Prelude.{ℕ, ◌<◌, ◌≡◌, is_some, not, Bool, true, false, List, [], ◌∷◌, Some}
use Rattle.gomp_types.specs.declared.call.Step.{Step}
use Rattle.gomp_events.specs.declared.event.Event.{Event}
use Rattle.gomp_events.specs.declared.event.Event.TheVariants.{Create, Start, Done, Cancel}
use Rattle.gomp_types.specs.declared.cancel.Scope.{Scope}
use Rattle.gomp_types.specs.declared.key.Key.{Key}
use Rattle.gomp_events.specs.Cancels.{is_cancelled, would_be_covered}
use Rattle.gomp_types.specs.declared.reply.Reply.{Reply}
use Rattle.gomp_types.specs.declared.reply.Reply.TheVariants.{Wait, Count, Created, Run, TaskDone, Cancelled, Dropped}
use Rattle.gomp_types.specs.declared.task.Owner.{Owner}
use Rattle.gomp_types.specs.declared.task.Task.{Task}
use Rattle.gomp_types.specs.declared.task.Task.TheVariants.{Explicit}
use Rattle.gomp_types.specs.declared.task.TaskDesc.{TaskDesc}
use Rattle.gomp_events.specs.Laws.{Happened}
use Rattle.gomp_events.specs.Tasks.{executed_task, is_undeferred}
use Rattle.gomp_types.specs.Owners.{same_owner}
use Rattle.gomp_locks.specs.Holders.{asker}
use Rattle.gomp_locks.specs.HoldLaws.{holds_left}
use Rattle.gomp_model.specs.Past.{Terms, Past}
use Rattle.gomp_model.specs.Team.{Record, row_at, past_after, past_of, events}

-- this holds of each reply of a record, given what was before its step
abbrev pub EachReply : Terms → (Past → Step → Reply → Type 0) → Record → Type 0
EachReply terms Law [] = Unit {0}
EachReply terms Law (pair ∷ earlier) = Law (past_of terms earlier) pair.0 pair.1 × EachReply terms Law earlier

-- a call waits for a critical name or a lock only if another owner holds it
abbrev pub WaitsForAnother : Past → Step → Reply → Type 0
WaitsForAnother p step Wait =
    (key : Key) → (row_at p step).holds ≡ Some key
    → (owner : Owner) × (0 < holds_left owner key p.events) × (same_owner owner (asker step.member p.events) ≡ false)
WaitsForAnother p step _ = Unit {0}

-- a count is the number of open holds of the lock that the task which asks has then
abbrev pub TellsHolds : Past → Step → Reply → Type 0
TellsHolds p step (Count count) =
    (key : Key) → (row_at p step).holds ≡ Some key → count ≡ holds_left (asker step.member p.events) key (past_after p step (Count count)).events
TellsHolds p step _ = Unit {0}

-- the replies to calls on names and locks
pub record HoldReplies (terms : Terms) (run : Record) : Type 0 where
  pub waits : EachReply terms WaitsForAnother run
  pub counts : EachReply terms TellsHolds run

-- Created (OpenMP API 5.2, section 12.5): the number in the reply to a creator is that of the task which it has created, in the task that it executes, with what it asked for.
abbrev pub TellsItsNumber : Past → Step → Reply → Type 0
TellsItsNumber p step (Created task) =
    (desc : TaskDesc) × ((row_at p step).creates ≡ Some desc) × Happened (Create task step.member (executed_task step.member p.events) desc) (past_after p step (Created task)).events
TellsItsNumber p step _ = Unit {0}

-- the task was created with this code and this argument, and the member has started it; it is the member's own exactly if it is undeferred
pub record IsAsAsked (task code arg m : ℕ) (own : Bool) (h : List Event) : Type 0 where
  pub creator : ℕ
  pub parent : Task
  pub desc : TaskDesc
  pub created : Happened (Create task creator parent desc) h
  pub same_code : desc.code ≡ code
  pub same_arg : desc.arg ≡ arg
  pub started : Happened (Start task m) h
  pub undeferred : own ≡ is_undeferred task h

-- Run: what a member is to execute is a task that was created so, which it has started.
abbrev pub RunsAsAsked : Past → Step → Reply → Type 0
RunsAsAsked p step (Run task code arg own) = IsAsAsked task code arg step.member own (past_after p step (Run task code arg own)).events
RunsAsAsked p step _ = Unit {0}

-- Own (OpenMP API 5.2, section 12.5): a member's own task is the one that this very call creates, or that it created when it was made first.
abbrev pub RunsItsOwn : Past → Step → Reply → Type 0
RunsItsOwn p step (Run task code arg true) =
    (desc : TaskDesc) × ((row_at p step).creates ≡ Some desc)
    × Happened (Create task step.member (executed_task step.member p.events) desc) (past_after p step (Run task code arg true)).events
RunsItsOwn p step _ = Unit {0}

-- TaskDone: it is the task that the member executed, which is then done; the call at which the member started it waits again, unless the task is undeferred, so that its creator goes on.
abbrev pub ReturnsToItsWait : Past → Step → Reply → Type 0
ReturnsToItsWait p step (TaskDone task waiting) =
    (executed_task step.member p.events ≡ Explicit task)
    × Happened (Done task step.member) (past_after p step (TaskDone task waiting)).events
    × (waiting ≡ not (is_undeferred task p.events))
    × (is_some ((past_after p step (TaskDone task waiting)).waits step.member).open_call ≡ waiting)
ReturnsToItsWait p step _ = Unit {0}

-- the replies to calls on tasks
pub record TaskReplies (terms : Terms) (run : Record) : Type 0 where
  pub created : EachReply terms TellsItsNumber run
  pub runs : EachReply terms RunsAsAsked run
  pub own : EachReply terms RunsItsOwn run
  pub returns : EachReply terms ReturnsToItsWait run

-- Cancelled (OpenMP API 5.2, section 16.1): a member is answered so only if the region is cancelled.
abbrev pub TellsCancelledRegion : Past → Step → Reply → Type 0
TellsCancelledRegion p step Cancelled = is_cancelled p.events ≡ true
TellsCancelledRegion p step _ = Unit {0}

-- Dropped: a creator is answered so only if a cancellation reaches the task, or would.
abbrev pub DropsCovered : Past → Step → Reply → Type 0
DropsCovered p step Dropped = would_be_covered (executed_task step.member p.events) p.events ≡ true
DropsCovered p step _ = Unit {0}

-- if the control variable allows no cancellation (section 2.1), nothing is ever cancelled
abbrev pub NothingCancelled : Terms → Record → Type 0
NothingCancelled terms run = terms.cancellation ≡ false → (m : ℕ) (scope : Scope) → Happened (Cancel m scope) (events terms run) → ⊥

-- the replies in a team of which something is cancelled
pub record CancelReplies (terms : Terms) (run : Record) : Type 0 where
  pub cancelled : EachReply terms TellsCancelledRegion run
  pub dropped : EachReply terms DropsCovered run
  pub allowed : NothingCancelled terms run
