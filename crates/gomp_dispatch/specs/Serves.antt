-- What each part promises of a call that the parts answer together: the shares of theirs, the board of an operation on it. (own; OpenMP API 5.2, chapters 11, 12 and 15, section 5.7.2)
use Rattle.std.specs.Prelude.{ℕ, ◌+◌, ◌≡◌, ◌≢◌, Bool, true, false, List, [], ◌∷◌, ◌++◌, Option, Some, None}
use Rattle.gomp_types.specs.declared.call.Call.{Call}
use Rattle.gomp_types.specs.declared.call.Call.TheVariants.{TaskCreate, TaskEnd, Taskwait, GroupStart, GroupEnd, Cancel, Point, Stop}
use Rattle.gomp_types.specs.declared.cancel.CancelKind.{CancelKind}
use Rattle.gomp_types.specs.declared.cancel.CancelKind.TheVariants.{Parallel, Taskgroup}
use Rattle.gomp_types.specs.declared.depend.Dep.{Dep}
use Rattle.gomp_types.specs.declared.task.TaskDesc.{TaskDesc}
use Rattle.gomp_events.specs.declared.event.Event.{Event}
use Rattle.gomp_events.specs.declared.event.Event.TheVariants.{Enter}
use Rattle.gomp_events.specs.declared.event.Arrival.{Arrival}
use Rattle.gomp_events.specs.declared.event.Tag.{Tag}
use Rattle.gomp_types.specs.declared.refusal.Place.TheVariants.{Stopped}
use Rattle.gomp_types.specs.declared.refusal.Refusal.{Refusal}
use Rattle.gomp_types.specs.declared.reply.Reply.{Reply}
use Rattle.gomp_types.specs.declared.reply.Reply.TheVariants.{Finished, Wait, Cancelled, Copied, Refused}
use Rattle.gomp_types.specs.declared.shape.Shape.{Shape}
use Rattle.gomp_events.specs.Cancels.{is_cancelled}
use Rattle.gomp_events.specs.Tags.{tag_with}
use Rattle.gomp_events.specs.Events.{shares_entered}
use Rattle.gomp_types.specs.Least.{least}
use Rattle.gomp_shares.specs.Calls.{EachStands}
use Rattle.gomp_shares.specs.Starts.{is_drained, leaves}
use Rattle.gomp_model.specs.Past.{Past}
use Rattle.gomp_model.specs.Row.{Row, unless_repeated, begun_past, MayReply, given_after, MayGoOn}
use Rattle.gomp_board.specs.declared.op.Op.{Op}
use Rattle.gomp_board.specs.declared.op.Op.TheVariants as ops
use Rattle.gomp_board.specs.declared.op.TeamCancel.{TeamCancel}
use Rattle.gomp_board.specs.declared.op.TeamCancel.TheVariants as named
use Rattle.gomp_board.specs.Stored.{IsNotStored}
use Rattle.gomp_scheduler.specs.Schedulers.{AreSealed}
use Rattle.gomp_board.specs.Boards.{BoardView, Stands as BoardStands, IsOpAdmittedOnce, Performs, members_of, kept_by}
use Rattle.gomp_dispatch.specs.declared.leaving.Manner.{Manner}

-- Room

-- this room, unless the call is repeated: then it was asked for
abbrev pub asked_once : Bool → ℕ → ℕ
asked_once true room = 0
asked_once false room = room

-- whether a reply says that the call is done
abbrev pub is_finished : Reply → Bool
is_finished Finished = true
is_finished _ = false

-- the board keeps so much more room of a member
pub record KeepsMore (more m : ℕ) (board after : BoardView) : Type 0 where
  pub stands : (h : List Event) → BoardStands board h → BoardStands after h
  pub members : members_of after ≡ members_of board
  pub limits : after.limits ≡ board.limits
  pub room : after.room ≡ board.room + more
  pub own : kept_by m after ≡ kept_by m board + more
  pub others : (k : ℕ) → k ≢ m → kept_by k after ≡ kept_by k board
  pub nothing : more ≡ 0 → after ≡ board

-- Operations on the board

-- an arrival with this tag, by a member that leaves the region or does not, or the wait after it
abbrev pub arrival_op : Bool → Bool → Tag → Op
arrival_op true leaving tag = ops.AwaitBarrier
arrival_op false leaving tag = ops.Arrive tag leaving

-- the member's arrival of this kind, with the shares that it has entered, or its wait after it, is one that no test refuses
abbrev pub IsArrivalAdmitted : Arrival → Manner → ℕ → {S : Type 0} → (S → List Event → Type 0) → S → BoardView → Type 0
IsArrivalAdmitted kind manner m stands shares board =
    (h : List Event) × stands shares h × IsOpAdmittedOnce (arrival_op manner.repeated manner.leaving.region (tag_with kind (shares_entered m h))) m board

-- the end of a group, or the wait for its tasks that goes on
abbrev pub group_op : Bool → Op
group_op true = ops.AwaitGroup
group_op false = ops.EndGroup

-- a call that brings no description of a task and no items
abbrev pub has_no_clause : Call → Type 0
has_no_clause (TaskCreate desc) = ⊥
has_no_clause (Taskwait items) = ⊥
has_no_clause _ = Unit {0}

-- the creation of a task, or what follows it that goes on
abbrev pub create_op : Bool → TaskDesc → Op
create_op true desc = ops.AwaitOwn
create_op false desc = ops.Create desc

-- a taskwait with these items, or the wait for its tasks that goes on
abbrev pub wait_op : Bool → List Dep → Op
wait_op true items = ops.AwaitChildren items
wait_op false items = ops.Taskwait items

-- what a construct of this kind names of the team, if it names no share
abbrev pub team_cancel : CancelKind → Option TeamCancel
team_cancel Parallel = Some named.Parallel
team_cancel Taskgroup = Some named.Taskgroup
team_cancel _ = None

-- how the board cancels what is named so, or answers whether it is cancelled, if it does
abbrev pub cancel_op : Bool → Bool → Option TeamCancel → Option Op
cancel_op allowed clause None = None
cancel_op allowed clause (Some what) = Some (ops.Cancel what clause allowed)

abbrev pub point_op : Bool → Option TeamCancel → Option Op
point_op allowed None = None
point_op allowed (Some what) = Some (ops.Point what allowed)

-- how the board alone answers a call, if it does
abbrev pub board_op : Manner → Call → Option Op
board_op manner (TaskCreate desc) = Some (create_op manner.repeated desc)
board_op manner TaskEnd = Some (ops.EndTask manner.leaving.task)
board_op manner (Taskwait items) = Some (wait_op manner.repeated items)
board_op manner GroupStart = Some ops.OpenGroup
board_op manner GroupEnd = Some (group_op manner.repeated)
board_op manner (Cancel kind clause) = cancel_op manner.allowed clause (team_cancel kind)
board_op manner (Point kind) = point_op manner.allowed (team_cancel kind)
board_op manner Stop = Some (ops.Break Stopped 0)
board_op manner _ = None

-- the words that a reply gives a member are noted; another reply changes nothing
abbrev pub NotesWords : ℕ → ℕ → Reply → BoardView → BoardView → Type 0
NotesWords share m (Copied words) board after = (noted : Reply) × Performs (ops.Got share words) m board after noted
NotesWords share m _ board after = after ≡ board

-- Calls on the shares

-- an event that changes nothing for the board; an entry is this member's, into a share of this shape
abbrev pub IsShareEvent : ℕ → Option Shape → Event → Type 0
IsShareEvent m starts (Enter share n shape) = (n ≡ m) × (starts ≡ Some shape)
IsShareEvent m starts event = IsNotStored event

-- each of these
abbrev pub AreShareEvents : ℕ → Option Shape → List Event → Type 0
AreShareEvents m starts [] = Unit {0}
AreShareEvents m starts (event ∷ earlier) = IsShareEvent m starts event × AreShareEvents m starts earlier

-- the shares stand for these events, of a region that is cancelled or not
abbrev pub SharesStand : {S : Type 0} → (S → List Event → Type 0) → S → Bool → List Event → Type 0
SharesStand stands shares cancelled h = stands shares h × (is_cancelled h ≡ cancelled)

-- its construct differs from no other member's, and if it is repeated it may go on
pub record GoesOn (row : Row) (repeated : Bool) (m : ℕ) (p : Past) : Type 0 where
  pub compared : least (row.compared repeated m p) ≡ None
  pub waits : repeated ≡ true → MayGoOn row m

-- of each past of a team of so many members that allows cancellation or not, for whose events the parts stand and in which the call goes on, this holds
abbrev pub EachServed : (List Event → Type 0) → ℕ → Bool → Row → ℕ → (Bool → Past → Type 0) → Type 0
EachServed stand members allowed row m P =
    (repeated : Bool) (p : Past) → p.terms.members ≡ members → p.terms.cancellation ≡ allowed → stand p.events → GoesOn row repeated m p → P repeated p

-- a body of the shares in a team: what stands, for what the shares do, how many members there are, and whether the team allows cancellation
pub record TeamShares (S : Type 0) : Type 1 where
  pub stand : List Event → Type 0
  pub stands : S → List Event → Type 0
  pub members : ℕ
  pub allowed : Bool

-- of these shares as they are, in a team of this size
abbrev pub in_team : {S : Type 0} → (S → List Event → Type 0) → ℕ → S → Bool → Bool → TeamShares S
in_team stands members shares cancelled allowed =
    record { stand = SharesStand stands shares cancelled; stands = stands; members = members; allowed = allowed }

-- what the shares promise of their reply to such a call, whether it is repeated or not, if the parts stand so before it
pub record SharesServe {S : Type 0} (by : TeamShares S) (before after : S) (row : Row) (m : ℕ) (reply : Reply) : Type 0 where
  -- a wait changes nothing
  pub waits : reply ≡ Wait → after ≡ before
  -- the reply is one that the row has, and no refusal
  pub answer : EachServed by.stand by.members by.allowed row m (λ repeated p. MayReply row repeated m p reply)
  pub accepts : (repeated : Bool) (p : Past) (refusal : Refusal) → MayReply row repeated m p (Refused refusal) → ⊥
  -- the shares stand for what it gives
  pub stands_for : EachServed by.stand by.members by.allowed row m (λ repeated p. by.stands after (given_after row repeated m p reply))

-- the events of such a call and its reply change nothing for the board, once each task that a cancellation reaches was started or discarded
abbrev pub GivesShareEvents : Row → ℕ → Reply → Type 0
GivesShareEvents row m reply =
    (repeated : Bool) (p : Past) → AreSealed p.events → AreShareEvents m row.starts (unless_repeated (row.begins m p) repeated) × AreShareEvents m row.starts (row.gives m (begun_past repeated row m p) reply)

-- the reply in a region that is cancelled or not, to a call that would wait: cancelled if it is
abbrev pub cut_reply : Bool → Reply → Reply
cut_reply true Wait = Cancelled
cut_reply true reply = reply
cut_reply false reply = reply

-- the events after a member has left its share, unless its call is repeated
abbrev pub left_once : Bool → ℕ → List Event → List Event
left_once repeated m h = unless_repeated (leaves m h) repeated ++ h

-- Arrivals

-- of the member's arrival of this kind, or its wait after it, by the shares that it has entered, this holds
abbrev pub EachArrival : Arrival → Manner → ℕ → (List Event → Type 0) → (Op → Type 0) → Type 0
EachArrival kind manner m stand P =
    (h : List Event) → stand h → P (arrival_op manner.repeated manner.leaving.region (tag_with kind (shares_entered m h)))

-- the member was answered that nothing is left of its share, or the share is cancelled
abbrev pub IsShareDrained : {S : Type 0} → ℕ → (S → List Event → Type 0) → S → Type 0
IsShareDrained m stands shares = EachStands (stands shares) (λ h. is_drained m h ≡ true)

-- the shares have the member's share left, unless its call is repeated
abbrev pub IsLeftOnce : {S : Type 0} → Bool → ℕ → (S → List Event → Type 0) → S → S → Type 0
IsLeftOnce repeated m stands before after = EachStands (stands before) (λ h. stands after (left_once repeated m h))
