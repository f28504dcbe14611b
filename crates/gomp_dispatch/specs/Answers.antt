-- What a team knows of a call that no test refuses, and what its parts stand for after the answer. OpenMP API 5.2, chapters 11, 12 and 15, section 5.7.2.
use Rattle.std.specs.Prelude.{ℕ, ◌≤◌, ◌<◌, ◌≡◌, ◌≢◌, ◌&&◌, is_some, not, Bool, true, false, List, [], ◌++◌, Option, Some, None, IfSome, Result, IfOk}
use Rattle.std.specs.Result.{result_err}
use Rattle.gomp_types.specs.declared.shape.Shape.{Shape}
use Rattle.gomp_types.specs.declared.limits.Limits.{Limits}
use Rattle.gomp_types.specs.declared.refusal.Refusal.{Refusal}
use Rattle.gomp_types.specs.declared.refusal.Refusal.TheVariants.{NoMemory}
use Rattle.gomp_types.specs.declared.reply.Reply.{Reply}
use Rattle.gomp_types.specs.declared.reply.Reply.TheVariants.{Wait, Stopped, Refused}
use Rattle.gomp_events.specs.declared.event.Event.{Event}
use Rattle.gomp_events.specs.declared.event.Event.TheVariants.{Put}
use Rattle.gomp_events.specs.declared.event.Arrival.{Arrival}
use Rattle.gomp_events.specs.Events.{open_share, at_region_end, is_region_end, has_left_region, clash_of}
use Rattle.gomp_events.specs.Laws.{Always}
use Rattle.gomp_types.specs.Least.{lesser, least}
use Rattle.gomp_events.specs.TaskCalls.{unless_given_up}
use Rattle.gomp_types.specs.Tests.{Test}
use Rattle.gomp_events.specs.declared.seen.Seen.{Seen}
use Rattle.gomp_shares.specs.Calls.{MayOpenAs, EachStands}
use Rattle.gomp_shares.specs.Starts.{compared_share, is_drained}
use Rattle.gomp_model.specs.Past.{Past}
use Rattle.gomp_model.specs.Row.{Row, drain_tests, MayGive, past_given}
use Rattle.gomp_model.specs.Admits.{ServersAdmit}
use Rattle.gomp_model.specs.Starts.{share_room}
use Rattle.gomp_barrier.specs.Stands.{BarriersView, Stands as BarriersStand}
use Rattle.gomp_board.specs.Ops.{awaits_barrier, goes_to_the_end}
use Rattle.gomp_board.specs.Boards.{BoardView, Stands as BoardStands, IsSame, members_of, kept_by}
use Rattle.gomp_dispatch.specs.declared.leaving.Manner.{Manner}
use Rattle.gomp_dispatch.specs.Leaves.{IsMadeSo}

-- Tests

-- the tests behind those of the member's place: whether it was answered that nothing is left, and the comparison; of a call that is repeated the comparison alone
abbrev pub later_tests : Bool → Row → ℕ → Past → List Test
later_tests true row m p = row.compared true m p
later_tests false row m p = drain_tests row.drains m p.events ++ row.compared false m p

-- a share that the call starts, if it starts one, is compared with the team's
abbrev pub compared_start : Option Shape → ℕ → List Event → List Test
compared_start None m h = []
compared_start (Some shape) m h = compared_share shape m h

-- the refusal, if there is one, comes first: no later test of the call has one with a lesser number
abbrev pub ComesFirst : Row → Option Refusal → Type 0
ComesFirst row found =
    IfSome found (λ refusal. (m : ℕ) (p : Past) → lesser (Some refusal) (least (later_tests false row m p)) ≡ Some refusal)

-- a call's refusal by its member's place, unless the member gives its share up: the least of these tests, before which no later one comes
pub record ByPlace (row : Row) (limits : Limits) (gives_up : Bool) (seen : Seen) (found : Option Refusal) : Type 0 where
  pub place : found ≡ least (unless_given_up gives_up (row.by_place limits seen))
  pub first : ComesFirst row found

-- the share that a call with this row starts, if it starts one, is one that its member may open
abbrev pub StartsShare : Row → Seen → Option Shape → Type 0
StartsShare row seen starts = (starts ≡ row.starts) × IfSome starts (MayOpenAs seen)

-- what the member's place makes of a call: its refusal, or the share that it starts
pub record PlaceDecides (row : Row) (limits : Limits) (seen : Seen) (found : Result (Option Shape) Refusal) : Type 0 where
  pub place : ByPlace row limits false seen (result_err found)
  pub starts : IfOk found (StartsShare row seen)
  -- a call whose member leaves its place before it waits starts no share
  pub leaving : row.stays ≡ false → row.starts ≡ None

-- no test that the place of a member which sees this decides holds, by some limits
abbrev pub PlaceAdmits : Row → Seen → Type 0
PlaceAdmits row seen = (limits : Limits) × (least (row.by_place limits seen) ≡ None)

-- a member that ends its share was answered that nothing is left, or the share is cancelled; one that repeats the end has left it
abbrev pub IsDrained : {S : Type 0} → Bool → Row → (S → List Event → Type 0) → S → ℕ → Type 0
IsDrained repeated row stands shares m = repeated ≡ false → row.drains ≡ true → EachStands (stands shares) (λ h. is_drained m h ≡ true)

-- Parts

-- the shares and the barriers stand for these events
abbrev pub BothStand : {S : Type 0} → (S → List Event → Type 0) → S → BarriersView → List Event → Type 0
BothStand stands shares barriers h = stands shares h × BarriersStand barriers h

-- words are put in the share that their member is in
abbrev pub PutsInside : Event → List Event → Type 0
PutsInside (Put share m words) earlier = (shape : Shape) × (open_share m earlier ≡ Some (share, shape))
PutsInside _ earlier = Unit {0}

-- what the board keeps for the share that a member is in, at least: the room that it asked for at its start
abbrev pub room_left : Option (ℕ × Shape) → ℕ
room_left None = 0
room_left (Some (share, shape)) = share_room shape

-- the shares and the board stand for a past: for its events and its room, the board keeps what the members' shares need, and words were put by members of their share alone
pub record ServersStand {S : Type 0} (stands : S → List Event → Type 0) (shares : S) (board : BoardView) (p : Past) : Type 0 where
  pub shares_are : stands shares p.events
  pub board_is : BoardStands board p.events
  pub members : p.terms.members ≡ members_of board
  pub limits : p.terms.limits ≡ board.limits
  pub room : p.room ≡ board.room
  pub kept : (k : ℕ) → room_left (open_share k p.events) ≤ kept_by k board
  pub puts : Always PutsInside p.events

-- neither changes; there may be more memory
abbrev pub ArePartsKept : {S : Type 0} → S → BoardView → S → BoardView → Type 0
ArePartsKept shares board shares_after board_after = (shares_after ≡ shares) × IsSame board board_after

-- the board keeps the room of the share that the call starts, if it starts one
abbrev pub KeepsStart : Row → ℕ → BoardView → Type 0
KeepsStart row m board = IfSome row.starts (λ (shape : Shape). share_room shape ≤ kept_by m board)

-- A call that no test refuses

-- whether the member waits at a barrier; one of a cancelled region waits at the region's end alone
abbrev pub waits_there : ℕ → List Event → Bool
waits_there m h = awaits_barrier m h && not (goes_to_the_end m h)

-- the parts admit a call of a member that stands so in its team
pub record ServersAdmitMember (row : Row) (repeated : Bool) (m : ℕ) (board : BoardView) (p : Past) : Type 0 where
  pub admitted : ServersAdmit row repeated m p
  -- the member is in the region, and the team is not broken
  pub inside : has_left_region m p.events ≡ false
  pub whole : clash_of p.events ≡ None
  -- a member that repeats a call which arrived at a barrier waits there
  pub arrived : (repeated && is_some row.arrives) ≡ true → awaits_barrier m p.events ≡ true
  -- and one that makes another call, and does not stop the team, waits at none
  pub away : ((q : Past) → row.may_reply m q Stopped → ⊥) → (repeated && is_some row.arrives) ≡ false → waits_there m p.events ≡ false
  -- a member whose call arrives has arrived at the region's end only if it repeats that
  pub ends : IfSome row.arrives (λ (kind : Arrival). at_region_end m p.events ≡ (repeated && is_region_end kind))
  -- a start that waits has its room
  pub kept : repeated ≡ true → KeepsStart row m board

-- for some past for which they stand the parts admit a call with this row, made so
abbrev pub SomeServersAdmit : {S : Type 0} → (S → List Event → Type 0) → S → BoardView → Row → Manner → ℕ → Type 0
SomeServersAdmit stands shares board row manner m = (p : Past) × ServersStand stands shares board p × ServersAdmitMember row manner.repeated m board p × IsMadeSo manner m p

-- for each such past this holds
abbrev pub EachServersAdmit : {S : Type 0} → (S → List Event → Type 0) → S → BoardView → Row → Manner → ℕ → (Past → Type 0) → Type 0
EachServersAdmit stands shares board row manner m P = (p : Past) → ServersStand stands shares board p → ServersAdmitMember row manner.repeated m board p → IsMadeSo manner m p → P p

-- and after the reply to it the parts stand for this past with what the reply gives
abbrev pub StandAfter : {S : Type 0} → (S → List Event → Type 0) → S → BoardView → Row → Manner → ℕ → Reply → Past → Type 0
StandAfter stands shares board row manner m reply p = ServersStand stands shares board (past_given row manner.repeated m p reply)

-- what a reply leaves of a board beside: its size and its limits, and what it keeps for other members
pub record LeavesBoard (m : ℕ) (board after : BoardView) : Type 0 where
  pub members : members_of after ≡ members_of board
  pub limits : after.limits ≡ board.limits
  pub others : (k : ℕ) → k ≢ m → kept_by k after ≡ kept_by k board

-- a call of a member, made so, and for what the shares stand that answer it
pub record CallAsked (S : Type 0) : Type 1 where
  pub stands : S → List Event → Type 0
  pub row : Row
  pub manner : Manner
  pub m : ℕ

-- a call with this row, made so by this member
abbrev pub asked_so : {S : Type 0} → (S → List Event → Type 0) → Row → Manner → ℕ → CallAsked S
asked_so stands row manner m = record { stands = stands; row = row; manner = manner; m = m }

-- what the parts promise of their reply to a call that they admit, over each such past
pub record AnswersCall {S : Type 0} (asked : CallAsked S) (shares shares_after : S) (board board_after : BoardView) (reply : Reply) : Type 0 where
  pub leaves : LeavesBoard asked.m board board_after
  -- a wait that goes on changes nothing
  pub waits : asked.manner.repeated ≡ true → reply ≡ Wait → (shares_after ≡ shares) × (board_after ≡ board)
  -- there is no memory: of a call that asks for room, once, and nothing changes
  pub lacks : reply ≡ Refused NoMemory → ArePartsKept shares board shares_after board_after × (asked.manner.repeated ≡ false) × (0 < asked.row.room)
  -- there is no other refusal
  pub refuses : (refusal : Refusal) → reply ≡ Refused refusal → refusal ≡ NoMemory
  -- the reply is one that the row has, or want of memory of a call that asks for some
  pub answer : EachServersAdmit asked.stands shares board asked.row asked.manner asked.m (λ p. MayGive asked.row asked.manner.repeated asked.m p reply)
  -- and the parts then stand for the past after it
  pub stands_for : EachServersAdmit asked.stands shares board asked.row asked.manner asked.m (StandAfter asked.stands shares_after board_after asked.row asked.manner asked.m reply)
  -- a start that waits has its room
  pub keeps : reply ≡ Wait → KeepsStart asked.row asked.m board_after
