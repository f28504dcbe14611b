-- What a call of a member does by its own seat on the ring of the work-shares, whatever the other members do. (own; OpenMP API 5.2, chapter 11)
use Rattle.std.specs.Prelude.{ℕ, ◌≡◌, ◌≢◌, ◌&&◌, ◌⊎◌, Bool, true, false, List, Option, Some, None}
use Rattle.gomp_types.specs.declared.call.Call.{Call}
use Rattle.gomp_types.specs.declared.call.Call.TheVariants.{LoopStart, LoopNext, LoopEnd, LoopEndNowait, LoopEndCancel, SectionsStart, SectionsNext, SectionsEnd, SectionsEndNowait, SectionsEndCancel, SingleStart, SingleCopyStart, OrderedStart, OrderedEnd, Cancel, Point}
use Rattle.gomp_types.specs.declared.call.Server.{Server}
use Rattle.gomp_types.specs.declared.call.Server.TheVariants as servers
use Rattle.gomp_types.specs.declared.cancel.CancelKind.{CancelKind}
use Rattle.gomp_types.specs.declared.cancel.CancelKind.TheVariants as kinds
use Rattle.gomp_types.specs.declared.loop_desc.EndKind.TheVariants.{Wait as WithBarrier, Cancellable}
use Rattle.gomp_types.specs.declared.refusal.Refusal.{Refusal}
use Rattle.gomp_types.specs.declared.reply.Reply.{Reply}
use Rattle.gomp_types.specs.declared.reply.Reply.TheVariants.{Cancelled, Chunk, Copied, Executor, Finished, NoChunk, Refused, Section, Wait}
use Rattle.gomp_types.specs.Servers.{served_by}
use Rattle.gomp_events.specs.declared.seen.Seen.{Seen}
use Rattle.gomp_events.specs.Ordered.{is_ordered}
use Rattle.gomp_shares.specs.declared.admission.Construct.TheVariants as constructs
use Rattle.gomp_dispatch.specs.Serves.{cut_reply}
use Rattle.gomp_model.specs.Calls.{row_of}
use Rattle.gomp_member.specs.Rooms.{StartsTask}
use Rattle.gomp_team_calls.specs.declared.ends.ShareEnd.{ShareEnd}
use Rattle.gomp_team_calls.specs.Arrivals.{IsAccepted}
use Rattle.gomp_team_shares.specs.declared.inside.InsideCall.{InsideCall}
use Rattle.gomp_team_shares.specs.declared.inside.InsideCall.TheVariants as inside
use Rattle.gomp_team_shares.specs.declared.start.ShareStart.{ShareStart}
use Rattle.gomp_team_shares.specs.declared.start.ShareStart.TheVariants as start
use Rattle.gomp_ring.specs.RingSeats.{SeatView}
use Rattle.gomp_seat_calls.specs.Ends.{has_seen_end}
use Rattle.gomp_seat_calls.specs.Starts.{StartsBySeat, awaits_payload}
use Rattle.gomp_seat_calls.specs.Stays.{LeavesShare}
use Rattle.gomp_seat_team.specs.Arrivals.{FindsPlace}
use Rattle.gomp_seat_team.specs.Inside.{ServesInsideBySeat}

-- What a call asks of the seat

-- the construct that a call starts, if it starts one
abbrev pub start_of : Call → Option ShareStart
start_of (LoopStart desc) = Some (start.Loop desc)
start_of (SectionsStart count end_kind) = Some (start.Sections count end_kind)
start_of SingleStart = Some start.Single
start_of SingleCopyStart = Some start.SingleCopy
start_of call = None

-- whether the reply to a start says what the member was given: a piece, or that none is left, or whether it executes a single
abbrev pub is_given : Reply → Bool
is_given (Chunk first count) = true
is_given NoChunk = true
is_given (Section number) = true
is_given (Executor executes) = true
is_given reply = false

-- a construct that cancels such a share, or asks whether it is cancelled, if it names one, in a team that allows cancellation or does not
abbrev pub cancel_of : Bool → Bool → CancelKind → Option InsideCall
cancel_of allowed clause kinds.Loop = Some (inside.Cancel constructs.Loop clause allowed)
cancel_of allowed clause kinds.Sections = Some (inside.Cancel constructs.Sections clause allowed)
cancel_of allowed clause kind = None

-- the call on the share that the member is in, if it is one
abbrev pub inside_of : Bool → Call → Option InsideCall
inside_of allowed LoopNext = Some (inside.Next constructs.Loop)
inside_of allowed LoopEndNowait = Some (inside.EndNowait constructs.Loop)
inside_of allowed SectionsNext = Some (inside.Next constructs.Sections)
inside_of allowed SectionsEndNowait = Some (inside.EndNowait constructs.Sections)
inside_of allowed (OrderedStart value) = Some (inside.BeginPart value)
inside_of allowed OrderedEnd = Some inside.EndPart
inside_of allowed (Cancel kind clause) = cancel_of allowed clause kind
inside_of allowed (Point kind) = cancel_of allowed false kind
inside_of allowed call = None

-- the loop or sections, with a barrier at its end, that a call ends, if it ends one
abbrev pub end_of : Call → Option ShareEnd
end_of LoopEnd = Some (record { construct = constructs.Loop; end_kind = WithBarrier })
end_of LoopEndCancel = Some (record { construct = constructs.Loop; end_kind = Cancellable })
end_of SectionsEnd = Some (record { construct = constructs.Sections; end_kind = WithBarrier })
end_of SectionsEndCancel = Some (record { construct = constructs.Sections; end_kind = Cancellable })
end_of call = None

-- what a seat is asked for: nothing; the start of a construct, or to go on with it; a call on the member's share; the end of that at a barrier; or to leave a single whose words the member puts
pub data SeatAsk : Type 0 where
  Aside : SeatAsk
  Starts : Bool → ShareStart → SeatAsk
  Inside : InsideCall → SeatAsk
  Ends : ShareEnd → SeatAsk
  Puts : SeatAsk

-- by a call that the shares answer
abbrev pub ask_of_shares : Bool → Option ShareStart → Option InsideCall → SeatAsk
ask_of_shares repeated (Some start) call = Starts repeated start
ask_of_shares repeated None (Some call) = Inside call
ask_of_shares repeated None None = Aside

-- by the end of a share at a barrier: one that is repeated waits there, and has left its share
abbrev pub ask_of_end : Bool → ShareEnd → SeatAsk
ask_of_end false end = Ends end
ask_of_end true end = Aside

-- by a call that brings board and shares together: no barrier, and no region's end, asks the seat
abbrev pub ask_together : Bool → Option ShareStart → Option ShareEnd → Bool → SeatAsk
ask_together repeated (Some start) end puts = Starts repeated start
ask_together repeated None (Some end) puts = ask_of_end repeated end
ask_together repeated None None true = Puts
ask_together repeated None None false = Aside

abbrev pub ask_by : Server → Bool → Bool → Call → SeatAsk
ask_by servers.Book allowed repeated call = Aside
ask_by servers.Board allowed repeated call = Aside
ask_by servers.Shares allowed repeated call = ask_of_shares repeated (start_of call) (inside_of allowed call)
ask_by servers.Team allowed repeated call = ask_together repeated (start_of call) (end_of call) (row_of call).puts

-- by a call, made or repeated, in a team that allows cancellation or does not
abbrev pub seat_ask : Bool → Bool → Call → SeatAsk
seat_ask allowed repeated call = ask_by (served_by call) allowed repeated call

-- How the seat answers

-- a member that waits in its share for the words of a single goes on: it is given them, and has left the share; or it waits on, and nothing changes; the wait is cut short in a cancelled region
abbrev pub GivesOwnWords : Option (List ℕ) → Bool → SeatView → Reply → SeatView → Type 0
GivesOwnWords (Some words) cancelled before reply after = (reply ≡ Copied words) × LeavesShare before after
GivesOwnWords None cancelled before reply after = (reply ≡ cut_reply cancelled Wait) × (after ≡ before)

pub record TakesOwnWords (before : SeatView) (reply : Reply) (after : SeatView) : Type 0 where
  pub words : Option (List ℕ)
  pub cancelled : Bool
  pub gives : GivesOwnWords words cancelled before reply after

-- the answer stands, but in a cancelled region a wait is answered so, and nothing changes
pub record KeepsReply (served : Reply) (before : SeatView) (reply : Reply) (after : SeatView) : Type 0 where
  pub cancelled : Bool
  pub answer : reply ≡ cut_reply cancelled served
  pub same : after ≡ before

-- once a member was answered so by its seat it goes on with the words of its share, if it waits for these
abbrev pub GoesOnInShare : Bool → Reply → SeatView → Reply → SeatView → Type 0
GoesOnInShare true served before reply after = TakesOwnWords before reply after
GoesOnInShare false served before reply after = KeepsReply served before reply after

-- a start that is not refused: the member starts by its seat, and goes on
pub record EntersOwnShare (start : ShareStart) (before : SeatView) (reply : Reply) (after : SeatView) : Type 0 where
  -- what it was answered when it tried to enter its share, and its seat then
  pub served : Reply
  pub between : SeatView
  pub starts : StartsBySeat start before served between
  pub goes_on : GoesOnInShare (awaits_payload between.seen) served between reply after

-- a member that goes on with a start waits in its share for words, or outside of it to enter it
abbrev pub StartsOwnShare : Bool → ShareStart → SeatView → Reply → SeatView → Type 0
StartsOwnShare true start before reply after = TakesOwnWords before reply after
StartsOwnShare false start before reply after = EntersOwnShare start before reply after

-- a call on the member's share is refused, and nothing changes; or the seat answers it
abbrev pub AsksOwnShare : InsideCall → SeatView → Reply → SeatView → Type 0
AsksOwnShare call before reply after =
    ((refusal : Refusal) × (reply ≡ Refused refusal) × (after ≡ before))
    ⊎ ((cancelled : Bool) × ServesInsideBySeat call cancelled before reply after)

-- whether a call may have to wait for another member: for the turn of an ordered loop
abbrev pub waits_for_turns : InsideCall → Seen → Bool
waits_for_turns (inside.Next constructs.Loop) seen = is_ordered seen.current
waits_for_turns (inside.BeginPart value) seen = true
waits_for_turns call seen = false

-- a reply to such a call, in a region that is cancelled or not, starts no task, is to wait only for a turn, and says only of a cancelled region that it is
pub record IsInsideReply (call : InsideCall) (cancelled : Bool) (seen : Seen) (reply : Reply) : Type 0 where
  pub starts : StartsTask reply → ⊥
  pub turns : reply ≡ Wait → waits_for_turns call seen ≡ true
  pub uncut : cancelled ≡ false → reply ≢ Cancelled

-- a member that arrives at the barrier at its share's end was answered that nothing is left of that, or has seen that it is cancelled, and has left it
pub record LeavesDrained (end : ShareEnd) (before after : SeatView) : Type 0 where
  pub found : Option Refusal
  pub place : Option Refusal
  pub between : SeatView
  pub finds : FindsPlace found end.construct end.end_kind before place between
  pub drawn : has_seen_end between.seen ≡ true
  pub leaves : LeavesShare between after

-- one that puts its words has left its share, if the board keeps them; else nothing changes
pub record PutsOwnWords (before : SeatView) (reply : Reply) (after : SeatView) : Type 0 where
  pub left : reply ≡ Finished → LeavesShare before after
  pub kept : reply ≢ Finished → after ≡ before

-- what the seat does for what it is asked, and this reply
abbrev pub MovesBy : SeatAsk → SeatView → Reply → SeatView → Type 0
MovesBy Aside before reply after = after ≡ before
MovesBy (Starts repeated start) before reply after = IsAccepted reply → StartsOwnShare (repeated && awaits_payload before.seen) start before reply after
MovesBy (Inside call) before reply after = AsksOwnShare call before reply after
MovesBy (Ends end) before reply after = IsAccepted reply → LeavesDrained end before after
MovesBy Puts before reply after = PutsOwnWords before reply after

-- Over the tries of a call that waits

-- it was asked again and again, and answered to wait each time
pub data Tries (ask : SeatAsk) : SeatView → SeatView → Type 0 where
  Untried : {seat : SeatView} → Tries ask seat seat
  Tried : {before between after : SeatView} → Tries ask before between → MovesBy ask between Wait after → Tries ask before after

-- a call that is made is tried once
abbrev pub Waited : Bool → SeatAsk → SeatView → SeatView → Type 0
Waited false ask before from = from ≡ before
Waited true ask before from = Tries ask before from

-- the seat was asked, by a call that was made or repeated, and answered this in the end
pub record AsksSeat (repeated : Bool) (ask : SeatAsk) (before : SeatView) (reply : Reply) (after : SeatView) : Type 0 where
  pub from : SeatView
  pub waited : Waited repeated ask before from
  pub answers : MovesBy ask from reply after
