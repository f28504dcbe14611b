-- A member of a team on a thread of its own. (own)
use Rattle.std.specs.Prelude.{ℕ, ℤ, ◌≡◌, ◌≢◌, ◌⊎◌, ◌&&◌, nat_lt, not, Bool, true, false, List, [], Some, None}
use Rattle.gomp_icv.specs.Variables.{Variables}
use Rattle.gomp_types.specs.declared.call.Call.{Call}
use Rattle.gomp_types.specs.declared.call.Call.TheVariants.{TaskCreate, Taskwait}
use Rattle.gomp_types.specs.declared.call.Call.TheVariants as calls
use Rattle.gomp_types.specs.declared.limits.Limits.{Limits}
use Rattle.gomp_types.specs.Resumes.{is_resume}
use Rattle.gomp_types.specs.declared.refusal.Refusal.TheVariants.{Mismatch}
use Rattle.gomp_types.specs.declared.reply.Reply.TheVariants.{Cancelling, Refused, Stopped, Wait}
use Rattle.gomp_types.specs.declared.depend.Dep.{Dep}
use Rattle.gomp_board.specs.declared.op.Op.{Op}
use Rattle.gomp_board.specs.declared.op.Op.TheVariants as ops
use Rattle.gomp_model.specs.Calls.{row_of}
use Rattle.gomp_ompt.specs.declared.record.Record.{Record}
use Rattle.gomp_ompt.specs.Table.{records_of}
use Rattle.gomp_ompt.specs.Tools.{AfterEach}
use Rattle.gomp_team_board.specs.Parts.{PartView}
use Rattle.gomp_team_book.specs.Parts.{BookPartView}
use Rattle.gomp_types.specs.declared.reply.Reply.{Reply}
use Rattle.gomp_member.specs.Own.{OwnView, is_free, names_share, own_meant, own_after}
use Rattle.gomp_ring.specs.declared.ring.Ring.{Ring}
use Rattle.gomp_ring.specs.RingSeats.{SeatView}
use Rattle.gomp_shares.specs.declared.admission.Construct.{Construct}
use Rattle.gomp_seat_calls.specs.Alone.{admits_part, ends_alone, admits_by_turn, sections_alone}
use Rattle.gomp_seat_calls.specs.Chunks.{claims_alone}
use Rattle.gomp_seat_calls.specs.Stays.{StaysSeat}
use Rattle.gomp_team.specs.Answers.{AnswersWithRoom}
use Rattle.gomp_team.specs.Moves.{events_part, holds_part, releases_part}
use Rattle.gomp_team.specs.Seats.{AsksSeat, seat_ask}

-- what no call changes of a team: its number among those that share names and locks, and the control variables of its region
pub record TeamView : Type 0 where
  pub number : ℕ
  pub icv : Variables

-- the same of what its members share, with how many these are, its limits, and which ring has its work-shares
pub record SharedView : Type 0 where
  pub team : TeamView
  pub members : ℕ
  pub limits : Limits
  pub ring : Ring

-- what a member is, as data, with its tool
pub record MemberView (T : Type 0) : Type 0 where
  -- the control variables of its region
  pub icv : Variables
  -- what it knows of itself
  pub own : OwnView
  -- whether it has room for one more task that it starts
  pub room : Bool
  -- its parts of the ledgers: of the team's events, of holds, and of releases
  pub events : PartView
  pub held : BookPartView
  pub freed : BookPartView
  -- the ring of its team's work-shares, and its seat there
  pub ring : Ring
  pub seat : SeatView
  pub tool : T

-- a call that brings no items: not the creation of a task, unless it is repeated, nor a taskwait
abbrev pub AsksNoItems : Bool → Call → Type 0
AsksNoItems repeated (TaskCreate desc) = repeated ≡ true
AsksNoItems repeated (Taskwait items) = ⊥
AsksNoItems repeated call = Unit {0}

-- one that brings some: the creation of a task, or a taskwait
abbrev pub BringsItems : Call → Type 0
BringsItems (TaskCreate desc) = Unit {0}
BringsItems (Taskwait items) = Unit {0}
BringsItems call = ⊥

-- an operation that waits for children by items, and by these
abbrev pub AwaitsItems : Op → Type 0
AwaitsItems (ops.Taskwait items) = Unit {0}
AwaitsItems (ops.AwaitChildren items) = Unit {0}
AwaitsItems op = ⊥

abbrev pub AwaitsThese : List Dep → Op → Type 0
AwaitsThese these (ops.Taskwait items) = these ≡ items
AwaitsThese these (ops.AwaitChildren items) = these ≡ items
AwaitsThese these op = ⊥

-- a call that the book answers is one that may hold, or one that frees: each but the making and the destroying of locks
abbrev pub HoldsKey : Call → Type 0
HoldsKey call = ((row_of call).holds ≢ None) × ((row_of call).lets_leave 0 [] ≡ false)

abbrev pub FreesKey : Call → Type 0
FreesKey call = ((row_of call).holds ≢ None) × ((row_of call).lets_leave 0 [] ≡ true)

-- a call on the share that its member is in which needs no lock: the next piece, an end with no barrier, or the cancellation of a loop or sections
abbrev pub AsksItsShare : Call → Type 0
AsksItsShare calls.LoopNext = Unit {0}
AsksItsShare calls.SectionsNext = Unit {0}
AsksItsShare calls.LoopEndNowait = Unit {0}
AsksItsShare calls.SectionsEndNowait = Unit {0}
AsksItsShare (calls.Cancel kind clause) = names_share (Some kind) ≡ true
AsksItsShare (calls.Point kind) = names_share (Some kind) ≡ true
AsksItsShare call = ⊥

-- whether a member may claim its next chunk with no other test: nothing that it keeps refuses it a call on its share, and its seat lets it
abbrev pub may_claim_alone : {T : Type 0} → MemberView T → Bool
may_claim_alone member = is_free member.own && claims_alone member.seat.seen

-- likewise its next section
abbrev pub may_claim_section_alone : {T : Type 0} → MemberView T → Bool
may_claim_section_alone member = is_free member.own && sections_alone member.seat.seen

-- whether it may end its loop or sections so, which have no barrier at their end
abbrev pub may_end_alone : {T : Type 0} → Construct → MemberView T → Bool
may_end_alone construct member = is_free member.own && ends_alone construct member.seat.seen

-- whether it may start a construct with no other test of what it keeps, and it is in no critical name
abbrev pub may_start_alone : {T : Type 0} → MemberView T → Bool
may_start_alone member = is_free member.own && not (nat_lt 0 member.own.names)

-- whether neither what it keeps nor its seat refuses it the ordered part of the iteration with this value, which it begins once the turn is its; the board and the book are not asked
abbrev pub may_begin_by_turn : {T : Type 0} → ℤ → MemberView T → Bool
may_begin_by_turn value member = is_free member.own && admits_part value member.seat.seen

-- likewise the end of its ordered part
abbrev pub may_end_part_alone : {T : Type 0} → MemberView T → Bool
may_end_part_alone member = is_free member.own && member.seat.seen.in_part

-- likewise the next chunk of its ordered loop, which it takes once the turn is its
abbrev pub may_take_by_turn : {T : Type 0} → MemberView T → Bool
may_take_by_turn member = is_free member.own && admits_by_turn member.seat.seen

-- whether a reply says that the team is broken or stopped, or that something of it is cancelled
abbrev pub cuts : Reply → Bool
cuts (Refused Mismatch) = true
cuts Stopped = true
cuts (Cancelling true) = true
cuts reply = false

-- a call, made or repeated, has moved the member's parts by its reply, and its seat, and nothing else of the member yet; `room` says whether the member has room for one more task
pub record IsMoved {T : Type 0} (room repeated : Bool) (call : Call) (reply : Reply) (before after : MemberView T) : Type 0 where
  pub events : after.events ≡ events_part repeated call reply before.events
  pub held : after.held ≡ holds_part repeated call reply before.held
  pub freed : after.freed ≡ releases_part repeated call reply before.freed
  pub seat : AsksSeat repeated (seat_ask before.icv.cancellation repeated call) before.seat reply after.seat
  pub stays : StaysSeat before.seat after.seat
  pub answers : AnswersWithRoom room before.icv.cancellation repeated before.own call before.seat reply
  pub own : after.own ≡ before.own
  pub tool : after.tool ≡ before.tool
  pub icv : after.icv ≡ before.icv
  pub ring : after.ring ≡ before.ring

-- the member has the parts that it had, of the same team, and its seat is as it was
pub record HasSameParts {T : Type 0} (before after : MemberView T) : Type 0 where
  pub events : after.events ≡ before.events
  pub held : after.held ≡ before.held
  pub freed : after.freed ≡ before.freed
  pub icv : after.icv ≡ before.icv
  pub ring : after.ring ≡ before.ring
  pub seat : after.seat ≡ before.seat

-- the member has made one try of a call, or of the one that its resume repeats, and its team has answered: it has taken note of the reply, its parts and its seat have moved by it, and its tool has the records; `gives` says what a record does to that
pub record Called {T : Type 0} (gives : T → Record → T → Type 0) (call : Call) (reply : Reply) (before after : MemberView T) : Type 0 where
  pub own : after.own ≡ own_after reply call before.own
  pub events : after.events ≡ events_part (is_resume call) (own_meant before.own call) reply before.events
  pub held : after.held ≡ holds_part (is_resume call) (own_meant before.own call) reply before.held
  pub freed : after.freed ≡ releases_part (is_resume call) (own_meant before.own call) reply before.freed
  -- its seat, which is the same member's, answered what the call asks of it
  pub seat : AsksSeat (is_resume call) (seat_ask before.icv.cancellation (is_resume call) (own_meant before.own call)) before.seat reply after.seat
  pub stays : StaysSeat before.seat after.seat
  -- what answers such a call may answer this
  pub answers : AnswersWithRoom before.room before.icv.cancellation (is_resume call) before.own (own_meant before.own call) before.seat reply
  pub icv : after.icv ≡ before.icv
  pub ring : after.ring ≡ before.ring
  pub tool : AfterEach gives before.tool (records_of (own_meant before.own call) (not (is_resume call)) reply) after.tool

-- it has made a call and gone on with it until it was answered another reply than to wait: the first try answers so, or it waited, and the last try answers
pub record CalledWhole {T : Type 0} (gives : T → Record → T → Type 0) (call : Call) (reply : Reply) (before after : MemberView T) : Type 0 where
  pub over : reply ≢ Wait
  pub tries : Called gives call reply before after ⊎ ((between : MemberView T) × Called gives call Wait before between × Called gives calls.Resume reply between after)
