-- A member's arrival at a barrier, at the end of its region, or at the barrier at its share's end, by a seat of its own. OpenMP API 5.2, sections 10.1 and 15.3.
use Rattle.std.specs.Prelude.{◌≡◌, Bool, true, Option, Some, None}
use Rattle.gomp_types.specs.declared.loop_desc.EndKind.{EndKind}
use Rattle.gomp_types.specs.declared.refusal.Refusal.{Refusal}
use Rattle.gomp_types.specs.declared.reply.Reply.{Reply}
use Rattle.gomp_types.specs.declared.reply.Reply.TheVariants.{Refused}
use Rattle.gomp_types.specs.Least.{least, lesser}
use Rattle.gomp_events.specs.declared.event.Arrival.{Arrival}
use Rattle.gomp_events.specs.declared.seen.Seen.{Seen}
use Rattle.gomp_shares.specs.declared.admission.Construct.{Construct}
use Rattle.gomp_shares.specs.Admission.{all_end_tests}
use Rattle.gomp_board.specs.declared.op.Op.{Op}
use Rattle.gomp_team_board.specs.Locked.{AnswersUnless}
use Rattle.gomp_team_calls.specs.Arrivals.{arrival_place_tests, IsAccepted}
use Rattle.gomp_ring.specs.RingSeats.{SeatView}
use Rattle.gomp_seat_team.specs.Moved.{TeamMoved}
use Rattle.gomp_seat_calls.specs.Ends.{FindsEnd, has_seen_end}
use Rattle.gomp_seat_calls.specs.Stays.{FindsRefusal, LeavesShare}

-- the refusal that its caller found, or that of its place, by number
abbrev pub arrival_refused : Arrival → Bool → Option Refusal → Seen → Option Refusal
arrival_refused kind leaving found seen = lesser found (least (arrival_place_tests kind leaving seen))

-- why a member may not end its share, if it may not; it looks for the share's end only if its caller has found no refusal
abbrev pub FindsPlace : Option Refusal → Construct → EndKind → SeatView → Option Refusal → SeatView → Type 0
FindsPlace (Some refusal) construct end_kind before place now = FindsRefusal (all_end_tests construct end_kind) before place now
FindsPlace None construct end_kind before place now = FindsEnd construct end_kind before place now

-- the end of a share that a member asks for, of which its caller found this refusal, or none
pub record EndAsked : Type 0 where
  pub construct : Construct
  pub end_kind : EndKind
  pub found : Option Refusal

abbrev pub end_asked : Construct → EndKind → Option Refusal → EndAsked
end_asked construct end_kind found = record { construct = construct; end_kind = end_kind; found = found }

-- the member is asked of its place, the board is asked to let it arrive, and the member leaves its share if it does, and only then
pub record EndsShare (asked : EndAsked) (op : Op) (moved : TeamMoved) (reply : Reply) : Type 0 where
  -- why it may not end its share, and its seat then
  pub place : Option Refusal
  pub between : SeatView
  pub finds : FindsPlace asked.found asked.construct asked.end_kind moved.before place between
  -- of what its caller found, its place and the board the least by number answers
  pub answers : AnswersUnless (lesser asked.found place) op moved.before.member moved.view moved.after reply
  -- a member that arrives was answered that nothing is left of its share, or has seen that this is cancelled, and has left it
  pub drawn : IsAccepted reply → has_seen_end between.seen ≡ true
  pub leaves : IsAccepted reply → LeavesShare between moved.now
  pub stays : (refusal : Refusal) → reply ≡ Refused refusal → moved.now ≡ between
