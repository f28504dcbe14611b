-- The ends of loops and sections. OpenMP API 5.2, sections 11.3, 11.5 and 16.1.
use Rattle.std.specs.Prelude.{◌≡◌, ◌||◌, Bool, true, false, if◌then◌else◌, Option, Some, None}
use Rattle.gomp_types.specs.declared.loop_desc.EndKind.{EndKind}
use Rattle.gomp_types.specs.declared.loop_desc.EndKind.TheVariants.{Nowait}
use Rattle.gomp_types.specs.declared.refusal.Refusal.{Refusal}
use Rattle.gomp_types.specs.declared.refusal.Refusal.TheVariants.{NotDrained}
use Rattle.gomp_types.specs.declared.reply.Reply.{Reply}
use Rattle.gomp_types.specs.declared.reply.Reply.TheVariants.{Finished, Refused}
use Rattle.gomp_types.specs.Least.{least}
use Rattle.gomp_events.specs.declared.seen.Seen.{Seen}
use Rattle.gomp_shares.specs.declared.admission.Construct.{Construct}
use Rattle.gomp_shares.specs.Admission.{end_tests_of}
use Rattle.gomp_ring.specs.RingSeats.{SeatView, SeatSees}
use Rattle.gomp_seat_calls.specs.Stays.{LeavesShare}

-- whether a member was answered that nothing is left of its share, or has seen that the share is cancelled
abbrev pub has_seen_end : Seen → Bool
has_seen_end seen = seen.drained || seen.leaving

-- a member that has seen no end of its share looks whether that is cancelled: then it sees that, and may end the share
pub record LooksForEnd (before : SeatView) (found : Option Refusal) (now : SeatView) : Type 0 where
  pub cancelled : Bool
  pub sees : SeatSees before cancelled now
  pub found_is : found ≡ (if cancelled then None else Some NotDrained)

-- and one that has seen it does not look
abbrev pub EndsBy : Bool → SeatView → Option Refusal → SeatView → Type 0
EndsBy true before found now = (found ≡ None) × (now ≡ before)
EndsBy false before found now = LooksForEnd before found now

-- why a member may not end its loop or sections by the call for this end kind: by its place, or since it has seen no end
pub record FindsEnd (construct : Construct) (end_kind : EndKind) (before : SeatView) (found : Option Refusal) (now : SeatView) : Type 0 where
  pub refused : (refusal : Refusal) → least (end_tests_of construct end_kind before.seen) ≡ Some refusal → (found ≡ Some refusal) × (now ≡ before)
  pub admitted : least (end_tests_of construct end_kind before.seen) ≡ None → EndsBy (has_seen_end before.seen) before found now

-- a refusal answers, and the member has not left its share; or it leaves that
abbrev pub LeavesUnless : Option Refusal → SeatView → Reply → SeatView → Type 0
LeavesUnless (Some refusal) before reply now = (reply ≡ Refused refusal) × (now ≡ before)
LeavesUnless None before reply now = (reply ≡ Finished) × LeavesShare before now

-- the answer to an end with no barrier
pub record EndsAtOnce (construct : Construct) (before : SeatView) (reply : Reply) (now : SeatView) : Type 0 where
  pub found : Option Refusal
  pub between : SeatView
  pub finds : FindsEnd construct Nowait before found between
  pub leaves : LeavesUnless found between reply now
