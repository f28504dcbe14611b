-- The cancel and cancellation point constructs that name a loop or sections. OpenMP API 5.2, sections 16.1 and 16.2.
use Rattle.std.specs.Prelude.{◌≡◌, Bool, true, false}
use Rattle.gomp_types.specs.declared.reply.Reply.{Reply}
use Rattle.gomp_types.specs.declared.reply.Reply.TheVariants.{Cancelling}
use Rattle.gomp_types.specs.declared.cancel.Scope.TheVariants.{OneShare}
use Rattle.gomp_events.specs.declared.event.Event.TheVariants.{Cancel}
use Rattle.gomp_events.specs.Events.{share_number}
use Rattle.gomp_shares.specs.declared.admission.Construct.{Construct}
use Rattle.gomp_shares.specs.Cancels.{cancel_place_tests}
use Rattle.gomp_team_shares.specs.Inside.{construct_kind}
use Rattle.gomp_ring.specs.RingSeats.{SeatView, SeatActs, SeatSees}
use Rattle.gomp_seat_calls.specs.Stays.{AnswersBySeat}

-- the member looks whether its share is cancelled, and has seen that then: the reply says whether it is
pub record TellsCancelled (before : SeatView) (reply : Reply) (now : SeatView) : Type 0 where
  pub cancelled : Bool
  pub sees : SeatSees before cancelled now
  pub reply_is : reply ≡ Cancelling cancelled

-- the member cancels its share, and sees that it is cancelled
pub record CancelsAndSees (before : SeatView) (reply : Reply) (now : SeatView) : Type 0 where
  pub between : SeatView
  pub cancels : SeatActs (Cancel before.member (OneShare (share_number before.seen.current))) before between
  pub sees : SeatSees between true now
  pub reply_is : reply ≡ Cancelling true

-- where the control variable cancel-var allows no cancellation the answer is no; else a true clause cancels the share, and a false one asks
abbrev pub CancelsBy : (allowed clause : Bool) → SeatView → Reply → SeatView → Type 0
CancelsBy false clause before reply now = (reply ≡ Cancelling false) × (now ≡ before)
CancelsBy true false before reply now = TellsCancelled before reply now
CancelsBy true true before reply now = CancelsAndSees before reply now

-- the answer to the construct
abbrev pub AnswersCancel : Construct → (allowed clause : Bool) → SeatView → Reply → SeatView → Type 0
AnswersCancel construct allowed clause before reply now = AnswersBySeat (cancel_place_tests (construct_kind construct) before.seen) (CancelsBy allowed clause before) before reply now
