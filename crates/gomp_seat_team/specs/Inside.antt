-- A call on the share that a member is in, by a seat of its own. (own; OpenMP API 5.2, chapter 11 and section 16.1)
use Rattle.std.specs.Prelude.{◌≡◌, Bool, Option, Some}
use Rattle.gomp_types.specs.declared.refusal.Refusal.{Refusal}
use Rattle.gomp_types.specs.declared.reply.Reply.{Reply}
use Rattle.gomp_types.specs.declared.reply.Reply.TheVariants.{Refused}
use Rattle.gomp_types.specs.Least.{lesser}
use Rattle.gomp_dispatch.specs.Serves.{cut_reply}
use Rattle.gomp_team_shares.specs.declared.inside.InsideCall.{InsideCall}
use Rattle.gomp_team_shares.specs.Inside.{inside_tests}
use Rattle.gomp_ring.specs.RingSeats.{SeatView}
use Rattle.gomp_seat_calls.specs.Inside.{AnswersInsideBySeat}
use Rattle.gomp_seat_calls.specs.Stays.{FindsRefusal}

-- a call that its caller refuses: the least of that refusal and of those of its place answers, and nothing changes
pub record RefusesInsideBySeat (call : InsideCall) (refusal : Refusal) (before : SeatView) (reply : Reply) (now : SeatView) : Type 0 where
  pub place : Option Refusal
  pub finds : FindsRefusal (inside_tests call) before place now
  pub answer : (found : Refusal) → lesser (Some refusal) place ≡ Some found → reply ≡ Refused found

-- a call that its caller does not refuse: the member does it by its seat, and in a cancelled region a wait is answered so
pub record ServesInsideBySeat (call : InsideCall) (cancelled : Bool) (before : SeatView) (reply : Reply) (now : SeatView) : Type 0 where
  pub served : Reply
  pub answers : AnswersInsideBySeat call before served now
  pub answer : reply ≡ cut_reply cancelled served
