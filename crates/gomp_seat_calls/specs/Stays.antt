-- What every call of a member on its own seat has alike. (own)
use Rattle.std.specs.Prelude.{ℕ, ◌≡◌, List, Option, Some, None}
use Rattle.gomp_types.specs.declared.refusal.Refusal.{Refusal}
use Rattle.gomp_types.specs.declared.reply.Reply.{Reply}
use Rattle.gomp_types.specs.declared.reply.Reply.TheVariants.{Refused}
use Rattle.gomp_types.specs.Deals.{schedule}
use Rattle.gomp_types.specs.Least.{least}
use Rattle.gomp_types.specs.Tests.{Test}
use Rattle.gomp_events.specs.declared.event.Event.{Event}
use Rattle.gomp_events.specs.declared.event.Event.TheVariants.{End}
use Rattle.gomp_events.specs.Events.{share_number}
use Rattle.gomp_events.specs.Laws.{Always}
use Rattle.gomp_shares.specs.Only.{own_of}
use Rattle.gomp_shares.specs.Rules.{ShareRule}
use Rattle.gomp_ring.specs.RingSeats.{SeatView, SeatActs}

-- it is the seat of the same member, on the same ring, from which as many are still to be split
pub record StaysSeat (before now : SeatView) : Type 0 where
  pub table : now.table ≡ before.table
  pub members : now.members ≡ before.members
  pub member : now.member ≡ before.member
  pub seated : now.seated ≡ before.seated

-- a call that its own tests refuse, or let through: the least that holds answers, and nothing changes; or the call does this
pub record AnswersBySeat (tests : List Test) (Does : Reply → SeatView → Type 0) (before : SeatView) (reply : Reply) (now : SeatView) : Type 0 where
  pub refused : (refusal : Refusal) → least tests ≡ Some refusal → (reply ≡ Refused refusal) × (now ≡ before)
  pub admitted : least tests ≡ None → Does reply now

-- a refusal that a member finds, if there is one, is the least of these tests after some list of the team's events, of which its seat knew its own part, and which kept the rule of the work-shares; nothing changes
pub record FindsRefusal (tests : ℕ → List Event → List Test) (before : SeatView) (found : Option Refusal) (now : SeatView) : Type 0 where
  pub events : List Event
  pub knows : before.did ≡ own_of before.member events
  pub rule : Always (ShareRule (schedule before.members) before.members) events
  pub least_is : found ≡ least (tests before.member events)
  pub same : now ≡ before

-- the member leaves the share that it is in
abbrev pub LeavesShare : SeatView → SeatView → Type 0
LeavesShare before now = SeatActs (End (share_number before.seen.current) before.member) before now
