-- The ordered parts of a loop. OpenMP API 5.2, section 15.10.2.
use Rattle.std.specs.Prelude.{ℕ, ℤ, ◌≡◌, Bool, if◌then◌else◌, Some}
use Rattle.gomp_types.specs.declared.reply.Reply.{Reply}
use Rattle.gomp_types.specs.declared.reply.Reply.TheVariants.{Finished, Wait}
use Rattle.gomp_events.specs.declared.event.Event.TheVariants.{Part, PartEnd}
use Rattle.gomp_events.specs.Events.{share_number}
use Rattle.gomp_shares.specs.OrderedParts.{part_tests, part_end_tests}
use Rattle.gomp_ordered.specs.Iterations.{seen_iteration}
use Rattle.gomp_ring.specs.RingSeats.{SeatView, SeatActs, SeatTriesTurn}
use Rattle.gomp_seat_calls.specs.Stays.{AnswersBySeat}

-- the member begins the part of the iteration with this value, or waits, since some piece before its own was not handed on
pub record BeginsOwnPart (value : ℤ) (before : SeatView) (reply : Reply) (now : SeatView) : Type 0 where
  pub iteration : ℕ
  pub iteration_is : seen_iteration before.seen.current value ≡ Some iteration
  pub begun : Bool
  pub turn : SeatTriesTurn (Part (share_number before.seen.current) before.member iteration) before begun now
  pub reply_is : reply ≡ (if begun then Finished else Wait)

-- the answer to the begin of a part
abbrev pub AnswersPart : ℤ → SeatView → Reply → SeatView → Type 0
AnswersPart value before reply now = AnswersBySeat (part_tests value before.seen) (BeginsOwnPart value before) before reply now

-- the member ends its part
pub record EndsOwnPart (before : SeatView) (reply : Reply) (now : SeatView) : Type 0 where
  pub acts : SeatActs (PartEnd (share_number before.seen.current) before.member) before now
  pub reply_is : reply ≡ Finished

-- the answer to the end of a part
abbrev pub AnswersPartEnd : SeatView → Reply → SeatView → Type 0
AnswersPartEnd before reply now = AnswersBySeat (part_end_tests before.seen) (EndsOwnPart before) before reply now
