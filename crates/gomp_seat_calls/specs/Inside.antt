-- The calls on the share that a member is in, each by its name. (own)

use Rattle.gomp_types.specs.declared.reply.Reply.{Reply}
use Rattle.gomp_team_shares.specs.declared.inside.InsideCall.{InsideCall}
use Rattle.gomp_team_shares.specs.declared.inside.InsideCall.TheVariants.{Next, EndNowait, BeginPart, EndPart, Cancel}
use Rattle.gomp_ring.specs.RingSeats.{SeatView}
use Rattle.gomp_seat_calls.specs.Next.{AnswersNext}
use Rattle.gomp_seat_calls.specs.Ends.{EndsAtOnce}
use Rattle.gomp_seat_calls.specs.Parts.{AnswersPart, AnswersPartEnd}
use Rattle.gomp_seat_calls.specs.Cancels.{AnswersCancel}

-- the answer to a call
abbrev pub AnswersInsideBySeat : InsideCall → SeatView → Reply → SeatView → Type 0
AnswersInsideBySeat (Next construct) before reply now = AnswersNext construct before reply now
AnswersInsideBySeat (EndNowait construct) before reply now = EndsAtOnce construct before reply now
AnswersInsideBySeat (BeginPart value) before reply now = AnswersPart value before reply now
AnswersInsideBySeat EndPart before reply now = AnswersPartEnd before reply now
AnswersInsideBySeat (Cancel construct clause allowed) before reply now = AnswersCancel construct allowed clause before reply now
