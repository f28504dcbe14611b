-- What a call on the member's share is never answered by its seat: a task, and, but for turns, a wait.
use Rattle.std.proofs.Common.{◌≡◌, Bool, true, false, Option, Some, None, refl, sym, subst}
use Rattle.std.specs.Prelude.{List, if◌then◌else◌}
use Rattle.gomp_types.specs.declared.refusal.Refusal.{Refusal}
use Rattle.gomp_types.specs.declared.reply.Reply.{Reply}
use Rattle.gomp_types.specs.declared.reply.Reply.TheVariants.{Wait, Run, Refused, Finished, Cancelled, Cancelling, Chunk, NoChunk, Section}
use Rattle.gomp_types.specs.declared.shape.Shape.{Shape}
use Rattle.gomp_types.specs.Pieces.{Piece}
use Rattle.gomp_types.specs.Least.{least}
use Rattle.gomp_types.specs.Tests.{Test}
use Rattle.gomp_events.specs.Ordered.{is_ordered}
use Rattle.gomp_shares.specs.declared.admission.Construct.{Construct}
use Rattle.gomp_shares.specs.declared.admission.Construct.TheVariants.{Loop, Sections}
use Rattle.gomp_shares.specs.Admission.{next_tests_of}
use Rattle.gomp_dispatch.specs.Serves.{cut_reply}
use Rattle.gomp_member.specs.Rooms.{StartsTask}
use Rattle.gomp_team_shares.specs.declared.inside.InsideCall.{InsideCall}
use Rattle.gomp_team_shares.specs.declared.inside.InsideCall.TheVariants.{Next, EndNowait, BeginPart, EndPart, Cancel}
use Rattle.gomp_ring.specs.RingSeats.{SeatView}
use Rattle.gomp_seat_calls.specs.Stays.{AnswersBySeat}
use Rattle.gomp_seat_calls.specs.Inside.{AnswersInsideBySeat}
use Rattle.gomp_seat_calls.specs.Next.{TakesNext, TakesByTurn, TakesPiece, reply_in}
use Rattle.gomp_seat_calls.specs.Ends.{LeavesUnless}
use Rattle.gomp_seat_calls.specs.Parts.{BeginsOwnPart, EndsOwnPart}
use Rattle.gomp_seat_calls.specs.Cancels.{CancelsBy}
use Rattle.gomp_seat_team.specs.Inside.{ServesInsideBySeat}
use Rattle.gomp_team.specs.Seats.{IsInsideReply, waits_for_turns}

-- which replies there are: a refusal, a wait where one may be, or one of these
abbrev IsPlain : Reply → Type 0
IsPlain Finished = Unit {0}
IsPlain (Chunk first count) = Unit {0}
IsPlain NoChunk = Unit {0}
IsPlain (Section number) = Unit {0}
IsPlain (Cancelling told) = Unit {0}
IsPlain (Refused refusal) = Unit {0}
IsPlain reply = ⊥

abbrev IsAnswer : Bool → Reply → Type 0
IsAnswer true Wait = Unit {0}
IsAnswer turns reply = IsPlain reply

plain_is_answer : (turns : Bool) (reply : Reply) → IsPlain reply → IsAnswer turns reply
plain_is_answer true Wait plain = tt
plain_is_answer true reply plain = plain
plain_is_answer false reply plain = plain

refused_is_plain : (refusal : Refusal) (reply : Reply) → reply ≡ Refused refusal → IsPlain reply
refused_is_plain refusal reply is = subst IsPlain (sym is) tt

done_is_plain : (reply : Reply) → reply ≡ Finished → IsPlain reply
done_is_plain reply is = subst IsPlain (sym is) tt

by_tests : (tests : List Test) (Does : Reply → SeatView → Type 0) (P : Reply → Type 0) (before : SeatView) (reply : Reply) (now : SeatView)
    → ((refusal : Refusal) → reply ≡ Refused refusal → P reply) → (Does reply now → P reply) → AnswersBySeat tests Does before reply now → P reply
by_tests tests Does P before reply now refused does answers = by_least (least tests) refl
  where
    by_least : (found : Option Refusal) → least tests ≡ found → P reply
    by_least (Some refusal) is = refused refusal (answers.refused refusal is).0
    by_least None is = does (answers.admitted is)

piece_is_plain : (construct : Construct) (shape : Shape) (piece : Option Piece) → IsPlain (reply_in construct shape piece)
piece_is_plain Loop shape None = tt
piece_is_plain Loop shape (Some piece) = tt
piece_is_plain Sections shape piece = tt

takes_plainly : (construct : Construct) (before : SeatView) (reply : Reply) (now : SeatView) → TakesPiece construct before reply now → IsPlain reply
takes_plainly construct before reply now takes = subst IsPlain (sym takes.reply_is) (piece_is_plain construct takes.claims.share.1 takes.piece)

takes_by_turn : (ordered : Bool) (before : SeatView) (reply : Reply) (now : SeatView) → TakesByTurn ordered before reply now → IsAnswer ordered reply
takes_by_turn true before reply now hands = by_turn hands.handed refl
  where
    by_turn : (handed : Bool) → hands.handed ≡ handed → IsAnswer true reply
    by_turn true is = plain_is_answer true reply (takes_plainly Loop hands.between reply now (hands.takes is))
    by_turn false is = subst (IsAnswer true) (sym ((hands.waits is).0)) tt
takes_by_turn false before reply now takes = plain_is_answer false reply (takes_plainly Loop before reply now takes)

next_is_answered : (construct : Construct) (before : SeatView) (reply : Reply) (now : SeatView) → TakesNext construct before reply now → IsAnswer (waits_for_turns (Next construct) before.seen) reply
next_is_answered Loop before reply now takes = takes_by_turn (is_ordered before.seen.current) before reply now takes
next_is_answered Sections before reply now takes = plain_is_answer false reply (takes_plainly Sections before reply now takes)

leaves_plainly : (found : Option Refusal) (before : SeatView) (reply : Reply) (now : SeatView) → LeavesUnless found before reply now → IsPlain reply
leaves_plainly (Some refusal) before reply now leaves = refused_is_plain refusal reply leaves.0
leaves_plainly None before reply now leaves = done_is_plain reply leaves.0

begins_a_part : (begun : Bool) (reply : Reply) → reply ≡ (if begun then Finished else Wait) → IsAnswer true reply
begins_a_part true reply is = plain_is_answer true reply (done_is_plain reply is)
begins_a_part false reply is = subst (IsAnswer true) (sym is) tt

cancels_plainly : (allowed clause : Bool) (before : SeatView) (reply : Reply) (now : SeatView) → CancelsBy allowed clause before reply now → IsPlain reply
cancels_plainly false clause before reply now cancels = subst IsPlain (sym cancels.0) tt
cancels_plainly true false before reply now cancels = subst IsPlain (sym cancels.reply_is) tt
cancels_plainly true true before reply now cancels = subst IsPlain (sym cancels.reply_is) tt

answered_inside : (call : InsideCall) (before : SeatView) (reply : Reply) (now : SeatView) → AnswersInsideBySeat call before reply now → IsAnswer (waits_for_turns call before.seen) reply
answered_inside (Next construct) before reply now answers =
    by_tests (next_tests_of construct before.seen) _ (IsAnswer (waits_for_turns (Next construct) before.seen)) before reply now
    (λ refusal is. plain_is_answer _ reply (refused_is_plain refusal reply is)) (next_is_answered construct before reply now) answers
answered_inside (EndNowait construct) before reply now answers = plain_is_answer false reply (leaves_plainly answers.found answers.between reply now answers.leaves)
answered_inside (BeginPart value) before reply now answers =
    by_tests _ (BeginsOwnPart value before) (IsAnswer true) before reply now (λ refusal is. plain_is_answer true reply (refused_is_plain refusal reply is)) (λ begins. begins_a_part begins.begun reply begins.reply_is) answers
answered_inside EndPart before reply now answers =
    by_tests _ (EndsOwnPart before) (IsAnswer false) before reply now (λ refusal is. plain_is_answer false reply (refused_is_plain refusal reply is)) (λ ends. plain_is_answer false reply (done_is_plain reply ends.reply_is)) answers
answered_inside (Cancel construct clause allowed) before reply now answers =
    by_tests _ (CancelsBy allowed clause before) (IsAnswer false) before reply now (λ refusal is. plain_is_answer false reply (refused_is_plain refusal reply is))
    (λ cancels. plain_is_answer false reply (cancels_plainly allowed clause before reply now cancels)) answers

-- no such answer starts a task
plain_starts_none : (reply : Reply) → IsPlain reply → StartsTask reply → ⊥
plain_starts_none (Run task code arg own) plain starts = plain
plain_starts_none reply plain starts = starts

answer_starts_none : (turns : Bool) (reply : Reply) → IsAnswer turns reply → StartsTask reply → ⊥
answer_starts_none true Wait answer starts = starts
answer_starts_none true reply answer starts = plain_starts_none reply answer starts
answer_starts_none false reply answer starts = plain_starts_none reply answer starts

waits_by_answer : (turns : Bool) (reply : Reply) → IsAnswer turns reply → reply ≡ Wait → turns ≡ true
waits_by_answer true reply answer is = refl
waits_by_answer false reply answer is = absurd (subst IsPlain is answer)

cut_by_answer : (turns : Bool) (reply : Reply) → IsAnswer turns reply → reply ≡ Cancelled → ⊥
cut_by_answer true reply answer is = subst (IsAnswer true) is answer
cut_by_answer false reply answer is = subst IsPlain is answer

-- an answer, but in a cancelled region to a wait
uncut_reply : (call : InsideCall) (cancelled : Bool) (before : SeatView) (reply : Reply) → IsAnswer (waits_for_turns call before.seen) reply → IsInsideReply call cancelled before.seen reply
uncut_reply call cancelled before reply answer =
    let turns = waits_for_turns call before.seen in
    record { starts = answer_starts_none turns reply answer; turns = waits_by_answer turns reply answer; uncut = λ whole. cut_by_answer turns reply answer }

cut_inside : (call : InsideCall) (cancelled : Bool) (before : SeatView) (served : Reply) → IsAnswer (waits_for_turns call before.seen) served → IsInsideReply call cancelled before.seen (cut_reply cancelled served)
cut_inside call false before served answer = uncut_reply call false before served answer
cut_inside call true before Wait answer = record { starts = λ starts. starts; turns = λ waits. absurd (cc); uncut = λ whole. absurd (cc) }
cut_inside call true before served answer = uncut_reply call true before served answer

-- the reply of the seat
pub served_reply : (call : InsideCall) (cancelled : Bool) (before : SeatView) (reply : Reply) (now : SeatView) → ServesInsideBySeat call cancelled before reply now → IsInsideReply call cancelled before.seen reply
served_reply call cancelled before reply now serves =
    subst (IsInsideReply call cancelled before.seen) (sym serves.answer) (cut_inside call cancelled before serves.served (answered_inside call before serves.served now serves.answers))

-- and a refusal
pub refused_reply : (call : InsideCall) (cancelled : Bool) (before : SeatView) (refusal : Refusal) (reply : Reply) → reply ≡ Refused refusal → IsInsideReply call cancelled before.seen reply
refused_reply call cancelled before refusal reply is =
    let plain : IsPlain reply = refused_is_plain refusal reply is in
    record { starts = plain_starts_none reply plain; turns = λ waits. absurd (subst IsPlain waits plain); uncut = λ whole cut. subst IsPlain cut plain }
