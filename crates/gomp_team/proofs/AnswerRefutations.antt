-- What a call of a member is never answered, of any member, call and reply.
use Rattle.std.proofs.Common.{ℕ, ◌≡◌, ◌≢◌, ◌∙◌, ap, inl, inr, refl, subst, Bool, true, false, Option, Some, None}
use Rattle.std.proofs.lemmas.Bool.{cases_lt}
use Rattle.std.specs.Prelude.{List, is_some, if◌then◌else◌, nat_le, reverse}
use Rattle.gomp_types.specs.declared.call.Call.{Call}
use Rattle.gomp_types.specs.declared.call.Call.TheVariants.{Cancel, GroupStart, LoopStart, Resume, Stop}
use Rattle.gomp_types.specs.declared.call.Server.{Server}
use Rattle.gomp_types.specs.declared.call.Server.TheVariants.{Board, Book, Shares, Team}
use Rattle.gomp_types.specs.declared.cancel.CancelKind.TheVariants.{Parallel}
use Rattle.gomp_types.specs.declared.limits.Limits.{Limits}
use Rattle.gomp_types.specs.declared.refusal.Refusal.{Refusal}
use Rattle.gomp_types.specs.declared.refusal.Refusal.TheVariants.{BadMember, Ended, NoMemory, Waiting}
use Rattle.gomp_types.specs.declared.reply.Reply.{Reply}
use Rattle.gomp_types.specs.declared.reply.Reply.TheVariants.{Cancelling, Passed, Refused}
use Rattle.gomp_types.specs.declared.task.Owner.{Owner}
use Rattle.gomp_types.specs.Least.{lesser}
use Rattle.gomp_types.specs.RefusalTexts.{number_of}
use Rattle.gomp_types.specs.Resumes.{is_resume}
use Rattle.gomp_types.specs.Servers.{served_by}
use Rattle.gomp_events.specs.declared.event.Event.{Event}
use Rattle.gomp_board.specs.declared.op.Op.{Op}
use Rattle.gomp_board.specs.declared.op.Op.TheVariants.{OpenGroup}
use Rattle.gomp_board.specs.Boards.{Stands, members_of}
use Rattle.gomp_board.specs.Ops.{OpReply, begun}
use Rattle.gomp_dispatch.specs.declared.leaving.Manner.{Manner}
use Rattle.gomp_locks.specs.BookCalls.{BookCall}
use Rattle.gomp_member.specs.Own.{OwnView, own_owner}
use Rattle.gomp_member.specs.Refused.{own_refusal, task_refusal}
use Rattle.gomp_ring.specs.RingSeats.{SeatView}
use Rattle.gomp_waits.specs.Waits.{AskedAnswer, WaitBoardView}
use Rattle.gomp_waits.specs.Words.{payload_refusal}
use Rattle.gomp_team_board.specs.Locked.{AnswersMemberUnless, AnswersUnless, IsAnsweredUnless, comes_first, locked_refusal, team_size}
use Rattle.gomp_team_board.proofs.FoundRefusals.{found_is_refused}
use Rattle.gomp_team_shares.specs.declared.start.ShareStart.TheVariants.{Loop as LoopShare}
use Rattle.gomp_team_shares.specs.Constructs.{construct_start_tests}
use Rattle.gomp_team_calls.specs.Starts.{reserve_op}
use Rattle.gomp_seat_calls.specs.Stays.{FindsRefusal}
use Rattle.gomp_seat_team.specs.Moved.{moved}
use Rattle.gomp_seat_team.specs.Starts.{IsStartRefusedFor}
use Rattle.gomp_types.specs.declared.loop_desc.LoopDesc.{LoopDesc}
use Rattle.gomp_team.specs.Answers.{AnswersBook, AnswersOp, AnswersShares, AnswersBookUnless, FindsItself, FindsOwnOrName, FindsTogether, AloneOrOnBoard, IsRefusal, RefusedIf, ServerAnswers, StartsOnBoard, TeamAnswers, found_of_share, made_by}
use Rattle.gomp_team.specs.Seats.{is_given}
use Rattle.gomp_team.proofs.AnswerLaws.{book_calls_ask}

-- a reply that is no refusal is the one that the operation has
replies_by_op : (limits : Limits) (room kept members number : ℕ) (waiting : Bool) (op : Op) (h : List Event) (reply : Reply) → (IsRefusal reply → ⊥)
    → AskedAnswer limits room kept members number waiting op h reply → OpReply members number op (begun number op h) reply
replies_by_op limits room kept members number waiting op h (Refused NoMemory) unrefused asked = absurd (unrefused (NoMemory, refl))
replies_by_op limits room kept members number waiting op h (Refused refusal) unrefused asked = absurd (unrefused (refusal, refl))
replies_by_op limits room kept members number waiting op h _ unrefused asked = asked.1

-- in a team of some size, after some events, the operation of the member is answered so
record IsOpReply (op : Op) (number : ℕ) (reply : Reply) : Type 0 where
  members : ℕ
  earlier : List Event
  replies : OpReply members number op (begun number op earlier) reply

module _ (found : Option Refusal) (op : Op) (number : ℕ) (reply : Reply) (unrefused : IsRefusal reply → ⊥) (wordless : (h : List Event) → payload_refusal op h ≡ None) where
  by_member : (view after : WaitBoardView) (h : List Event) (first : Bool) → Stands view.board h → comes_first found (locked_refusal number view op h) ≡ first → AnswersMemberUnless found op number view after reply → IsOpReply op number reply
  by_member view after h true stands is answers = let refused = answers.first h stands is in absurd (unrefused (refused.refusal, refused.answer))
  by_member view after h false stands is answers = record {
    members = members_of view.board;
    earlier = h;
    replies = replies_by_op _ _ _ _ number _ op h reply unrefused (((answers.other h stands is).performs h stands (wordless h)).answer h stands);
  }

  -- so the board answers an operation with no words
  answered_by_op : IsAnsweredUnless found op number reply → IsOpReply op number reply
  answered_by_op answered =
      elim (cases_lt number (team_size answered.found)) [
        | inl below ↦ by_member answered.found answered.left (reverse answered.found.board.history) _ answered.known refl (answered.answer.member below)
        | inr past ↦ absurd (unrefused (BadMember, answered.answer.bad_member past))
      ]

-- in a team that allows no cancellation a construct that cancels the region never does
pub never_cancels_though_not_allowed : (repeated clause : Bool) (own : OwnView) (seat : SeatView) → TeamAnswers false repeated own (Cancel Parallel clause) seat (Cancelling true) → ⊥
never_cancels_though_not_allowed repeated clause own seat (found, finds, answered) =
    let replies = (answered_by_op found _ seat.member (Cancelling true) (λ refused. let (refusal, is) = refused in cc) (λ h. refl) answered).replies in cc

-- the start of a group is never answered as its end
pub never_passes_at_a_groups_start : (allowed repeated : Bool) (own : OwnView) (seat : SeatView) → TeamAnswers allowed repeated own GroupStart seat Passed → ⊥
never_passes_at_a_groups_start allowed repeated own seat (found, finds, answered) =
    let replies = (answered_by_op found OpenGroup seat.member Passed (λ refused. let (refusal, is) = refused in cc) (λ h. refl) answered).replies in cc

-- What a member knows of itself

-- what was found refuses an operation, whatever board answers it
refused_as_found : (found : Option Refusal) (refusal : Refusal) (op : Op) (number : ℕ) (reply : Reply) → found ≡ Some refusal → IsAnsweredUnless found op number reply → IsRefusal reply
refused_as_found found refusal op number reply is answered =
    elim (cases_lt number (team_size answered.found)) [
      | inl below ↦
          let unless = subst (λ (one : Option Refusal). AnswersUnless one op number answered.found answered.left reply) is answered.answer in
          let (first, same, least) = found_is_refused refusal op number answered.found answered.left reply (reverse answered.found.board.history) below answered.known unless in
          (first, same)
      | inr past ↦ (BadMember, answered.answer.bad_member past)
    ]

refuses_by_op : (Finds : Option Refusal → Type 0) (number : ℕ) (asked : Option Op) (reply : Reply) → ((found : Option Refusal) → Finds found → (refusal : Refusal) × (found ≡ Some refusal)) → AnswersOp Finds number asked reply → IsRefusal reply
refuses_by_op Finds number None reply finds (found, is, refused) = let (refusal, same) = finds found is in subst (λ (one : Option Refusal). RefusedIf one reply) same refused
refuses_by_op Finds number (Some op) reply finds (found, is, answered) = let (refusal, same) = finds found is in refused_as_found found refusal op number reply same answered

either_refusal : (first : Bool) (one other : Refusal) → (refusal : Refusal) × ((if first then Some one else Some other) ≡ Some refusal)
either_refusal true one other = (one, refl)
either_refusal false one other = (other, refl)

lesser_of_some : (one : Refusal) (other : Option Refusal) → (refusal : Refusal) × (lesser (Some one) other ≡ Some refusal)
lesser_of_some one None = (one, refl)
lesser_of_some one (Some other) = either_refusal (nat_le (number_of one) (number_of other)) one other

-- what a member knows of itself refuses the call, whether its place lets it end its share or not
record Knows (own : OwnView) (call : Call) : Type 0 where
  refusal : Bool → Refusal
  refuses : (placed : Bool) → own_refusal placed own call ≡ Some (refusal placed)

finds_what_it_knows : (own : OwnView) (call : Call) (seat : SeatView) (found : Option Refusal) → Knows own call → FindsItself false own call seat found → (refusal : Refusal) × (found ≡ Some refusal)
finds_what_it_knows own call seat found knows (placed, lets, finds) = (knows.refusal placed, subst (λ (refused : Option Refusal). FindsOwnOrName refused own call found) (knows.refuses placed) finds)

with_another : (found other refused : Option Refusal) (refusal : Refusal) → found ≡ Some refusal → refused ≡ lesser found other → (first : Refusal) × (refused ≡ Some first)
with_another found other refused refusal is least =
    let (first, same) = lesser_of_some refusal other in
    (first, least ∙ (ap (λ (one : Option Refusal). lesser one other) is ∙ same))

refused_by_book : (made : Option Refusal) (refusal : Refusal) (owner : Owner) (asked : BookCall) (reply : Reply) → made ≡ Some refusal → AnswersBook made owner (Some asked) reply → IsRefusal reply
refused_by_book made refusal owner asked reply is (team, of_team, answered) =
    let (first, same) = with_another made team (lesser made team) refusal is refl in
    (first, subst (λ (found : Option Refusal). AnswersBookUnless found owner asked reply) same answered)

refused_by_shares : (manner : Manner) (own : OwnView) (call : Call) (seat : SeatView) (reply : Reply) → manner.repeated ≡ false → Knows own call → AnswersShares manner own call seat reply → IsRefusal reply
refused_by_shares manner own call seat reply made knows answered =
    let (own_first, is) = finds_what_it_knows own call seat answered.found knows (subst (λ (repeated : Bool). FindsItself repeated own call seat answered.found) made answered.itself) in
    let (with_task, so) = with_another answered.found (task_refusal own) (lesser answered.found (task_refusal own)) own_first is refl in
    let (first, same) = with_another (lesser answered.found (task_refusal own)) answered.team (found_of_share answered.found own answered.team) with_task so refl in
    answered.refuses first same

-- a call that is made is never answered otherwise than refused if what its member knows refuses it
refused_by_server : (server : Server) (allowed : Bool) (own : OwnView) (call : Call) (seat : SeatView) (reply : Reply) → served_by call ≡ server → Knows own call → ServerAnswers server (made_by allowed false own) own call seat reply → IsRefusal reply
refused_by_server Book allowed own call seat reply served knows answered =
    let (asked, is) = book_calls_ask false call served in
    refused_by_book (own_refusal false own call) (knows.refusal false) (own_owner own) asked reply (knows.refuses false) (subst (λ (one : Option BookCall). AnswersBook (own_refusal false own call) (own_owner own) one reply) is answered)
refused_by_server Board allowed own call seat reply served knows answered = refuses_by_op (FindsItself false own call seat) seat.member _ reply (λ found is. finds_what_it_knows own call seat found knows is) answered
refused_by_server Team allowed own call seat reply served knows (resumed, answered, starts) =
    refuses_by_op (FindsTogether (made_by allowed false own) own call seat) seat.member _ reply
    (λ refused is. let (refusal, same) = finds_what_it_knows own call seat is.found knows is.itself in with_another is.found is.place refused refusal same is.lesser_is) answered
refused_by_server Shares allowed own call seat reply served knows answered = refused_by_shares (made_by allowed false own) own call seat reply refl knows answered

refused_by_what_it_knows : (allowed : Bool) (own : OwnView) (call : Call) (seat : SeatView) (reply : Reply) → Knows own call → TeamAnswers allowed false own call seat reply → IsRefusal reply
refused_by_what_it_knows allowed own call seat reply knows answered = refused_by_server (served_by call) allowed own call seat reply refl knows answered

-- so of a member that has passed the region's end,
pub never_answered_after_the_end : (allowed : Bool) (own : OwnView) (call : Call) (seat : SeatView) (reply : Reply) → own.ended ≡ true → (IsRefusal reply → ⊥) → TeamAnswers allowed false own call seat reply → ⊥
never_answered_after_the_end allowed own call seat reply ended unrefused answered =
    unrefused (refused_by_what_it_knows allowed own call seat reply (record { refusal = λ placed. Ended; refuses = λ placed. rw ended refl }) answered)

-- and of one that waits, but to go on with its call or to stop the team
waits_refuse : (own : OwnView) (call : Call) → is_some own.waits.open_call ≡ true → is_resume call ≡ false → call ≢ Stop → (placed : Bool) (ended : Bool) → own.ended ≡ ended → own_refusal placed own call ≡ Some (if ended then Ended else Waiting)
waits_refuse own Resume waits made unstopped placed ended is = absurd (cc)
waits_refuse own Stop waits made unstopped placed ended is = absurd (unstopped refl)
waits_refuse own call waits made unstopped placed true is = rw is refl
waits_refuse own call waits made unstopped placed false is = rw (is, waits) refl

pub never_answered_while_it_waits : (allowed : Bool) (own : OwnView) (call : Call) (seat : SeatView) (reply : Reply) → is_some own.waits.open_call ≡ true → is_resume call ≡ false → call ≢ Stop → (IsRefusal reply → ⊥)
    → TeamAnswers allowed false own call seat reply → ⊥
never_answered_while_it_waits allowed own call seat reply waits made unstopped unrefused answered =
    unrefused (refused_by_what_it_knows allowed own call seat reply (record { refusal = λ placed. if own.ended then Ended else Waiting; refuses = λ placed. waits_refuse own call waits made unstopped placed own.ended refl }) answered)

-- Starts

-- why a start of a loop was refused: what was found of its member, its place, some board, or the team's share of the same number, which is another
start_refused_so : (desc : LoopDesc) (found : Option Refusal) (seat : SeatView) (refusal : Refusal) → StartsOnBoard (LoopShare desc) false found seat (Refused refusal)
    → (limits : Limits) × (place : Option Refusal) × FindsRefusal (construct_start_tests (LoopShare desc) limits) seat place seat
    × (board : WaitBoardView) × (left : WaitBoardView) × (now : SeatView) × IsStartRefusedFor (LoopShare desc) (lesser found place) (reserve_op (LoopShare desc) false) (moved seat now board left) (Refused refusal)
start_refused_so desc found seat refusal on = (on.limits, on.starts.place, on.starts.finds, on.board, on.left, on.now, on.starts.cause refusal refl)

given_or_refused : (desc : LoopDesc) (found : Option Refusal) (seat : SeatView) (refusal : Refusal) → AloneOrOnBoard false (LoopShare desc) found seat (Refused refusal) → StartsOnBoard (LoopShare desc) false found seat (Refused refusal)
given_or_refused desc found seat refusal (inl alone) = absurd (let given : is_given (Refused refusal) ≡ true = alone.given in cc)
given_or_refused desc found seat refusal (inr on) = on

pub refused_start_has_a_cause : (allowed : Bool) (own : OwnView) (desc : LoopDesc) (seat : SeatView) (refusal : Refusal) → TeamAnswers allowed false own (LoopStart desc) seat (Refused refusal)
    → (found : Option Refusal) × (limits : Limits) × (place : Option Refusal) × FindsRefusal (construct_start_tests (LoopShare desc) limits) seat place seat
    × (board : WaitBoardView) × (left : WaitBoardView) × (now : SeatView) × IsStartRefusedFor (LoopShare desc) (lesser found place) (reserve_op (LoopShare desc) false) (moved seat now board left) (Refused refusal)
refused_start_has_a_cause allowed own desc seat refusal answered =
    let (limits, place, finds, board, left, now, cause) = start_refused_so desc _ seat refusal (given_or_refused desc _ seat refusal (answered.start (LoopShare desc) refl)) in
    (_, limits, place, finds, board, left, now, cause)
