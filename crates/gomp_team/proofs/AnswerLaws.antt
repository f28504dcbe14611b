-- Which replies the part of the team that answers a call may give: of any call, reply and member.
use Rattle.std.proofs.Common.{ℕ, ◌≡◌, ◌⊎◌, ◌∙◌, inl, inr, refl, sym, ap, subst, Bool, true, false, Option, Some, None}
use Rattle.std.specs.Prelude.{◌||◌, if◌then◌else◌, is_some, List, reverse, IfSome, IsSome}
use Rattle.gomp_types.specs.declared.call.Call.{Call}
use Rattle.gomp_types.specs.declared.call.Call.TheVariants as calls
use Rattle.gomp_types.specs.declared.call.Server.{Server}
use Rattle.gomp_types.specs.declared.call.Server.TheVariants.{Shares, Board, Book, Team}
use Rattle.gomp_types.specs.declared.depend.Dep.{Dep}
use Rattle.gomp_types.specs.declared.lock.LockKind.TheVariants.{Nest, Simple}
use Rattle.gomp_types.specs.declared.refusal.Refusal.{Refusal}
use Rattle.gomp_types.specs.declared.cancel.CancelKind.{CancelKind}
use Rattle.gomp_types.specs.declared.cancel.CancelKind.TheVariants as kinds
use Rattle.gomp_types.specs.declared.refusal.Refusal.TheVariants.{Broken, Ended, NotInside}
use Rattle.gomp_types.specs.declared.reply.Reply.{Reply}
use Rattle.gomp_types.specs.declared.reply.Reply.TheVariants.{Refused}
use Rattle.gomp_types.specs.declared.task.Owner.{Owner}
use Rattle.gomp_types.specs.Least.{least, lesser}
use Rattle.gomp_types.proofs.LeastRefutations.{lesser_is_either}
use Rattle.gomp_types.specs.Resumes.{is_resume}
use Rattle.gomp_types.specs.Servers.{served_by}
use Rattle.gomp_events.specs.declared.event.Arrival.{Arrival}
use Rattle.gomp_events.specs.declared.event.Arrival.TheVariants as arrivals
use Rattle.gomp_events.specs.declared.seen.Seen.{Seen}
use Rattle.gomp_events.specs.Events.{share_number}
use Rattle.gomp_events.specs.Tags.{tag_with}
use Rattle.gomp_shares.specs.Singles.{put_tests}
use Rattle.gomp_board.specs.declared.op.Op.{Op}
use Rattle.gomp_board.specs.declared.op.Op.TheVariants.{AwaitChildren, Put}
use Rattle.gomp_board.specs.Boards.{Stands}
use Rattle.gomp_locks.specs.BookCalls.{BookCall, destroy_lock, make_lock}
use Rattle.gomp_dispatch.specs.Serves.{board_op, arrival_op}
use Rattle.gomp_member.specs.Own.{OwnView, is_free, own_meant, own_owner}
use Rattle.gomp_member.specs.Refused.{own_refusal, task_refusal}
use Rattle.gomp_member.proofs.Free.{free_is_in_no_task, free_leaves_no_share, free_refuses_itself_nothing}
use Rattle.gomp_model.specs.Calls.{row_of}
use Rattle.gomp_ring.specs.RingSeats.{SeatView}
use Rattle.gomp_team_shares.specs.declared.inside.InsideCall.{InsideCall}
use Rattle.gomp_team_shares.specs.declared.start.ShareStart.{ShareStart}
use Rattle.gomp_team_shares.specs.declared.start.ShareStart.TheVariants.{SingleCopy}
use Rattle.gomp_seat_team.specs.Inside.{RefusesInsideBySeat, ServesInsideBySeat}
use Rattle.gomp_waits.specs.Waits.{WaitBoardView}
use Rattle.gomp_team_board.specs.Locked.{AnswersUnless, IsAnsweredUnderLock, IsAnsweredUnless, MovesCounts}
use Rattle.gomp_team_book.specs.Others.{IsAnswered}
use Rattle.gomp_team.specs.Answers.{AloneOrOnBoard, AnswersBook, AnswersBookUnless, AnswersInside, AnswersInsideThen, AnswersOp, AnswersStart, FindsAtEnd, FindsByEnd, FindsItself, FindsOwnOrName, FindsPlaceOf, FindsTogether, IsNoneOrBroken, IsRefusal, LetsEndBy, MayRefuseResume, RefusedIf, RefusesResume, ServerAnswers, TeamAnswers, found_of_share, made_by, made_refusal, together_op, words_op, words_place}
use Rattle.gomp_team.specs.Moves.{book_call}
use Rattle.gomp_team_calls.specs.declared.ends.ShareEnd.{ShareEnd}
use Rattle.gomp_team.specs.Seats.{Tries, ask_by, ask_of_shares, ask_together, end_of, inside_of, is_given, seat_ask, start_of}
use Rattle.gomp_team.specs.Seats.SeatAsk.{Inside, Starts}
use Rattle.gomp_team.specs.Seats.Tries.{Untried}
use Rattle.gomp_team_calls.specs.Starts.{start_room}
use Rattle.gomp_team.proofs.MoveLaws.{arrivals_are_the_teams}
use Rattle.gomp_seat_calls.specs.Stays.{StaysSeat}
use Rattle.gomp_team.proofs.SeatMoves.{inside_refusal_told, stays_longer, stays_same, tries_joined}

-- by the same of the member
pub answers_of_the_same : (repeated : Bool) (call : Call) (reply : Reply) (allowed may : Bool) (own is : OwnView) (seat at : SeatView) → allowed ≡ may → own ≡ is → seat ≡ at
    → TeamAnswers allowed repeated own call seat reply → TeamAnswers may repeated is call at reply
answers_of_the_same repeated call reply allowed may own is seat at same_team same_own same_seat answered =
    subst (λ (there : SeatView). TeamAnswers may repeated is call there reply) same_seat
    (subst (λ (knows : OwnView). TeamAnswers may repeated knows call seat reply) same_own (subst (λ (allows : Bool). TeamAnswers allows repeated own call seat reply) same_team answered))

-- What is found

-- of a member itself, by a call that is made
pub finds_as_it_knows : (refused : Option Refusal) (own : OwnView) (call : Call) → FindsOwnOrName refused own call refused
finds_as_it_knows (Some refusal) own call = refl
finds_as_it_knows None own call = inl refl

-- of one that nothing refuses
ends_no_share : (end : Option ShareEnd) (seat : SeatView) → LetsEndBy end false seat false
ends_no_share None seat = refl
ends_no_share (Some end) seat = refl

finds_nothing_when_free : (own : OwnView) (call : Call) (seat : SeatView) → is_free own ≡ true → is_resume call ≡ false → FindsItself false own call seat None
finds_nothing_when_free own call seat free first = (
  false,
  subst (λ (leaves : Bool). LetsEndBy (end_of call) leaves seat false) (sym (free_leaves_no_share own free)) (ends_no_share (end_of call) seat),
  subst (λ (refused : Option Refusal). FindsOwnOrName refused own call None) (sym (free_refuses_itself_nothing false own call free first)) (inl refl),
)

-- of its task too
pub nothing_refused : (found own task : Option Refusal) (refusal : Refusal) → found ≡ lesser own task → is_some found ≡ false → lesser own task ≡ Some refusal → ⊥
nothing_refused found own task refusal value none is = let some : is_some found ≡ true = ap is_some (value ∙ is) in let both : true ≡ false = sym some ∙ none in cc

pub none_is_found : (found : Option Refusal) → is_some found ≡ false → found ≡ None
none_is_found None none = refl
none_is_found (Some refusal) none = absurd (cc)

-- nothing more
pub nothing_is_not_lesser : (found : Option Refusal) → lesser found None ≡ found
nothing_is_not_lesser None = refl
nothing_is_not_lesser (Some refusal) = refl

-- By the board

-- the board was asked this
asked_op_answered : (Finds : Option Refusal → Type 0) (number : ℕ) (asked : Option Op) (op : Op) (found : Option Refusal) (reply : Reply) → asked ≡ Some op → Finds found → IsAnsweredUnless found op number reply → AnswersOp Finds number asked reply
asked_op_answered Finds number asked op found reply is finds answered = rw is (found, finds, answered)

pub board_call_answered : (allowed repeated : Bool) (own : OwnView) (call : Call) (op : Op) (found : Option Refusal) (seat : SeatView) (reply : Reply) → served_by call ≡ Board → board_op (made_by allowed repeated own) call ≡ Some op
    → FindsItself repeated own call seat found → IsAnsweredUnless found op seat.member reply → TeamAnswers allowed repeated own call seat reply
board_call_answered allowed repeated own call op found seat reply served asks finds answered = rw served (asked_op_answered (FindsItself repeated own call seat) seat.member (board_op (made_by allowed repeated own) call) op found reply asks finds answered)

-- what the board answered to what was asked, it answered to this operation
pub op_answered_so : (found refused : Option Refusal) (op asked : Op) (number : ℕ) (view after : WaitBoardView) (reply : Reply) → Stands view.board (reverse view.board.history) → asked ≡ op → found ≡ refused
    → AnswersUnless found asked number view after reply → MovesCounts asked number view after reply → IsAnsweredUnless refused op number reply
op_answered_so found refused op asked number view after reply known is same answer counts =
    subst (λ (unless : Option Refusal). IsAnsweredUnless unless op number reply) same
    (subst (λ (o : Op). IsAnsweredUnless found o number reply) is (record { found = view; left = after; known = known; answer = answer; counts = counts }))

-- what it answered under its lock
pub answered_under_lock : (number : ℕ) (op : Op) (reply : Reply) → IsAnsweredUnderLock op number reply → IsAnsweredUnless None op number reply
answered_under_lock number op reply a = record {
  found = a.found;
  left = a.left;
  known = a.known;
  answer = record {
    member = λ below. record { first = λ h stands comes. absurd (cc); other = λ h stands comes. a.answer.member below };
    bad_member = a.answer.bad_member;
    same = a.answer.same;
  };
  counts = a.counts;
}

-- a taskwait that is gone on with
pub taskwait_answered_again : (allowed : Bool) (own : OwnView) (items : List Dep) (seat : SeatView) (reply : Reply) → own.waits.open_call ≡ Some (calls.Taskwait items)
    → IsAnsweredUnderLock (AwaitChildren items) seat.member reply → TeamAnswers allowed true own (own_meant own calls.Resume) seat reply
taskwait_answered_again allowed own items seat reply waits answered = rw waits (None, refl, answered_under_lock seat.member (AwaitChildren items) reply answered)

-- By the book

-- the calls that make a lock, or destroy one
pub locks_are_asked : (repeated : Bool) → (book_call repeated calls.LockInit ≡ Some (make_lock Simple)) × (book_call repeated calls.NestInit ≡ Some (make_lock Nest))
    × ((number : ℕ) → book_call repeated (calls.LockDestroy number) ≡ Some (destroy_lock number))
locks_are_asked true = (refl, refl, λ number. refl)
locks_are_asked false = (refl, refl, λ number. refl)

no_cancellation_is_the_books : (kind : CancelKind) (clause : Bool) → (served_by (calls.Cancel kind clause) ≡ Book → ⊥) × (served_by (calls.Point kind) ≡ Book → ⊥)
no_cancellation_is_the_books kinds.Parallel clause = (λ served. cc, λ served. cc)
no_cancellation_is_the_books kinds.Loop clause = (λ served. cc, λ served. cc)
no_cancellation_is_the_books kinds.Sections clause = (λ served. cc, λ served. cc)
no_cancellation_is_the_books kinds.Taskgroup clause = (λ served. cc, λ served. cc)

-- each call that the book answers asks it for something
pub book_calls_ask : (repeated : Bool) (call : Call) → served_by call ≡ Book → (asked : BookCall) × (book_call repeated call ≡ Some asked)
book_calls_ask true (calls.CriticalStart name) served = (_, refl)
book_calls_ask false (calls.CriticalStart name) served = (_, refl)
book_calls_ask true (calls.Set number) served = (_, refl)
book_calls_ask false (calls.Set number) served = (_, refl)
book_calls_ask true (calls.SetNest number) served = (_, refl)
book_calls_ask false (calls.SetNest number) served = (_, refl)
book_calls_ask repeated (calls.CriticalEnd name) served = (_, refl)
book_calls_ask repeated calls.LockInit served = (make_lock Simple, (locks_are_asked repeated).0)
book_calls_ask repeated calls.NestInit served = (make_lock Nest, (locks_are_asked repeated).1)
book_calls_ask repeated (calls.LockDestroy number) served = (destroy_lock number, (locks_are_asked repeated).2 number)
book_calls_ask repeated (calls.Test number) served = (_, refl)
book_calls_ask repeated (calls.Unset number) served = (_, refl)
book_calls_ask repeated (calls.TestNest number) served = (_, refl)
book_calls_ask repeated (calls.UnsetNest number) served = (_, refl)
book_calls_ask repeated (calls.Cancel kind clause) served = absurd ((no_cancellation_is_the_books kind clause).0 served)
book_calls_ask repeated (calls.Point kind) served = absurd ((no_cancellation_is_the_books kind true).1 served)
book_calls_ask repeated call served = absurd (cc)

asked_of_book : (made : Option Refusal) (owner : Owner) (asked : Option BookCall) (call : BookCall) (team early : Option Refusal) (reply : Reply) → IsNoneOrBroken team → asked ≡ Some call → early ≡ lesser made team → AnswersBookUnless early owner call reply → AnswersBook made owner asked reply
asked_of_book made owner asked call team early reply of_team asks is answered = rw asks (team, of_team, subst (λ (found : Option Refusal). AnswersBookUnless found owner call reply) is answered)

-- a call that it answers, which the member itself or the team refuses
pub book_call_refused : (allowed repeated : Bool) (own : OwnView) (call : Call) (seat : SeatView) (refusal : Refusal) (early : Option Refusal) → served_by call ≡ Book → early ≡ Some refusal
    → (team : Option Refusal) × IsNoneOrBroken team × (early ≡ lesser (made_refusal repeated own call) team) → TeamAnswers allowed repeated own call seat (Refused refusal)
book_call_refused allowed repeated own call seat refusal early served is found =
    let (team, of_team, least_is) = found in
    let (asked, asks) = book_calls_ask repeated call served in
    rw served (asked_of_book (made_refusal repeated own call) (own_owner own) (book_call repeated call) asked team (Some refusal) (Refused refusal) of_team asks (sym is ∙ least_is) refl)

-- or does not
pub book_call_answered : (allowed repeated : Bool) (own : OwnView) (call : Call) (seat : SeatView) (reply : Reply) (early : Option Refusal) → served_by call ≡ Book → early ≡ None
    → (team : Option Refusal) × IsNoneOrBroken team × (early ≡ lesser (made_refusal repeated own call) team) → IfSome (book_call repeated call) (λ asked. IsAnswered (own_owner own) asked reply) → TeamAnswers allowed repeated own call seat reply
book_call_answered allowed repeated own call seat reply early served is found answered =
    let (team, of_team, least_is) = found in
    let (asked, asks) = book_calls_ask repeated call served in
    rw served (asked_of_book (made_refusal repeated own call) (own_owner own) (book_call repeated call) asked team None reply of_team asks (sym is ∙ least_is)
    (subst (λ (one : Option BookCall). IfSome one (λ it. IsAnswered (own_owner own) it reply)) asks answered))

-- By board and shares together

no_resume_arrives : (call : Call) (kind : Arrival) → (row_of call).arrives ≡ Some kind → is_resume call ≡ false
no_resume_arrives calls.Resume kind arrives = absurd (cc)
no_resume_arrives call kind arrives = refl

no_start_arrives : (call : Call) (kind : Arrival) → (row_of call).arrives ≡ Some kind → start_of call ≡ None
no_start_arrives (calls.LoopStart desc) kind arrives = absurd (cc)
no_start_arrives (calls.SectionsStart count end_kind) kind arrives = absurd (cc)
no_start_arrives calls.SingleStart kind arrives = absurd (cc)
no_start_arrives calls.SingleCopyStart kind arrives = absurd (cc)
no_start_arrives call kind arrives = refl

pub arrival_answers : (allowed repeated : Bool) (own : OwnView) (call : Call) (kind : Arrival) (found place : Option Refusal) (seat : SeatView) (reply : Reply) → (row_of call).arrives ≡ Some kind
    → FindsItself repeated own call seat found → FindsPlaceOf (made_by allowed repeated own) found (Some kind) call seat place
    → IsAnsweredUnless (lesser found place) (arrival_op repeated own.leaving.region (tag_with kind seat.seen.entered)) seat.member reply → TeamAnswers allowed repeated own call seat reply
arrival_answers allowed repeated own call kind found place seat reply arrives itself there answered =
    let finds : FindsTogether (made_by allowed repeated own) own call seat (lesser found place) = record {
      found = found;
      itself = itself;
      place = place;
      there = subst (λ (arriving : Option Arrival). FindsPlaceOf (made_by allowed repeated own) found arriving call seat place) (sym arrives) there;
      lesser_is = refl;
    } in
    rw (arrivals_are_the_teams call kind arrives, no_resume_arrives call kind arrives, no_start_arrives call kind arrives) (
      tt,
      asked_op_answered (FindsTogether (made_by allowed repeated own) own call seat) seat.member _ _ (lesser found place) reply
          (ap (λ (arriving : Option Arrival). together_op (made_by allowed repeated own) arriving call seat.seen) arrives) finds answered,
      tt,
    )

-- at a share's end
pub share_end_answered : (allowed repeated : Bool) (own : OwnView) (call : Call) (end : ShareEnd) (found : Option Refusal) (seat : SeatView) (reply : Reply) → (row_of call).arrives ≡ Some arrivals.ShareEnd → end_of call ≡ Some end
    → FindsItself repeated own call seat found
    → (place : Option Refusal) × FindsAtEnd repeated found end seat place × IsAnsweredUnless (lesser found place) (arrival_op repeated own.leaving.region (tag_with arrivals.ShareEnd seat.seen.entered)) seat.member reply
    → TeamAnswers allowed repeated own call seat reply
share_end_answered allowed repeated own call end found seat reply arrives ends itself (place, there, answered) =
    arrival_answers allowed repeated own call arrivals.ShareEnd found place seat reply arrives itself (subst (λ (one : Option ShareEnd). FindsByEnd repeated found one seat place) (sym ends) there) answered

pub words_put_answered : (allowed repeated : Bool) (own : OwnView) (words : List ℕ) (found : Option Refusal) (seat : SeatView) (reply : Reply) → FindsItself repeated own (calls.SingleCopyEnd words) seat found
    → IsAnsweredUnless (lesser found (least (put_tests seat.seen))) (Put (share_number seat.seen.current) words) seat.member reply → TeamAnswers allowed repeated own (calls.SingleCopyEnd words) seat reply
words_put_answered allowed true own words found seat reply itself answered =
    (tt, (None, record { found = None; itself = refl; place = None; there = refl; lesser_is = refl }, tt), tt)
words_put_answered allowed false own words found seat reply itself answered =
    (tt, (lesser found (least (put_tests seat.seen)), record { found = found; itself = itself; place = least (put_tests seat.seen); there = refl; lesser_is = refl }, answered), tt)

-- a start that may copy words asks the board for nothing that is said here, but what is found of its member refuses it
refused_where_found : (found : Option Refusal) (reply : Reply) → (IsSome found → IsRefusal reply) → RefusedIf (lesser found None) reply
refused_where_found None reply refuses = tt
refused_where_found (Some refusal) reply refuses = refuses refl

no_words_there : (repeated : Bool) (seen : Seen) → None ≡ words_place repeated false seen
no_words_there true seen = refl
no_words_there false seen = refl

pub copy_start_answered : (allowed repeated : Bool) (own : OwnView) (found : Option Refusal) (seat : SeatView) (reply : Reply) → FindsItself repeated own calls.SingleCopyStart seat found → (IsSome found → IsRefusal reply)
    → AnswersStart repeated SingleCopy found seat reply → TeamAnswers allowed repeated own calls.SingleCopyStart seat reply
copy_start_answered allowed repeated own found seat reply itself refuses cause =
    (tt, (lesser found None, record { found = found; itself = itself; place = None; there = no_words_there repeated seat.seen; lesser_is = refl }, refused_where_found found reply refuses), (found, itself, cause))

-- a resume that has nothing to repeat, and is refused for that
pub resume_answered : (allowed repeated : Bool) (own : OwnView) (found : Option Refusal) (seat : SeatView) (reply : Reply) → FindsItself repeated own calls.Resume seat found → RefusesResume true own reply → TeamAnswers allowed repeated own calls.Resume seat reply
resume_answered allowed repeated own found seat reply itself refuses =
    let (refusal, is, why) = refuses in
    (refuses, (lesser found None, record { found = found; itself = itself; place = None; there = no_words_there repeated seat.seen; lesser_is = refl }, refused_where_found found reply (λ some. (refusal, is))), tt)

-- what is found of its member and of the team may refuse it
broken_may : (own : OwnView) (team : Option Refusal) (refusal : Refusal) → IsNoneOrBroken team → team ≡ Some refusal → MayRefuseResume own refusal
broken_may own None refusal of_team is = absurd (cc)
broken_may own (Some (Broken clash)) refusal of_team is = subst (λ (one : Refusal). MayRefuseResume own one) (let same : Broken clash ≡ refusal = cc in same) tt
broken_may own (Some other) refusal of_team is = absurd of_team

ended_or_nothing : (ended waits : Bool) (refusal : Refusal) → (if ended then Some Ended else (if waits then None else Some NotInside)) ≡ Some refusal → ((ended ≡ true) × (Ended ≡ refusal)) ⊎ (NotInside ≡ refusal)
ended_or_nothing true waits refusal is = inl (refl, let same : Ended ≡ refusal = cc in same)
ended_or_nothing false true refusal is = absurd (cc)
ended_or_nothing false false refusal is = inr (let same : NotInside ≡ refusal = cc in same)

own_may : (placed : Bool) (own : OwnView) (refusal : Refusal) → own_refusal placed own calls.Resume ≡ Some refusal → MayRefuseResume own refusal
own_may placed own refusal is = elim (ended_or_nothing own.ended (is_some own.waits.open_call) refusal is) [
  | inl both ↦ subst (λ (one : Refusal). MayRefuseResume own one) both.1 both.0
  | inr same ↦ subst (λ (one : Refusal). MayRefuseResume own one) same tt
]

found_may : (refused : Option Refusal) (own : OwnView) (found team : Option Refusal) (refusal : Refusal) → ((one : Refusal) → refused ≡ Some one → MayRefuseResume own one)
    → FindsOwnOrName refused own calls.Resume found → IsNoneOrBroken team → lesser found team ≡ Some refusal → MayRefuseResume own refusal
found_may (Some one) own found team refusal may finds of_team least_is = elim (lesser_is_either one refusal team (ap (λ (first : Option Refusal). lesser first team) (sym finds) ∙ least_is)) [
  | inl same ↦ subst (λ (it : Refusal). MayRefuseResume own it) same (may one refl)
  | inr is ↦ broken_may own team refusal of_team is
]
found_may None own found team refusal may (inl none) of_team least_is = broken_may own team refusal of_team (ap (λ (first : Option Refusal). lesser first team) (sym none) ∙ least_is)
found_may None own found team refusal may (inr (is, names, tests)) of_team least_is = absurd (cc)

pub resume_may : (repeated : Bool) (own : OwnView) (seat : SeatView) (found team : Option Refusal) (refusal : Refusal) → FindsItself repeated own calls.Resume seat found → IsNoneOrBroken team → lesser found team ≡ Some refusal → MayRefuseResume own refusal
resume_may true own seat found team refusal none of_team least_is = broken_may own team refusal of_team (ap (λ (first : Option Refusal). lesser first team) (sym none) ∙ least_is)
resume_may false own seat found team refusal (placed, lets, finds) of_team least_is = found_may (own_refusal placed own calls.Resume) own found team refusal (own_may placed own) finds of_team least_is

-- so it is as one that is made, and as one that is repeated
pub resume_repeats_nothing : (allowed : Bool) (own : OwnView) (before from : SeatView) (reply : Reply) → TeamAnswers allowed false own calls.Resume from reply → TeamAnswers allowed true own calls.Resume before reply
resume_repeats_nothing allowed own before from reply answered = resume_answered allowed true own None before reply refl answered.0

-- By the work-shares

-- a start is answered as it is made, or as it is repeated, by the seat as it is
pub made_or_again : (repeated : Bool) (start : ShareStart) (found : Option Refusal) (seat : SeatView) (reply : Reply) → AloneOrOnBoard repeated start found seat reply → AnswersStart repeated start found seat reply
made_or_again true start found seat reply starts = (seat, Untried, stays_same seat seat refl, starts)
made_or_again false start found seat reply starts = starts

-- a start is no call on the member's share
starts_are_outside : (allowed : Bool) (call : Call) (start : ShareStart) (inside : InsideCall) → start_of call ≡ Some start → inside_of allowed call ≡ Some inside → ◌≡◌ {A = Option InsideCall} None (Some inside)
starts_are_outside allowed (calls.LoopStart desc) start inside starts is = is
starts_are_outside allowed (calls.SectionsStart count end_kind) start inside starts is = is
starts_are_outside allowed calls.SingleStart start inside starts is = is
starts_are_outside allowed calls.SingleCopyStart start inside starts is = is
starts_are_outside allowed call start inside starts is = absurd (cc)

pub start_answered : (allowed repeated : Bool) (own : OwnView) (call : Call) (start : ShareStart) (found : Option Refusal) (seat : SeatView) (reply : Reply) → served_by call ≡ Shares → start_of call ≡ Some start
    → FindsItself repeated own call seat found → ((refusal : Refusal) → lesser found (task_refusal own) ≡ Some refusal → IsRefusal reply) → AnswersStart repeated start (lesser found (task_refusal own)) seat reply → TeamAnswers allowed repeated own call seat reply
start_answered allowed repeated own call start found seat reply served starts itself refuses cause =
    rw served (record {
      found = found;
      itself = itself;
      team = None;
      of_team = tt;
      refuses = λ refusal is. refuses refusal (sym (nothing_is_not_lesser (lesser found (task_refusal own))) ∙ is);
      start = λ other is. subst (λ (one : Option ShareStart). IfSome one (λ it. AnswersStart repeated it (found_of_share found own None) seat reply)) is
          (subst (λ (one : Option ShareStart). IfSome one (λ it. AnswersStart repeated it (found_of_share found own None) seat reply)) (sym starts)
          (subst (λ (refused : Option Refusal). AnswersStart repeated start refused seat reply) (sym (nothing_is_not_lesser (lesser found (task_refusal own)))) cause));
      inside = λ inside is. absurd (let none = starts_are_outside allowed call start inside starts is in cc);
    })

-- what the seat serves, or its caller refuses
pub answers_inside : (found : Option Refusal) (call : InsideCall) (cancelled : Bool) (before : SeatView) (reply : Reply) (after : SeatView)
    → ((refusal : Refusal) → found ≡ Some refusal → RefusesInsideBySeat call refusal before reply after)
    → (found ≡ None → ServesInsideBySeat call cancelled before reply after)
    → AnswersInside found call before reply
answers_inside (Some refusal) call cancelled before reply after refused serves =
    let refuses = refused refusal refl in
    subst (λ (seat : SeatView). RefusesInsideBySeat call refusal before reply seat) refuses.finds.same refuses
answers_inside None call cancelled before reply after refused serves = (cancelled, after, serves refl)

inside_refused : (found : Option Refusal) (call : InsideCall) (seat : SeatView) (reply : Reply) (refusal : Refusal) → found ≡ Some refusal → AnswersInside found call seat reply → IsRefusal reply
inside_refused (Some one) call seat reply refusal is answered = inside_refusal_told call one seat reply seat answered
inside_refused None call seat reply refusal is answered = absurd (cc)

made_or_repeated : (repeated : Bool) (found : Option Refusal) (call : InsideCall) (seat : SeatView) (reply : Reply) → AnswersInside found call seat reply → AnswersInsideThen repeated found call seat reply
made_or_repeated true found call seat reply answered = (seat, Untried, stays_same seat seat refl, answered)
made_or_repeated false found call seat reply answered = answered

-- a call on the member's share, of which this was found of the member itself, its task and its team
pub inside_answered : (allowed repeated : Bool) (own : OwnView) (call : Call) (asked : InsideCall) (found team : Option Refusal) (seat : SeatView) (reply : Reply) → served_by call ≡ Shares → inside_of allowed call ≡ Some asked
    → FindsItself repeated own call seat found → IsNoneOrBroken team → AnswersInside (found_of_share found own team) asked seat reply → TeamAnswers allowed repeated own call seat reply
inside_answered allowed repeated own call asked found team seat reply served asks itself of_team answered =
    rw served (record {
      found = found;
      itself = itself;
      team = team;
      of_team = of_team;
      refuses = λ refusal is. inside_refused (found_of_share found own team) asked seat reply refusal is answered;
      start = λ start is. absurd (let none = starts_are_outside allowed call start asked is asks in cc);
      inside = λ inside is. subst (λ (one : Option InsideCall). IfSome one (λ it. AnswersInsideThen repeated (found_of_share found own team) it seat reply)) is
          (subst (λ (one : Option InsideCall). IfSome one (λ it. AnswersInsideThen repeated (found_of_share found own team) it seat reply)) (sym asks) (made_or_repeated repeated (found_of_share found own team) asked seat reply answered));
    })

-- of a member that nothing refuses its seat serves it
nothing_is_found : (own : OwnView) → is_free own ≡ true → found_of_share None own None ≡ None
nothing_is_found own free = rw (free_is_in_no_task own free) refl

nothing_is_found_of_its_task : (own : OwnView) → is_free own ≡ true → lesser None (task_refusal own) ≡ None
nothing_is_found_of_its_task own free = rw (free_is_in_no_task own free) refl

pub free_inside_answered : (allowed : Bool) (own : OwnView) (call : Call) (asked : InsideCall) (cancelled : Bool) (seat now : SeatView) (reply : Reply) → served_by call ≡ Shares → inside_of allowed call ≡ Some asked
    → is_free own ≡ true → is_resume call ≡ false → ServesInsideBySeat asked cancelled seat reply now → TeamAnswers allowed false own call seat reply
free_inside_answered allowed own call asked cancelled seat now reply served asks free first serves =
    inside_answered allowed false own call asked None None seat reply served asks (finds_nothing_when_free own call seat free first) tt
    (subst (λ (found : Option Refusal). AnswersInside found asked seat reply) (sym (nothing_is_found own free)) (cancelled, now, serves))

-- and a start of its is answered
pub free_start_answered : (allowed : Bool) (own : OwnView) (call : Call) (start : ShareStart) (seat : SeatView) (reply : Reply) → served_by call ≡ Shares → start_of call ≡ Some start
    → is_free own ≡ true → is_resume call ≡ false → is_given reply ≡ true → start_room start ≡ 0 → TeamAnswers allowed false own call seat reply
free_start_answered allowed own call start seat reply served starts free first given roomless =
    start_answered allowed false own call start None seat reply served starts (finds_nothing_when_free own call seat free first) (λ refusal is. absurd (let none = free_is_in_no_task own free in cc))
    (inl (record { given = given; made = refl; unfound = nothing_is_found_of_its_task own free; roomless = roomless }))

-- Waits

no_words_again : (call : Call) (seen : Seen) → words_op call true seen ≡ None
no_words_again (calls.SingleCopyEnd words) seen = refl
no_words_again call seen = refl

together_again : (allowed : Bool) (own : OwnView) (arrives : Option Arrival) (call : Call) (before from : Seen) →
    together_op (made_by allowed true own) arrives call from ≡ together_op (made_by allowed true own) arrives call before
together_again allowed own (Some kind) call before from = refl
together_again allowed own None call before from = no_words_again call from ∙ sym (no_words_again call before)

by_end_again : (found : Option Refusal) (end : Option ShareEnd) (from before : SeatView) (place : Option Refusal) → FindsByEnd true found end from place → FindsByEnd true found end before place
by_end_again found None from before place there = absurd there
by_end_again found (Some end) from before place there = there

there_again : (allowed : Bool) (own : OwnView) (found : Option Refusal) (arrives : Option Arrival) (call : Call) (from before : SeatView) (place : Option Refusal)
    → FindsPlaceOf (made_by allowed true own) found arrives call from place → FindsPlaceOf (made_by allowed true own) found arrives call before place
there_again allowed own found (Some arrivals.ShareEnd) call from before place there = by_end_again found (end_of call) from before place there
there_again allowed own found (Some arrivals.Barrier) call from before place there = there
there_again allowed own found (Some arrivals.RegionEnd) call from before place there = there
there_again allowed own found None call from before place there = there

finds_together_again : (allowed : Bool) (own : OwnView) (call : Call) (from before : SeatView) (refused : Option Refusal) → FindsTogether (made_by allowed true own) own call from refused → FindsTogether (made_by allowed true own) own call before refused
finds_together_again allowed own call from before refused finds = record {
  found = finds.found;
  itself = finds.itself;
  place = finds.place;
  there = there_again allowed own finds.found (row_of call).arrives call from before finds.place finds.there;
  lesser_is = finds.lesser_is;
}

asked_again : (First Then : Option Refusal → Type 0) → ((found : Option Refusal) → First found → Then found) → (number : ℕ) (asked : Option Op) (reply : Reply) → AnswersOp First number asked reply → AnswersOp Then number asked reply
asked_again First Then leads number None reply (found, finds, refused) = (found, leads found finds, refused)
asked_again First Then leads number (Some op) reply (found, finds, answered) = (found, leads found finds, answered)

team_again : (allowed : Bool) (own : OwnView) (call : Call) (from before : SeatView) (reply : Reply) → from.member ≡ before.member
    → AnswersOp (FindsTogether (made_by allowed true own) own call from) from.member (together_op (made_by allowed true own) (row_of call).arrives call from.seen) reply
    → AnswersOp (FindsTogether (made_by allowed true own) own call before) before.member (together_op (made_by allowed true own) (row_of call).arrives call before.seen) reply
team_again allowed own call from before reply same answered =
    subst (λ (asked : Option Op). AnswersOp (FindsTogether (made_by allowed true own) own call before) before.member asked reply) (together_again allowed own (row_of call).arrives call before.seen from.seen)
    (subst (λ (m : ℕ). AnswersOp (FindsTogether (made_by allowed true own) own call before) m (together_op (made_by allowed true own) (row_of call).arrives call from.seen) reply) same
    (asked_again (FindsTogether (made_by allowed true own) own call from) (FindsTogether (made_by allowed true own) own call before) (finds_together_again allowed own call from before) from.member _ reply answered))

inside_answered_again : (found : Option Refusal) (before from : SeatView) (call : InsideCall) (reply : Reply) → Tries (Inside call) before from → StaysSeat before from → AnswersInsideThen true found call from reply → AnswersInsideThen true found call before reply
inside_answered_again found before from call reply tries same (at, tried, stays, answered) = (at, tries_joined (Inside call) before from at tries tried, stays_longer before from at same stays, answered)

start_again : (found : Option Refusal) (before from : SeatView) (start : ShareStart) (reply : Reply) → Tries (Starts true start) before from → StaysSeat before from → AnswersStart true start found from reply → AnswersStart true start found before reply
start_again found before from start reply tries same (at, tried, stays, starts) = (at, tries_joined (Starts true start) before from at tries tried, stays_longer before from at same stays, starts)

tries_start : (starts : Option ShareStart) (asked : Option InsideCall) (start : ShareStart) (before from : SeatView) → starts ≡ Some start → Tries (ask_of_shares true starts asked) before from → Tries (Starts true start) before from
tries_start None asked start before from is tries = absurd (cc)
tries_start (Some one) asked start before from is tries = subst (λ (it : ShareStart). Tries (Starts true it) before from) (let same : one ≡ start = cc in same) tries

tries_inside : (starts : Option ShareStart) (asked : Option InsideCall) (inside : InsideCall) (before from : SeatView) → asked ≡ Some inside → starts ≡ None → Tries (ask_of_shares true starts asked) before from → Tries (Inside inside) before from
tries_inside starts None inside before from is none tries = absurd (cc)
tries_inside (Some start) (Some one) inside before from is none tries = absurd (cc)
tries_inside None (Some one) inside before from is none tries = subst (λ (it : InsideCall). Tries (Inside it) before from) (let same : one ≡ inside = cc in same) tries

-- a call on the member's share starts none
outside_when_it_starts : (allowed : Bool) (call : Call) (starts : Option ShareStart) (inside : InsideCall) → start_of call ≡ starts → inside_of allowed call ≡ Some inside → starts ≡ None
outside_when_it_starts allowed call None inside is asks = refl
outside_when_it_starts allowed call (Some start) inside is asks = absurd (let none = starts_are_outside allowed call start inside is asks in cc)

together_again_starts : (allowed : Bool) (own : OwnView) (starts : Option ShareStart) (ends : Option ShareEnd) (puts : Bool) (call : Call) (before from : SeatView) (reply : Reply) → Tries (ask_together true starts ends puts) before from → StaysSeat before from
    → IfSome starts (λ start. (found : Option Refusal) × FindsItself true own call from found × AnswersStart true start found from reply) → IfSome starts (λ start. (found : Option Refusal) × FindsItself true own call before found × AnswersStart true start found before reply)
together_again_starts allowed own None ends puts call before from reply tries same answered = tt
together_again_starts allowed own (Some start) ends puts call before from reply tries same (found, itself, answered) = (found, itself, start_again found before from start reply tries same answered)

answers_again : (server : Server) (allowed : Bool) (own : OwnView) (call : Call) (before from : SeatView) (reply : Reply) → Tries (ask_by server allowed true call) before from → StaysSeat before from
    → ServerAnswers server (made_by allowed true own) own call from reply → ServerAnswers server (made_by allowed true own) own call before reply
answers_again Book allowed own call before from reply tries same answered = answered
answers_again Board allowed own call before from reply tries same answered = subst (λ (m : ℕ). AnswersOp (FindsItself true own call before) m (board_op (made_by allowed true own) call) reply) same.member answered
answers_again Team allowed own call before from reply tries same answered = (answered.0, team_again allowed own call from before reply same.member answered.1, together_again_starts allowed own (start_of call) (end_of call) (row_of call).puts call before from reply tries same answered.2)
answers_again Shares allowed own call before from reply tries same answered =
    record { found = answered.found; itself = answered.itself; team = answered.team; of_team = answered.of_team; refuses = answered.refuses; start = λ start is. start_again _ before from start reply (tries_start (start_of call) (inside_of allowed call) start before from is tries) same (answered.start start is); inside = λ inside is. inside_answered_again _ before from inside reply (tries_inside (start_of call) (inside_of allowed call) inside before from is (outside_when_it_starts allowed call (start_of call) inside refl is) tries) same (answered.inside inside is) }

-- a resume that has nothing to repeat asks nothing of its seat
resumed_again : (allowed : Bool) (own : OwnView) (before from : SeatView) (reply : Reply) → TeamAnswers allowed false own calls.Resume from reply → TeamAnswers allowed false own calls.Resume before reply
resumed_again allowed own before from reply (refuses, (found, finds, refused), none) = resume_answered allowed false own finds.found before reply finds.itself refuses

resume_answered_again : (allowed : Bool) (own : OwnView) (call : Call) (before from : SeatView) (reply : Reply) → is_resume call ≡ true → TeamAnswers allowed false own call from reply → TeamAnswers allowed false own call before reply
resume_answered_again allowed own calls.Resume before from reply is answered = resumed_again allowed own before from reply answered
resume_answered_again allowed own call before from reply is answered = absurd (cc)

-- a call that is repeated, or a resume, is answered as it was at its last try: what it asks does not change while it waits
pub answered_at_last : (allowed repeated : Bool) (own : OwnView) (call : Call) (before from : SeatView) (reply : Reply) → (repeated || is_resume call) ≡ true → Tries (seat_ask allowed repeated call) before from → StaysSeat before from
    → TeamAnswers allowed repeated own call from reply → TeamAnswers allowed repeated own call before reply
answered_at_last allowed true own call before from reply again tries same answered = answers_again (served_by call) allowed own call before from reply tries same answered
answered_at_last allowed false own call before from reply again tries same answered = resume_answered_again allowed own call before from reply again answered
