-- Which replies the team may give a call of a member: what refuses it at first, and what a board, a book or its own seat is asked then, and answers. (own)
use Rattle.std.specs.Prelude.{ℕ, nat_lt, is_none, ◌≡◌, ◌⊎◌, ◌&&◌, Bool, true, false, if◌then◌else◌, reverse, Option, Some, None, IfSome}
use Rattle.gomp_types.specs.declared.call.Call.{Call}
use Rattle.gomp_types.specs.declared.call.Call.TheVariants.{SingleCopyEnd}
use Rattle.gomp_types.specs.declared.call.Server.{Server}
use Rattle.gomp_types.specs.declared.limits.Limits.{Limits}
use Rattle.gomp_types.specs.declared.call.Server.TheVariants.{Shares, Board, Book, Team}
use Rattle.gomp_types.specs.declared.refusal.Refusal.{Refusal}
use Rattle.gomp_types.specs.declared.refusal.Refusal.TheVariants.{Broken, Ended, HoldsCritical, NoMemory, NotInside}
use Rattle.gomp_types.specs.declared.reply.Reply.{Reply}
use Rattle.gomp_types.specs.declared.reply.Reply.TheVariants.{Refused}
use Rattle.gomp_types.specs.declared.task.Owner.{Owner}
use Rattle.gomp_types.specs.Least.{least, lesser}
use Rattle.gomp_types.specs.Resumes.{is_resume}
use Rattle.gomp_types.specs.Servers.{served_by}
use Rattle.gomp_events.specs.declared.event.Arrival.{Arrival}
use Rattle.gomp_events.specs.declared.event.Arrival.TheVariants as arrivals
use Rattle.gomp_events.specs.declared.seen.Seen.{Seen}
use Rattle.gomp_events.specs.Events.{share_number}
use Rattle.gomp_events.specs.Tags.{tag_with}
use Rattle.gomp_shares.specs.Admission.{all_end_tests}
use Rattle.gomp_shares.specs.Singles.{put_tests}
use Rattle.gomp_board.specs.declared.op.Op.{Op}
use Rattle.gomp_board.specs.declared.op.Op.TheVariants.{Put}
use Rattle.gomp_board.specs.Boards.{Stands}
use Rattle.gomp_waits.specs.Waits.{WaitBoardView}
use Rattle.gomp_locks.specs.BookCalls.{BookCall}
use Rattle.gomp_model.specs.Calls.{row_of}
use Rattle.gomp_dispatch.specs.declared.leaving.Manner.{Manner}
use Rattle.gomp_dispatch.specs.Serves.{board_op, arrival_op}
use Rattle.gomp_member.specs.Own.{OwnView, own_owner}
use Rattle.gomp_member.specs.Refused.{own_refusal, task_refusal, tests_names}
use Rattle.gomp_ring.specs.RingSeats.{SeatView}
use Rattle.gomp_team_shares.specs.declared.inside.InsideCall.{InsideCall}
use Rattle.gomp_team_shares.specs.declared.start.ShareStart.{ShareStart}
use Rattle.gomp_team_calls.specs.declared.ends.ShareEnd.{ShareEnd}
use Rattle.gomp_team_calls.specs.Arrivals.{arrival_place_tests}
use Rattle.gomp_team_calls.specs.Starts.{start_room}
use Rattle.gomp_seat_calls.specs.Stays.{FindsRefusal, StaysSeat}
use Rattle.gomp_seat_team.specs.Arrivals.{FindsPlace}
use Rattle.gomp_seat_team.specs.Inside.{RefusesInsideBySeat, ServesInsideBySeat}
use Rattle.gomp_seat_team.specs.Moved.{TeamMoved, moved}
use Rattle.gomp_seat_team.specs.Starts.{GoesOnWaiting, SeatStart, StartsShare, seat_start}
use Rattle.gomp_seat_calls.specs.Starts.{awaits_payload}
use Rattle.gomp_team_board.specs.Locked.{IsAnsweredUnless}
use Rattle.gomp_team_book.specs.Others.{IsAnswered}
use Rattle.gomp_team.specs.Moves.{book_call}
use Rattle.gomp_team.specs.Seats.{Tries, end_of, inside_of, is_given, start_of}
use Rattle.gomp_team.specs.Seats.SeatAsk.{Inside, Starts}

-- a reply that refuses
abbrev pub IsRefusal : Reply → Type 0
IsRefusal reply = (refusal : Refusal) × (reply ≡ Refused refusal)

-- What is found before the board or the book is asked

-- whether its place lets a member that leaves its share end that so; one that leaves none, or ends none, is not asked
abbrev pub LetsEndBy : Option ShareEnd → Bool → SeatView → Bool → Type 0
LetsEndBy None leaves seat placed = placed ≡ false
LetsEndBy (Some end) false seat placed = placed ≡ false
LetsEndBy (Some end) true seat placed = (place : Option Refusal) × FindsRefusal (all_end_tests end.construct end.end_kind) seat place seat × (placed ≡ is_none place)

-- what the member knows of itself refuses the call, if it does; else its task may hold a critical name, if it is in one and the call tests that
abbrev pub FindsOwnOrName : Option Refusal → OwnView → Call → Option Refusal → Type 0
FindsOwnOrName (Some refusal) own call found = found ≡ Some refusal
FindsOwnOrName None own call found = (found ≡ None) ⊎ ((found ≡ Some HoldsCritical) × (nat_lt 0 own.names ≡ true) × (tests_names call ≡ true))

-- so of a call that is made, by a member with this seat; one that is repeated was tested when it was made
abbrev pub FindsItself : Bool → OwnView → Call → SeatView → Option Refusal → Type 0
FindsItself true own call seat found = found ≡ None
FindsItself false own call seat found = (placed : Bool) × LetsEndBy (end_of call) own.leaves_share seat placed × FindsOwnOrName (own_refusal placed own call) own call found

-- the same of a call on a name or a lock, which no critical name refuses
abbrev pub made_refusal : Bool → OwnView → Call → Option Refusal
made_refusal repeated own call = if repeated then None else own_refusal false own call

-- nothing, or why a team refuses any call: it is broken, by some clash
abbrev pub IsNoneOrBroken : Option Refusal → Type 0
IsNoneOrBroken None = Unit {0}
IsNoneOrBroken (Some (Broken clash)) = Unit {0}
IsNoneOrBroken found = ⊥

-- By the board

-- if something was found the call is refused, by whatever refusal
abbrev pub RefusedIf : Option Refusal → Reply → Type 0
RefusedIf None reply = Unit {0}
RefusedIf (Some refusal) reply = IsRefusal reply

-- some board has answered this operation so, of the member with this number, unless what was found comes before its own refusals; if no operation is asked, any reply may come unless something was found, and then a refusal
abbrev pub AnswersOp : (Option Refusal → Type 0) → ℕ → Option Op → Reply → Type 0
AnswersOp Finds number None reply = (found : Option Refusal) × Finds found × RefusedIf found reply
AnswersOp Finds number (Some op) reply = (found : Option Refusal) × Finds found × IsAnsweredUnless found op number reply

-- By the book

-- some book has answered the call so, of this owner, unless this was found
abbrev pub AnswersBookUnless : Option Refusal → Owner → BookCall → Reply → Type 0
AnswersBookUnless (Some refusal) owner call reply = reply ≡ Refused refusal
AnswersBookUnless None owner call reply = IsAnswered owner call reply

-- and unless the team is broken; of both the lesser refusal answers
abbrev pub AnswersBook : Option Refusal → Owner → Option BookCall → Reply → Type 0
AnswersBook made owner None reply = ⊥
AnswersBook made owner (Some call) reply = (team : Option Refusal) × IsNoneOrBroken team × AnswersBookUnless (lesser made team) owner call reply

-- By the board, of a call that the member's place may refuse

-- how a member makes a call, or repeats one, by what it knows of itself, in a team that allows cancellation or does not
abbrev pub made_by : Bool → Bool → OwnView → Manner
made_by allowed repeated own = record { repeated = repeated; leaving = own.leaving; allowed = allowed }

-- the words that a call puts in the member's share, when it is made
abbrev pub words_op : Call → Bool → Seen → Option Op
words_op (SingleCopyEnd words) false seen = Some (Put (share_number seen.current) words)
words_op call repeated seen = None

-- what a call that brings board and shares together asks of the board, but a start: the member's arrival, with as many shares as it has entered, or its wait; or its words
abbrev pub together_op : Manner → Option Arrival → Call → Seen → Option Op
together_op manner (Some kind) call seen = Some (arrival_op manner.repeated manner.leaving.region (tag_with kind seen.entered))
together_op manner None call seen = words_op call manner.repeated seen

-- what the member's place refuses it when it arrives at a barrier, or at the end of a region that it leaves or not; when it waits there, nothing
abbrev pub arrival_place : Bool → Arrival → Bool → Seen → Option Refusal
arrival_place repeated kind leaving seen = if repeated then None else least (arrival_place_tests kind leaving seen)

-- when it ends its share with a barrier, if this was found of it
abbrev pub FindsAtEnd : Bool → Option Refusal → ShareEnd → SeatView → Option Refusal → Type 0
FindsAtEnd true found end seat place = place ≡ None
FindsAtEnd false found end seat place = (now : SeatView) × FindsPlace found end.construct end.end_kind seat place now

-- by the end that a call is
abbrev pub FindsByEnd : Bool → Option Refusal → Option ShareEnd → SeatView → Option Refusal → Type 0
FindsByEnd repeated found None seat place = ⊥
FindsByEnd repeated found (Some end) seat place = FindsAtEnd repeated found end seat place

-- so a board answers its arrival there, or its wait, of which this was found
abbrev pub ArrivalAnswers : Bool → Arrival → Option Refusal → Bool → SeatView → Reply → Type 0
ArrivalAnswers repeated kind found leaving seat reply = IsAnsweredUnless (lesser found (arrival_place repeated kind leaving seat.seen)) (arrival_op repeated leaving (tag_with kind seat.seen.entered)) seat.member reply

-- and its arrival at its share's end
abbrev pub EndAnswers : Bool → ShareEnd → Option Refusal → Bool → SeatView → Reply → Type 0
EndAnswers repeated end found leaving seat reply =
    (place : Option Refusal) × FindsAtEnd repeated found end seat place × IsAnsweredUnless (lesser found place) (arrival_op repeated leaving (tag_with arrivals.ShareEnd seat.seen.entered)) seat.member reply

-- when it puts words, if the call does
abbrev pub words_place : Bool → Bool → Seen → Option Refusal
words_place repeated puts seen = if repeated then None else (if puts then least (put_tests seen) else None)

-- what its place refuses it: at its arrival, at its end, or as it puts words
abbrev pub FindsPlaceOf : Manner → Option Refusal → Option Arrival → Call → SeatView → Option Refusal → Type 0
FindsPlaceOf manner found (Some arrivals.ShareEnd) call seat place = FindsByEnd manner.repeated found (end_of call) seat place
FindsPlaceOf manner found (Some arrivals.Barrier) call seat place = place ≡ arrival_place manner.repeated arrivals.Barrier manner.leaving.region seat.seen
FindsPlaceOf manner found (Some arrivals.RegionEnd) call seat place = place ≡ arrival_place manner.repeated arrivals.RegionEnd manner.leaving.region seat.seen
FindsPlaceOf manner found None call seat place = place ≡ words_place manner.repeated (row_of call).puts seat.seen

-- of the member itself and of its place the lesser is found
pub record FindsTogether (manner : Manner) (own : OwnView) (call : Call) (seat : SeatView) (refused : Option Refusal) : Type 0 where
  pub found : Option Refusal
  pub itself : FindsItself manner.repeated own call seat found
  pub place : Option Refusal
  pub there : FindsPlaceOf manner found (row_of call).arrives call seat place
  pub lesser_is : refused ≡ lesser found place

-- By the board and the member's seat, of a start

-- a start of a member that waits in no share; or one that is repeated by a member that waits in its share for words
abbrev pub StartsAt : Bool → SeatStart → TeamMoved → Reply → Type 0
StartsAt false asked move reply = StartsShare asked move reply
StartsAt true asked move reply = GoesOnWaiting asked.found move reply

-- some board, by some limits, has answered the start so that a member with this seat asks for, of which this was found
pub record StartsOnBoard (start : ShareStart) (repeated : Bool) (found : Option Refusal) (seat : SeatView) (reply : Reply) : Type 0 where
  pub limits : Limits
  pub now : SeatView
  pub board : WaitBoardView
  pub left : WaitBoardView
  pub known : Stands board.board (reverse board.board.history)
  pub starts : StartsAt (repeated && awaits_payload seat.seen) (seat_start start repeated limits found) (moved seat now board left) reply

-- a start that is made, of which nothing was found and for which the board keeps no room, gives its member something
pub record GivesAlone (start : ShareStart) (repeated : Bool) (found : Option Refusal) (reply : Reply) : Type 0 where
  pub given : is_given reply ≡ true
  pub made : repeated ≡ false
  pub unfound : found ≡ None
  pub roomless : start_room start ≡ 0

-- so, with no board, or on some board
abbrev pub AloneOrOnBoard : Bool → ShareStart → Option Refusal → SeatView → Reply → Type 0
AloneOrOnBoard repeated start found seat reply = GivesAlone start repeated found reply ⊎ StartsOnBoard start repeated found seat reply

-- so a start that is made; one that is repeated, by the seat as the tries before left it
abbrev pub AnswersStart : Bool → ShareStart → Option Refusal → SeatView → Reply → Type 0
AnswersStart false start found seat reply = AloneOrOnBoard false start found seat reply
AnswersStart true start found seat reply = (from : SeatView) × Tries (Starts true start) seat from × StaysSeat seat from × AloneOrOnBoard true start found from reply

-- so a start that brings board and shares together, by what is found of the member itself
abbrev pub StartsTogether : Manner → OwnView → Call → SeatView → Reply → Type 0
StartsTogether manner own call seat reply = IfSome (start_of call) (λ start. (found : Option Refusal) × FindsItself manner.repeated own call seat found × AnswersStart manner.repeated start found seat reply)

-- By the member's seat

-- what is found of a call on the work-shares: of the member itself, of the task that it executes, and of the team
abbrev pub found_of_share : Option Refusal → OwnView → Option Refusal → Option Refusal
found_of_share found own team = lesser (lesser found (task_refusal own)) team

-- a call on the share that the member is in, of which this was found: its seat refuses it, or serves it
abbrev pub AnswersInside : Option Refusal → InsideCall → SeatView → Reply → Type 0
AnswersInside (Some refusal) call seat reply = RefusesInsideBySeat call refusal seat reply seat
AnswersInside None call seat reply = (cancelled : Bool) × (now : SeatView) × ServesInsideBySeat call cancelled seat reply now

-- so of what the member knows of itself, which the team is not asked
abbrev pub AnswersOwnInside : OwnView → Call → InsideCall → SeatView → Reply → Type 0
AnswersOwnInside own call inside seat reply = (placed : Bool) × LetsEndBy (end_of call) own.leaves_share seat placed × AnswersInside (lesser (own_refusal placed own call) (task_refusal own)) inside seat reply

-- so a call that is made; one that is repeated, by the seat as the tries before left it
abbrev pub AnswersInsideThen : Bool → Option Refusal → InsideCall → SeatView → Reply → Type 0
AnswersInsideThen false found call seat reply = AnswersInside found call seat reply
AnswersInsideThen true found call seat reply = (from : SeatView) × Tries (Inside call) seat from × StaysSeat seat from × AnswersInside found call from reply

-- a call that the work-shares answer
pub record AnswersShares (manner : Manner) (own : OwnView) (call : Call) (seat : SeatView) (reply : Reply) : Type 0 where
  pub found : Option Refusal
  pub itself : FindsItself manner.repeated own call seat found
  pub team : Option Refusal
  pub of_team : IsNoneOrBroken team
  -- if something is found it is refused
  pub refuses : (refusal : Refusal) → found_of_share found own team ≡ Some refusal → IsRefusal reply
  -- some board answers a start, and the seat, of all refusals with the least, or the seat alone
  pub start : (start : ShareStart) → start_of call ≡ Some start → AnswersStart manner.repeated start (found_of_share found own team) seat reply
  -- the seat answers one on the member's share, or refuses it, if that has the lesser number
  pub inside : (inside : InsideCall) → inside_of manner.allowed call ≡ Some inside → AnswersInsideThen manner.repeated (found_of_share found own team) inside seat reply

-- By each

-- why a resume is refused that has nothing to repeat: for that, since the member has passed the region's end, or since the team is broken
abbrev pub MayRefuseResume : OwnView → Refusal → Type 0
MayRefuseResume own NotInside = Unit {0}
MayRefuseResume own Ended = own.ended ≡ true
MayRefuseResume own refusal = IsNoneOrBroken (Some refusal)

abbrev pub RefusesResume : Bool → OwnView → Reply → Type 0
RefusesResume true own reply = (refusal : Refusal) × (reply ≡ Refused refusal) × MayRefuseResume own refusal
RefusesResume false own reply = Unit {0}

-- what a member with this seat was answered, by the part of the team that answers the call
abbrev pub ServerAnswers : Server → Manner → OwnView → Call → SeatView → Reply → Type 0
ServerAnswers Book manner own call seat reply = AnswersBook (made_refusal manner.repeated own call) (own_owner own) (book_call manner.repeated call) reply
ServerAnswers Board manner own call seat reply = AnswersOp (FindsItself manner.repeated own call seat) seat.member (board_op manner call) reply
ServerAnswers Team manner own call seat reply = RefusesResume (is_resume call) own reply × AnswersOp (FindsTogether manner own call seat) seat.member (together_op manner (row_of call).arrives call seat.seen) reply × StartsTogether manner own call seat reply
ServerAnswers Shares manner own call seat reply = AnswersShares manner own call seat reply

-- a member that knows this of itself made a call, or repeated one, and was answered so
abbrev pub TeamAnswers : Bool → Bool → OwnView → Call → SeatView → Reply → Type 0
TeamAnswers allowed repeated own call seat reply = ServerAnswers (served_by call) (made_by allowed repeated own) own call seat reply

-- a member that has no room for one more task may be refused the memory for that before its team is asked
abbrev pub AnswersWithRoom : Bool → Bool → Bool → OwnView → Call → SeatView → Reply → Type 0
AnswersWithRoom room allowed repeated own call seat reply = ((room ≡ false) × (reply ≡ Refused NoMemory)) ⊎ TeamAnswers allowed repeated own call seat reply
