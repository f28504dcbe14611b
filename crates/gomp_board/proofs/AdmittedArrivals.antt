-- What the tests of an arrival, of the wait after it, of a reservation, of words and of a break tell.
use Rattle.std.proofs.Common.{◌≡◌, ℕ, ◌+◌, ◌<◌, ◌≤◌, Bool, true, false, List, ◌∷◌, ◌++◌, Option, Some, None, refl, arith, suc, zero}
use Rattle.std.specs.Prelude.{min, reverse, not, ◌&&◌}
use Rattle.std.proofs.lemmas.Bool.{ltb-false}
use Rattle.gomp_types.specs.declared.limits.Limits.{Limits}
use Rattle.gomp_types.specs.declared.refusal.Clash.{Clash}
use Rattle.gomp_types.specs.declared.refusal.Refusal.TheVariants.{Ended, Broken, Mismatch}
use Rattle.gomp_types.specs.declared.reply.Reply.{Reply}
use Rattle.gomp_types.specs.declared.reply.Reply.TheVariants.{Refused}
use Rattle.gomp_events.specs.declared.event.Tag.{Tag}
use Rattle.gomp_events.specs.declared.event.Event.{Event}
use Rattle.gomp_types.specs.Limits.{capped_limits}
use Rattle.gomp_events.specs.Events.{at_region_end, is_region_end, clash_of}
use Rattle.gomp_events.specs.Cancels.{is_cancelled}
use Rattle.gomp_events.specs.CancelCalls.{cancel_tests}
use Rattle.gomp_types.specs.Tests.{Test}
use Rattle.gomp_types.specs.Least.{least}
use Rattle.gomp_events.specs.TaskCalls.{lacks_room, AwaitsTasks}
use Rattle.gomp_events.specs.Breaks.{broken_tests}
use Rattle.gomp_types.proofs.LeastTests.{AllFail, all_fail, fail_first, fail_later, lesser_low}
use Rattle.gomp_events.proofs.BreakReadings.{team_unbroken}
use Rattle.gomp_board.specs.declared.op.Op.{Op}
use Rattle.gomp_board.specs.declared.op.Op.TheVariants.{Arrive, Reserve, Put, Got, Cancel}
use Rattle.gomp_board.specs.declared.op.TeamCancel.{TeamCancel}
use Rattle.gomp_board.specs.Ops.{arrival_asks, words_ask, op_member_tests, region_end_tests, named_kind, op_tests, op_refusal}
use Rattle.gomp_board.specs.Boards.{BoardView, Stands, IsBoard, IsOpAdmitted, ArrivesFirst, kept_by}
use Rattle.gomp_board.proofs.Admitted.{tests_fail}
use Rattle.gomp_board.proofs.FirstArrivals.{arrives_first}
use Rattle.gomp_board.proofs.Waiting.{IsReply}

-- the tests of the member and the team fail
member_fails : (limits : Limits) (room kept m : ℕ) (op : Op) (h : List Event) → op_refusal limits room kept m op h ≡ None → AllFail (op_member_tests m h)
member_fails limits room kept m op h fine = fail_first (op_member_tests m h) (op_tests limits room kept m op h) (all_fail (op_member_tests m h ++ op_tests limits room kept m op h) fine)

-- a team that lets an operation in is not broken
pub admitted_unbroken : (limits : Limits) (room kept m : ℕ) (op : Op) (h : List Event) → op_refusal limits room kept m op h ≡ None → clash_of h ≡ None
admitted_unbroken limits room kept m op h fine = team_unbroken (clash_of h) (member_fails limits room kept m op h fine).1

-- nor is one in which a construct differs
differing_unbroken_by : (left : Bool) (clash : Option Clash) (rest : List Test) → least ((left, Ended) ∷ (broken_tests clash ++ rest)) ≡ Some Mismatch → clash ≡ None
differing_unbroken_by left None rest e = refl
differing_unbroken_by true (Some clash) rest e = absurd (omega (arith, lesser_low Ended Mismatch (least (broken_tests (Some clash) ++ rest)) e))
differing_unbroken_by false (Some clash) rest e = absurd (omega (arith, lesser_low (Broken clash) Mismatch (least rest) e))

pub differing_unbroken : (limits : Limits) (room kept m : ℕ) (op : Op) (h : List Event) → op_refusal limits room kept m op h ≡ Some Mismatch → clash_of h ≡ None
differing_unbroken limits room kept m op h e = differing_unbroken_by _ (clash_of h) (op_tests limits room kept m op h) e

-- a member that is let in to arrive has not arrived at the region's end
pub admitted_before_end : (limits : Limits) (room kept m : ℕ) (tag : Tag) (leaving : Bool) (h : List Event) → op_refusal limits room kept m (Arrive tag leaving) h ≡ None → at_region_end m h ≡ false
admitted_before_end limits room kept m tag leaving h fine =
    let left = (member_fails limits room kept m (Arrive tag leaving) h fine).0 in
    let fails = tests_fail limits room kept m (Arrive tag leaving) h fine in
    (arrives_first m h left fails.0 fails.1.0).1

-- an arrival that is let in comes first, unless it is none
pub admitted_arrives : (limits : Limits) (room kept m : ℕ) (tag : Tag) (leaving : Bool) (h : List Event) → (is_cancelled h && not (is_region_end tag.kind)) ≡ false → op_refusal limits room kept m (Arrive tag leaving) h ≡ None → ArrivesFirst m tag h
admitted_arrives limits room kept m tag leaving h somewhere fine =
    let left = (member_fails limits room kept m (Arrive tag leaving) h fine).0 in
    let fails = tests_fail limits room kept m (Arrive tag leaving) h fine in
    let last = fail_later (region_end_tests tag.kind leaving m h) _ fails.1.1 in
    let first = arrives_first m h left fails.0 fails.1.0 in
    record {
      away = first.0;
      before = first.1;
      alike = λ whole. rw whole at last.0;
      ends = λ cancelled. ends_then (is_region_end tag.kind) (rw cancelled at somewhere);
    }
  where
    ends_then : (b : Bool) → (true && not b) ≡ false → b ≡ true
    ends_then true e = refl
    ends_then false e = absurd (cc)

-- for which there is room
pub arrival_has_room : (limits : Limits) (room kept m : ℕ) (tag : Tag) (leaving : Bool) (h : List Event) → op_refusal limits room kept m (Arrive tag leaving) h ≡ None → lacks_room limits.events room (arrival_asks tag.kind kept) ≡ false
arrival_has_room limits room kept m tag leaving h fine = (fail_later (region_end_tests tag.kind leaving m h) _ (tests_fail limits room kept m (Arrive tag leaving) h fine).1.1).1.0

-- nor for a cancellation
pub cancel_has_room : (limits : Limits) (room kept m : ℕ) (named : TeamCancel) (clause allowed : Bool) (h : List Event) → op_refusal limits room kept m (Cancel named clause allowed) h ≡ None → lacks_room limits.events room 1 ≡ false
cancel_has_room limits room kept m TeamCancel.Parallel clause allowed h fine = (tests_fail limits room kept m (Cancel TeamCancel.Parallel clause allowed) h fine).1.1.0
cancel_has_room limits room kept m TeamCancel.Taskgroup clause allowed h fine = (tests_fail limits room kept m (Cancel TeamCancel.Taskgroup clause allowed) h fine).1.1.1.1.0

-- which names something there
pub cancel_is_placed : (limits : Limits) (room kept m : ℕ) (named : TeamCancel) (clause allowed : Bool) (h : List Event) → op_refusal limits room kept m (Cancel named clause allowed) h ≡ None → AllFail (cancel_tests (named_kind named) m h)
cancel_is_placed limits room kept m named clause allowed h fine = fail_first (cancel_tests (named_kind named) m h) _ (tests_fail limits room kept m (Cancel named clause allowed) h fine).1

-- so for a reservation
pub reserve_has_room : (limits : Limits) (room kept m more : ℕ) (h : List Event) → op_refusal limits room kept m (Reserve more) h ≡ None → lacks_room limits.events room more ≡ false
reserve_has_room limits room kept m more h fine = (tests_fail limits room kept m (Reserve more) h fine).1.1.0

-- and for words
pub put_has_room : (limits : Limits) (room kept m share : ℕ) (words : List ℕ) (h : List Event) → op_refusal limits room kept m (Put share words) h ≡ None → lacks_room limits.events room (words_ask kept) ≡ false
put_has_room limits room kept m share words h fine = (tests_fail limits room kept m (Put share words) h fine).1.1.0

pub got_has_room : (limits : Limits) (room kept m share : ℕ) (words : List ℕ) (h : List Event) → op_refusal limits room kept m (Got share words) h ≡ None → lacks_room limits.events room (words_ask kept) ≡ false
got_has_room limits room kept m share words h fine = (tests_fail limits room kept m (Got share words) h fine).1.0

-- and the room asked for stays small
pub room_stays_small : (limits : Limits) (room more : ℕ) → capped_limits limits ≡ limits → room < 4294967296 → lacks_room limits.events room more ≡ false → room + more < 4294967296
room_stays_small limits room zero capped small fits = omega (arith, small)
room_stays_small limits room (suc more) capped small fits =
    let within = ltb-false limits.events (room + suc more) fits in
    let low : limits.events ≤ 16777216 = events_low limits capped in
    omega (arith, within, low)
  where
    events_low : (l : Limits) → capped_limits l ≡ l → l.events ≤ 16777216
    events_low l e = let same : min l.events 16777216 ≡ l.events = cc in omega (arith, same)

-- the answer at a wait is no refusal
pub awaits_is_reply : (m : ℕ) (met : Bool) (h : List Event) (reply : Reply) → AwaitsTasks m met h reply → IsReply reply
awaits_is_reply m met h (Refused refusal) is = is
awaits_is_reply m met h _ is = tt

-- Of a board that admits an operation

pub unbroken_of : (op : Op) (m : ℕ) (board : BoardView) → IsOpAdmitted op m board → (h : List Event) → Stands board h → clash_of h ≡ None
unbroken_of op m board admitted h st = admitted_unbroken board.limits board.room (kept_by m board) m op h (admitted h st)

pub arrives_of : (tag : Tag) (leaving : Bool) (m : ℕ) (board : BoardView) → IsOpAdmitted (Arrive tag leaving) m board → (h : List Event) → (is_cancelled h && not (is_region_end tag.kind)) ≡ false → Stands board h → ArrivesFirst m tag h
arrives_of tag leaving m board admitted h somewhere st = admitted_arrives board.limits board.room (kept_by m board) m tag leaving h somewhere (admitted h st)

pub before_end_of : (tag : Tag) (leaving : Bool) (m : ℕ) (board : BoardView) → IsOpAdmitted (Arrive tag leaving) m board → (h : List Event) → Stands board h → at_region_end m h ≡ false
before_end_of tag leaving m board admitted h st = admitted_before_end board.limits board.room (kept_by m board) m tag leaving h (admitted h st)

-- its room stays small
pub arrival_stays_small : (space m : ℕ) (tag : Tag) (leaving : Bool) (board : BoardView) → IsBoard space board → board.room < 4294967296 → IsOpAdmitted (Arrive tag leaving) m board → board.room + arrival_asks tag.kind (kept_by m board) < 4294967296
arrival_stays_small space m tag leaving board is small admitted =
    room_stays_small board.limits board.room (arrival_asks tag.kind (kept_by m board)) is.limits small (arrival_has_room board.limits board.room (kept_by m board) m tag leaving (reverse board.history) (admitted (reverse board.history) is.stands))

pub cancel_stays_small : (space m : ℕ) (named : TeamCancel) (clause allowed : Bool) (board : BoardView) → IsBoard space board → board.room < 4294967296 → IsOpAdmitted (Cancel named clause allowed) m board → board.room + 1 < 4294967296
cancel_stays_small space m named clause allowed board is small admitted =
    room_stays_small board.limits board.room 1 is.limits small (cancel_has_room board.limits board.room (kept_by m board) m named clause allowed (reverse board.history) (admitted (reverse board.history) is.stands))

pub reserve_stays_small : (space m more : ℕ) (board : BoardView) → IsBoard space board → board.room < 4294967296 → IsOpAdmitted (Reserve more) m board → board.room + more < 4294967296
reserve_stays_small space m more board is small admitted =
    room_stays_small board.limits board.room more is.limits small (reserve_has_room board.limits board.room (kept_by m board) m more (reverse board.history) (admitted (reverse board.history) is.stands))

pub words_stay_small : (space m : ℕ) (board : BoardView) → IsBoard space board → board.room < 4294967296 → lacks_room board.limits.events board.room (words_ask (kept_by m board)) ≡ false → board.room + words_ask (kept_by m board) < 4294967296
words_stay_small space m board is small fits = room_stays_small board.limits board.room (words_ask (kept_by m board)) is.limits small fits
