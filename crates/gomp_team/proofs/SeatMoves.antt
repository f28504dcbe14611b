-- What the calls by seat and board (gomp_seat_team) say of the seat alone.
use Rattle.std.proofs.Common.{◌≡◌, ℕ, Bool, true, false, List, Option, Some, None, refl, ap, sym, subst, inl, inr, ◌∙◌}
use Rattle.std.specs.Prelude.{◌||◌}
use Rattle.gomp_types.specs.declared.call.Call.{Call}
use Rattle.gomp_types.specs.declared.call.Call.TheVariants as calls
use Rattle.gomp_types.specs.declared.call.Server.{Server}
use Rattle.gomp_types.specs.declared.depend.Dep.{Dep}
use Rattle.gomp_types.specs.declared.refusal.Refusal.{Refusal}
use Rattle.gomp_types.specs.declared.reply.Reply.{Reply}
use Rattle.gomp_types.specs.declared.reply.Reply.TheVariants.{Refused, Wait}
use Rattle.gomp_types.specs.Least.{lesser}
use Rattle.gomp_types.specs.Servers.{served_by}
use Rattle.gomp_types.specs.Resumes.{is_resume}
use Rattle.gomp_member.specs.Own.{OwnView, own_meant}
use Rattle.gomp_types.proofs.LeastTests.{some_stays}
use Rattle.gomp_board.specs.declared.op.Op.{Op}
use Rattle.gomp_team_calls.specs.declared.ends.ShareEnd.{ShareEnd}
use Rattle.gomp_team_calls.specs.Arrivals.{IsAccepted}
use Rattle.gomp_team_shares.specs.declared.inside.InsideCall.{InsideCall}
use Rattle.gomp_team_shares.specs.declared.start.ShareStart.{ShareStart}
use Rattle.gomp_ring.specs.RingSeats.{SeatView, IsOnRing}
use Rattle.gomp_ring.specs.declared.ring.Ring.{Ring}
use Rattle.gomp_seat_calls.specs.Stays.{StaysSeat}
use Rattle.gomp_seat_team.specs.Arrivals.{EndsShare, end_asked}
use Rattle.gomp_seat_team.specs.Inside.{RefusesInsideBySeat, ServesInsideBySeat}
use Rattle.gomp_seat_team.specs.Moved.{TeamMoved}
use Rattle.gomp_seat_team.specs.Starts.{GivesWords, GoesOnBy, GoesOnWaiting, SeatStart, StartsShare, TakesWords}
use Rattle.gomp_team.specs.Seats.{AsksOwnShare, AsksSeat, EntersOwnShare, GivesOwnWords, GoesOnInShare, IsInsideReply, LeavesDrained, MovesBy, SeatAsk, StartsOwnShare, TakesOwnWords, Tries, ask_by, seat_ask}
use Rattle.gomp_team.specs.Seats.SeatAsk.{Aside, Starts, Inside, Ends, Puts}
use Rattle.gomp_team.specs.Seats.Tries.{Untried, Tried}
use Rattle.gomp_team.proofs.SeatReplies.{refused_reply, served_reply}

-- Starts

own_words : (words : Option (List ℕ)) (cancelled : Bool) (move : TeamMoved) (reply : Reply) → GivesWords words cancelled move reply → GivesOwnWords words cancelled move.before reply move.now
own_words (Some words) cancelled move reply (answer, noted, left) = (answer, left)
own_words None cancelled move reply (answer, board, same) = (answer, same)

takes_own_words : (move : TeamMoved) (reply : Reply) → TakesWords move reply → TakesOwnWords move.before reply move.now
takes_own_words move reply takes = record { words = takes.words; cancelled = takes.cancelled; gives = own_words takes.words takes.cancelled move reply takes.gives }

goes_on_in_share : (awaits : Bool) (served : Reply) (move : TeamMoved) (reply : Reply) → GoesOnBy awaits served move reply → GoesOnInShare awaits served move.before reply move.now
goes_on_in_share true served move reply takes = takes_own_words move reply takes
goes_on_in_share false served move reply cut = record { cancelled = cut.cancelled; answer = cut.answer; same = cut.same }

-- an accepted start is one by the member's own seat
enters_own_share : (asked : SeatStart) (move : TeamMoved) (reply : Reply) → StartsShare asked move reply → IsAccepted reply → EntersOwnShare asked.start move.before reply move.now
enters_own_share asked move reply starts accepted =
    let enters = starts.enters accepted in
    record { served = enters.served; between = enters.between; starts = enters.starts; goes_on = goes_on_in_share _ enters.served _ reply enters.goes_on }

pub starts_unless_it_waits : (waits : Bool) (asked : SeatStart) (move : TeamMoved) (reply : Reply) → waits ≡ false → StartsShare asked move reply → IsAccepted reply → StartsOwnShare waits asked.start move.before reply move.now
starts_unless_it_waits waits asked move reply not starts accepted = subst (λ w. StartsOwnShare w asked.start move.before reply move.now) (sym not) (enters_own_share asked move reply starts accepted)

-- and so is going on with the words of a single
goes_on_with_words : (found : Option Refusal) (move : TeamMoved) (reply : Reply) → GoesOnWaiting found move reply → IsAccepted reply → TakesOwnWords move.before reply move.now
goes_on_with_words found move reply goes_on accepted = let (kept, noted, takes) = goes_on.goes_on accepted in takes_own_words _ reply takes

pub goes_on_if_it_waits : (waits : Bool) (start : ShareStart) (found : Option Refusal) (move : TeamMoved) (reply : Reply) → waits ≡ true → GoesOnWaiting found move reply → IsAccepted reply → StartsOwnShare waits start move.before reply move.now
goes_on_if_it_waits waits start found move reply is goes_on accepted = subst (λ w. StartsOwnShare w start move.before reply move.now) (sym is) (goes_on_with_words found move reply goes_on accepted)

-- Ends

-- a member that arrives at its share's end has left it, drained
pub arrives_drained : (end : ShareEnd) (found : Option Refusal) (op : Op) (move : TeamMoved) (reply : Reply) → EndsShare (end_asked end.construct end.end_kind found) op move reply → IsAccepted reply → LeavesDrained end move.before move.now
arrives_drained end found op move reply ends accepted = record { found = found; place = ends.place; between = ends.between; finds = ends.finds; drawn = ends.drawn accepted; leaves = ends.leaves accepted }

-- Calls on the member's share

-- one that its caller refuses is refused, and changes nothing
pub refuses_own_share : (call : InsideCall) (refusal least : Refusal) (before : SeatView) (reply : Reply) (after : SeatView)
    → RefusesInsideBySeat call refusal before reply after → reply ≡ Refused least → AsksOwnShare call before reply after
refuses_own_share call refusal least before reply after refuses is = inl (least, is, refuses.finds.same)

some_refusal : (one : Refusal) (other result : Option Refusal) → lesser (Some one) other ≡ result → (refusal : Refusal) × (result ≡ Some refusal)
some_refusal one other None is = absurd (some_stays one other is)
some_refusal one other (Some refusal) is = (refusal, refl)

pub inside_refusal_told : (call : InsideCall) (refusal : Refusal) (before : SeatView) (reply : Reply) (after : SeatView) → RefusesInsideBySeat call refusal before reply after → (least : Refusal) × (reply ≡ Refused least)
inside_refusal_told call refusal before reply after refuses =
    let (least, is) = some_refusal refusal refuses.place (lesser (Some refusal) refuses.place) refl in
    (least, refuses.answer least is)

-- its caller refuses it as this, or does not
pub asks_own_share : (found : Option Refusal) (call : InsideCall) (cancelled : Bool) (before : SeatView) (reply : Reply) (after : SeatView)
    → ((refusal : Refusal) → found ≡ Some refusal → RefusesInsideBySeat call refusal before reply after)
    → (found ≡ None → ServesInsideBySeat call cancelled before reply after)
    → AsksOwnShare call before reply after
asks_own_share (Some refusal) call cancelled before reply after refused serves =
    let refuses = refused refusal refl in
    let (least, is) = inside_refusal_told call refusal before reply after refuses in
    refuses_own_share call refusal least before reply after refuses is
asks_own_share None call cancelled before reply after refused serves = inr (cancelled, serves refl)

pub replies_inside : (found : Option Refusal) (call : InsideCall) (cancelled : Bool) (before : SeatView) (reply : Reply) (after : SeatView)
    → ((refusal : Refusal) → found ≡ Some refusal → RefusesInsideBySeat call refusal before reply after)
    → (found ≡ None → ServesInsideBySeat call cancelled before reply after)
    → IsInsideReply call cancelled before.seen reply
replies_inside (Some refusal) call cancelled before reply after refused serves =
    let (least, is) = inside_refusal_told call refusal before reply after (refused refusal refl) in
    refused_reply call cancelled before least reply is
replies_inside None call cancelled before reply after refused serves = served_reply call cancelled before reply after (serves refl)

-- Tries

-- some and then some
pub tries_joined : (ask : SeatAsk) (first between last : SeatView) → Tries ask first between → Tries ask between last → Tries ask first last
tries_joined ask first between last tries Untried = tries
tries_joined ask first between last tries (Tried {between = then} more waits) = Tried (tries_joined ask first between then tries more) waits

-- answered at once
pub answered_once : (repeated : Bool) (ask : SeatAsk) (before : SeatView) (reply : Reply) (after : SeatView) → MovesBy ask before reply after → AsksSeat repeated ask before reply after
answered_once false ask before reply after answers = record { from = before; waited = refl; answers = answers }
answered_once true ask before reply after answers = record { from = before; waited = Untried; answers = answers }

-- a repeated call that waited again
pub waited_again : (ask : SeatAsk) (first before after : SeatView) → Tries ask first before → AsksSeat true ask before Wait after → Tries ask first after
waited_again ask first before after tries asks = Tried (tries_joined ask first before asks.from tries asks.waited) asks.answers

-- and was answered then
pub answered_then : (ask : SeatAsk) (first before : SeatView) (reply : Reply) (after : SeatView) → Tries ask first before → AsksSeat true ask before reply after → AsksSeat true ask first reply after
answered_then ask first before reply after tries asks = record { from = asks.from; waited = tries_joined ask first before asks.from tries asks.waited; answers = asks.answers }

-- nothing was asked
pub seat_asked_nothing : (repeated : Bool) (before : SeatView) (reply : Reply) (after : SeatView) → after ≡ before → AsksSeat repeated Aside before reply after
seat_asked_nothing repeated before reply after same = answered_once repeated Aside before reply after same

pub seat_asked_nothing_again : (repeated : Bool) (before : SeatView) (reply : Reply) (after : SeatView) → AsksSeat repeated Aside before reply after → AsksSeat true Aside before reply after
seat_asked_nothing_again false before reply after asks = seat_asked_nothing true before reply after (asks.answers ∙ asks.waited)
seat_asked_nothing_again true before reply after asks = asks

-- a call that is tried again: one that is repeated, or a resume
pub asks_again : (allowed repeated : Bool) (call : Call) (before : SeatView) (reply : Reply) (after : SeatView) → (repeated || is_resume call) ≡ true
    → AsksSeat repeated (seat_ask allowed repeated call) before reply after → AsksSeat true (seat_ask allowed repeated call) before reply after
asks_again allowed true call before reply after again asks = asks
asks_again allowed false calls.Resume before reply after again asks = seat_asked_nothing_again false before reply after asks
asks_again allowed false call before reply after again asks = absurd (cc)

-- by a call that the board answers, or the book
pub asked_aside : (server : Server) (allowed repeated : Bool) (call : Call) (before : SeatView) (reply : Reply) (after : SeatView)
    → ask_by server allowed repeated call ≡ Aside → served_by call ≡ server → after ≡ before → AsksSeat repeated (seat_ask allowed repeated call) before reply after
asked_aside server allowed repeated call before reply after aside served same =
    subst (λ ask. AsksSeat repeated ask before reply after) (sym (ap (λ by. ask_by by allowed repeated call) served ∙ aside)) (seat_asked_nothing repeated before reply after same)

-- a call that is refused before its seat is asked
refused_unasked : (ask : SeatAsk) (refusal : Refusal) (seat : SeatView) → MovesBy ask seat (Refused refusal) seat
refused_unasked Aside refusal seat = refl
refused_unasked (Starts repeated start) refusal seat = λ accepted. absurd (accepted refusal refl)
refused_unasked (Inside call) refusal seat = inl (refusal, refl, refl)
refused_unasked (Ends end) refusal seat = λ accepted. absurd (accepted refusal refl)
refused_unasked Puts refusal seat = record { left = λ is. absurd (cc); kept = λ other. refl }

pub refused_unasked_once : (repeated : Bool) (ask : SeatAsk) (refusal : Refusal) (before after : SeatView) → after ≡ before → AsksSeat repeated ask before (Refused refusal) after
refused_unasked_once repeated ask refusal before after same = answered_once repeated ask before (Refused refusal) after (subst (λ seat. MovesBy ask before (Refused refusal) seat) (sym same) (refused_unasked ask refusal before))

-- a taskwait that is gone on with
pub taskwait_asks_no_seat : (own : OwnView) (allowed : Bool) (items : List Dep) (before : SeatView) (reply : Reply) (after : SeatView)
    → own.waits.open_call ≡ Some (calls.Taskwait items) → after ≡ before → AsksSeat true (seat_ask allowed true (own_meant own calls.Resume)) before reply after
taskwait_asks_no_seat own allowed items before reply after waits same = rw waits (seat_asked_nothing true before reply after same)

-- Seats

pub stays_same : (seat now : SeatView) → now ≡ seat → StaysSeat seat now
stays_same seat now is = rw is (record { table = refl; members = refl; member = refl; seated = refl })

pub stays_longer : (first between after : SeatView) → StaysSeat first between → StaysSeat between after → StaysSeat first after
stays_longer first between after one two = record { table = two.table ∙ one.table; members = two.members ∙ one.members; member = two.member ∙ one.member; seated = two.seated ∙ one.seated }

pub stays_on_ring : (ring : Ring) (before after : SeatView) → IsOnRing ring before → StaysSeat before after → IsOnRing ring after
stays_on_ring ring before after on stays = record { table = stays.table ∙ on.table; members = on.members ∙ sym stays.members }
