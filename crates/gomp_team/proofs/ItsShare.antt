-- A call on the share that its member is in, which its seat alone answers.
use Rattle.std.proofs.Common.{◌≡◌, ◌≢◌, ◌∙◌, Bool, true, false, Some, None, refl, ap, sym, subst, inr}
use Rattle.gomp_types.specs.declared.call.Call.{Call}
use Rattle.gomp_types.specs.declared.call.Call.TheVariants as calls
use Rattle.gomp_types.specs.declared.call.Server.{Server}
use Rattle.gomp_types.specs.declared.call.Server.TheVariants.{Book, Shares}
use Rattle.gomp_types.specs.declared.cancel.CancelKind.TheVariants as kinds
use Rattle.gomp_types.specs.declared.reply.Reply.{Reply}
use Rattle.gomp_types.specs.declared.reply.Reply.TheVariants.{Chunk, Executor, NoChunk, Section}
use Rattle.gomp_types.specs.Resumes.{is_resume}
use Rattle.gomp_types.specs.Servers.{served_by}
use Rattle.gomp_model.specs.Calls.{row_of}
use Rattle.gomp_ompt.specs.declared.record.Record.{Record}
use Rattle.gomp_ompt.specs.Table.{records_of}
use Rattle.gomp_ompt.specs.Tools.{AfterEach}
use Rattle.gomp_member.specs.Own.{OwnView, is_free, own_meant, own_after}
use Rattle.gomp_member.proofs.Free.{executor_moves_nothing, next_moves_nothing}
use Rattle.gomp_team_board.specs.Parts.{PartView}
use Rattle.gomp_team_book.specs.Parts.{BookPartView}
use Rattle.gomp_team_calls.specs.Starts.{start_part}
use Rattle.gomp_team_shares.specs.declared.inside.InsideCall.{InsideCall}
use Rattle.gomp_team_shares.specs.declared.start.ShareStart.{ShareStart}
use Rattle.gomp_team_shares.specs.declared.start.ShareStart.TheVariants as start
use Rattle.gomp_ring.specs.RingSeats.{SeatView}
use Rattle.gomp_seat_calls.specs.Inside.{AnswersInsideBySeat}
use Rattle.gomp_seat_calls.specs.Starts.{StartsBySeat, awaits_payload}
use Rattle.gomp_seat_calls.specs.Stays.{StaysSeat}
use Rattle.gomp_team.specs.Answers.{TeamAnswers}
use Rattle.gomp_team.specs.Moves.{events_part, holds_part, releases_part}
use Rattle.gomp_team.specs.Members.{MemberView, AsksItsShare, Called, HasSameParts}
use Rattle.gomp_team.specs.Seats.{MovesBy, ask_of_shares, inside_of, seat_ask, start_of, is_given}
use Rattle.gomp_team.specs.Seats.SeatAsk.{Inside, Starts}
use Rattle.gomp_team_calls.specs.Starts.{start_room}
use Rattle.gomp_team.proofs.AnswerLaws.{free_inside_answered, free_start_answered}
use Rattle.gomp_team.proofs.Meant.{call_means_itself}
use Rattle.gomp_team.proofs.MoveLaws.{inside_call_moves_no_events, other_calls_move_no_holds, other_calls_move_no_releases}
use Rattle.gomp_team.proofs.SeatMoves.{answered_once}

-- it is no resume, asks the seat so, and neither board nor book, and moves no part of a ledger
record IsOfShare (call : Call) : Type 0 where
  first : is_resume call ≡ false
  served : served_by call ≡ Shares
  asks : (allowed : Bool) → seat_ask allowed false call ≡ ask_of_shares false None (inside_of allowed call)
  events : (reply : Reply) (part : PartView) → events_part false call reply part ≡ part
  held : (reply : Reply) (part : BookPartView) → holds_part false call reply part ≡ part
  freed : (reply : Reply) (part : BookPartView) → releases_part false call reply part ≡ part

its_share : (call : Call) → AsksItsShare call → IsOfShare call
its_share calls.LoopNext asks = record { first = refl; served = refl; asks = λ allowed. refl; events = λ reply part. refl; held = λ reply part. refl; freed = λ reply part. refl }
its_share calls.SectionsNext asks = record { first = refl; served = refl; asks = λ allowed. refl; events = λ reply part. refl; held = λ reply part. refl; freed = λ reply part. refl }
its_share calls.LoopEndNowait asks = record { first = refl; served = refl; asks = λ allowed. refl; events = λ reply part. refl; held = λ reply part. refl; freed = λ reply part. refl }
its_share calls.SectionsEndNowait asks = record { first = refl; served = refl; asks = λ allowed. refl; events = λ reply part. refl; held = λ reply part. refl; freed = λ reply part. refl }
its_share (calls.Cancel kinds.Loop clause) asks = record { first = refl; served = refl; asks = λ allowed. refl; events = λ reply part. refl; held = λ reply part. refl; freed = λ reply part. refl }
its_share (calls.Cancel kinds.Sections clause) asks = record { first = refl; served = refl; asks = λ allowed. refl; events = λ reply part. refl; held = λ reply part. refl; freed = λ reply part. refl }
its_share (calls.Cancel kind clause) asks = absurd (cc)
its_share (calls.Point kinds.Loop) asks = record { first = refl; served = refl; asks = λ allowed. refl; events = λ reply part. refl; held = λ reply part. refl; freed = λ reply part. refl }
its_share (calls.Point kinds.Sections) asks = record { first = refl; served = refl; asks = λ allowed. refl; events = λ reply part. refl; held = λ reply part. refl; freed = λ reply part. refl }
its_share (calls.Point kind) asks = absurd (cc)
its_share call asks = absurd asks

pub its_share_is_served : (call : Call) → AsksItsShare call → served_by call ≡ Shares
its_share_is_served call asks = (its_share call asks).served

pub its_share_is_no_resume : (call : Call) → AsksItsShare call → is_resume call ≡ false
its_share_is_no_resume call asks = (its_share call asks).first

-- its seat is asked this
pub asked_inside : (allowed : Bool) (call : Call) (inside : InsideCall) (before : SeatView) (reply : Reply) (after : SeatView)
    → AsksItsShare call → inside_of allowed call ≡ Some inside → MovesBy (Inside inside) before reply after → MovesBy (seat_ask allowed false call) before reply after
asked_inside allowed call inside before reply after asks is moves =
    subst (λ ask. MovesBy ask before reply after) (sym ((its_share call asks).asks allowed ∙ ap (ask_of_shares false None) is)) moves

-- a call that is no resume, and by this reply moves no part of a ledger
record MovesNoPart (call : Call) (reply : Reply) : Type 0 where
  first : is_resume call ≡ false
  events : (part : PartView) → events_part false call reply part ≡ part
  held : (part : BookPartView) → holds_part false call reply part ≡ part
  freed : (part : BookPartView) → releases_part false call reply part ≡ part

-- a member whose seat answered such a call, and that took note of that
called_from : {T : Type 0} (gives : T → Record → T → Type 0) (call : Call) (reply : Reply) (before between after : MemberView T)
    → MovesNoPart call reply → TeamAnswers before.icv.cancellation false before.own call before.seat reply
    → between ≡ record before { seat = between.seat }
    → MovesBy (seat_ask before.icv.cancellation false call) before.seat reply between.seat → StaysSeat before.seat between.seat
    → after.own ≡ own_after reply call between.own
    → AfterEach gives between.tool (records_of (own_meant between.own call) true reply) after.tool
    → HasSameParts between after
    → Called gives call reply before after
called_from gives call reply before between after of answers is moves stays noted told same =
    let means : own_meant before.own call ≡ call = call_means_itself call before.own of.first in
    let own : between.own ≡ before.own = ap (λ m. m.own) is in
    record {
      own = noted ∙ ap (own_after reply call) own;
      events = (same.events ∙ ap (λ m. m.events) is) ∙ sym (rw (of.first, means) (of.events before.events));
      held = (same.held ∙ ap (λ m. m.held) is) ∙ sym (rw (of.first, means) (of.held before.held));
      freed = (same.freed ∙ ap (λ m. m.freed) is) ∙ sym (rw (of.first, means) (of.freed before.freed));
      seat = rw (of.first, means, same.seat) (answered_once false (seat_ask before.icv.cancellation false call) before.seat reply between.seat moves);
      stays = rw same.seat stays;
      answers = rw (of.first, means) (inr answers);
      icv = same.icv ∙ ap (λ m. m.icv) is;
      ring = same.ring ∙ ap (λ m. m.ring) is;
      tool = rw (of.first, sym (ap (λ m. m.tool) is), sym own) told;
    }

-- so of a call on the share that its member is in
pub called_by_seat : {T : Type 0} (gives : T → Record → T → Type 0) (call : Call) (reply : Reply) (before between after : MemberView T)
    → AsksItsShare call → TeamAnswers before.icv.cancellation false before.own call before.seat reply
    → between ≡ record before { seat = between.seat }
    → MovesBy (seat_ask before.icv.cancellation false call) before.seat reply between.seat → StaysSeat before.seat between.seat
    → after.own ≡ own_after reply call between.own
    → AfterEach gives between.tool (records_of (own_meant between.own call) true reply) after.tool
    → HasSameParts between after
    → Called gives call reply before after
called_by_seat gives call reply before between after asks answers is moves stays noted told same =
    let of = its_share call asks in
    called_from gives call reply before between after (record { first = of.first; events = of.events reply; held = of.held reply; freed = of.freed reply }) answers is moves stays noted told same

-- Calls on the member's share of which it notes nothing

-- a call on the share that its member is in asks the seat for that,
inside_asks : (allowed : Bool) (call : Call) (inside : InsideCall) → served_by call ≡ Shares → start_of call ≡ None → inside_of allowed call ≡ Some inside → seat_ask allowed false call ≡ Inside inside
inside_asks allowed call inside served none one = rw (served, none, one) refl

-- and moves no part of a ledger
inside_moves_no_part : (call : Call) (reply : Reply) → served_by call ≡ Shares → (row_of call).starts ≡ None → is_resume call ≡ false → MovesNoPart call reply
inside_moves_no_part call reply served none first =
    let other : served_by call ≢ Book = λ book. let both : ◌≡◌ {A = Server} Shares Book = sym served ∙ book in cc in
    record {
      first = first;
      events = λ part. inside_call_moves_no_events false call reply part served none;
      held = λ part. other_calls_move_no_holds false call reply part other;
      freed = λ part. other_calls_move_no_releases false call reply part other;
    }

-- a member that nothing which it keeps refuses it, whose seat answered it, and of which nothing moves by it, has called
pub called_unnoted : {T : Type 0} (gives : T → Record → T → Type 0) (call : Call) (inside : InsideCall) (reply : Reply) (before between after : MemberView T)
    → served_by call ≡ Shares → start_of call ≡ None → (row_of call).starts ≡ None → is_resume call ≡ false → inside_of before.icv.cancellation call ≡ Some inside → is_free before.own ≡ true
    → between ≡ record before { seat = between.seat }
    → AnswersInsideBySeat inside before.seat reply between.seat → StaysSeat before.seat between.seat
    → before.own ≡ own_after reply call before.own
    → after.own ≡ between.own
    → AfterEach gives between.tool (records_of call true reply) after.tool
    → HasSameParts between after
    → Called gives call reply before after
called_unnoted gives call inside reply before between after served none starts first one free is answers stays still own told same =
    let answered : MovesBy (Inside inside) before.seat reply between.seat = inr (false, record { served = reply; answers = answers; answer = refl }) in
    let moves = subst (λ ask. MovesBy ask before.seat reply between.seat) (sym (inside_asks before.icv.cancellation call inside served none one)) answered in
    let kept : between.own ≡ before.own = ap (λ m. m.own) is in
    called_from gives call reply before between after (inside_moves_no_part call reply served starts first)
    (free_inside_answered before.icv.cancellation before.own call inside false before.seat between.seat reply served one free first (record { served = reply; answers = answers; answer = refl })) is moves stays
    (own ∙ kept ∙ still ∙ sym (ap (own_after reply call) kept)) (rw (call_means_itself call between.own first) told) same

-- Starts

-- the call that starts such a construct
abbrev pub call_of : ShareStart → Call
call_of (start.Loop desc) = calls.LoopStart desc
call_of (start.Sections count end_kind) = calls.SectionsStart count end_kind
call_of start.Single = calls.SingleStart
call_of start.SingleCopy = calls.SingleCopyStart

-- it asks the seat for that
start_asks : (allowed : Bool) (construct : ShareStart) → seat_ask allowed false (call_of construct) ≡ Starts false construct
start_asks allowed (start.Loop desc) = refl
start_asks allowed (start.Sections count end_kind) = refl
start_asks allowed start.Single = refl
start_asks allowed start.SingleCopy = refl

-- a reply that gives the member something moves no part of the board's ledger,
pub given_moves_no_part : (reply : Reply) (part : PartView) → is_given reply ≡ true → start_part reply part ≡ part
given_moves_no_part (Chunk first count) part given = refl
given_moves_no_part NoChunk part given = refl
given_moves_no_part (Section number) part given = refl
given_moves_no_part (Executor executes) part given = refl
given_moves_no_part reply part given = absurd (cc)

-- and nothing of a member that nothing which it keeps refuses the call
given_starts_nothing : (construct : ShareStart) (reply : Reply) (own : OwnView) → is_given reply ≡ true → is_free own ≡ true → own ≡ own_after reply (call_of construct) own
given_starts_nothing construct (Chunk first count) own given free = next_moves_nothing (Chunk first count) (call_of construct) own refl free
given_starts_nothing construct NoChunk own given free = next_moves_nothing NoChunk (call_of construct) own refl free
given_starts_nothing construct (Section number) own given free = next_moves_nothing (Section number) (call_of construct) own refl free
given_starts_nothing construct (Executor executes) own given free = executor_moves_nothing (call_of construct) executes own free
given_starts_nothing construct reply own given free = absurd (cc)

start_moves_no_part : (construct : ShareStart) (reply : Reply) → is_given reply ≡ true → MovesNoPart (call_of construct) reply
start_moves_no_part (start.Loop desc) reply given = record { first = refl; events = λ part. given_moves_no_part reply part given; held = λ part. refl; freed = λ part. refl }
start_moves_no_part (start.Sections count end_kind) reply given = record { first = refl; events = λ part. given_moves_no_part reply part given; held = λ part. refl; freed = λ part. refl }
start_moves_no_part start.Single reply given = record { first = refl; events = λ part. given_moves_no_part reply part given; held = λ part. refl; freed = λ part. refl }
start_moves_no_part start.SingleCopy reply given = record { first = refl; events = λ part. given_moves_no_part reply part given; held = λ part. refl; freed = λ part. refl }

-- nothing that is found refuses it to a member that nothing which it keeps refuses the call
given_is_answered : (allowed : Bool) (construct : ShareStart) (own : OwnView) (seat : SeatView) (reply : Reply) → is_given reply ≡ true → start_room construct ≡ 0 → is_free own ≡ true → TeamAnswers allowed false own (call_of construct) seat reply
given_is_answered allowed (start.Loop desc) own seat reply given roomless free = free_start_answered allowed own (calls.LoopStart desc) (start.Loop desc) seat reply refl refl free refl given roomless
given_is_answered allowed (start.Sections count end_kind) own seat reply given roomless free = free_start_answered allowed own (calls.SectionsStart count end_kind) (start.Sections count end_kind) seat reply refl refl free refl given roomless
given_is_answered allowed start.Single own seat reply given roomless free = free_start_answered allowed own calls.SingleStart start.Single seat reply refl refl free refl given roomless
given_is_answered allowed start.SingleCopy own seat reply given roomless free = absurd (cc)

-- a member that started by its seat, and waits for no words there
pub starts_alone : (construct : ShareStart) (before : SeatView) (reply : Reply) (after : SeatView) → StartsBySeat construct before reply after → awaits_payload after.seen ≡ false → MovesBy (Starts false construct) before reply after
starts_alone construct before reply after starts waits = λ accepted. record {
  served = reply;
  between = after;
  starts = starts;
  goes_on = rw waits (record { cancelled = false; answer = refl; same = refl });
}

-- so if it asks for the same by another name
pub starts_alone_as : (repeated : Bool) (asked construct : ShareStart) (before : SeatView) (reply given : Reply) (after : SeatView)
    → repeated ≡ false → asked ≡ construct → reply ≡ given → StartsBySeat construct before given after → awaits_payload after.seen ≡ false → MovesBy (Starts repeated asked) before reply after
starts_alone_as repeated asked construct before reply given after made same is starts waits = rw (made, same, is) (starts_alone construct before given after starts waits)

-- a member that did has called
pub called_start : {T : Type 0} (gives : T → Record → T → Type 0) (construct : ShareStart) (reply : Reply) (before between after : MemberView T)
    → is_given reply ≡ true → start_room construct ≡ 0 → is_free before.own ≡ true
    → between ≡ record before { seat = between.seat }
    → StartsBySeat construct before.seat reply between.seat → awaits_payload between.seat.seen ≡ false → StaysSeat before.seat between.seat
    → after.own ≡ between.own
    → AfterEach gives between.tool (records_of (call_of construct) true reply) after.tool
    → HasSameParts between after
    → Called gives (call_of construct) reply before after
called_start gives construct reply before between after given roomless free is starts waits stays own told same =
    let of = start_moves_no_part construct reply given in
    let kept : between.own ≡ before.own = ap (λ m. m.own) is in
    let moves = subst (λ ask. MovesBy ask before.seat reply between.seat) (sym (start_asks before.icv.cancellation construct)) (starts_alone construct before.seat reply between.seat starts waits) in
    called_from gives (call_of construct) reply before between after of (given_is_answered before.icv.cancellation construct before.own before.seat reply given roomless free) is moves stays
    (own ∙ kept ∙ given_starts_nothing construct reply before.own given free ∙ sym (ap (own_after reply (call_of construct)) kept))
    (rw (call_means_itself (call_of construct) between.own of.first) told) same
