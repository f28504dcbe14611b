-- What no call of a member by its seat and the board answers or does: what the clauses of an end, of a start and of waited-for words forbid, of any seats, boards, refusals and replies.
use Rattle.std.proofs.Common.{◌≡◌, ◌≢◌, ℕ, ◌<◌, inl, inr, Bool, true, false, List, Option, Some, None, refl, ap, sym, ◌∙◌, arith, length, nat_le, if◌then◌else◌}
use Rattle.gomp_types.specs.declared.loop_desc.EndKind.{EndKind}
use Rattle.gomp_types.specs.declared.refusal.Refusal.{Refusal}
use Rattle.gomp_types.specs.declared.reply.Reply.{Reply}
use Rattle.gomp_types.specs.declared.reply.Reply.TheVariants.{Cancelled, Copied, Finished, Refused, Wait}
use Rattle.gomp_types.specs.Least.{lesser}
use Rattle.gomp_types.specs.RefusalTexts.{number_of}
use Rattle.gomp_events.specs.declared.event.Event.{Event}
use Rattle.gomp_events.specs.Cancels.{is_cancelled}
use Rattle.gomp_events.specs.Events.{share_number}
use Rattle.gomp_shares.specs.declared.admission.Construct.{Construct}
use Rattle.gomp_board.specs.declared.op.Op.{Op}
use Rattle.gomp_board.specs.declared.op.Op.TheVariants.{Got}
use Rattle.gomp_board.specs.Boards.{Stands}
use Rattle.gomp_waits.specs.Waits.{WaitBoardView}
use Rattle.gomp_dispatch.specs.Serves.{cut_reply}
use Rattle.gomp_team_board.specs.Locked.{AnswersNumber, AnswersUnless, locked_refusal, team_size}
use Rattle.gomp_team_calls.specs.Arrivals.{IsAccepted}
use Rattle.gomp_team_calls.specs.Starts.{reserve_op}
use Rattle.gomp_team_shares.specs.declared.inside.InsideCall.{InsideCall}
use Rattle.gomp_team_shares.specs.declared.start.ShareStart.{ShareStart}
use Rattle.gomp_ring.specs.RingSeats.{SeatView}
use Rattle.gomp_seat_calls.specs.Ends.{has_seen_end}
use Rattle.gomp_seat_calls.specs.Starts.{StartsBySeat}
use Rattle.gomp_seat_team.specs.Moved.{TeamMoved}
use Rattle.gomp_seat_team.specs.Arrivals.{EndAsked, EndsShare, FindsPlace}
use Rattle.gomp_seat_team.specs.Inside.{RefusesInsideBySeat, ServesInsideBySeat}
use Rattle.gomp_seat_team.specs.Starts.{AnswersNote, EntersBySeat, GivesWords, IsStartRefusedFor, TakesWords, IsCutReply, SeatStart, StartsShare}
use Rattle.gomp_types.specs.declared.refusal.Refusal.TheVariants.{Mismatch}

-- in a cancelled region no answer is to wait
never_wait : (served : Reply) → Wait ≡ cut_reply true served → ⊥
never_wait Wait same = cc
never_wait served same = cc

-- The end of a share

-- no member arrives at the barrier at its share's end while it has seen neither that nothing is left nor that the share is cancelled;
pub no_arrival_while_something_is_left : (asked : EndAsked) (op : Op) (move : TeamMoved) (reply : Reply) (ends : EndsShare asked op move reply) → IsAccepted reply → has_seen_end ends.between.seen ≡ false → ⊥
no_arrival_while_something_is_left asked op move reply ends accepted unseen = (let seen : true ≡ false = sym (ends.drawn accepted) ∙ unseen in cc)

-- one that arrived has left its share, by one event;
pub no_arrival_without_leaving : (asked : EndAsked) (op : Op) (move : TeamMoved) (reply : Reply) (ends : EndsShare asked op move reply) → IsAccepted reply → move.now ≡ ends.between → ⊥
no_arrival_without_leaving asked op move reply ends accepted same =
    let left = ends.leaves accepted in
    let longer = ap length (sym (ap (λ (s : SeatView). s.did) same) ∙ left.did) in
    omega arith

-- one that is refused has not,
pub no_share_left_by_a_refused_end : (asked : EndAsked) (op : Op) (move : TeamMoved) (refusal : Refusal) (ends : EndsShare asked op move (Refused refusal)) → move.now ≢ ends.between → ⊥
no_share_left_by_a_refused_end asked op move refusal ends left = left (ends.stays refusal refl)

-- none is answered but by the board, with the least of what was found and of its place,
pub no_end_answered_by_another : (asked : EndAsked) (op : Op) (move : TeamMoved) (reply : Reply) (ends : EndsShare asked op move reply) → (AnswersUnless (lesser asked.found ends.place) op move.before.member move.view move.after reply → ⊥) → ⊥
no_end_answered_by_another asked op move reply ends other = other ends.answers

-- and one whose caller found a refusal changes nothing by being asked of its place
pub no_look_of_a_refused_end : (refusal : Refusal) (construct : Construct) (end_kind : EndKind) (before now : SeatView) (place : Option Refusal) → FindsPlace (Some refusal) construct end_kind before place now → now ≢ before → ⊥
no_look_of_a_refused_end refusal construct end_kind before now place finds changed = changed finds.same

-- Words

-- no member is told words that the board does not have for its share, or has none of yet;
pub no_words_but_those_that_were_put : (move : TeamMoved) (told put : List ℕ) (takes : TakesWords move (Copied told)) → takes.words ≡ Some put → told ≢ put → ⊥
no_words_but_those_that_were_put move told put takes are differ = by takes.words takes.gives are
  where
    by : (words : Option (List ℕ)) → GivesWords words takes.cancelled move (Copied told) → words ≡ Some put → ⊥
    by None gives e = cc
    by (Some words) gives e = differ (let same : Copied told ≡ Copied words = gives.0 in let put_is : ◌≡◌ {A = Option (List ℕ)} (Some words) (Some put) = e in cc)

pub no_words_told_before_they_are_put : (move : TeamMoved) (told : List ℕ) (cancelled : Bool) → GivesWords None cancelled move (Copied told) → ⊥
no_words_told_before_they_are_put move told true gives = (let same : Copied told ≡ Cancelled = gives.0 in cc)
no_words_told_before_they_are_put move told false gives = (let same : Copied told ≡ Wait = gives.0 in cc)

-- none is told them and stays in its share;
pub no_words_told_inside : (move : TeamMoved) (words : List ℕ) (cancelled : Bool) (reply : Reply) → GivesWords (Some words) cancelled move reply → move.now ≡ move.before → ⊥
no_words_told_inside move words cancelled reply gives same =
    let left = gives.2 in
    let longer = ap length (sym (ap (λ (s : SeatView). s.did) same) ∙ left.did) in
    omega arith

-- or without that the board notes it;
pub no_words_told_that_the_board_does_not_note : (move : TeamMoved) (words : List ℕ) (cancelled : Bool) (reply : Reply) → GivesWords (Some words) cancelled move reply → (AnswersNumber (Got (share_number move.before.seen.current) words) move.before.member move.view move.after Finished → ⊥) → ⊥
no_words_told_that_the_board_does_not_note move words cancelled reply gives unnoted = unnoted gives.1

-- none waits though they are put, or in a cancelled region, and none that waits leaves its share or changes the board
pub no_wait_for_words_that_are_there : (move : TeamMoved) (words : List ℕ) (cancelled : Bool) → GivesWords (Some words) cancelled move Wait → ⊥
no_wait_for_words_that_are_there move words cancelled gives = (let same : Wait ≡ Copied words = gives.0 in cc)

pub no_wait_for_words_in_a_cancelled_region : (move : TeamMoved) → GivesWords None true move Wait → ⊥
no_wait_for_words_in_a_cancelled_region move gives = (let same : Wait ≡ Cancelled = gives.0 in cc)

pub no_share_left_without_words : (move : TeamMoved) (cancelled : Bool) (reply : Reply) → GivesWords None cancelled move reply → move.now ≢ move.before → ⊥
no_share_left_without_words move cancelled reply gives left = left gives.2

pub no_board_changed_without_words : (move : TeamMoved) (cancelled : Bool) (reply : Reply) → GivesWords None cancelled move reply → move.after ≢ move.view → ⊥
no_board_changed_without_words move cancelled reply gives changed = changed gives.1

-- Starts

-- a start is not refused but by the least of what its caller found, its place and the board,
pub no_other_refusal_of_a_start_by_seat : (asked : SeatStart) (move : TeamMoved) (due other : Refusal) (events : List Event) (starts : StartsShare asked move (Refused other)) → move.before.member < team_size move.view → Stands move.view.board events → lesser (lesser asked.found starts.place) (locked_refusal move.before.member move.view (reserve_op asked.start asked.repeated) events) ≡ Some due → other ≢ due → ⊥
no_other_refusal_of_a_start_by_seat asked move due other events starts member stands is differ = differ (let same : Refused other ≡ Refused due = (starts.refused member events stands due is).0 in cc)

-- a refused one enters no share,
pub no_share_entered_by_a_refused_start : (asked : SeatStart) (move : TeamMoved) (due : Refusal) (reply : Reply) (events : List Event) (starts : StartsShare asked move reply) → move.before.member < team_size move.view → Stands move.view.board events → lesser (lesser asked.found starts.place) (locked_refusal move.before.member move.view (reserve_op asked.start asked.repeated) events) ≡ Some due → move.now ≢ move.before → ⊥
no_share_entered_by_a_refused_start asked move due reply events starts member stands is entered = entered (starts.refused member events stands due is).1

-- an accepted one has kept its room at the board, and entered by its seat,
pub no_start_without_its_room : (start : ShareStart) (op : Op) (move : TeamMoved) (reply : Reply) → EntersBySeat start op move reply → ((kept : WaitBoardView) → AnswersNumber op move.before.member move.view kept Finished → ⊥) → ⊥
no_start_without_its_room start op move reply enters none = none enters.kept enters.reserves

pub no_start_but_by_the_seat : (start : ShareStart) (op : Op) (move : TeamMoved) (reply : Reply) → EntersBySeat start op move reply → ((served : Reply) (between : SeatView) → StartsBySeat start move.before served between → ⊥) → ⊥
no_start_but_by_the_seat start op move reply enters none = none enters.served enters.between enters.starts

-- none is refused of which nothing was found, by no answer of a board, in a share that is no other than the team's
pub no_start_refused_for_nothing : (asked : SeatStart) (move : TeamMoved) (refusal : Refusal) (starts : StartsShare asked move (Refused refusal)) → lesser asked.found starts.place ≡ None
    → (AnswersNumber (reserve_op asked.start asked.repeated) move.before.member move.view move.after (Refused refusal) → ⊥)
    → ((between : SeatView) → StartsBySeat asked.start move.before (Refused Mismatch) between → ⊥)
    → ((served : Reply) (between : SeatView) → StartsBySeat asked.start move.before served between → AnswersNote between (Refused refusal) → ⊥) → ⊥
no_start_refused_for_nothing asked move refusal starts none unasked same unnoted = by (lesser asked.found starts.place) none (starts.cause refusal refl)
  where
    by : (found : Option Refusal) → found ≡ None → IsStartRefusedFor asked.start found (reserve_op asked.start asked.repeated) move (Refused refusal) → ⊥
    by (Some first) none cause = absurd (cc)
    by None none (inl some) = absurd (cc)
    by None none (inr (inl answers)) = unasked answers
    by None none (inr (inr (inl other))) = same other.between other.differs
    by None none (inr (inr (inr entered))) = unnoted entered.served entered.between entered.starts entered.notes

-- and a member that goes on with no words of others changes nothing more, and does not wait in a cancelled region
pub no_change_behind_a_start : (served : Reply) (move : TeamMoved) (reply : Reply) → IsCutReply served move reply → move.now ≢ move.before → ⊥
no_change_behind_a_start served move reply cut changed = changed cut.same

pub no_board_changed_behind_a_start : (served : Reply) (move : TeamMoved) (reply : Reply) → IsCutReply served move reply → move.after ≢ move.view → ⊥
no_board_changed_behind_a_start served move reply cut changed = changed cut.board

pub no_wait_of_a_start_in_a_cancelled_region : (served : Reply) (move : TeamMoved) (events : List Event) (cut : IsCutReply served move Wait) → Stands move.view.board events → is_cancelled events ≡ true → ⊥
no_wait_of_a_start_in_a_cancelled_region served move events cut stands is = by cut.cancelled served (sym (cut.is_cancelled events stands) ∙ is) cut.answer
  where
    by : (cancelled : Bool) (served : Reply) → cancelled ≡ true → Wait ≡ cut_reply cancelled served → ⊥
    by false served e same = cc
    by true served e same = never_wait served same

-- Calls inside of a share

-- a call that its caller refuses is refused by that refusal or one of its place, and moves no seat
pub no_seat_moved_by_a_refused_call : (call : InsideCall) (refusal : Refusal) (before now : SeatView) (reply : Reply) → RefusesInsideBySeat call refusal before reply now → now ≢ before → ⊥
no_seat_moved_by_a_refused_call call refusal before now reply refuses changed = changed refuses.finds.same

pub no_service_of_a_refused_call : (call : InsideCall) (refusal : Refusal) (before now : SeatView) → RefusesInsideBySeat call refusal before Finished now → ⊥
no_service_of_a_refused_call call refusal before now refuses = by refuses.place refuses.answer
  where
    by : (place : Option Refusal) → ((found : Refusal) → lesser (Some refusal) place ≡ Some found → Finished ≡ Refused found) → ⊥
    by None answer = (let same : Finished ≡ Refused refusal = answer refusal refl in cc)
    by (Some other) answer = by_number (nat_le (number_of refusal) (number_of other)) (λ found e. answer found e)
      where
        by_number : (first : Bool) → ((found : Refusal) → (if first then Some refusal else Some other) ≡ Some found → Finished ≡ Refused found) → ⊥
        by_number true answer = (let same : Finished ≡ Refused refusal = answer refusal refl in cc)
        by_number false answer = (let same : Finished ≡ Refused other = answer other refl in cc)

-- in a cancelled region none of them waits
pub no_wait_of_a_call_in_a_cancelled_region : (call : InsideCall) (before now : SeatView) → ServesInsideBySeat call true before Wait now → ⊥
no_wait_of_a_call_in_a_cancelled_region call before now serves = never_wait serves.served serves.answer
