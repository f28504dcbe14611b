-- The start of a share by a member's own seat: what it promises follows from its parts, over any seats, boards, starts and replies.
use Rattle.std.proofs.Common.{◌≡◌, ℕ, ◌<◌, inl, Bool, true, false, List, Option, Some, None, refl, sym, ◌∙◌, ap, subst}
use Rattle.gomp_types.specs.declared.refusal.Refusal.{Refusal}
use Rattle.gomp_types.specs.declared.refusal.Refusal.TheVariants.{Mismatch}
use Rattle.gomp_types.specs.declared.reply.Reply.{Reply}
use Rattle.gomp_types.specs.declared.reply.Reply.TheVariants.{Finished, Refused, Wait}
use Rattle.std.specs.Prelude.{is_some}
use Rattle.gomp_dispatch.specs.Serves.{cut_reply}
use Rattle.gomp_types.specs.Least.{lesser}
use Rattle.gomp_events.specs.declared.event.Event.{Event}
use Rattle.gomp_board.specs.declared.op.Op.{Op}
use Rattle.gomp_board.specs.declared.op.Op.TheVariants.{Reserve}
use Rattle.gomp_waits.specs.Waits.{WaitBoardView}
use Rattle.gomp_team_board.specs.Locked.{AnswersNumber, locked_refusal, team_size}
use Rattle.gomp_team_board.specs.Parts.{PartView, part_after}
use Rattle.gomp_team_calls.specs.Arrivals.{IsAccepted}
use Rattle.gomp_team_calls.specs.Starts.{LesserAnswers, reserve_op}
use Rattle.gomp_team_calls.proofs.Started.{answered_by_least, reserve_moves_nothing}
use Rattle.gomp_team_shares.specs.Constructs.{construct_start_tests}
use Rattle.gomp_ring.specs.RingSeats.{SeatView}
use Rattle.gomp_seat_calls.specs.Stays.{FindsRefusal}
use Rattle.gomp_seat_calls.specs.Starts.{IsStarted, StartsBySeat}
use Rattle.gomp_team_shares.specs.declared.start.ShareStart.{ShareStart}
use Rattle.gomp_seat_team.specs.Moved.{moved}
use Rattle.gomp_seat_team.specs.Starts.{EntersBySeat, IsStartRefusedFor, RefusesLeast, SeatStart, StartsShare}

-- an operation that the board refuses is refused by the least of its tests
pub refused_at_once : (found : Option Refusal) (op : Op) (before : SeatView) (view after : WaitBoardView) (refusal : Refusal) → found ≡ None → AnswersNumber op before.member view after (Refused refusal) → before.member < team_size view →
    RefusesLeast found op (moved before before view after) (Refused refusal)
refused_at_once found op before view after refusal none answers inside = λ k st first is. (answered_by_least op before.member view after (Refused refusal) k found first none inside st answers is, refl)

-- and one that it has done was refused by none
pub done_at_once : (found : Option Refusal) (op : Op) (m : ℕ) (view kept : WaitBoardView) (k : List Event) (refusal : Refusal) → found ≡ None → AnswersNumber op m view kept Finished → m < team_size view → Rattle.gomp_board.specs.Boards.Stands view.board k →
    lesser found (locked_refusal m view op k) ≡ Some refusal → ⊥
done_at_once found op m view kept k refusal none answers inside st is = let no = answered_by_least op m view kept Finished k found refusal none inside st answers is in cc

pub enters_unrefused : (found : Option Refusal) (op : Op) (before now : SeatView) (view kept after : WaitBoardView) (reply : Reply) → found ≡ None → AnswersNumber op before.member view kept Finished → before.member < team_size view →
    RefusesLeast found op (moved before now view after) reply
enters_unrefused found op before now view kept after reply none answers inside = λ k st refusal is. absurd (done_at_once found op before.member view kept k refusal none answers inside st is)

-- what stands is no refusal, in a cancelled region either
pub cut_is_no_refusal : (cancelled : Bool) (served : Reply) → IsAccepted served → IsAccepted (cut_reply cancelled served)
cut_is_no_refusal true Wait accepted = λ refusal is. cc
cut_is_no_refusal true served accepted = accepted
cut_is_no_refusal false served accepted = accepted

-- a start that is refused by the seat is one of another construct than the team's
started_is_mismatch : (first : Refusal) → IsStarted (Refused first) → first ≡ Mismatch
started_is_mismatch Mismatch started = refl
started_is_mismatch first started = absurd started

pub refused_as_another : (start : ShareStart) (before between : SeatView) (reply : Reply) (first : Refusal) → reply ≡ Refused first → IsStarted reply → StartsBySeat start before reply between → StartsBySeat start before (Refused Mismatch) between
refused_as_another start before between reply first is started starts = subst (λ (r : Reply). StartsBySeat start before r between) (is ∙ ap Refused (started_is_mismatch first (subst IsStarted is started))) starts

-- to keep room moves no part
pub kept_part : (op : Op) (more : ℕ) (before now : PartView) → op ≡ Reserve more → now ≡ part_after op Finished before → now ≡ before
kept_part op more before now is done = done ∙ ap (λ (asked : Op). part_after asked Finished before) is ∙ reserve_moves_nothing more before

-- a start that is refused by what was found, by its place or by the board
pub starts_refused : (asked : SeatStart) (op : Op) (before mid : SeatView) (view after : WaitBoardView) (place : Option Refusal) (refusal : Refusal) (reply : Reply) → op ≡ reserve_op asked.start asked.repeated →
    FindsRefusal (construct_start_tests asked.start asked.limits) before place mid → lesser asked.found place ≡ Some refusal →
    (mid.member < team_size view → LesserAnswers refusal (locked_refusal mid.member view op) view.board reply) → (first : Refusal) × (reply ≡ Refused first) → StartsShare asked (moved before mid view after) reply
starts_refused asked op before mid view after place refusal reply op_is finds found least refused =
    let same : mid ≡ before = finds.same in
    record {
      place = place;
      finds = subst (λ (s : SeatView). FindsRefusal (construct_start_tests asked.start asked.limits) before place s) same finds;
      refused = λ inside k st first is.
          let here : mid.member < team_size view = rw same inside in
          let by_op : lesser (Some refusal) (locked_refusal mid.member view op k) ≡ Some first = rw (same, op_is) (rw found at is) in
          (least here k st first by_op, same);
      enters = λ accepted. absurd (accepted refused.0 refused.1);
      cause = λ first is. inl (ap is_some found);
    }

-- a start that nothing refuses but the board
pub starts_by_entering : (asked : SeatStart) (op : Op) (before mid now : SeatView) (view after : WaitBoardView) (reply : Reply) → op ≡ reserve_op asked.start asked.repeated → asked.found ≡ None →
    FindsRefusal (construct_start_tests asked.start asked.limits) before None mid → (mid.member < team_size view → RefusesLeast None op (moved mid now view after) reply) →
    (IsAccepted reply → EntersBySeat asked.start op (moved mid now view after) reply) → ((refusal : Refusal) → reply ≡ Refused refusal → IsStartRefusedFor asked.start None op (moved mid now view after) reply) → StartsShare asked (moved before now view after) reply
starts_by_entering asked op before mid now view after reply op_is none finds refused enters cause =
    let same : mid ≡ before = finds.same in
    let by_op : (before.member < team_size view → RefusesLeast None (reserve_op asked.start asked.repeated) (moved before now view after) reply) =
    subst (λ (o : Op). before.member < team_size view → RefusesLeast None o (moved before now view after) reply) op_is (subst (λ (s : SeatView). s.member < team_size view → RefusesLeast None op (moved s now view after) reply) same refused) in
    record {
      place = None;
      finds = subst (λ (s : SeatView). FindsRefusal (construct_start_tests asked.start asked.limits) before None s) same finds;
      refused = subst (λ (f : Option Refusal). before.member < team_size view → RefusesLeast (lesser f None) (reserve_op asked.start asked.repeated) (moved before now view after) reply) (sym none) by_op;
      enters = λ accepted. subst (λ (o : Op). EntersBySeat asked.start o (moved before now view after) reply) op_is (subst (λ (s : SeatView). EntersBySeat asked.start op (moved s now view after) reply) same (enters accepted));
      cause = λ refusal is. subst (λ (f : Option Refusal). IsStartRefusedFor asked.start (lesser f None) (reserve_op asked.start asked.repeated) (moved before now view after) reply) (sym none)
          (subst (λ (o : Op). IsStartRefusedFor asked.start None o (moved before now view after) reply) op_is
          (subst (λ (s : SeatView). IsStartRefusedFor asked.start None op (moved s now view after) reply) same (cause refusal is)));
    }
