-- What a member is answered: what its wait refuses by that or by a lesser refusal of the board, all else as the board answers it.
use Rattle.std.proofs.Common.{◌≡◌, ◌≤◌, ℕ, Bool, true, false, List, [], ◌∷◌, ◌++◌, Option, Some, None, refl, ap, sym, ◌∙◌, arith}
use Rattle.std.specs.Prelude.{slice_set}
use Rattle.std.proofs.lemmas.List.{set-get_or}
use Rattle.gomp_types.specs.declared.limits.Limits.{Limits}
use Rattle.gomp_types.specs.declared.refusal.Refusal.{Refusal}
use Rattle.gomp_types.specs.declared.refusal.Refusal.TheVariants.{Waiting, NotInside, NoMemory}
use Rattle.gomp_types.specs.declared.reply.Reply.{Reply}
use Rattle.gomp_types.specs.declared.reply.Reply.TheVariants.{Refused}
use Rattle.gomp_events.specs.declared.event.Event.{Event}
use Rattle.gomp_types.specs.RefusalTexts.{number_of}
use Rattle.gomp_types.specs.Least.{lesser, least}
use Rattle.gomp_types.proofs.LeastTests.{least_append, lesser_low}
use Rattle.gomp_board.specs.declared.op.Op.{Op}
use Rattle.gomp_board.specs.Ops.{op_member_tests, op_tests, op_refusal, OpAnswer}
use Rattle.gomp_board.specs.Boards.{BoardView, Stands, Performs, members_of, kept_by}
use Rattle.gomp_waits.specs.Waits.{WaitBoardView, is_waiting, open_wait_tests, open_wait_refusal, asked_refusal, waits_on, AskedAnswer, PerformsOrWaits}

-- the refusal is the lesser of the wait's and the board's
pub asked_is_lesser : (limits : Limits) (room kept m : ℕ) (waiting : Bool) (op : Op) (h : List Event) → asked_refusal (record { limits = limits; room = room; kept = kept }) m waiting op h ≡ lesser (open_wait_refusal waiting op) (op_refusal limits room kept m op h)
asked_is_lesser limits room kept m waiting op h = least_append (open_wait_tests waiting op) (op_member_tests m h ++ op_tests limits room kept m op h)

-- so it is the board's if the wait refuses nothing
pub board_refusal_is_asked : (limits : Limits) (room kept m : ℕ) (waiting : Bool) (op : Op) (h : List Event) → open_wait_refusal waiting op ≡ None → asked_refusal (record { limits = limits; room = room; kept = kept }) m waiting op h ≡ op_refusal limits room kept m op h
board_refusal_is_asked limits room kept m waiting op h none = asked_is_lesser limits room kept m waiting op h ∙ ap (λ (one : Option Refusal). lesser one (op_refusal limits room kept m op h)) none

-- and then the board's answer is the answer
pub board_answer_is_asked :
    (limits : Limits) (room kept members m : ℕ) (waiting : Bool) (op : Op) (h : List Event) (reply : Reply) → asked_refusal (record { limits = limits; room = room; kept = kept }) m waiting op h ≡ op_refusal limits room kept m op h → OpAnswer limits room kept members m op h reply → AskedAnswer limits room kept members m waiting op h reply
board_answer_is_asked limits room kept members m waiting op h (Refused NoMemory) same answer = (same ∙ answer.0, answer.1)
board_answer_is_asked limits room kept members m waiting op h (Refused _) same answer = same ∙ answer
board_answer_is_asked limits room kept members m waiting op h _ same answer = (same ∙ answer.0, answer.1)

-- a wait refuses for itself alone, and so with a low number
low_of_wait_tests : (amid without : Bool) (refusal : Refusal) → least ((amid, Waiting) ∷ (without, NotInside) ∷ []) ≡ Some refusal → number_of refusal ≤ 22
low_of_wait_tests true true refusal e = let same : Waiting ≡ refusal = cc in rw (← same) (omega arith)
low_of_wait_tests true false refusal e = let same : Waiting ≡ refusal = cc in rw (← same) (omega arith)
low_of_wait_tests false true refusal e = let same : NotInside ≡ refusal = cc in rw (← same) (omega arith)
low_of_wait_tests false false refusal e = absurd (cc)

pub wait_refusal_is_low : (waiting : Bool) (op : Op) (refusal : Refusal) → open_wait_refusal waiting op ≡ Some refusal → number_of refusal ≤ 22
wait_refusal_is_low waiting op refusal e = low_of_wait_tests _ _ refusal e

-- a refusal that is not for want of memory is an answer, if it is the least
least_is_answer : (limits : Limits) (room kept members m : ℕ) (waiting : Bool) (op : Op) (h : List Event) (found : Refusal) → number_of found ≤ 22 → asked_refusal (record { limits = limits; room = room; kept = kept }) m waiting op h ≡ Some found → AskedAnswer limits room kept members m waiting op h (Refused found)
least_is_answer limits room kept members m waiting op h NoMemory low e = absurd (omega arith)
least_is_answer limits room kept members m waiting op h _ low e = e

-- An operation that the wait does not refuse

pub performed_amid_waits :
    (op : Op) (m : ℕ) (view after : WaitBoardView) (board : BoardView) (reply : Reply)
    → open_wait_refusal (is_waiting m view) op ≡ None
    → Performs op m view.board board reply
    → after ≡ record { board = board; waiting = slice_set view.waiting m (waits_on reply (is_waiting m view)) }
    → PerformsOrWaits op m view after reply
performed_amid_waits op m view after board reply none performs is =
    rw is (record {
      answer = λ h st.
          let limits = view.board.limits in let room = view.board.room in let kept = kept_by m view.board in
          board_answer_is_asked limits room kept (members_of view.board) m (is_waiting m view) op h reply (board_refusal_is_asked limits room kept m (is_waiting m view) op h none) (performs.answer h st);
      performs = λ fine. performs;
      stays = λ refusal refused. absurd (cc);
      members = performs.members;
      waits = refl;
    })

-- and one that it does

pub refused_amid_waits :
    (op : Op) (m : ℕ) (view : WaitBoardView) (refusal found : Refusal)
    → open_wait_refusal (is_waiting m view) op ≡ Some refusal
    → ((h : List Event) → Stands view.board h → Some found ≡ lesser (Some refusal) (op_refusal view.board.limits view.board.room (kept_by m view.board) m op h))
    → PerformsOrWaits op m view view (Refused found)
refused_amid_waits op m view refusal found refuses least_is = record {
  answer = λ h st.
      let limits = view.board.limits in let room = view.board.room in let kept = kept_by m view.board in let own = op_refusal limits room kept m op h in
      let one = lesser_low refusal found own (sym (least_is h st)) in
      let other = wait_refusal_is_low (is_waiting m view) op refusal refuses in
      least_is_answer limits room kept (members_of view.board) m (is_waiting m view) op h found (omega (arith, one, other))
      (asked_is_lesser limits room kept m (is_waiting m view) op h ∙ ap (λ (first : Option Refusal). lesser first own) refuses ∙ sym (least_is h st));
  performs = λ none. absurd (cc);
  stays = λ other refused. refl;
  members = refl;
  waits = sym (set-get_or view.waiting m false);
}
