-- A member's mismatch breaks the team on its board.
use Rattle.std.proofs.Common.{◌≡◌, ℕ, false, List, Some, None, ◌∷◌, refl, ap, sym, ◌∙◌, subst}
use Rattle.gomp_types.specs.declared.call.Call.{Call}
use Rattle.gomp_types.specs.declared.call.Call.TheVariants.{Stop}
use Rattle.gomp_types.specs.declared.call.Step.{Step}
use Rattle.gomp_types.specs.declared.refusal.Place.{Place}
use Rattle.gomp_types.specs.declared.refusal.Refusal.TheVariants.{Mismatch, NoMemory}
use Rattle.gomp_types.specs.declared.reply.Reply.{Reply}
use Rattle.gomp_types.specs.declared.reply.Reply.TheVariants.{Refused}
use Rattle.gomp_types.specs.declared.limits.Limits.{Limits}
use Rattle.gomp_events.specs.declared.event.Event.{Event}
use Rattle.gomp_events.specs.declared.event.Event.TheVariants.{Break as BreakEvent}
use Rattle.gomp_events.specs.Events.{has_left_region, clash_of}
use Rattle.gomp_model.specs.Calls.{row_of}
use Rattle.gomp_types.specs.Resumes.{call_meant}
use Rattle.gomp_model.specs.Team.{Record, row_at, refusal_of}
use Rattle.gomp_board.specs.declared.op.Op.TheVariants.{Break}
use Rattle.gomp_board.specs.Boards.{BoardView, Performs, kept_by, members_of as board_members}
use Rattle.gomp_board.specs.Ops.{is_stop, op_refusal, OpAnswer}
use Rattle.gomp_laws.proofs.Laws.{least_refusal_is_an_answer}
use Rattle.gomp_core.specs.Stands.{TeamView, Stands, Keeps, past}
use Rattle.gomp_core.proofs.Stepping.{differing_inside, stands_broken}

-- a call differs from other members' at a share or at a barrier, which is no stop
pub differs_nowhere_else : (call : Call) (m : ℕ) (h : List Event) → is_stop ((row_of call).place m h) ≡ false
differs_nowhere_else Stop m h = refl
differs_nowhere_else _ m h = refl

-- so the board of a team that was whole refuses the break as a mismatch
break_is_refused : (limits : Limits) (room kept m : ℕ) (place : Place) (h : List Event) → is_stop place ≡ false → has_left_region m h ≡ false → clash_of h ≡ None → op_refusal limits room kept m (Break place 0) h ≡ Some Mismatch
break_is_refused limits room kept m place h other inside whole = rw (other, inside, whole) refl

refused_as_mismatch : (limits : Limits) (room kept members m : ℕ) (place : Place) (h : List Event) (reply : Reply) → op_refusal limits room kept m (Break place 0) h ≡ Some Mismatch → OpAnswer limits room kept members m (Break place 0) h reply → reply ≡ Refused Mismatch
refused_as_mismatch limits room kept members m place h (Refused NoMemory) is answer = absurd (let never = sym answer.0 ∙ is in cc)
refused_as_mismatch limits room kept members m place h (Refused refusal) is answer = let same : refusal ≡ Mismatch = (let both = sym answer ∙ is in cc) in ap Refused same
refused_as_mismatch limits room kept members m place h _ is answer = absurd (let never = sym answer.0 ∙ is in cc)

pub break_answered : (limits : Limits) (room kept members m : ℕ) (place : Place) (h : List Event) (reply : Reply) → is_stop place ≡ false → has_left_region m h ≡ false → clash_of h ≡ None → OpAnswer limits room kept members m (Break place 0) h reply → reply ≡ Refused Mismatch
break_answered limits room kept members m place h reply other inside whole answer = refused_as_mismatch limits room kept members m place h reply (break_is_refused limits room kept m place h other inside whole) answer

-- what a mismatch leaves: its reply, and a team that stands for the record with it
pub record Broken {S : Type 0} (stands : S → List Event → Type 0) (members : S → ℕ) (team after : TeamView S) (before : Record) (step : Step) (reply : Reply) : Type 0 where
  pub refused : reply ≡ Refused Mismatch
  pub keeps : Keeps team after step.call reply
  pub stands_for : Stands stands members after ((step, reply) ∷ before)

pub team_breaks : {S : Type 0} (stands : S → List Event → Type 0) (members : S → ℕ) (team : TeamView S) (board : BoardView) (before : Record) (step : Step) (place : Place) (reply : Reply) → Stands stands members team before →
    refusal_of (past team before) step ≡ Some Mismatch → place ≡ (row_at (past team before) step).place step.member (past team before).events → ((h : List Event) → stands team.shares h → stands team.shares (BreakEvent step.member place ∷ h)) →
    Performs (Break place 0) step.member team.board board reply → Broken stands members team (record team { board = board }) before step reply
team_breaks stands members team board before step place reply st differs at shares performs =
    let p = past team before in
    let inside = differing_inside p step differs in
    let other : is_stop place ≡ false = ap is_stop at ∙ differs_nowhere_else (call_meant step.call (p.waits step.member).open_call) step.member p.events in
    let is : reply ≡ Refused Mismatch = break_answered team.board.limits team.board.room (kept_by step.member team.board) (board_members team.board) step.member place p.events reply other inside.0 inside.1 (performs.answer p.events st.parts_are.board_is) in
    subst (Broken stands members team (record team { board = board }) before step) (sym is)
    (so st differs at (subst (Performs (Break place 0) step.member team.board board) is performs))
  where
    so : Stands stands members team before → refusal_of (past team before) step ≡ Some Mismatch → place ≡ (row_at (past team before) step).place step.member (past team before).events → Performs (Break place 0) step.member team.board board (Refused Mismatch) →
        Broken stands members team (record team { board = board }) before step (Refused Mismatch)
    so st differs at breaks = record {
      refused = refl;
      keeps = record {
        members = refl;
        icv = refl;
        limits = breaks.limits;
        refused = λ refusal same differ lacks. absurd (differ (let is : refusal ≡ Mismatch = cc in is));
        lacks = λ same. absurd (cc);
        broken = λ same. (refl, (step.member, place, breaks));
        waits = λ same resume. absurd (cc);
      };
      stands_for = stands_broken stands members team board before step place st (least_refusal_is_an_answer (past team before) step Mismatch differs) at shares breaks;
    }
