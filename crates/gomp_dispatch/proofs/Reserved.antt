-- Room that the board keeps for a share before it is started, or for which there is no memory.
use Rattle.std.proofs.Common.{◌≡◌, ◌<◌, ◌≤◌, ℕ, Bool, true, false, List, ◌++◌, None, length, refl, ap, sym, subst, ◌∙◌, arith, suc, zero}
use Rattle.std.specs.Prelude.{slice_index_or}
use Rattle.gomp_types.specs.declared.refusal.Refusal.{Refusal}
use Rattle.gomp_types.specs.declared.refusal.Refusal.TheVariants.{NoMemory}
use Rattle.gomp_types.specs.declared.reply.Reply.{Reply}
use Rattle.gomp_types.specs.declared.reply.Reply.TheVariants.{Finished, Refused}
use Rattle.gomp_events.specs.declared.event.Event.{Event}
use Rattle.gomp_events.specs.Events.{open_share}
use Rattle.gomp_types.specs.Tests.{Test}
use Rattle.gomp_events.specs.TaskCalls.{outside_tasks_tests, room_tests}
use Rattle.gomp_types.proofs.LeastTests.{AllFail}
use Rattle.gomp_model.specs.Past.{Past}
use Rattle.gomp_model.specs.Row.{Row, asked_tests, board_tests}
use Rattle.gomp_board.specs.declared.op.Op.TheVariants.{Reserve}
use Rattle.gomp_board.specs.Ops.{op_refusal, OpAnswer}
use Rattle.gomp_board.specs.Boards.{BoardView, Stands as BoardStands, IsOpAdmittedOnce, IsSame, Performs, members_of, kept_by}
use Rattle.gomp_dispatch.specs.declared.leaving.Manner.{Manner}
use Rattle.gomp_dispatch.specs.Answers.{room_left, ServersStand, ServersAdmitMember, SomeServersAdmit, AnswersCall}
use Rattle.gomp_dispatch.specs.Serves.{asked_once, is_finished, KeepsMore}
use Rattle.gomp_dispatch.proofs.OpAnswers.{refused_for_memory, memory_was_asked, room_was_asked, own_room_kept, others_kept, room_made, parts_at, positive_once}
use Rattle.gomp_dispatch.proofs.CallOps.{tests_of_board, waits_nowhere, admitted_op_fine}
use Rattle.gomp_dispatch.proofs.ShareRows.{IsShareRow}

-- The operation

finished_so : (reply : Reply) → is_finished reply ≡ true → reply ≡ Finished
finished_so Finished is = refl
finished_so _ is = absurd (cc)

pub reserve_keeps : (more m : ℕ) (board after : BoardView) (reply : Reply) → m < members_of board → (more ≡ 0 → ⊥) → Performs (Reserve more) m board after reply → is_finished reply ≡ true → KeepsMore more m board after
reserve_keeps more m board after reply low some performs is =
    let done = finished_so reply is in
    let there = subst (λ (r : Reply). Performs (Reserve more) m board after r) done performs in
    record {
      stands = λ h st. there.stands h st;
      members = there.members;
      limits = there.limits;
      room = room_made (Reserve more) m board after Finished there tt refl;
      own = own_room_kept (Reserve more) m board after Finished low there tt;
      others = λ k other. others_kept (Reserve more) m k board after Finished there other;
      nothing = λ none. absurd (some none);
    }

not_finished : {reply : Reply} → reply ≡ Finished → is_finished reply ≡ false → ⊥
not_finished {reply} done is = let never : true ≡ false = subst (λ (r : Reply). is_finished r ≡ false) done is in cc

lacks_by : (more m : ℕ) (board after : BoardView) (h : List Event) (reply : Reply) → BoardStands board h → op_refusal board.limits board.room (kept_by m board) m (Reserve more) h ≡ None → Performs (Reserve more) m board after reply → is_finished reply ≡ false →
    OpAnswer board.limits board.room (kept_by m board) (members_of board) m (Reserve more) h reply → (0 < more) × IsSame board after
lacks_by more m board after h (Refused refusal) st fine performs is answer =
    let memory = refused_for_memory board.limits board.room (kept_by m board) (members_of board) m (Reserve more) h refusal fine answer in
    let there = subst (λ (r : Refusal). Performs (Reserve more) m board after (Refused r)) memory performs in
    (room_was_asked (Reserve more) (kept_by m board) m h (memory_was_asked board.limits board.room (kept_by m board) (members_of board) m (Reserve more) h (there.answer h st)), there.same NoMemory refl (λ e. cc))
lacks_by more m board after h _ st fine performs is answer = absurd (not_finished answer.1 is)

pub reserve_lacks : (more m : ℕ) (board after : BoardView) (reply : Reply) (h : List Event) → BoardStands board h → op_refusal board.limits board.room (kept_by m board) m (Reserve more) h ≡ None → Performs (Reserve more) m board after reply → is_finished reply ≡ false →
    (0 < more) × IsSame board after × (after.limits ≡ board.limits)
reserve_lacks more m board after reply h st fine performs is =
    let lacks = lacks_by more m board after h reply st fine performs is (performs.answer h st) in
    (lacks.0, lacks.1, performs.limits)

pub keeps_no_more : (m : ℕ) (board : BoardView) → KeepsMore 0 m board board
keeps_no_more m board = record {
  stands = λ h st. st;
  members = refl;
  limits = refl;
  room = omega arith;
  own = omega arith;
  others = λ k other. refl;
  nothing = λ none. refl;
}

pub some_more : (n : ℕ) → (n ≡ 0 → ⊥) → 0 < n
some_more zero some = absurd (some refl)
some_more (suc n) some = omega arith

-- The call

reserve_tests : (row : Row) → IsShareRow row → (m : ℕ) (p : Past) → AllFail (board_tests false row m p) → AllFail (outside_tasks_tests m p.events ++ room_tests p.terms.limits p.room row.room)
reserve_tests row is m p fail =
    subst (λ (own : List Test). AllFail (own ++ room_tests p.terms.limits p.room row.room)) (is.by_task m p) (subst (λ (dropped : Bool). AllFail (row.by_task m p ++ asked_tests dropped row p)) (is.drops m p) fail)

-- no test refuses the room that a share's call asks for
pub reserve_fine : {S : Type 0} (stands : S → List Event → Type 0) (shares : S) (row : Row) → IsShareRow row → (manner : Manner) (m : ℕ) (board : BoardView) → SomeServersAdmit stands shares board row manner m → 0 < asked_once manner.repeated row.room →
    IsOpAdmittedOnce (Reserve (asked_once manner.repeated row.room)) m board
reserve_fine stands shares row is manner m board (p, parts, ready, made) much =
    reserve_once stands shares row is manner.repeated m board p parts ready much
  where
    reserve_once : {S : Type 0} (stands : S → List Event → Type 0) (shares : S) (row : Row) → IsShareRow row → (repeated : Bool) (m : ℕ) (board : BoardView) (p : Past) → ServersStand stands shares board p → ServersAdmitMember row repeated m board p → 0 < asked_once repeated row.room →
        IsOpAdmittedOnce (Reserve (asked_once repeated row.room)) m board
    reserve_once stands shares row is true m board p parts ready much = absurd (omega (arith, much))
    reserve_once stands shares row is false m board p parts ready much = (
      p.events,
      parts.board_is,
      admitted_op_fine stands shares row false m board p parts ready (Reserve row.room) (waits_nowhere row false m board p is.arrives (is.stops m) ready, reserve_tests row is m p (tests_of_board row false m board p ready)),
    )

-- there is no memory for it
pub no_room_answers : {S : Type 0} (stands : S → List Event → Type 0) (shares : S) (row : Row) → IsShareRow row → (manner : Manner) (m : ℕ) (board after : BoardView) → 0 < asked_once manner.repeated row.room → IsSame board after → after.limits ≡ board.limits →
    AnswersCall (record { stands = stands; row = row; manner = manner; m = m }) shares shares board after (Refused NoMemory)
no_room_answers stands shares row is manner m board after much same limits =
    let once = positive_once manner.repeated row.room much in
    let members : members_of after ≡ members_of board = ap (λ (kept : List ℕ). length kept) same.kept in
    let keeps : (k : ℕ) → kept_by k after ≡ kept_by k board = λ k. ap (λ (kept : List ℕ). slice_index_or kept k 0) same.kept in
    record {
      leaves = record { members = members; limits = limits; others = λ k other. keeps k };
      waits = λ again wait. absurd (cc);
      lacks = λ lack. ((refl, same), once.0, once.1);
      refuses = λ refusal refused. cc;
      answer = λ p parts ready made. is.asks once.1 m p;
      stands_for = λ p parts ready made.
          parts_at stands shares after p p.terms p.events p.room refl refl refl parts.shares_are (same.stands p.events parts.board_is) (parts.members ∙ sym members) (parts.limits ∙ sym limits) (parts.room ∙ sym same.room)
          (λ k. subst (λ (n : ℕ). room_left (open_share k p.events) ≤ n) (sym (keeps k)) (parts.kept k)) parts.puts;
      keeps = λ wait. absurd (cc);
    }
