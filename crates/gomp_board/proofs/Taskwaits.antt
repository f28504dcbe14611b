-- A taskwait that no test refuses is the wait for children that goes on.
use Rattle.std.proofs.Common.{◌≡◌, ℕ, false, true, List, ◌++◌, None, sym, ◌∙◌}
use Rattle.gomp_types.specs.declared.depend.Dep.{Dep}
use Rattle.gomp_types.specs.declared.limits.Limits.{Limits}
use Rattle.gomp_types.specs.declared.refusal.Refusal.{Refusal}
use Rattle.gomp_types.specs.declared.refusal.Refusal.TheVariants.{NoMemory}
use Rattle.gomp_types.specs.declared.reply.Reply.{Reply}
use Rattle.gomp_types.specs.declared.reply.Reply.TheVariants.{Refused}
use Rattle.gomp_events.specs.declared.event.Event.{Event}
use Rattle.gomp_events.specs.TaskCalls.{items_tests}
use Rattle.gomp_types.proofs.LeastTests.{all_fail, fail_first, fail_later, none_holds, both_lists_fail}
use Rattle.gomp_board.specs.declared.op.Op.TheVariants.{Taskwait, AwaitChildren}
use Rattle.gomp_board.specs.Ops.{op_member_tests, busy_tests, op_tests, op_refusal, OpAnswer}
use Rattle.gomp_board.specs.Boards.{BoardView, IsOpAdmitted, IsOpAdmittedOnce, Performs, members_of, kept_by}

-- the tests of the one hold of no taskwait that is admitted
wait_is_fine : (limits : Limits) (room kept m : ℕ) (items : List Dep) (h : List Event) → op_refusal limits room kept m (Taskwait items) h ≡ None → op_refusal limits room kept m (AwaitChildren items) h ≡ None
wait_is_fine limits room kept m items h fine =
    let all = all_fail (op_member_tests m h ++ op_tests limits room kept m (Taskwait items) h) fine in
    let team = fail_first (op_member_tests m h) (op_tests limits room kept m (Taskwait items) h) all in
    let own = fail_first (busy_tests m h) (items_tests items) (fail_later (op_member_tests m h) (op_tests limits room kept m (Taskwait items) h) all) in
    none_holds (op_member_tests m h ++ busy_tests m h) (both_lists_fail (op_member_tests m h) (busy_tests m h) team own)

pub taskwait_goes_on : (items : List Dep) (m : ℕ) (board : BoardView) → IsOpAdmittedOnce (Taskwait items) m board → IsOpAdmittedOnce (AwaitChildren items) m board
taskwait_goes_on items m board (h, st, none) = (h, st, wait_is_fine board.limits board.room (kept_by m board) m items h none)

-- and it is answered in the same way
never_refused : (limits : Limits) (room kept members m : ℕ) (items : List Dep) (h : List Event) (refusal : Refusal) → op_refusal limits room kept m (AwaitChildren items) h ≡ None → OpAnswer limits room kept members m (AwaitChildren items) h (Refused refusal) → ⊥
never_refused limits room kept members m items h NoMemory fine answer = let never : false ≡ true = answer.1 in cc
never_refused limits room kept members m items h _ fine answer = let both = sym answer ∙ fine in cc

answered_alike : (limits : Limits) (room kept members m : ℕ) (items : List Dep) (h : List Event) (reply : Reply) → op_refusal limits room kept m (Taskwait items) h ≡ None → OpAnswer limits room kept members m (AwaitChildren items) h reply → OpAnswer limits room kept members m (Taskwait items) h reply
answered_alike limits room kept members m items h (Refused refusal) fine answer =
    absurd (never_refused limits room kept members m items h refusal (wait_is_fine limits room kept m items h fine) answer)
answered_alike limits room kept members m items h _ fine answer = (fine, answer.1)

pub taskwait_performed : (items : List Dep) (m : ℕ) (board after : BoardView) (reply : Reply) → IsOpAdmitted (Taskwait items) m board → Performs (AwaitChildren items) m board after reply → Performs (Taskwait items) m board after reply
taskwait_performed items m board after (Refused refusal) admitted does = record {
  answer = λ h st. answered_alike board.limits board.room (kept_by m board) (members_of board) m items h (Refused refusal) (admitted h st) (does.answer h st);
  stands = does.stands;
  limits = does.limits;
  members = does.members;
  room = does.room;
  kept = does.kept;
  same = does.same;
  waits = does.waits;
}
taskwait_performed items m board after reply admitted does = record {
  answer = λ h st. answered_alike board.limits board.room (kept_by m board) (members_of board) m items h reply (admitted h st) (does.answer h st);
  stands = does.stands;
  limits = does.limits;
  members = does.members;
  room = does.room;
  kept = does.kept;
  same = does.same;
  waits = does.waits;
}
