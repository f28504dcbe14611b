use Rattle.std.proofs.Common.{◌≡◌, ◌<◌, ℕ, List, sym, subst}
use Rattle.gomp_types.specs.declared.depend.Dep.{Dep}
use Rattle.gomp_board.specs.declared.op.Op.{Op}
use Rattle.gomp_board.specs.declared.op.Op.TheVariants.{Taskwait, AwaitChildren}
use Rattle.gomp_board.specs.Boards.{BoardView, HasMembers, IsOpAdmitted, IsOpAdmittedOnce, Performs, members_of}
use Rattle.gomp_board.proofs.AdmittedOnce.{admitted_on_each}
use Rattle.gomp_board.proofs.GroupEnds.{group_ended, group_awaited}
use Rattle.gomp_board.proofs.Taskwaits.{taskwait_goes_on}
use Rattle.gomp_board.proofs.board.Board.answer.Goals as goal

-- what was tested on one list was on each, of a board that has a place for each member in every part
on_each : (op own : Op) (m : ℕ) (board now : BoardView) → board ≡ now → HasMembers board → m < members_of now → op ≡ own → IsOpAdmittedOnce op m now → IsOpAdmitted own m now
on_each op own m board now view places low is once = subst (λ (o : Op). IsOpAdmitted o m now) is (admitted_on_each op m now (subst HasMembers view places) low once)

pub await_own-requires-clause-admitted : goal.await_own-requires-clause-admitted
await_own-requires-clause-admitted c = on_each c.args.op.now _ c.args.member _ c.args.self.now c.self.view_is c.self.invariant.members c.requires.member c.in-AwaitOwn.is c.requires.admitted

pub end_task_admitted-requires-clause-admitted : goal.end_task_admitted-requires-clause-admitted
end_task_admitted-requires-clause-admitted c = on_each c.args.op.now _ c.args.member _ c.args.self.now c.self.view_is c.self.invariant.members c.requires.member c.in-EndTask.is c.requires.admitted

pub open_group-requires-clause-admitted : goal.open_group-requires-clause-admitted
open_group-requires-clause-admitted c = on_each c.args.op.now _ c.args.member _ c.args.self.now c.self.view_is c.self.invariant.members c.requires.member c.in-OpenGroup.is c.requires.admitted

pub arrive_admitted-requires-clause-admitted : goal.arrive_admitted-requires-clause-admitted
arrive_admitted-requires-clause-admitted c = on_each c.args.op.now _ c.args.member _ c.args.self.now c.self.view_is c.self.invariant.members c.requires.member c.in-Arrive.is c.requires.admitted

pub await_barrier-requires-clause-admitted : goal.await_barrier-requires-clause-admitted
await_barrier-requires-clause-admitted c = on_each c.args.op.now _ c.args.member _ c.args.self.now c.self.view_is c.self.invariant.members c.requires.member c.in-AwaitBarrier.is c.requires.admitted

pub reserve_admitted-requires-clause-admitted : goal.reserve_admitted-requires-clause-admitted
reserve_admitted-requires-clause-admitted c = on_each c.args.op.now _ c.args.member _ c.args.self.now c.self.view_is c.self.invariant.members c.requires.member c.in-Reserve.is c.requires.admitted

pub put_words-requires-clause-admitted : goal.put_words-requires-clause-admitted
put_words-requires-clause-admitted c = on_each c.args.op.now _ c.args.member _ c.args.self.now c.self.view_is c.self.invariant.members c.requires.member c.in-Put.is c.requires.admitted

pub give_words-requires-clause-admitted : goal.give_words-requires-clause-admitted
give_words-requires-clause-admitted c = on_each c.args.op.now _ c.args.member _ c.args.self.now c.self.view_is c.self.invariant.members c.requires.member c.in-Got.is c.requires.admitted

pub cancel_admitted-requires-clause-admitted : goal.cancel_admitted-requires-clause-admitted
cancel_admitted-requires-clause-admitted c = on_each c.args.op.now _ c.args.member _ c.args.self.now c.self.view_is c.self.invariant.members c.requires.member c.in-Cancel.is c.requires.admitted

pub point_admitted-requires-clause-admitted : goal.point_admitted-requires-clause-admitted
point_admitted-requires-clause-admitted c = on_each c.args.op.now _ c.args.member _ c.args.self.now c.self.view_is c.self.invariant.members c.requires.member c.in-Point.is c.requires.admitted

pub stop-requires-clause-admitted : goal.stop-requires-clause-admitted
stop-requires-clause-admitted c = on_each c.args.op.now _ c.args.member _ c.args.self.now c.self.view_is c.self.invariant.members c.requires.member c.in-Break.is c.requires.admitted

pub await_children_answer-requires-clause-admitted : goal.await_children_answer-requires-clause-admitted
await_children_answer-requires-clause-admitted c =
    let now = c.args.self.now in let m = c.args.member in
    let once = subst (λ (op : Op). IsOpAdmittedOnce op m now) c.in-Taskwait.is c.requires.admitted in
    subst (λ (items : List Dep). IsOpAdmittedOnce (AwaitChildren items) m now) (sym c.as_slice.ensures) (taskwait_goes_on c.in-Taskwait.items m now once)

pub returns-in-Taskwait : goal.returns-in-Taskwait
returns-in-Taskwait c =
    let now = c.args.self.now in let m = c.args.member in let after = c.await_children_answer.new.self in let reply = c.await_children_answer.result in
    let once = subst (λ (op : Op). IsOpAdmittedOnce op m now) c.in-Taskwait.is c.requires.admitted in
    let waits = subst (λ (items : List Dep). IsOpAdmittedOnce (Taskwait items) m now → Performs (Taskwait items) m now after reply) c.as_slice.ensures c.await_children_answer.ensures.taskwait in
    record { performs = subst (λ (op : Op). Performs op m now after reply) (sym c.in-Taskwait.is) (waits once) }

pub returns-in-EndGroup : goal.returns-in-EndGroup
returns-in-EndGroup c =
    let now = c.args.self.now in let m = c.args.member in let after = c.end_group_admitted.new.self in let reply = c.end_group_admitted.result in let done = c.end_group_admitted.ensures in
    let admitted = on_each c.args.op.now _ m _ now c.self.view_is c.self.invariant.members c.requires.member c.in-EndGroup.is c.requires.admitted in
    record { performs = subst (λ (op : Op). Performs op m now after reply) (sym c.in-EndGroup.is) (group_ended m now after reply done.known done.answer done.stands done.limits done.room done.kept done.waits admitted) }

pub returns-in-AwaitGroup : goal.returns-in-AwaitGroup
returns-in-AwaitGroup c =
    let now = c.args.self.now in let m = c.args.member in let after = c.end_group_admitted-in-AwaitGroup.new.self in let reply = c.end_group_admitted-in-AwaitGroup.result in let done = c.end_group_admitted-in-AwaitGroup.ensures in
    let admitted = on_each c.args.op.now _ m _ now c.self.view_is c.self.invariant.members c.requires.member c.in-AwaitGroup.is c.requires.admitted in
    record { performs = subst (λ (op : Op). Performs op m now after reply) (sym c.in-AwaitGroup.is) (group_awaited m now after reply done.known done.answer done.stands done.limits done.room done.kept done.waits admitted) }
