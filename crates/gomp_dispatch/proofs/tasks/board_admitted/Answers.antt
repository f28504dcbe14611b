use Rattle.std.proofs.Common.{◌≡◌, List, refl, ap, sym, ◌∙◌, subst}
use Rattle.std.specs.Prelude.{Some}
use Rattle.gomp_types.specs.declared.depend.Dep.{Dep}
use Rattle.gomp_board.specs.declared.op.Op.{Op}
use Rattle.gomp_board.specs.declared.op.Op.TheVariants.{Taskwait, AwaitChildren}
use Rattle.gomp_board.specs.Boards.{IsOpAdmittedOnce, Performs}
use Rattle.gomp_dispatch.specs.Serves.{board_op, create_op, wait_op}
use Rattle.gomp_dispatch.proofs.CallOps.{neither_has_clause, wait_is_admitted, wait_performs}
use Rattle.gomp_dispatch.proofs.tasks.board_admitted.Goals as goal

pub create_reply-requires-clause-admitted : goal.create_reply-requires-clause-admitted
create_reply-requires-clause-admitted c = c.requires.admitted (create_op c.args.manner.repeated c.in-TaskCreate.desc) (rw c.in-TaskCreate.is refl)

pub await_children_admitted-requires-clause-admitted : goal.await_children_admitted-requires-clause-admitted
await_children_admitted-requires-clause-admitted c =
    let items = c.in-Taskwait.items in let repeated = c.args.manner.repeated in
    subst (λ (ds : List Dep). IsOpAdmittedOnce (AwaitChildren ds) c.args.member c.args.board.now) (sym c.as_slice.ensures)
    (wait_is_admitted repeated items c.args.member c.args.board.now (c.requires.admitted (wait_op repeated items) (rw c.in-Taskwait.is refl)))

pub step_admitted-requires-clause-admitted : goal.step_admitted-requires-clause-admitted
step_admitted-requires-clause-admitted c =
    c.requires.admitted c.in-Some.op (sym (c.plain_op.ensures (neither_has_clause c.args.call.now c.in_default.not-TaskCreate c.in_default.not-Taskwait)) ∙ c.in-Some.is)

pub returns-in-Taskwait : goal.returns-in-Taskwait
returns-in-Taskwait c = record {
  performs = λ op is.
      let items = c.in-Taskwait.items in let repeated = c.args.manner.repeated in
      let m = c.args.member in let now = c.args.board.now in let after = c.await_children_admitted.new.self in let reply = c.await_children_admitted.result in
      let found : Some (wait_op repeated items) ≡ Some op = sym (ap (board_op c.args.manner) c.in-Taskwait.is) ∙ is in
      let same : wait_op repeated items ≡ op = cc in
      let admitted = c.requires.admitted (wait_op repeated items) (rw c.in-Taskwait.is refl) in
      let goes_on = subst (λ (ds : List Dep). Performs (AwaitChildren ds) m now after reply) c.as_slice.ensures c.await_children_admitted.ensures.performs in
      let begins = subst (λ (ds : List Dep). IsOpAdmittedOnce (Taskwait ds) m now → Performs (Taskwait ds) m now after reply) c.as_slice.ensures c.await_children_admitted.ensures.taskwait in
      subst (λ (o : Op). Performs o m now after reply) same (wait_performs repeated items m now after reply admitted goes_on begins);
}

pub returns-in-Some : goal.returns-in-Some
returns-in-Some c = record {
  performs = λ op is.
      let plain = c.plain_op.ensures (neither_has_clause c.args.call.now c.in_default.not-TaskCreate c.in_default.not-Taskwait) in
      let same : Some c.in-Some.op ≡ Some op = sym c.in-Some.is ∙ plain ∙ is in
      let one : c.in-Some.op ≡ op = cc in
      subst (λ (o : Op). Performs o c.args.member c.args.board.now c.step_admitted.new.self c.step_admitted.result) one c.step_admitted.ensures.performs;
}
