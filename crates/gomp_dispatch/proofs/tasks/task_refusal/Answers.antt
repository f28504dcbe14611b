use Rattle.std.proofs.Common.{sym}
use Rattle.gomp_types.proofs.LeastTests.{least_append}
use Rattle.gomp_model.specs.Row.{asked_tests}
use Rattle.gomp_model.specs.Calls.{row_of}
use Rattle.gomp_dispatch.proofs.tasks.task_refusal.Goals as goal

pub returns : goal.returns
returns c = record {
  least = λ p st limits room leaves.
      let row = row_of c.args.call.now in
      rw (c.if-repeated.false, c.lesser.ensures, c.tasks_refusal-own.ensures.least p st limits leaves, c.room_asked_refusal.ensures.least p st limits room) (sym (least_append (row.by_task c.args.member p) (asked_tests (row.drops c.args.member p) row p)));
}
