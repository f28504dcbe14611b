use Rattle.std.proofs.Common.{sym, ◌∙◌}
use Rattle.gomp_scheduler.proofs.PutFreed.{one_left_out, one_put}
use Rattle.gomp_scheduler.proofs.tasks.put_freed.Goals as goal

pub loop-task-preserved-then-not-is_undeferred : goal.loop-task-preserved-then-not-is_undeferred
loop-task-preserved-then-not-is_undeferred c =
    let freed = c.in-Some.ensures in
    one_put c.args.tasks.now c.args.depends.now c.args.ready.now c.loop-task.depends c.next_freed.new.self c.loop-task.ready c.in-Some.task c.loop-task.invariant freed.task freed.rest freed.waiting freed.stands
    c.put.new.self c.put.ensures.members c.put.ensures.ids c.put.ensures.room c.put.ensures.passed (λ h st. sym (c.is_undeferred.ensures.value h st) ∙ c.if-not-is_undeferred.true)

pub loop-task-preserved : goal.loop-task-preserved
loop-task-preserved c =
    let freed = c.in-Some.ensures in
    one_left_out c.args.tasks.now c.args.depends.now c.args.ready.now c.loop-task.depends c.next_freed.new.self c.loop-task.ready c.in-Some.task c.loop-task.invariant freed.task freed.rest freed.waiting freed.stands
    (λ h st. sym (c.is_undeferred.ensures.value h st) ∙ c.if-not-is_undeferred.false)
