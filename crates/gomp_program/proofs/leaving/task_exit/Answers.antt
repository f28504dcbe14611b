use Rattle.std.proofs.Common.{sym, ◌∙◌}
use Rattle.gomp_program.proofs.ExitLists.{no_task_at_all, task_left_at}
use Rattle.gomp_program.proofs.leaving.task_exit.Goals as goal

pub returns-then-is_body : goal.returns-then-is_body
returns-then-is_body c = sym (task_left_at c.args.frames.now c.loop-keep.keep _ c.loop-keep-test.true c.loop-keep.invariant.within c.loop-keep.invariant.none (sym c.is_body.ensures ∙ c.if-is_body.true))

pub returns : goal.returns
returns c = sym (no_task_at_all c.args.frames.now c.loop-keep.keep c.loop-keep-test.false c.loop-keep.invariant.none)
