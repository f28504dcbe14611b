use Rattle.std.proofs.Common.{◌<◌, length, refl, subst, sym}
use Rattle.std.specs.Prelude.{IfSome}
use Rattle.std.proofs.lemmas.Option.{slice_get_read}
use Rattle.gomp_tasks.specs.Stands.{TasksView, IsKept, task_members}
use Rattle.gomp_tasks.proofs.TasksKeep.{tasks_of_view_stand, executed_is, innermost_has_row}
use Rattle.gomp_tasks.proofs.tasks.Tasks.innermost.Goals as goal

pub returns-clause-value : goal.returns-clause-value
returns-clause-value c = λ h st0.
    let st = tasks_of_view_stand _ _ h c.self.view_is st0 in
    let lt : c.args.member < length c.self.inside.stacks.items = subst (λ (v : TasksView). c.args.member < task_members v) (sym c.self.view_is) c.requires.member in
    let at = slice_get_read c.self.inside.stacks.items _ c.args.member _ refl lt c.index.ensures in
    executed_is _ _ _ c.args.member _ c.innermost.result h st at c.innermost.ensures

pub returns-clause-task : goal.returns-clause-task
returns-clause-task c =
    let some = c.self.invariant.0 in
    let st = some.1 in
    let lt : c.args.member < length c.self.inside.stacks.items = subst (λ (v : TasksView). c.args.member < task_members v) (sym c.self.view_is) c.requires.member in
    let at = slice_get_read c.self.inside.stacks.items _ c.args.member _ refl lt c.index.ensures in
    let is = executed_is _ _ _ c.args.member _ c.innermost.result some.0 st at c.innermost.ensures in
    subst (λ (v : TasksView). IfSome c.innermost.result (λ t. IsKept t v)) c.self.view_is (innermost_has_row _ _ _ c.args.member c.innermost.result some.0 st is)
