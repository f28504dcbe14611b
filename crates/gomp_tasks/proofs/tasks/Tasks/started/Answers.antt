use Rattle.std.proofs.Common.{◌<◌, ◌∙◌, length, refl, ap, subst, sym}
use Rattle.std.proofs.lemmas.Option.{slice_get_read}
use Rattle.gomp_tasks.specs.Stands.{TasksView, task_members}
use Rattle.gomp_tasks.proofs.TasksKeep.{tasks_of_view_stand}
use Rattle.gomp_tasks.proofs.tasks.Tasks.started.Goals as goal

pub returns-clause-value : goal.returns-clause-value
returns-clause-value c = λ h st0.
    let st = tasks_of_view_stand _ _ h c.self.view_is st0 in
    let lt : c.args.member < length c.self.inside.stacks.items = subst (λ (v : TasksView). c.args.member < task_members v) (sym c.self.view_is) c.requires.member in
    let at = slice_get_read c.self.inside.stacks.items _ c.args.member _ refl lt c.index.ensures in
    c.count.ensures.value ∙ ap length (sym (st.stack c.args.member _ at))
