use Rattle.std.proofs.Common.{◌≡◌, Some, ◌∙◌, sym, ap}
use Rattle.std.specs.Prelude.{option_copied}
use Rattle.gomp_rows.specs.Rows.{row_no}
use Rattle.gomp_tasks.proofs.TasksKeep.{tasks_of_view_stand, unstarted_by_row}
use Rattle.gomp_tasks.proofs.tasks.Tasks.is_unstarted.Goals as goal

pub returns-in-Some-clause-value : goal.returns-in-Some-clause-value
returns-in-Some-clause-value c = λ h st0.
    let at : row_no c.self.inside.rows.rows c.args.task ≡ Some c.in-Some.row.now = sym c.get.ensures.value ∙ ap option_copied c.in-Some.is in
    c.is_unstarted.ensures ∙ sym (unstarted_by_row _ _ _ c.args.task c.in-Some.row.now h (tasks_of_view_stand _ _ h c.self.view_is st0) at)
