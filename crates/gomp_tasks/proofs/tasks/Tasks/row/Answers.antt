use Rattle.gomp_tasks.proofs.TasksKeep.{tasks_of_view_stand}
use Rattle.gomp_tasks.proofs.tasks.Tasks.row.Goals as goal

pub returns-clause-value : goal.returns-clause-value
returns-clause-value c = λ h st0. (tasks_of_view_stand _ _ h c.self.view_is st0).kept_row c.args.task c.row.result.now c.row.ensures.value
