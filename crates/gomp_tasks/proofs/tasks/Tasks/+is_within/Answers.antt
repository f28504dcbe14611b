use Rattle.std.proofs.Common.{◌≡◌, subst, sym, ◌∙◌, arith}
use Rattle.gomp_types.specs.declared.task.Task.{Task}
use Rattle.gomp_types.specs.declared.task.Task.TheVariants.{Explicit}
use Rattle.gomp_tasks.specs.Stands.{IsTask}
use Rattle.gomp_tasks.proofs.TasksKeep.{itself_or_none}
use Rattle.gomp_tasks.proofs.tasks.Tasks.+is_within.Goals as goal

pub returns-in-Explicit-2-clause-value : goal.returns-in-Explicit-2-clause-value
returns-in-Explicit-2-clause-value t c = λ h st.
    let has = subst (λ (p : Task). IsTask p c.args.self.now) c.in-Explicit-2.is c.requires.task in
    let one : Explicit c.in-Explicit.number ≡ Explicit c.in-Explicit-2.number = sym c.in-Explicit.is ∙ c.in-Explicit-2.is in
    let same : c.in-Explicit.number ≡ c.in-Explicit-2.number = cc in
    let older = c.if-number-above.false in
    rw c.in-Explicit-2.is (itself_or_none _ _ _ c.args.above c.in-Explicit-2.number h st has (omega (arith, same, older)))
