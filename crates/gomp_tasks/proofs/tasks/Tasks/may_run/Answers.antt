use Rattle.std.proofs.Common.{◌≡◌, true, false, Some, refl, ◌∙◌, sym, ap}
use Rattle.std.specs.Prelude.{◌==◌, ◌&&◌, ◌||◌, option_copied}
use Rattle.gomp_rows.specs.Rows.{row_no}
use Rattle.gomp_tasks.proofs.TasksKeep.{tasks_of_view_stand}
use Rattle.gomp_tasks.proofs.StartedTasks.{under_by_parent, may_run_by_row, last_decides, rest_decides}
use Rattle.gomp_tasks.proofs.tasks.Tasks.may_run.Goals as goal
use Rattle.gomp_tasks.proofs.tasks.Tasks.may_run.Goals.{then-is_unstarted+then-at_barrier, then-is_unstarted+else-at_barrier, else-is_unstarted}

pub returns-then-row-member-clause-value : goal.returns-then-row-member-clause-value
returns-then-row-member-clause-value c = λ h st0 barrier.
    let st = tasks_of_view_stand _ _ h c.self.view_is st0 in
    let at : row_no c.self.inside.rows.rows c.args.task ≡ Some c.in-Some.row.now = sym c.get.ensures.value ∙ ap option_copied c.in-Some.is in
    let started = under_by_parent _ _ _ c.args.member c.args.task c.in-Some.row.now c.is_within_started.result h st at (c.is_within_started.ensures.none h st0) (λ s top. c.is_within_started.ensures.value h s st0 top) in
    let tested : (c.is_unstarted.result && (c.args.at_barrier || (c.in-Some.row.now.root == c.args.member))) ≡ true = elim c.if-is_unstarted.branch [
      | then-is_unstarted+then-at_barrier w ↦ rw (w.if-is_unstarted.true, w.if-at_barrier.true) refl
      | then-is_unstarted+else-at_barrier w ↦ rw (w.if-is_unstarted.true, w.if-at_barrier.false) (sym w.value-is ∙ c.if-row-member.true)
      | else-is_unstarted w ↦ absurd (let off = sym c.if-row-member.true ∙ w.value-is in cc)
    ] in
    sym (may_run_by_row _ _ _ c.args.member c.args.task c.in-Some.row.now h st at ∙ rw (sym c.is_unstarted.ensures, sym barrier, started) (last_decides c.is_unstarted.result c.is_within_started.result (c.args.at_barrier || (c.in-Some.row.now.root == c.args.member)) tested))

pub returns-else-row-member-clause-value : goal.returns-else-row-member-clause-value
returns-else-row-member-clause-value c = λ h st0 barrier.
    let st = tasks_of_view_stand _ _ h c.self.view_is st0 in
    let at : row_no c.self.inside.rows.rows c.args.task ≡ Some c.in-Some.row.now = sym c.get.ensures.value ∙ ap option_copied c.in-Some.is in
    let tested : (c.is_unstarted.result && (c.args.at_barrier || (c.in-Some.row.now.root == c.args.member))) ≡ false = elim c.if-is_unstarted.branch [
      | then-is_unstarted+then-at_barrier w ↦ absurd (let on = sym c.if-row-member.false ∙ w.value-is in cc)
      | then-is_unstarted+else-at_barrier w ↦ rw (w.if-is_unstarted.true, w.if-at_barrier.false) (sym w.value-is ∙ c.if-row-member.false)
      | else-is_unstarted w ↦ rw w.if-is_unstarted.false refl
    ] in
    c.if-row-member.false ∙ sym (may_run_by_row _ _ _ c.args.member c.args.task c.in-Some.row.now h st at ∙ rw (sym c.is_unstarted.ensures, sym barrier) (rest_decides c.is_unstarted.result _ (c.args.at_barrier || (c.in-Some.row.now.root == c.args.member)) tested))
