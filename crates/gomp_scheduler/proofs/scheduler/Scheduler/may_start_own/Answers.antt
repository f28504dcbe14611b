use Rattle.std.proofs.Common.{sym, ◌∙◌}
use Rattle.gomp_scheduler.proofs.Startables.{not_run, own_may_start, run_then_free, run_is_open}
use Rattle.gomp_scheduler.proofs.PartsKeep.{scheduler_stands_inside}
use Rattle.gomp_scheduler.proofs.scheduler.Scheduler.may_start_own.Goals as goal

pub returns-then-may_run-clause-value : goal.returns-then-may_run-clause-value
returns-then-may_run-clause-value c = λ h now_st sealed.
    let st = scheduler_stands_inside _ _ h c.self.view_is now_st in
    let runs = sym (c.may_run.ensures.value h st.tasks (c.at_barrier-waits.ensures.value h st.barriers)) ∙ c.if-may_run.true in
    run_then_free c.args.member c.args.task c.is_free.result h sealed runs (c.is_free.ensures h st.depends (run_is_open c.args.member c.args.task h runs))

pub returns-then-may_run-clause-may : goal.returns-then-may_run-clause-may
returns-then-may_run-clause-may c = λ h now_st sealed yes.
    let st = scheduler_stands_inside _ _ h c.self.view_is now_st in
    let runs = sym (c.may_run.ensures.value h st.tasks (c.at_barrier-waits.ensures.value h st.barriers)) ∙ c.if-may_run.true in
    let may = sym (run_then_free c.args.member c.args.task c.is_free.result h sealed runs (c.is_free.ensures h st.depends (run_is_open c.args.member c.args.task h runs))) ∙ yes in
    own_may_start c.args.self.now c.args.member c.args.task h now_st c.requires.member (c.requires.newest h now_st) (c.requires.undeferred h now_st) may

pub returns-else-may_run-clause-value : goal.returns-else-may_run-clause-value
returns-else-may_run-clause-value c = λ h now_st sealed.
    let st = scheduler_stands_inside _ _ h c.self.view_is now_st in
    c.if-may_run.false ∙ not_run c.args.member c.args.task h sealed (sym (c.may_run.ensures.value h st.tasks (c.at_barrier-waits.ensures.value h st.barriers)) ∙ c.if-may_run.false)
