use Rattle.std.proofs.Common.{true, ap, sym, ◌∙◌}
use Rattle.gomp_types.specs.declared.task.Task.{Task}
use Rattle.gomp_events.specs.Tasks.{of_explicit}
use Rattle.gomp_scheduler.proofs.PartsKeep.{scheduler_member_inside, scheduler_stands_inside}
use Rattle.gomp_scheduler.proofs.scheduler.Scheduler.in_task.Goals as goal

pub current-requires : goal.current-requires
current-requires c = record { member = scheduler_member_inside _ _ c.args.member c.self.view_is c.requires.member }

pub returns-in-Implicit : goal.returns-in-Implicit
returns-in-Implicit c = record {
  value = λ h now_st.
      let st = scheduler_stands_inside _ _ h c.self.view_is now_st in
      ap (λ (p : Task). of_explicit (λ t. true) p) (sym c.in-Implicit.is ∙ c.current.ensures.value h st.tasks);
}

pub returns-in-Explicit : goal.returns-in-Explicit
returns-in-Explicit c = record {
  value = λ h now_st.
      let st = scheduler_stands_inside _ _ h c.self.view_is now_st in
      ap (λ (p : Task). of_explicit (λ t. true) p) (sym c.in-Explicit.is ∙ c.current.ensures.value h st.tasks);
}
