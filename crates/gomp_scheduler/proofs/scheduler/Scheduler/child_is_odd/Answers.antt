use Rattle.std.proofs.Common.{ap, sym, ◌∙◌}
use Rattle.gomp_types.specs.declared.task.Task.{Task}
use Rattle.gomp_events.specs.Tasks.{is_odd, epoch_of_child}
use Rattle.gomp_scheduler.specs.contracts.scheduler.Scheduler.{the_view}
use Rattle.gomp_scheduler.proofs.CurrentTasks.{implicit_epoch}
use Rattle.gomp_scheduler.proofs.PartsKeep.{barrier_member, scheduler_member_inside, scheduler_stands_inside}
use Rattle.gomp_scheduler.proofs.scheduler.Scheduler.child_is_odd.Goals as goal

pub is_odd-requires : goal.is_odd-requires
is_odd-requires c = record { member = barrier_member (the_view c.self.inside) c.args.member c.self.invariant.members (scheduler_member_inside _ _ c.args.member c.self.view_is c.requires.member) }

pub returns-in-Implicit : goal.returns-in-Implicit
returns-in-Implicit c = record {
  value = λ h now_st current.
      let st = scheduler_stands_inside _ _ h c.self.view_is now_st in
      c.is_odd.ensures.value h st.barriers ∙ ap is_odd (implicit_epoch c.args.member _ c.args.parent h c.in-Implicit.is current);
}

pub returns-in-Explicit : goal.returns-in-Explicit
returns-in-Explicit c = record {
  value = λ h now_st current.
      let st = scheduler_stands_inside _ _ h c.self.view_is now_st in
      c.is_odd-in-Explicit.ensures.value h st.tasks ∙ ap (λ (p : Task). is_odd (epoch_of_child p h)) (sym c.in-Explicit.is);
}
