use Rattle.std.proofs.Common.{sym, ap, ◌∙◌}
use Rattle.gomp_types.specs.declared.task.Task.{Task}
use Rattle.gomp_events.specs.Goals.{taskwait_met}
use Rattle.gomp_scheduler.specs.contracts.scheduler.Scheduler.{the_view}
use Rattle.gomp_scheduler.proofs.Startables.{met_without, met_with}
use Rattle.gomp_scheduler.proofs.PartsKeep.{current_is_seated, scheduler_member_inside, scheduler_stands_inside}
use Rattle.gomp_scheduler.proofs.scheduler.Scheduler.children_done.Goals as goal

pub children_done-requires : goal.children_done-requires
children_done-requires c =
    let s = the_view c.self.inside in let m = c.args.member in let (h, st) = c.self.invariant.known in
    record { seated = current_is_seated s m c.current-task.result h c.self.invariant.members st (scheduler_member_inside _ _ m c.self.view_is c.requires.member) (c.current-task.ensures.value h st.tasks) }

pub returns-then-is_empty : goal.returns-then-is_empty
returns-then-is_empty c = record {
  value = λ h now_st.
      let st = scheduler_stands_inside _ _ h c.self.view_is now_st in
      let empty = sym c.is_empty.ensures ∙ c.if-is_empty.true in
      c.children_done.ensures.value h st.groups ∙ met_without c.current-task.result c.args.items.now h empty ∙ ap (λ (p : Task). taskwait_met p c.args.items.now h) (c.current-task.ensures.value h st.tasks);
}

pub returns-else-is_empty : goal.returns-else-is_empty
returns-else-is_empty c = record {
  value = λ h now_st.
      let st = scheduler_stands_inside _ _ h c.self.view_is now_st in
      let some = sym c.is_empty.ensures ∙ c.if-is_empty.false in
      c.are_named_done.ensures h st.depends ∙ met_with c.current-task.result c.args.items.now h some ∙ ap (λ (p : Task). taskwait_met p c.args.items.now h) (c.current-task.ensures.value h st.tasks);
}
