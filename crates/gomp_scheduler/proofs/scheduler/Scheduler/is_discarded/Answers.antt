use Rattle.std.proofs.Common.{sym, ◌∙◌}
use Rattle.gomp_scheduler.specs.contracts.scheduler.Scheduler.{the_view}
use Rattle.gomp_scheduler.proofs.Startables.{started_is_not_discarded, then_covered}
use Rattle.gomp_scheduler.proofs.PartsKeep.{groups_have_marks, unstarted_is_seated, scheduler_stands_inside}
use Rattle.gomp_scheduler.proofs.scheduler.Scheduler.is_discarded.Goals as goal

pub is_covered-requires : goal.is_covered-requires
is_covered-requires c =
    let s = the_view c.self.inside in let (h, st) = c.self.invariant.known in
    record { seated = unstarted_is_seated s c.args.task h st (sym (c.is_unstarted.ensures.value h st.tasks) ∙ c.if-not-is_unstarted.false); marks = groups_have_marks s h st }

pub returns-then-not-is_unstarted : goal.returns-then-not-is_unstarted
returns-then-not-is_unstarted c = record { value = λ h now_st. started_is_not_discarded c.args.task h (sym (c.is_unstarted.ensures.value h (scheduler_stands_inside _ _ h c.self.view_is now_st).tasks) ∙ c.if-not-is_unstarted.true) }

pub returns : goal.returns
returns c = record {
  value = λ h now_st.
      let st = scheduler_stands_inside _ _ h c.self.view_is now_st in
      then_covered c.args.task _ h (sym (c.is_unstarted.ensures.value h st.tasks) ∙ c.if-not-is_unstarted.false) (c.is_covered.ensures.value h st.cancelled st.groups);
}
