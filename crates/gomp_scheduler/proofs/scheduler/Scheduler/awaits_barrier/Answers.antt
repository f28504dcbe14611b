use Rattle.std.proofs.Common.{Bool, ap, sym, ◌∙◌}
use Rattle.std.specs.Prelude.{not, ◌&&◌}
use Rattle.gomp_events.specs.Tasks.{in_task}
use Rattle.gomp_scheduler.specs.contracts.scheduler.Scheduler.{the_view}
use Rattle.gomp_scheduler.proofs.PartsKeep.{barrier_member, scheduler_member_inside, scheduler_stands_inside}
use Rattle.gomp_scheduler.proofs.scheduler.Scheduler.awaits_barrier.Goals as goal

pub at_barrier-waits-requires : goal.at_barrier-waits-requires
at_barrier-waits-requires c = record { member = barrier_member (the_view c.self.inside) c.args.member c.self.invariant.members (scheduler_member_inside _ _ c.args.member c.self.view_is c.requires.member) }

pub in_task-requires : goal.in_task-requires
in_task-requires c = record { member = c.requires.member }

pub returns-then-waits : goal.returns-then-waits
returns-then-waits c = record {
  value = λ h now_st.
      let st = scheduler_stands_inside _ _ h c.self.view_is now_st in
      ap (λ (b : Bool). not b) (c.in_task.ensures.value h now_st) ∙ ap (λ (b : Bool). b && not (in_task c.args.member h)) (sym c.if-waits.true ∙ c.at_barrier-waits.ensures.value h st.barriers);
}

pub returns-else-waits : goal.returns-else-waits
returns-else-waits c = record {
  value = λ h now_st.
      let st = scheduler_stands_inside _ _ h c.self.view_is now_st in
      c.if-waits.false ∙ ap (λ (b : Bool). b && not (in_task c.args.member h)) (sym c.if-waits.false ∙ c.at_barrier-waits.ensures.value h st.barriers);
}
