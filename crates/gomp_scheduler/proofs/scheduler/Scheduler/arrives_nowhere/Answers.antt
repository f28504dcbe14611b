use Rattle.std.proofs.Common.{Bool, ap, sym, ◌∙◌}
use Rattle.std.specs.Prelude.{not, ◌&&◌}
use Rattle.gomp_events.specs.Events.{is_region_end}
use Rattle.gomp_scheduler.proofs.PartsKeep.{scheduler_stands_inside}
use Rattle.gomp_scheduler.proofs.scheduler.Scheduler.arrives_nowhere.Goals as goal

pub returns-then-cancelled : goal.returns-then-cancelled
returns-then-cancelled c = record {
  value = λ h now_st.
      let st = scheduler_stands_inside _ _ h c.self.view_is now_st in
      ap (λ (b : Bool). not b) c.ends_region.ensures ∙ ap (λ (b : Bool). b && not (is_region_end c.args.kind)) (sym c.if-cancelled.true ∙ c.is_cancelled-cancelled.ensures.value h st.cancelled);
}

pub returns-else-cancelled : goal.returns-else-cancelled
returns-else-cancelled c = record {
  value = λ h now_st.
      let st = scheduler_stands_inside _ _ h c.self.view_is now_st in
      c.if-cancelled.false ∙ ap (λ (b : Bool). b && not (is_region_end c.args.kind)) (sym c.if-cancelled.false ∙ c.is_cancelled-cancelled.ensures.value h st.cancelled);
}
