use Rattle.std.proofs.Common.{Bool, ap, sym, ◌∙◌}
use Rattle.std.specs.Prelude.{not, ◌&&◌}
use Rattle.gomp_events.specs.Events.{barriers_passed, tag_at}
use Rattle.gomp_events.specs.Tags.{tag_differs}
use Rattle.gomp_scheduler.proofs.PartsKeep.{scheduler_stands_inside}
use Rattle.gomp_scheduler.proofs.scheduler.Scheduler.differs.Goals as goal

pub is_another_tag-requires : goal.is_another_tag-requires
is_another_tag-requires c = record { member = c.requires.member }

pub returns-then-not-cancelled : goal.returns-then-not-cancelled
returns-then-not-cancelled c = record {
  value = λ h now_st.
      let st = scheduler_stands_inside _ _ h c.self.view_is now_st in
      c.is_another_tag.ensures.value h now_st ∙ ap (λ (b : Bool). not b && tag_differs c.args.tag (tag_at (barriers_passed c.args.member h) h)) (sym c.if-not-cancelled.true ∙ c.is_cancelled-cancelled.ensures.value h st.cancelled);
}

pub returns-else-not-cancelled : goal.returns-else-not-cancelled
returns-else-not-cancelled c = record {
  value = λ h now_st.
      let st = scheduler_stands_inside _ _ h c.self.view_is now_st in
      ap (λ (b : Bool). not b) c.if-not-cancelled.false ∙ ap (λ (b : Bool). not b && tag_differs c.args.tag (tag_at (barriers_passed c.args.member h) h)) (sym c.if-not-cancelled.false ∙ c.is_cancelled-cancelled.ensures.value h st.cancelled);
}
