use Rattle.std.proofs.Common.{◌≡◌, Bool, Some, ap, sym, ◌∙◌}
use Rattle.std.specs.Prelude.{not}
use Rattle.gomp_events.specs.Tags.{tag_differs}
use Rattle.gomp_events.specs.Events.{barriers_passed, tag_at}
use Rattle.gomp_barrier.specs.declared.barriers.AtBarrier.{AtBarrier}
use Rattle.gomp_scheduler.proofs.PartsKeep.{scheduler_stands_inside, barrier_member, scheduler_member_inside}
use Rattle.gomp_scheduler.specs.contracts.scheduler.Scheduler.{the_view}
use Rattle.gomp_scheduler.proofs.scheduler.Scheduler.is_another_tag.Goals as goal

pub returns-in-Some : goal.returns-in-Some
returns-in-Some c = record {
  value = λ h now_st.
      let st = scheduler_stands_inside _ _ h c.self.view_is now_st in
      let seen = ap (λ (s : AtBarrier). s.tag) (c.look.ensures.value h st.barriers) in
      let at : tag_at (barriers_passed c.args.member h) h ≡ Some c.in-Some.other = sym seen ∙ c.in-Some.is in
      ap (λ (b : Bool). not b) c.is_same.ensures ∙ ap (tag_differs c.args.tag) (sym at);
}

pub look-requires : goal.look-requires
look-requires c = record { member = barrier_member (the_view c.self.inside) c.args.member c.self.invariant.members (scheduler_member_inside _ _ c.args.member c.self.view_is c.requires.member) }
