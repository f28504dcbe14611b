use Rattle.std.proofs.Common.{sym}
use Rattle.gomp_events.proofs.ArrivalsKeep.{same_arrivals}
use Rattle.gomp_events.proofs.EndsPassed.{comes_to_end}
use Rattle.gomp_barrier.specs.Stands.{barrier_members}
use Rattle.gomp_scheduler.proofs.PartsKeep.{scheduler_stands_inside, barrier_member, scheduler_member_inside}
use Rattle.gomp_scheduler.specs.contracts.scheduler.Scheduler.{the_view}
use Rattle.gomp_scheduler.proofs.scheduler.Scheduler.has_come_to_end.Goals as goal

pub returns : goal.returns
returns c = record {
  value = λ h now_st.
      let st = scheduler_stands_inside _ _ h c.self.view_is now_st in
      let seen = c.look.ensures.value h st.barriers in
      rw (c.is_at_end.ensures, seen) (sym (comes_to_end c.args.member h (same_arrivals (barrier_members c.self.inside.barriers) h st.barriers.rule)));
}

pub look-requires : goal.look-requires
look-requires c = record { member = barrier_member (the_view c.self.inside) c.args.member c.self.invariant.members (scheduler_member_inside _ _ c.args.member c.self.view_is c.requires.member) }
