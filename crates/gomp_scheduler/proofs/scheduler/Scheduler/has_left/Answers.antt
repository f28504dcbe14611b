use Rattle.gomp_scheduler.specs.contracts.scheduler.Scheduler.{the_view}
use Rattle.gomp_scheduler.proofs.PartsKeep.{barrier_member, scheduler_member_inside, scheduler_stands_inside}
use Rattle.gomp_scheduler.proofs.scheduler.Scheduler.has_left.Goals as goal

pub has_left-requires : goal.has_left-requires
has_left-requires c = record { member = barrier_member (the_view c.self.inside) c.args.member c.self.invariant.members (scheduler_member_inside _ _ c.args.member c.self.view_is c.requires.member) }

pub returns : goal.returns
returns c = record {
  value = λ h now_st. c.has_left.ensures.value h (scheduler_stands_inside _ _ h c.self.view_is now_st).barriers;
}
