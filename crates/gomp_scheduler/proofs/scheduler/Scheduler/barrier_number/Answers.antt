use Rattle.gomp_scheduler.specs.contracts.scheduler.Scheduler.{the_view}
use Rattle.gomp_scheduler.proofs.PartsKeep.{barrier_member, scheduler_member_inside, scheduler_stands_inside}
use Rattle.gomp_scheduler.proofs.scheduler.Scheduler.barrier_number.Goals as goal

pub number-requires : goal.number-requires
number-requires c = record { member = barrier_member (the_view c.self.inside) c.args.member c.self.invariant.members (scheduler_member_inside _ _ c.args.member c.self.view_is c.requires.member) }

pub returns : goal.returns
returns c = record {
  value = λ h now_st. c.number.ensures.value h (scheduler_stands_inside _ _ h c.self.view_is now_st).barriers;
}
