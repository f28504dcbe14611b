use Rattle.gomp_scheduler.proofs.PartsKeep.{scheduler_member_inside, scheduler_stands_inside}
use Rattle.gomp_scheduler.proofs.scheduler.Scheduler.current.Goals as goal

pub current-requires : goal.current-requires
current-requires c = record { member = scheduler_member_inside _ _ c.args.member c.self.view_is c.requires.member }

pub returns : goal.returns
returns c = record {
  value = λ h now_st. c.current.ensures.value h (scheduler_stands_inside _ _ h c.self.view_is now_st).tasks;
}
