use Rattle.gomp_scheduler.specs.contracts.scheduler.Scheduler.{the_view}
use Rattle.gomp_scheduler.proofs.PartsKeep.{current_is_seated, scheduler_member_inside}
use Rattle.gomp_scheduler.proofs.scheduler.Scheduler.last_group_is_done.Goals as goal

pub last_open-requires : goal.last_open-requires
last_open-requires c =
    let s = the_view c.self.inside in let m = c.args.member in let (h, st) = c.self.invariant.known in
    record { seated = current_is_seated s m c.current.result h c.self.invariant.members st (scheduler_member_inside _ _ m c.self.view_is c.requires.member) (c.current.ensures.value h st.tasks) }

pub current-requires : goal.current-requires
current-requires c = record { member = scheduler_member_inside _ _ c.args.member c.self.view_is c.requires.member }
