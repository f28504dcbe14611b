use Rattle.gomp_scheduler.specs.contracts.scheduler.Scheduler.{the_view}
use Rattle.gomp_scheduler.proofs.PartsKeep.{current_is_seated, scheduler_member_inside, found_has_mark}
use Rattle.gomp_scheduler.proofs.scheduler.Scheduler.innermost_group.Goals as goal

pub innermost_around-requires : goal.innermost_around-requires
innermost_around-requires c =
    let s = the_view c.self.inside in let m = c.args.member in let (h, st) = c.self.invariant.known in
    record { seated = current_is_seated s m c.current.result h c.self.invariant.members st (scheduler_member_inside _ _ m c.self.view_is c.requires.member) (c.current.ensures.value h st.tasks) }

pub returns-clause-opened : goal.returns-clause-opened
returns-clause-opened c = let (h, st) = c.self.invariant.known in found_has_mark (the_view c.self.inside) _ h c.innermost_around.result c.self.view_is st c.innermost_around.ensures.opened

pub current-requires : goal.current-requires
current-requires c = record { member = scheduler_member_inside _ _ c.args.member c.self.view_is c.requires.member }
