use Rattle.gomp_scheduler.specs.contracts.scheduler.Scheduler.{the_view}
use Rattle.gomp_scheduler.proofs.PartsKeep.{grown_by_a_group, grown_outside, scheduler_grown}
use Rattle.gomp_scheduler.proofs.scheduler.Scheduler.reserve_group.Goals as goal

pub invariant_of-self : goal.invariant_of-self
invariant_of-self c =
    let s = the_view c.self.inside in
    scheduler_grown s _ _ _ c.self.invariant (grown_by_a_group s c.make_group_room.new.groups c.make_group_room.new.cancelled c.self.invariant.members c.make_group_room.ensures.groups c.make_group_room.ensures.cancelled) c.self.invariant.freed c.self.invariant.waiting c.self.invariant.looked

pub returns-clause-same : goal.returns-clause-same
returns-clause-same c =
    let s = the_view c.self.inside in
    grown_outside _ _ _ c.self.view_is (grown_by_a_group s c.make_group_room.new.groups c.make_group_room.new.cancelled c.self.invariant.members c.make_group_room.ensures.groups c.make_group_room.ensures.cancelled)
