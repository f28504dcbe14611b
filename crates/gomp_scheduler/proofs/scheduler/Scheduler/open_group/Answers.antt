use Rattle.std.proofs.Common.{◌∷◌, refl, sym}
use Rattle.gomp_events.specs.declared.event.Event.TheVariants.{Group}
use Rattle.gomp_scheduler.specs.contracts.scheduler.Scheduler.{the_view}
use Rattle.gomp_scheduler.proofs.PartsKeep.{group_member, scheduler_member_inside, members_with, parts_opened, scheduler_with, scheduler_stands_inside}
use Rattle.gomp_scheduler.proofs.scheduler.Scheduler.open_group.Goals as goal

pub invariant_of-self : goal.invariant_of-self
invariant_of-self c =
    let s = the_view c.self.inside in let m = c.args.member in let (h, st) = c.self.invariant.known in
    let low = scheduler_member_inside _ _ m c.self.view_is c.requires.member in
    let next = c.open-group.ensures.stands h m st.groups (record { member = group_member s m c.self.invariant.members low; current = sym (c.current-task.ensures.value h st.tasks) }) in
    scheduler_with s _ _ (Group c.open-group.result m ∷ h) (members_with s _ c.self.invariant.members refl c.open-group.ensures.members refl refl)
    (parts_opened s c.open-group.new.self c.open.new.self c.open-group.result m h low (c.open-group.ensures.number h st.groups) next (c.open.ensures.stands h c.open-group.result m st.cancelled) st)
    c.self.invariant.freed c.self.invariant.waiting c.self.invariant.looked

pub returns-clause-stands : goal.returns-clause-stands
returns-clause-stands c = λ h now_st.
    let s = the_view c.self.inside in let m = c.args.member in let st = scheduler_stands_inside _ _ h c.self.view_is now_st in
    let low = scheduler_member_inside _ _ m c.self.view_is c.requires.member in
    let next = c.open-group.ensures.stands h m st.groups (record { member = group_member s m c.self.invariant.members low; current = sym (c.current-task.ensures.value h st.tasks) }) in
    parts_opened s c.open-group.new.self c.open.new.self c.open-group.result m h low (c.open-group.ensures.number h st.groups) next (c.open.ensures.stands h c.open-group.result m st.cancelled) st
