use Rattle.std.proofs.Common.{◌∷◌, refl, sym, ◌∙◌}
use Rattle.gomp_events.specs.declared.event.Event.TheVariants.{GroupEnd}
use Rattle.gomp_scheduler.specs.contracts.scheduler.Scheduler.{the_view}
use Rattle.gomp_scheduler.proofs.PartsKeep.{current_is_seated, parts_closed, group_member, last_found, may_end_group, scheduler_member_inside, members_with, never_closed_without_group, scheduler_with, scheduler_stands_inside}
use Rattle.gomp_scheduler.proofs.scheduler.Scheduler.close_group.Goals as goal

pub unreachable-requires : goal.unreachable-requires
unreachable-requires c =
    let (h, now_st, done) = c.requires.done in let st = scheduler_stands_inside _ _ h c.self.view_is now_st in
    never_closed_without_group c.args.member c.current-task.result c.last_open.result h (c.current-task.ensures.value h st.tasks) (c.last_open.ensures.value h st.groups) c.in_default.is done

pub last_open-requires : goal.last_open-requires
last_open-requires c =
    let s = the_view c.self.inside in let m = c.args.member in let (h, now_st, done) = c.requires.done in let st = scheduler_stands_inside _ _ h c.self.view_is now_st in
    record { seated = current_is_seated s m c.current-task.result h c.self.invariant.members st (scheduler_member_inside _ _ m c.self.view_is c.requires.member) (c.current-task.ensures.value h st.tasks) }

pub close-requires : goal.close-requires
close-requires c =
    let s = the_view c.self.inside in let m = c.args.member in let (h, now_st, done) = c.requires.done in let st = scheduler_stands_inside _ _ h c.self.view_is now_st in
    let low = scheduler_member_inside _ _ m c.self.view_is c.requires.member in let current = c.current-task.ensures.value h st.tasks in
    let first = last_found m c.current-task.result c.last_open.result h current (c.last_open.ensures.value h st.groups) ∙ c.in-Some.is in
    record { may = (h, c.in-Some.group, m, st.groups, record { current = sym current; rule = may_end_group _ m c.in-Some.group h (group_member s m c.self.invariant.members low) first done }) }

pub invariant_of-self : goal.invariant_of-self
invariant_of-self c =
    let s = the_view c.self.inside in let m = c.args.member in let q = c.in-Some.group in let (h, now_st, done) = c.requires.done in let st = scheduler_stands_inside _ _ h c.self.view_is now_st in
    let low = scheduler_member_inside _ _ m c.self.view_is c.requires.member in let current = c.current-task.ensures.value h st.tasks in
    let first = last_found m c.current-task.result c.last_open.result h current (c.last_open.ensures.value h st.groups) ∙ c.in-Some.is in
    let next = c.close.ensures.stands h q m st.groups (record { current = sym current; rule = may_end_group _ m q h (group_member s m c.self.invariant.members low) first done }) in
    scheduler_with s _ _ (GroupEnd q m ∷ h) (members_with s _ c.self.invariant.members refl c.close.ensures.members refl refl) (parts_closed s c.close.new.self q m h (may_end_group _ m q h low first done) next st)
    c.self.invariant.freed c.self.invariant.waiting c.self.invariant.looked

pub returns-clause-stands : goal.returns-clause-stands
returns-clause-stands c = λ h now_st done.
    let s = the_view c.self.inside in let m = c.args.member in let q = c.in-Some.group in let st = scheduler_stands_inside _ _ h c.self.view_is now_st in
    let low = scheduler_member_inside _ _ m c.self.view_is c.requires.member in let current = c.current-task.ensures.value h st.tasks in
    let first = last_found m c.current-task.result c.last_open.result h current (c.last_open.ensures.value h st.groups) ∙ c.in-Some.is in
    let next = c.close.ensures.stands h q m st.groups (record { current = sym current; rule = may_end_group _ m q h (group_member s m c.self.invariant.members low) first done }) in
    parts_closed s c.close.new.self q m h (may_end_group _ m q h low first done) next st

pub returns-clause-group : goal.returns-clause-group
returns-clause-group c = λ h now_st.
    let st = scheduler_stands_inside _ _ h c.self.view_is now_st in
    last_found c.args.member c.current-task.result c.last_open.result h (c.current-task.ensures.value h st.tasks) (c.last_open.ensures.value h st.groups) ∙ c.in-Some.is
