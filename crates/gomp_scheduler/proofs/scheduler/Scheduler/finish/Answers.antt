use Rattle.std.proofs.Common.{◌∷◌, ◌∙◌, refl, sym}
use Rattle.gomp_events.specs.declared.event.Event.TheVariants.{Done}
use Rattle.gomp_scheduler.specs.Passed.{shown}
use Rattle.gomp_scheduler.specs.contracts.scheduler.Scheduler.{the_view}
use Rattle.gomp_scheduler.proofs.CurrentTasks.{end_releases, ended_is_executed, executed_is_open, executed_items_are, explicit_one_ends}
use Rattle.gomp_scheduler.proofs.PartsKeep.{found_bare, freed_is_kept, parts_ended, parts_ended_bare, group_member, scheduler_member_inside, members_with, scheduler_with, scheduler_stands_inside}
use Rattle.gomp_scheduler.proofs.PassedOver.{ended_passed, next_looked}
use Rattle.gomp_scheduler.proofs.scheduler.Scheduler.finish.Goals as goal

pub unreachable-requires : goal.unreachable-requires
unreachable-requires c =
    let (h, now_st, inside, lent) = c.requires.inside in let st = scheduler_stands_inside _ _ h c.self.view_is now_st in
    explicit_one_ends c.args.member c.finish.result h (c.finish.ensures.answer h st.tasks) c.in_default.is inside

pub release-requires : goal.release-requires
release-requires c =
    let m = c.args.member in let e = c.in-Some.ended in let (h, now_st, inside, lent) = c.requires.inside in let st = scheduler_stands_inside _ _ h c.self.view_is now_st in
    let current = ended_is_executed m c.finish.result e h (c.finish.ensures.answer h st.tasks) c.in-Some.is in
    record { may = (h, e.task, st.barriers, end_releases _ m e.task e.odd h st.tasks.rule current (c.in-Some.ensures.odd h st.tasks)) }

pub complete-requires-then-not-is_empty-clause-open : goal.complete-requires-then-not-is_empty-clause-open
complete-requires-then-not-is_empty-clause-open c =
    let m = c.args.member in let e = c.in-Some.ended in let (h, now_st, inside, lent) = c.requires.inside in let st = scheduler_stands_inside _ _ h c.self.view_is now_st in
    let current = ended_is_executed m c.finish.result e h (c.finish.ensures.answer h st.tasks) c.in-Some.is in
    (h, st.depends, executed_is_open _ m e.task h st.tasks.rule current, executed_items_are m e.task c.args.items.now h current lent)

pub put_freed-requires-clause-kept : goal.put_freed-requires-clause-kept
put_freed-requires-clause-kept c =
    let m = c.args.member in let e = c.in-Some.ended in let (h, now_st, inside, lent) = c.requires.inside in let st = scheduler_stands_inside _ _ h c.self.view_is now_st in
    let current = ended_is_executed m c.finish.result e h (c.finish.ensures.answer h st.tasks) c.in-Some.is in
    let is = executed_is_open _ m e.task h st.tasks.rule current in let items = executed_items_are m e.task c.args.items.now h current lent in
    freed_is_kept c.finish.new.self c.complete-then-not-is_empty.new.self (Done e.task m) h (c.finish.ensures.stands h e c.in-Some.is st.tasks) (c.complete-then-not-is_empty.ensures.stands h m st.depends is items) (c.complete-then-not-is_empty.ensures.freed h m st.depends is items)

pub invariant_of-self : goal.invariant_of-self
invariant_of-self c =
    let s = the_view c.self.inside in let m = c.args.member in let e = c.in-Some.ended in let has = c.self.invariant.members in let put = c.put_freed.ensures in
    let (h, now_st, inside, lent) = c.requires.inside in let st = scheduler_stands_inside _ _ h c.self.view_is now_st in
    let current = ended_is_executed m c.finish.result e h (c.finish.ensures.answer h st.tasks) c.in-Some.is in
    let is = executed_is_open _ m e.task h st.tasks.rule current in let items = executed_items_are m e.task c.args.items.now h current lent in
    let next = c.finish.ensures.stands h e c.in-Some.is st.tasks in
    let groups = c.complete.ensures.stands h m st.groups (record { member = group_member s m has (scheduler_member_inside _ _ m c.self.view_is c.requires.member); current = current }) in
    let barriers = c.release.ensures.stands h e.task m st.barriers (end_releases _ m e.task e.odd h st.tasks.rule current (c.in-Some.ensures.odd h st.tasks)) in
    scheduler_with s _ _ (Done e.task m ∷ h) (members_with s _ has c.finish.ensures.members c.complete.ensures.members c.release.ensures.members put.members)
    (parts_ended s c.finish.new.self c.complete.new.self c.release.new.self c.complete-then-not-is_empty.new.self c.put_freed.new.depends (shown c.put_freed.new.ready) e.task m h next groups barriers (put.stands (Done e.task m ∷ h) (c.complete-then-not-is_empty.ensures.stands h m st.depends is items))
    (c.complete-then-not-is_empty.ensures.freed h m st.depends is items) (record { ids = put.ids (Done e.task m ∷ h) next; once = put.once }) st) put.freed put.room
    (next_looked c.self.inside.tasks c.finish.new.self c.self.inside.ready c.put_freed.new.ready (Done e.task m) h (put.members ∙ has.ready ∙ sym c.finish.ensures.members) st.tasks next put.members put.passed (ended_passed c.self.inside.ready e.task m h) c.self.invariant.looked)

pub returns-then-not-is_empty-clause-stands : goal.returns-then-not-is_empty-clause-stands
returns-then-not-is_empty-clause-stands c = λ h now_st inside lent.
    let s = the_view c.self.inside in let m = c.args.member in let e = c.in-Some.ended in let has = c.self.invariant.members in let put = c.put_freed.ensures in
    let st = scheduler_stands_inside _ _ h c.self.view_is now_st in
    let current = ended_is_executed m c.finish.result e h (c.finish.ensures.answer h st.tasks) c.in-Some.is in
    let is = executed_is_open _ m e.task h st.tasks.rule current in let items = executed_items_are m e.task c.args.items.now h current lent in
    let next = c.finish.ensures.stands h e c.in-Some.is st.tasks in
    let groups = c.complete.ensures.stands h m st.groups (record { member = group_member s m has (scheduler_member_inside _ _ m c.self.view_is c.requires.member); current = current }) in
    let barriers = c.release.ensures.stands h e.task m st.barriers (end_releases _ m e.task e.odd h st.tasks.rule current (c.in-Some.ensures.odd h st.tasks)) in
    parts_ended s c.finish.new.self c.complete.new.self c.release.new.self c.complete-then-not-is_empty.new.self c.put_freed.new.depends (shown c.put_freed.new.ready) e.task m h next groups barriers (put.stands (Done e.task m ∷ h) (c.complete-then-not-is_empty.ensures.stands h m st.depends is items))
    (c.complete-then-not-is_empty.ensures.freed h m st.depends is items) (record { ids = put.ids (Done e.task m ∷ h) next; once = put.once }) st

pub invariant_of-self-else-not-is_empty : goal.invariant_of-self-else-not-is_empty
invariant_of-self-else-not-is_empty c =
    let s = the_view c.self.inside in let m = c.args.member in let e = c.in-Some.ended in let has = c.self.invariant.members in
    let (h, now_st, inside, lent) = c.requires.inside in let st = scheduler_stands_inside _ _ h c.self.view_is now_st in
    let current = ended_is_executed m c.finish.result e h (c.finish.ensures.answer h st.tasks) c.in-Some.is in
    let is = executed_is_open _ m e.task h st.tasks.rule current in let bare = found_bare c.args.items.now _ c.is_empty.result (executed_items_are m e.task c.args.items.now h current lent) c.is_empty.ensures c.if-not-is_empty.false in
    let next = c.finish.ensures.stands h e c.in-Some.is st.tasks in
    let groups = c.complete.ensures.stands h m st.groups (record { member = group_member s m has (scheduler_member_inside _ _ m c.self.view_is c.requires.member); current = current }) in
    let barriers = c.release.ensures.stands h e.task m st.barriers (end_releases _ m e.task e.odd h st.tasks.rule current (c.in-Some.ensures.odd h st.tasks)) in
    scheduler_with s _ _ (Done e.task m ∷ h) (members_with s _ has c.finish.ensures.members c.complete.ensures.members c.release.ensures.members refl)
    (parts_ended_bare s c.finish.new.self c.complete.new.self c.release.new.self e.task m h c.self.invariant.freed is bare next groups barriers st) c.self.invariant.freed c.self.invariant.waiting
    (next_looked c.self.inside.tasks c.finish.new.self c.self.inside.ready c.self.inside.ready (Done e.task m) h (has.ready ∙ sym c.finish.ensures.members) st.tasks next refl refl (ended_passed c.self.inside.ready e.task m h) c.self.invariant.looked)

pub returns-else-not-is_empty-clause-stands : goal.returns-else-not-is_empty-clause-stands
returns-else-not-is_empty-clause-stands c = λ h now_st inside lent.
    let s = the_view c.self.inside in let m = c.args.member in let e = c.in-Some.ended in let has = c.self.invariant.members in
    let st = scheduler_stands_inside _ _ h c.self.view_is now_st in
    let current = ended_is_executed m c.finish.result e h (c.finish.ensures.answer h st.tasks) c.in-Some.is in
    let is = executed_is_open _ m e.task h st.tasks.rule current in let bare = found_bare c.args.items.now _ c.is_empty.result (executed_items_are m e.task c.args.items.now h current lent) c.is_empty.ensures c.if-not-is_empty.false in
    let next = c.finish.ensures.stands h e c.in-Some.is st.tasks in
    let groups = c.complete.ensures.stands h m st.groups (record { member = group_member s m has (scheduler_member_inside _ _ m c.self.view_is c.requires.member); current = current }) in
    let barriers = c.release.ensures.stands h e.task m st.barriers (end_releases _ m e.task e.odd h st.tasks.rule current (c.in-Some.ensures.odd h st.tasks)) in
    parts_ended_bare s c.finish.new.self c.complete.new.self c.release.new.self e.task m h c.self.invariant.freed is bare next groups barriers st

pub returns-then-not-is_empty-clause-task : goal.returns-then-not-is_empty-clause-task
returns-then-not-is_empty-clause-task c = λ h now_st inside lent.
    let st = scheduler_stands_inside _ _ h c.self.view_is now_st in
    ended_is_executed c.args.member c.finish.result c.in-Some.ended h (c.finish.ensures.answer h st.tasks) c.in-Some.is

pub returns-then-not-is_empty-clause-undeferred : goal.returns-then-not-is_empty-clause-undeferred
returns-then-not-is_empty-clause-undeferred c = λ h now_st inside lent. c.in-Some.ensures.undeferred h (scheduler_stands_inside _ _ h c.self.view_is now_st).tasks

pub returns-then-not-is_empty-clause-odd : goal.returns-then-not-is_empty-clause-odd
returns-then-not-is_empty-clause-odd c = λ h now_st inside lent. c.in-Some.ensures.odd h (scheduler_stands_inside _ _ h c.self.view_is now_st).tasks

pub returns-else-not-is_empty-clause-task : goal.returns-else-not-is_empty-clause-task
returns-else-not-is_empty-clause-task c = λ h now_st inside lent.
    let st = scheduler_stands_inside _ _ h c.self.view_is now_st in
    ended_is_executed c.args.member c.finish.result c.in-Some.ended h (c.finish.ensures.answer h st.tasks) c.in-Some.is

pub returns-else-not-is_empty-clause-undeferred : goal.returns-else-not-is_empty-clause-undeferred
returns-else-not-is_empty-clause-undeferred c = λ h now_st inside lent. c.in-Some.ensures.undeferred h (scheduler_stands_inside _ _ h c.self.view_is now_st).tasks

pub returns-else-not-is_empty-clause-odd : goal.returns-else-not-is_empty-clause-odd
returns-else-not-is_empty-clause-odd c = λ h now_st inside lent. c.in-Some.ensures.odd h (scheduler_stands_inside _ _ h c.self.view_is now_st).tasks
