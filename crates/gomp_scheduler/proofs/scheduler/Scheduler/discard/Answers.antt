use Rattle.std.proofs.Common.{◌∷◌, ◌∙◌, refl, sym}
use Rattle.gomp_events.specs.declared.event.Event.TheVariants.{Discard}
use Rattle.gomp_scheduler.specs.Passed.{shown}
use Rattle.gomp_scheduler.specs.contracts.scheduler.Scheduler.{the_view}
use Rattle.gomp_scheduler.proofs.PartsKeep.{discard_inside, discard_of_groups, discard_releases, found_bare, freed_is_kept, parts_discarded, parts_discarded_bare, members_with, scheduler_with, scheduler_stands_inside}
use Rattle.gomp_scheduler.proofs.Startables.{unstarted_is_open}
use Rattle.gomp_scheduler.proofs.PassedOver.{discarded_passed, next_looked}
use Rattle.gomp_scheduler.proofs.scheduler.Scheduler.discard.Goals as goal

pub discard-requires-3 : goal.discard-requires-3
discard-requires-3 c =
    let (h, m, now_st, now_may, lent) = c.requires.may in let st = scheduler_stands_inside _ _ h c.self.view_is now_st in
    record { may = (h, c.args.task, st.barriers, discard_releases c.args.task c.is_odd-odd.result h now_may.unstarted (c.is_odd-odd.ensures.value h st.tasks)) }

pub discard-requires-then-not-is_empty-clause-open : goal.discard-requires-then-not-is_empty-clause-open
discard-requires-then-not-is_empty-clause-open c =
    let (h, m, now_st, now_may, lent) = c.requires.may in let st = scheduler_stands_inside _ _ h c.self.view_is now_st in
    (h, st.depends, unstarted_is_open c.args.task h now_may.unstarted, lent)

pub put_freed-requires-clause-kept : goal.put_freed-requires-clause-kept
put_freed-requires-clause-kept c =
    let t = c.args.task in let (h, m, now_st, now_may, lent) = c.requires.may in let st = scheduler_stands_inside _ _ h c.self.view_is now_st in
    let may = discard_inside _ _ t m h c.self.view_is now_may in let is = unstarted_is_open t h may.unstarted in
    freed_is_kept c.discard.new.self c.discard-then-not-is_empty.new.self (Discard t m) h (c.discard.ensures.stands h m st.tasks may) (c.discard-then-not-is_empty.ensures.stands h m st.depends is lent) (c.discard-then-not-is_empty.ensures.freed h m st.depends is lent)

pub invariant_of-self : goal.invariant_of-self
invariant_of-self c =
    let s = the_view c.self.inside in let t = c.args.task in let put = c.put_freed.ensures in
    let (h, m, now_st, now_may, lent) = c.requires.may in let st = scheduler_stands_inside _ _ h c.self.view_is now_st in
    let may = discard_inside _ _ t m h c.self.view_is now_may in let is = unstarted_is_open t h may.unstarted in
    let next = c.discard.ensures.stands h m st.tasks may in
    scheduler_with s _ _ (Discard t m ∷ h) (members_with s _ c.self.invariant.members c.discard.ensures.members c.discard-2.ensures.members c.discard-3.ensures.members put.members)
    (parts_discarded s c.discard.new.self c.discard-2.new.self c.discard-3.new.self c.discard-then-not-is_empty.new.self c.put_freed.new.depends (shown c.put_freed.new.ready) t m h next (c.discard-2.ensures.stands h m st.groups (discard_of_groups s t m h c.self.invariant.members may))
    (c.discard-3.ensures.stands h t m st.barriers (discard_releases t c.is_odd-odd.result h may.unstarted (c.is_odd-odd.ensures.value h st.tasks))) (put.stands (Discard t m ∷ h) (c.discard-then-not-is_empty.ensures.stands h m st.depends is lent))
    (c.discard-then-not-is_empty.ensures.freed h m st.depends is lent) (record { ids = put.ids (Discard t m ∷ h) next; once = put.once }) st) put.freed put.room
    (next_looked c.self.inside.tasks c.discard.new.self c.self.inside.ready c.put_freed.new.ready (Discard t m) h (put.members ∙ c.self.invariant.members.ready ∙ sym c.discard.ensures.members) st.tasks next put.members put.passed (discarded_passed c.self.inside.ready t m h) c.self.invariant.looked)

pub returns-then-not-is_empty-clause-stands : goal.returns-then-not-is_empty-clause-stands
returns-then-not-is_empty-clause-stands c = λ h m now_st now_may lent.
    let s = the_view c.self.inside in let t = c.args.task in let put = c.put_freed.ensures in
    let st = scheduler_stands_inside _ _ h c.self.view_is now_st in
    let may = discard_inside _ _ t m h c.self.view_is now_may in let is = unstarted_is_open t h may.unstarted in
    let next = c.discard.ensures.stands h m st.tasks may in
    parts_discarded s c.discard.new.self c.discard-2.new.self c.discard-3.new.self c.discard-then-not-is_empty.new.self c.put_freed.new.depends (shown c.put_freed.new.ready) t m h next (c.discard-2.ensures.stands h m st.groups (discard_of_groups s t m h c.self.invariant.members may))
    (c.discard-3.ensures.stands h t m st.barriers (discard_releases t c.is_odd-odd.result h may.unstarted (c.is_odd-odd.ensures.value h st.tasks))) (put.stands (Discard t m ∷ h) (c.discard-then-not-is_empty.ensures.stands h m st.depends is lent))
    (c.discard-then-not-is_empty.ensures.freed h m st.depends is lent) (record { ids = put.ids (Discard t m ∷ h) next; once = put.once }) st

pub invariant_of-self-else-not-is_empty : goal.invariant_of-self-else-not-is_empty
invariant_of-self-else-not-is_empty c =
    let s = the_view c.self.inside in let t = c.args.task in
    let (h, m, now_st, now_may, lent) = c.requires.may in let st = scheduler_stands_inside _ _ h c.self.view_is now_st in
    let may = discard_inside _ _ t m h c.self.view_is now_may in let is = unstarted_is_open t h may.unstarted in let bare = found_bare c.args.items.now _ c.is_empty.result lent c.is_empty.ensures c.if-not-is_empty.false in
    let next = c.discard.ensures.stands h m st.tasks may in
    scheduler_with s _ _ (Discard t m ∷ h) (members_with s _ c.self.invariant.members c.discard.ensures.members c.discard-2.ensures.members c.discard-3.ensures.members refl)
    (parts_discarded_bare s c.discard.new.self c.discard-2.new.self c.discard-3.new.self t m h c.self.invariant.freed is bare next (c.discard-2.ensures.stands h m st.groups (discard_of_groups s t m h c.self.invariant.members may))
    (c.discard-3.ensures.stands h t m st.barriers (discard_releases t c.is_odd-odd.result h may.unstarted (c.is_odd-odd.ensures.value h st.tasks))) st) c.self.invariant.freed c.self.invariant.waiting
    (next_looked c.self.inside.tasks c.discard.new.self c.self.inside.ready c.self.inside.ready (Discard t m) h (c.self.invariant.members.ready ∙ sym c.discard.ensures.members) st.tasks next refl refl (discarded_passed c.self.inside.ready t m h) c.self.invariant.looked)

pub returns-else-not-is_empty-clause-stands : goal.returns-else-not-is_empty-clause-stands
returns-else-not-is_empty-clause-stands c = λ h m now_st now_may lent.
    let s = the_view c.self.inside in let t = c.args.task in
    let st = scheduler_stands_inside _ _ h c.self.view_is now_st in
    let may = discard_inside _ _ t m h c.self.view_is now_may in let is = unstarted_is_open t h may.unstarted in let bare = found_bare c.args.items.now _ c.is_empty.result lent c.is_empty.ensures c.if-not-is_empty.false in
    let next = c.discard.ensures.stands h m st.tasks may in
    parts_discarded_bare s c.discard.new.self c.discard-2.new.self c.discard-3.new.self t m h c.self.invariant.freed is bare next (c.discard-2.ensures.stands h m st.groups (discard_of_groups s t m h c.self.invariant.members may))
    (c.discard-3.ensures.stands h t m st.barriers (discard_releases t c.is_odd-odd.result h may.unstarted (c.is_odd-odd.ensures.value h st.tasks))) st
