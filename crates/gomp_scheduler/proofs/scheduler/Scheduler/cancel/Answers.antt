use Rattle.std.proofs.Common.{◌∷◌, refl}
use Rattle.gomp_events.specs.declared.event.Event.TheVariants.{Cancel}
use Rattle.gomp_scheduler.specs.contracts.scheduler.Scheduler.{the_view}
use Rattle.gomp_scheduler.proofs.PartsKeep.{parts_marked, members_with, scheduler_with, scheduler_stands_inside}
use Rattle.gomp_scheduler.proofs.scheduler.Scheduler.cancel.Goals as goal

pub invariant_of-self : goal.invariant_of-self
invariant_of-self c =
    let s = the_view c.self.inside in let (h, st) = c.self.invariant.known in
    scheduler_with s _ _ (Cancel 0 c.args.scope ∷ h) (members_with s _ c.self.invariant.members refl refl c.mark_cancelled.ensures.members refl)
    (parts_marked s c.mark_cancelled.new.cancelled c.mark_cancelled.new.barriers 0 c.args.scope h (c.mark_cancelled.ensures.cancelled h 0 st.cancelled) (c.mark_cancelled.ensures.barriers h 0 st.barriers) st)
    c.self.invariant.freed c.self.invariant.waiting c.self.invariant.looked

pub returns-clause-stands : goal.returns-clause-stands
returns-clause-stands c = λ h m now_st.
    let s = the_view c.self.inside in let st = scheduler_stands_inside _ _ h c.self.view_is now_st in
    parts_marked s c.mark_cancelled.new.cancelled c.mark_cancelled.new.barriers m c.args.scope h (c.mark_cancelled.ensures.cancelled h m st.cancelled) (c.mark_cancelled.ensures.barriers h m st.barriers) st
