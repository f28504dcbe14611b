use Rattle.std.proofs.Common.{refl}
use Rattle.gomp_scheduler.specs.contracts.scheduler.Scheduler.{the_view}
use Rattle.gomp_scheduler.proofs.PartsKeep.{parts_arrived, members_with, scheduler_with, scheduler_stands_inside}
use Rattle.gomp_scheduler.proofs.scheduler.Scheduler.arrive.Goals as goal

pub invariant_of-self : goal.invariant_of-self
invariant_of-self c =
    let s = the_view c.self.inside in let (h, st) = c.self.invariant.known in
    scheduler_with s _ _ _ (members_with s _ c.self.invariant.members refl refl c.arrive.ensures.members refl) (parts_arrived s c.arrive.new.self c.arrive.result c.args.member c.args.tag h (c.arrive.ensures.stands h st.barriers) st)
    c.self.invariant.freed c.self.invariant.waiting c.self.invariant.looked

pub returns-clause-stands : goal.returns-clause-stands
returns-clause-stands c = λ h now_st.
    let s = the_view c.self.inside in let st = scheduler_stands_inside _ _ h c.self.view_is now_st in
    parts_arrived s c.arrive.new.self c.arrive.result c.args.member c.args.tag h (c.arrive.ensures.stands h st.barriers) st

pub returns-clause-answer : goal.returns-clause-answer
returns-clause-answer c = λ h now_st. c.arrive.ensures.answer h (scheduler_stands_inside _ _ h c.self.view_is now_st).barriers
