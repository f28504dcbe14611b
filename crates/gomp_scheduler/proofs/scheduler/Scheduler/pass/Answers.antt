use Rattle.std.proofs.Common.{◌≡◌, refl, ap, ◌∙◌}
use Rattle.gomp_barrier.specs.Stands.{barrier_members}
use Rattle.gomp_scheduler.specs.Schedulers.{SchedulerView, scheduler_members}
use Rattle.gomp_scheduler.specs.contracts.scheduler.Scheduler.{the_view}
use Rattle.gomp_scheduler.proofs.PartsKeep.{members_with, parts_passed, scheduler_with, scheduler_stands_inside}
use Rattle.gomp_scheduler.proofs.scheduler.Scheduler.pass.Goals as goal

pub invariant_of-self : goal.invariant_of-self
invariant_of-self c =
    let s = the_view c.self.inside in let (h, st) = c.self.invariant.known in
    scheduler_with s _ _ _ (members_with s _ c.self.invariant.members refl refl c.turn.ensures.members refl) (parts_passed s c.turn.new.self c.turn.result c.args.member h (c.turn.ensures.stands h st.barriers) st)
    c.self.invariant.freed c.self.invariant.waiting c.self.invariant.looked

pub returns-clause-stands : goal.returns-clause-stands
returns-clause-stands c = λ h now_st.
    let s = the_view c.self.inside in let st = scheduler_stands_inside _ _ h c.self.view_is now_st in
    parts_passed s c.turn.new.self c.turn.result c.args.member h (c.turn.ensures.stands h st.barriers) st

pub returns-clause-answer : goal.returns-clause-answer
returns-clause-answer c = λ h now_st.
    let size : barrier_members c.self.inside.barriers ≡ scheduler_members c.args.self.now = c.self.invariant.members.barriers ∙ ap (λ (s : SchedulerView). scheduler_members s) c.self.view_is in
    rw (← size) (c.turn.ensures.answer h (scheduler_stands_inside _ _ h c.self.view_is now_st).barriers)
