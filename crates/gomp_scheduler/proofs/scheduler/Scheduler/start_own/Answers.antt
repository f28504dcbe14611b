use Rattle.std.proofs.Common.{◌≡◌, ◌+◌, ◌∷◌, ◌∙◌, length, refl, ap, sym, arith}
use Rattle.gomp_events.specs.declared.event.Event.TheVariants.{Start}
use Rattle.gomp_events.specs.Tasks.{task_stack}
use Rattle.gomp_ready.specs.Ready.{ReadyView}
use Rattle.gomp_scheduler.specs.Passed.{shown}
use Rattle.gomp_scheduler.specs.contracts.scheduler.Scheduler.{the_view}
use Rattle.gomp_scheduler.proofs.PartsKeep.{members_with, own_inside, own_entered, own_room, scheduler_with, scheduler_stands_inside}
use Rattle.gomp_scheduler.proofs.PassedOver.{level_is_entered, ready_is_created, startable_is_unstarted, started_looked}
use Rattle.gomp_scheduler.proofs.scheduler.Scheduler.start_own.Goals as goal

pub invariant_of-self : goal.invariant_of-self
invariant_of-self c =
    let s = the_view c.self.inside in let m = c.args.member in let t = c.args.task in let is = c.self.invariant in
    let (h, now_st, now_may) = c.requires.may in let st = scheduler_stands_inside _ _ h c.self.view_is now_st in let may = own_inside _ _ m t h c.self.view_is now_may in
    let ready = c.self.inside.ready in let next = c.enter.new.self in let enter = c.enter.ensures in let number = c.started-depth.ensures.value h st.tasks in let started = c.started-depth.result in
    let level : started + 1 ≡ length (task_stack m h) + 1 = omega (arith, number) in
    scheduler_with s _ _ (Start t m ∷ h) (members_with s _ is.members c.start.ensures.members refl refl (ap (λ (v : ReadyView). v.members) enter.same)) (own_entered s c.start.new.self (shown next) t m h is.members may (ap (λ (v : ReadyView). v.ids) enter.same) (c.start.ensures.stands h st.tasks may.rule) st)
    is.freed (own_room ready next enter.same is.waiting)
    (started_looked c.self.inside.tasks c.start.new.self ready next m t h (is.members.ready ∙ sym c.start.ensures.members) st.tasks (c.start.ensures.stands h st.tasks may.rule) (is.looked h st.tasks)
    (λ u there. ready_is_created _ u ready.ids h st.tasks.rule st.ready there) (startable_is_unstarted _ t m h may.rule)
    (level_is_entered ready next m (started + 1) h level (ap (λ (v : ReadyView). v.members) enter.same) enter.entered enter.others))

pub returns-clause-stands : goal.returns-clause-stands
returns-clause-stands c = λ h now_st now_may.
    let s = the_view c.self.inside in let m = c.args.member in let t = c.args.task in
    let st = scheduler_stands_inside _ _ h c.self.view_is now_st in let may = own_inside _ _ m t h c.self.view_is now_may in
    own_entered s c.start.new.self (shown c.enter.new.self) t m h c.self.invariant.members may (ap (λ (v : ReadyView). v.ids) c.enter.ensures.same) (c.start.ensures.stands h st.tasks may.rule) st
