use Rattle.std.proofs.Common.{ℕ, refl, rules}
use Rattle.gomp_events.specs.Goals.{is_unstarted}
use Rattle.gomp_scheduler.specs.Passed.{shown}
use Rattle.gomp_scheduler.specs.contracts.scheduler.Scheduler.{the_view}
use Rattle.gomp_scheduler.proofs.PartsKeep.{members_with, parts_retained, retained_room, scheduler_with, scheduler_stands_inside}
use Rattle.gomp_scheduler.proofs.PassedOver.{none_passed}
use Rattle.gomp_scheduler.proofs.ReadyKeeps.{unstarted_alone_left}
use Rattle.gomp_scheduler.proofs.scheduler.Scheduler.forget_discarded.Goals as goal

pub invariant_of-self : goal.invariant_of-self
invariant_of-self c =
    let s = the_view c.self.inside in let is = c.self.invariant in let (h, st) = is.known in let tasks = st.tasks in
    let kept = c.retain.ensures.ids (λ (t : ℕ). is_unstarted t h) (λ t answer post. search rules) in
    scheduler_with s _ _ h (members_with s _ is.members refl refl refl c.retain.ensures.members) (parts_retained s (shown c.retain.new.self) h kept st)
    is.freed (retained_room _ s.ready c.retain.new.self (λ (t : ℕ). is_unstarted t h) kept c.retain.ensures.room is.waiting) (λ g other. none_passed c.retain.new.self g c.retain.ensures.passed)

pub returns-clause-stands : goal.returns-clause-stands
returns-clause-stands c = λ h now_st.
    let s = the_view c.self.inside in let st = scheduler_stands_inside _ _ h c.self.view_is now_st in let tasks = st.tasks in
    let kept = c.retain.ensures.ids (λ (t : ℕ). is_unstarted t h) (λ t answer post. search rules) in
    parts_retained s (shown c.retain.new.self) h kept st

pub returns-clause-gone : goal.returns-clause-gone
returns-clause-gone c = λ h now_st.
    let st = scheduler_stands_inside _ _ h c.self.view_is now_st in let tasks = st.tasks in
    let kept = c.retain.ensures.ids (λ (t : ℕ). is_unstarted t h) (λ t answer post. search rules) in
    unstarted_alone_left c.retain.new.self.ids (the_view c.self.inside).ready.ids h kept
