use Rattle.std.proofs.Common.{◌≡◌, ◌+◌, ◌∷◌, ◌∙◌, ℕ, Some, length, refl, ap, sym, arith, inl, inr}
use Rattle.gomp_events.specs.declared.event.Event.TheVariants.{Start}
use Rattle.gomp_events.specs.Tasks.{contains, task_stack}
use Rattle.gomp_ready.specs.Ready.{ReadyView, with_task}
use Rattle.gomp_scheduler.specs.Passed.{IsWaitLevel, shown}
use Rattle.gomp_scheduler.specs.contracts.scheduler.Scheduler.{the_view}
use Rattle.gomp_scheduler.proofs.PartsKeep.{members_with, ready_member, ready_started, scheduler_member_inside, scheduler_with, scheduler_stands_inside, unseen_scheduler}
use Rattle.gomp_scheduler.proofs.PassedOver.{level_is_entered, looked_by, looked_passed, passed_never_runs, ready_is_created, startable_is_unstarted, started_looked}
use Rattle.gomp_scheduler.proofs.Startables.{left_was_there, nothing_startable, ready_rule, taken_startable}
use Rattle.gomp_scheduler.proofs.scheduler.Scheduler.start_next.Goals as goal

pub returns-in_err-found-clause-none : goal.returns-in_err-found-clause-none
returns-in_err-found-clause-none c = λ none h now_st sealed.
    let st = scheduler_stands_inside _ _ h c.self.view_is now_st in
    nothing_startable (the_view c.self.inside) c.args.member h st sealed (λ t there.
    let at = c.at_barrier-waits.ensures.value h st.barriers in
    sym (c.in_err-found.ensures.none refl t there h st.tasks at))

pub take-requires-clause-seen : goal.take-requires-clause-seen
take-requires-clause-seen c = λ l t is there h st at.
    let m = c.args.member in let low = ready_member (the_view c.self.inside) m c.self.invariant.members (scheduler_member_inside _ _ m c.self.view_is c.requires.member) in
    sym (passed_never_runs c.self.inside.ready m l t h low (c.wait_level-level.ensures.level h st at l is) (c.self.invariant.looked h st) there)

pub invariant_of-self : goal.invariant_of-self
invariant_of-self c =
    let m = c.args.member in let is = c.self.invariant in let ready = c.self.inside.ready in let after = c.take.new.self in let took = c.take.ensures in
    let (h, now_st, sealed) = c.requires.sealed in let st = scheduler_stands_inside _ _ h c.self.view_is now_st in
    let at = c.at_barrier-waits.ensures.value h st.barriers in
    let same = c.in_err-found.ensures.same refl in
    let passed = looked_passed c.self.inside.tasks ready after ready.ids m c.wait_level-level.result h st.tasks st.ready took.members (λ l from. c.wait_level-level.ensures.level h st.tasks at l from)
    (λ n l t there. ap (λ (v : ReadyView). contains t v.ids) (sym same) ∙ took.among n l t there)
    (λ n l t there. elim (took.passed n l t there) [ inl was ↦ inl was | inr (own, from, post) ↦ inr (own, from, sym (post h st.tasks at)) ]) (is.looked h st.tasks) in
    unseen_scheduler (the_view c.self.inside) ready after same is (looked_by c.self.inside.tasks after h (took.members ∙ is.members.ready) st.tasks passed)

pub returns-in_err-found-clause-kept : goal.returns-in_err-found-clause-kept
returns-in_err-found-clause-kept c none = ap (λ (v : ReadyView). record (the_view c.self.inside) { ready = shown v }) (c.in_err-found.ensures.same refl) ∙ c.self.view_is

pub start-requires : goal.start-requires
start-requires c =
    let s = the_view c.self.inside in let m = c.args.member in let t = c.in_ok-found.found in
    let (h, now_st, sealed) = c.requires.sealed in let st = scheduler_stands_inside _ _ h c.self.view_is now_st in
    let at = c.at_barrier-waits.ensures.value h st.barriers in
    let runs = c.in_ok-found.ensures.may h st.tasks at in
    record { may = (h, st.tasks, ready_rule s m t h (scheduler_member_inside _ _ m c.self.view_is c.requires.member) (taken_startable s m t c.take.new.self.ids h st sealed c.in_ok-found.ensures.task runs)) }

pub invariant_of-self-2 : goal.invariant_of-self-2
invariant_of-self-2 c =
    let s = the_view c.self.inside in let m = c.args.member in let t = c.in_ok-found.found in let is = c.self.invariant in
    let (h, now_st, sealed) = c.requires.sealed in let st = scheduler_stands_inside _ _ h c.self.view_is now_st in
    let at = c.at_barrier-waits.ensures.value h st.barriers in
    let runs = c.in_ok-found.ensures.may h st.tasks at in
    let rule = ready_rule s m t h (scheduler_member_inside _ _ m c.self.view_is c.requires.member) (taken_startable s m t c.take.new.self.ids h st sealed c.in_ok-found.ensures.task runs) in
    let ready = c.self.inside.ready in let after = c.take.new.self in let took = c.take.ensures in let next = c.enter.new.self in let enter = c.enter.ensures in let from = c.wait_level-level.result in let started = c.started-started.result in
    let wait : (l : ℕ) → from ≡ Some l → IsWaitLevel m l h = λ l of_level. c.wait_level-level.ensures.level h st.tasks at l of_level in
    let passed = looked_passed c.self.inside.tasks ready after ready.ids m from h st.tasks st.ready took.members wait
    (λ n l u there. left_was_there ready.ids after.ids t u c.in_ok-found.ensures.task (took.among n l u there))
    (λ n l u there. elim (took.passed n l u there) [ inl was ↦ inl was | inr (own, of_level, post) ↦ inr (own, of_level, sym (post h st.tasks at)) ]) (is.looked h st.tasks) in
    let number = c.started-started.ensures.value h st.tasks in
    let level : started + 1 ≡ length (task_stack m h) + 1 = omega (arith, number) in
    let before = is.waiting in let more = c.in_ok-found.ensures.room in let same = ap (λ (v : ReadyView). v.room) enter.same in
    scheduler_with s _ _ (Start t m ∷ h) (members_with s _ is.members c.start.ensures.members refl refl (ap (λ (v : ReadyView). v.members) enter.same ∙ took.members))
    (ready_started s c.start.new.self (shown next) t m h is.members rule (c.in_ok-found.ensures.task ∙ ap (λ (v : ReadyView). with_task t v.ids) (sym enter.same)) (c.start.ensures.stands h st.tasks rule) st) is.freed (omega (arith, before, more, same))
    (started_looked c.self.inside.tasks c.start.new.self after next m t h (took.members ∙ is.members.ready ∙ sym c.start.ensures.members) st.tasks (c.start.ensures.stands h st.tasks rule) passed
    (λ u there. ready_is_created _ u ready.ids h st.tasks.rule st.ready (left_was_there ready.ids after.ids t u c.in_ok-found.ensures.task there)) (startable_is_unstarted _ t m h rule)
    (level_is_entered after next m (started + 1) h level (ap (λ (v : ReadyView). v.members) enter.same) enter.entered enter.others))

pub returns-clause-found : goal.returns-clause-found
returns-clause-found c = λ h now_st sealed.
    let st = scheduler_stands_inside _ _ h c.self.view_is now_st in
    let at = c.at_barrier-waits.ensures.value h st.barriers in
    let runs = c.in_ok-found.ensures.may h st.tasks at in
    taken_startable (the_view c.self.inside) c.args.member c.in_ok-found.found c.take.new.self.ids h st sealed c.in_ok-found.ensures.task runs

pub returns-clause-stands : goal.returns-clause-stands
returns-clause-stands c = λ h now_st sealed.
    let s = the_view c.self.inside in let m = c.args.member in let t = c.in_ok-found.found in
    let st = scheduler_stands_inside _ _ h c.self.view_is now_st in
    let at = c.at_barrier-waits.ensures.value h st.barriers in
    let runs = c.in_ok-found.ensures.may h st.tasks at in
    let rule = ready_rule s m t h (scheduler_member_inside _ _ m c.self.view_is c.requires.member) (taken_startable s m t c.take.new.self.ids h st sealed c.in_ok-found.ensures.task runs) in
    ready_started s c.start.new.self (shown c.enter.new.self) t m h c.self.invariant.members rule (c.in_ok-found.ensures.task ∙ ap (λ (v : ReadyView). with_task t v.ids) (sym c.enter.ensures.same)) (c.start.ensures.stands h st.tasks rule) st
