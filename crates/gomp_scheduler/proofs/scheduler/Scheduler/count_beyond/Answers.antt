use Rattle.std.proofs.Common.{◌≡◌, ◌≤◌, false, ◌∷◌, subst, sym}
use Rattle.std.specs.Prelude.{◌&&◌}
use Rattle.gomp_types.specs.declared.cancel.Scope.{Scope}
use Rattle.gomp_events.specs.declared.event.Event.TheVariants.{Cancel}
use Rattle.gomp_events.specs.Cancels.{is_covered}
use Rattle.gomp_events.specs.Goals.{is_unstarted}
use Rattle.gomp_tasks.specs.Stands.{count_of}
use Rattle.gomp_scheduler.specs.Schedulers.{SchedulerView}
use Rattle.gomp_scheduler.specs.contracts.scheduler.Scheduler.{the_view}
use Rattle.gomp_scheduler.proofs.PartsKeep.{scope_has_row, scheduler_stands_inside}
use Rattle.gomp_scheduler.proofs.Unreached.{beyond_is_few, older_unreached, over_stays_over}
use Rattle.gomp_scheduler.proofs.scheduler.Scheduler.count_beyond.Goals as goal

pub opened_after-requires : goal.opened_after-requires
opened_after-requires c =
    let s = the_view c.self.inside in let (h, st) = c.self.invariant.known in
    record { opened = scope_has_row s c.args.self.now h c.args.scope c.in-OneGroup.group c.self.view_is st c.in-OneGroup.is c.requires.scope }

pub returns-in-Region-clause-before : goal.returns-in-Region-clause-before
returns-in-Region-clause-before c = λ h m now_st sealed t low.
    over_stays_over t m c.args.scope h (c.oldest-oldest.ensures.complete h (scheduler_stands_inside _ _ h c.self.view_is now_st).tasks t low)

pub returns-in-OneGroup-clause-few : goal.returns-in-OneGroup-clause-few
returns-in-OneGroup-clause-few c =
    let s = the_view c.self.inside in let (h, st) = c.self.invariant.known in
    subst (λ (v : SchedulerView). c.max.result ≤ count_of v.tasks) c.self.view_is (beyond_is_few s c.oldest-oldest.result c.opened_after.result c.max.result h st c.oldest-oldest.ensures.few c.opened_after.ensures.few c.max.ensures)

pub returns-in-OneGroup-clause-before : goal.returns-in-OneGroup-clause-before
returns-in-OneGroup-clause-before c = λ h m now_st sealed t low.
    let st = scheduler_stands_inside _ _ h c.self.view_is now_st in
    subst (λ (scope : Scope). (is_unstarted t (Cancel m scope ∷ h) && is_covered t (Cancel m scope ∷ h)) ≡ false) (sym c.in-OneGroup.is)
    (older_unreached c.oldest-oldest.result c.opened_after.result c.max.result t m c.in-OneGroup.group h c.max.ensures low sealed (c.oldest-oldest.ensures.complete h st.tasks t) (c.opened_after.ensures.older h st.groups t))
