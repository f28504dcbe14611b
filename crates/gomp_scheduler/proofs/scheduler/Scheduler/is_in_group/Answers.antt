use Rattle.gomp_scheduler.specs.contracts.scheduler.Scheduler.{the_view}
use Rattle.gomp_scheduler.proofs.PartsKeep.{current_is_seated, scheduler_member_inside, group_found, group_missing, scheduler_stands_inside}
use Rattle.gomp_scheduler.proofs.scheduler.Scheduler.is_in_group.Goals as goal

pub innermost_around-requires : goal.innermost_around-requires
innermost_around-requires c =
    let s = the_view c.self.inside in let m = c.args.member in let (h, st) = c.self.invariant.known in
    record { seated = current_is_seated s m c.current.result h c.self.invariant.members st (scheduler_member_inside _ _ m c.self.view_is c.requires.member) (c.current.ensures.value h st.tasks) }

pub returns-in-Some : goal.returns-in-Some
returns-in-Some c = record {
  value = λ h now_st.
      let st = scheduler_stands_inside _ _ h c.self.view_is now_st in
      group_found c.args.member c.current.result _ c.in-Some.field-0 h (c.current.ensures.value h st.tasks) (c.innermost_around.ensures.value h st.groups) c.in-Some.is;
}

pub returns-in-None : goal.returns-in-None
returns-in-None c = record {
  value = λ h now_st.
      let st = scheduler_stands_inside _ _ h c.self.view_is now_st in
      group_missing c.args.member c.current.result _ h (c.current.ensures.value h st.tasks) (c.innermost_around.ensures.value h st.groups) c.in-None.is;
}
