use Rattle.gomp_scheduler.specs.contracts.scheduler.Scheduler.{the_view}
use Rattle.gomp_scheduler.proofs.PartsKeep.{current_is_seated, groups_have_marks, scheduler_member_inside}
use Rattle.gomp_scheduler.proofs.scheduler.Scheduler.drops_creation.Goals as goal

pub would_be_covered-requires : goal.would_be_covered-requires
would_be_covered-requires c =
    let s = the_view c.self.inside in let m = c.args.member in let (h, st) = c.self.invariant.known in
    record { seated = current_is_seated s m c.current-task.result h c.self.invariant.members st (scheduler_member_inside _ _ m c.self.view_is c.requires.member) (c.current-task.ensures.value h st.tasks); marks = groups_have_marks s h st }

pub current-task-requires : goal.current-task-requires
current-task-requires c = record { member = scheduler_member_inside _ _ c.args.member c.self.view_is c.requires.member }
