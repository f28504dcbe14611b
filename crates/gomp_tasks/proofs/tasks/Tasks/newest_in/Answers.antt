use Rattle.std.proofs.Common.{◌≤◌, length, arith}
use Rattle.gomp_tasks.proofs.NewestKeep.{no_newest_in_no_member}
use Rattle.gomp_tasks.proofs.TasksKeep.{tasks_of_view_stand}
use Rattle.gomp_tasks.proofs.tasks.Tasks.newest_in.Goals as goal

pub returns-in-None-clause-value : goal.returns-in-None-clause-value
returns-in-None-clause-value c = λ h st0.
    let st = tasks_of_view_stand _ _ h c.self.view_is st0 in
    let members = st.members in
    let past : length c.self.inside.roots.items ≤ c.in-Implicit.member = rw c.deref.ensures.value at c.in-None.ensures.lookup.3 in
    rw (c.none.ensures, c.in-Implicit.is) (no_newest_in_no_member (length c.self.inside.stacks.items) c.in-Implicit.member h st.rule (omega (arith, members, past)))
