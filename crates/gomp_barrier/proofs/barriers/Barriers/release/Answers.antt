use Rattle.gomp_barrier.proofs.BoundKeeps.{bound_some}
use Rattle.gomp_barrier.proofs.BarrierSteps.{view_stands_too, task_released}
use Rattle.gomp_barrier.proofs.barriers.Barriers.release.Goals as goal

pub one_less-self-inside-requires : goal.one_less-self-inside-requires
one_less-self-inside-requires c =
    let (h, task, st0, may) = c.requires.may in
    let st = view_stands_too _ _ h c.self.view_is st0 in
    bound_some c.self.inside.tasks st.least task c.args.odd h st.tasks may

pub returns-clause-stands : goal.returns-clause-stands
returns-clause-stands c = λ h task member st0 may.
    let st = view_stands_too _ _ h c.self.view_is st0 in
    rw c.one_less-self-inside.ensures (task_released c.self.inside.seats.items c.self.inside.front c.self.inside.tasks c.self.inside.cancelled task member c.args.odd h st may)

pub invariant_of-self : goal.invariant_of-self
invariant_of-self c = let (h, task, st, may) = c.requires.may in (_, returns-clause-stands c h task 0 st may)
