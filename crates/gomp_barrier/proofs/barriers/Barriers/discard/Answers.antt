use Rattle.gomp_barrier.proofs.BoundKeeps.{bound_some}
use Rattle.gomp_barrier.proofs.BarrierSteps.{view_stands_too, task_discarded}
use Rattle.gomp_barrier.proofs.barriers.Barriers.discard.Goals as goal

pub one_less-others-requires : goal.one_less-others-requires
one_less-others-requires c =
    let (h, task, st0, may) = c.requires.may in
    let st = view_stands_too _ _ h c.self.view_is st0 in
    bound_some c.self.inside.tasks st.least task c.args.odd h st.tasks may

pub returns-clause-stands : goal.returns-clause-stands
returns-clause-stands c = λ h task member st0 may.
    let st = view_stands_too _ _ h c.self.view_is st0 in
    rw c.one_less-others.ensures (task_discarded c.self.inside.seats.items c.self.inside.front c.self.inside.tasks c.self.inside.cancelled task member c.args.odd h st may)

pub invariant_of-self : goal.invariant_of-self
invariant_of-self c = let (h, task, st, may) = c.requires.may in (_, returns-clause-stands c h task 0 st may)
