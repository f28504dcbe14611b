use Rattle.std.proofs.Common.{false, [], arith, subst, sym}
use Rattle.gomp_barrier.specs.Calls.{MayBind}
use Rattle.gomp_barrier.specs.Stands.{BarriersView, barrier_members}
use Rattle.gomp_barrier.proofs.BoundKeeps.{bound_most}
use Rattle.gomp_barrier.proofs.BarrierSteps.{view_stands_too, task_bound}
use Rattle.gomp_barrier.proofs.barriers.Barriers.bind.Goals as goal

pub one_more-self-inside-requires : goal.one_more-self-inside-requires
one_more-self-inside-requires c =
    let (h, st0, room) = c.requires.room in
    let st = view_stands_too _ _ h c.self.view_is st0 in
    let most = bound_most c.self.inside.tasks st.least h st.tasks c.args.odd in
    omega (arith, most, room)

pub returns-clause-stands : goal.returns-clause-stands
returns-clause-stands c = λ h task member parent desc st0 may.
    let st = view_stands_too _ _ h c.self.view_is st0 in
    rw c.one_more-self-inside.ensures (task_bound c.self.inside.seats.items c.self.inside.front c.self.inside.tasks c.self.inside.cancelled task member parent desc c.args.odd h st (subst (λ (v : BarriersView). MayBind (barrier_members v) task parent c.args.odd h) (sym c.self.view_is) may))

pub invariant_of-self : goal.invariant_of-self
invariant_of-self c = let (h, task, parent, st, may) = c.requires.may in (_, returns-clause-stands c h task 0 parent (record { code = 0; arg = 0; undeferred = false; final_task = false; deps = [] }) st may)
