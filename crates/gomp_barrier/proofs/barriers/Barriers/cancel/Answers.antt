use Rattle.gomp_barrier.proofs.BarrierSteps.{view_stands_too, cancel_keeps}
use Rattle.std.proofs.Common.{sym}
use Rattle.gomp_barrier.proofs.barriers.Barriers.cancel.Goals as goal

pub returns-clause-stands : goal.returns-clause-stands
returns-clause-stands c = λ h member st0.
    let st = view_stands_too _ _ h c.self.view_is st0 in
    cancel_keeps c.self.inside.seats.items c.self.inside.front c.self.inside.tasks c.self.inside.cancelled member h st

pub invariant_of-self : goal.invariant_of-self
invariant_of-self c = let (h, st) = c.self.invariant in (_, returns-clause-stands c h 0 (view_stands_too _ _ h (sym c.self.view_is) st))
