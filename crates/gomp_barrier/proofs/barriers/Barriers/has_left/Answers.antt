use Rattle.std.proofs.Common.{◌<◌, length, refl, subst, sym, ap}
use Rattle.std.proofs.lemmas.Option.{slice_get_read}
use Rattle.gomp_barrier.specs.declared.barriers.AtBarrier.{AtBarrier}
use Rattle.gomp_barrier.specs.Stands.{BarriersView, barrier_members}
use Rattle.gomp_barrier.proofs.BarrierSteps.{view_stands_too, look_is}
use Rattle.gomp_barrier.proofs.barriers.Barriers.has_left.Goals as goal

pub returns-clause-value : goal.returns-clause-value
returns-clause-value c = λ h st0.
    let st = view_stands_too _ _ h c.self.view_is st0 in
    let lt : c.args.member < length c.self.inside.seats.items = subst (λ (v : BarriersView). c.args.member < barrier_members v) (sym c.self.view_is) c.requires.member in
    let at = slice_get_read c.self.inside.seats.items _ c.args.member _ refl lt c.index.ensures in
    ap (λ (seen : AtBarrier). seen.left) (look_is c.self.inside.seats.items c.self.inside.front c.self.inside.tasks c.self.inside.cancelled c.args.member _ h st at)
