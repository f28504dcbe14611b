use Rattle.std.proofs.Common.{◌<◌, length, refl, subst, sym, ◌∙◌}
use Rattle.std.proofs.lemmas.Option.{slice_get_read}
use Rattle.gomp_barrier.specs.Stands.{BarriersView, barrier_members}
use Rattle.gomp_barrier.proofs.BarrierSteps.{view_stands_too, odd_is}
use Rattle.gomp_barrier.proofs.barriers.Barriers.is_odd.Goals as goal

pub returns-clause-value : goal.returns-clause-value
returns-clause-value c = λ h st0.
    let st = view_stands_too _ _ h c.self.view_is st0 in
    let lt : c.args.member < length c.self.inside.seats.items = subst (λ (v : BarriersView). c.args.member < barrier_members v) (sym c.self.view_is) c.requires.member in
    let at = slice_get_read c.self.inside.seats.items _ c.args.member _ refl lt c.index.ensures in
    c.has_odd_number.ensures ∙ odd_is c.self.inside.seats.items c.self.inside.front c.self.inside.tasks c.self.inside.cancelled c.args.member _ h st at
