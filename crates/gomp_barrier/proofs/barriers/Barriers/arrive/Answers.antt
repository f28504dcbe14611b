use Rattle.std.proofs.Common.{◌<◌, length, refl, subst, sym, ◌∙◌}
use Rattle.std.proofs.lemmas.Option.{slice_get_read}
use Rattle.gomp_barrier.specs.Stands.{BarriersView, barrier_members}
use Rattle.gomp_barrier.proofs.BarrierSteps.{view_stands_too, accept_is, arrive_keeps}
use Rattle.gomp_barrier.proofs.barriers.Barriers.arrive.Goals as goal

pub returns-then-not-accepts-clause-answer : goal.returns-then-not-accepts-clause-answer
returns-then-not-accepts-clause-answer c = λ h st0.
    let st = view_stands_too _ _ h c.self.view_is st0 in
    let lt : c.args.member < length c.self.inside.seats.items = subst (λ (v : BarriersView). c.args.member < barrier_members v) (sym c.self.view_is) c.requires.member in
    let at = slice_get_read c.self.inside.seats.items _ c.args.member _ refl lt c.index.ensures in
    sym c.if-not-accepts.true ∙ c.accepts.ensures.value ∙ sym (accept_is c.self.inside.seats.items c.self.inside.front c.self.inside.tasks c.self.inside.cancelled c.args.member _ c.args.tag h st at)

pub returns-clause-answer : goal.returns-clause-answer
returns-clause-answer c = λ h st0.
    let st = view_stands_too _ _ h c.self.view_is st0 in
    let lt : c.args.member < length c.self.inside.seats.items = subst (λ (v : BarriersView). c.args.member < barrier_members v) (sym c.self.view_is) c.requires.member in
    let at = slice_get_read c.self.inside.seats.items _ c.args.member _ refl lt c.index.ensures in
    sym c.if-not-accepts.false ∙ c.accepts.ensures.value ∙ sym (accept_is c.self.inside.seats.items c.self.inside.front c.self.inside.tasks c.self.inside.cancelled c.args.member _ c.args.tag h st at)

pub returns-clause-stands : goal.returns-clause-stands
returns-clause-stands c = λ h st0.
    let st = view_stands_too _ _ h c.self.view_is st0 in
    let lt : c.args.member < length c.self.inside.seats.items = subst (λ (v : BarriersView). c.args.member < barrier_members v) (sym c.self.view_is) c.requires.member in
    let at = slice_get_read c.self.inside.seats.items _ c.args.member _ refl lt c.index.ensures in
    rw c.arrived_at-self-inside.ensures (arrive_keeps c.self.inside.seats.items c.self.inside.front c.self.inside.tasks c.self.inside.cancelled c.args.member _ c.args.tag h st at (sym c.accepts.ensures.value ∙ c.if-not-accepts.false))

pub invariant_of-self : goal.invariant_of-self
invariant_of-self c = let (h, st) = c.self.invariant in (_, returns-clause-stands c h (view_stands_too _ _ h (sym c.self.view_is) st))
