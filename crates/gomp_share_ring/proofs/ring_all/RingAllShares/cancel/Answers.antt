use Rattle.std.proofs.Common.{refl, ◌∙◌}
use Rattle.gomp_shares.specs.Calls.{CanCancel}
use Rattle.gomp_share_ring.proofs.AllSteps.{cancel_all}
use Rattle.gomp_share_ring.proofs.AllCalls.{member_at, asked_of_events, known_to_all, stands_here, in_share_of_all, own_number_in}
use Rattle.gomp_share_ring.proofs.NotedTakes.{noted_after}
use Rattle.gomp_share_ring.proofs.ring_all.RingAllShares.cancel.Goals as goal

pub cancel_share-requires-clause-inside : goal.cancel_share-requires-clause-inside
cancel_share-requires-clause-inside c =
    let place = member_at _ _ _ _ _ _ c.self.view_is c.self.invariant.3 c.requires.place.member c.index.ensures in
    in_share_of_all _ _ _ _ _ _ _ place c.in-Some.is

pub cancel_share-requires-clause-may : goal.cancel_share-requires-clause-may
cancel_share-requires-clause-may c =
    let place = member_at _ _ _ _ _ _ c.self.view_is c.self.invariant.3 c.requires.place.member c.index.ensures in
    (asked_of_events _ _ _ _ _ _ (λ n seen. CanCancel n c.args.member seen) c.self.view_is place c.requires.place).cancellable

pub invariant_of-self : goal.invariant_of-self
invariant_of-self c =
    let step = cancel_all _ _ _ _ _ _ c.self.invariant.3 c.cancel_share.ensures.acted in
    (c.cancel_share.ensures.seat.0 ∙ c.self.invariant.0, c.cancel_share.ensures.seat.1 ∙ c.self.invariant.1, c.self.invariant.2, step.all, noted_after _ _ _ _ c.self.invariant.4 step.goes (λ i. refl))

pub returns-clause-known : goal.returns-clause-known
returns-clause-known c = known_to_all _ _ _ _ c.self.view_is c.self.invariant.3

pub returns-clause-stands : goal.returns-clause-stands
returns-clause-stands c = λ h st0.
    let st = stands_here _ _ _ h _ c.self.view_is st0 in
    let place = member_at _ _ _ _ _ _ c.self.view_is c.self.invariant.3 c.requires.place.member c.index.ensures in
    rw (own_number_in _ _ _ _ _ _ _ h place c.in-Some.is st) ((cancel_all _ _ _ _ _ _ c.self.invariant.3 c.cancel_share.ensures.acted).stands h st)
