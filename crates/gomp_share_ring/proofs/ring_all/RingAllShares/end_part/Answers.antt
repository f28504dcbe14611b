use Rattle.std.proofs.Common.{refl, ◌∙◌}
use Rattle.gomp_shares.specs.Calls.{CanEndPart}
use Rattle.gomp_share_ring.proofs.AllSteps.{part_end_all}
use Rattle.gomp_share_ring.proofs.AllAnswers.{part_not_outside}
use Rattle.gomp_share_ring.proofs.AllCalls.{member_at, view_is_asked, asked_of_events, known_to_all, stands_here, in_share_of_all, own_number_in}
use Rattle.gomp_share_ring.proofs.NotedTakes.{noted_after}
use Rattle.gomp_share_ring.proofs.ring_all.RingAllShares.end_part.Goals as goal

pub end_part-requires-clause-inside : goal.end_part-requires-clause-inside
end_part-requires-clause-inside c =
    let place = member_at _ _ _ _ _ _ c.self.view_is c.self.invariant.3 c.requires.place.member c.index.ensures in
    in_share_of_all _ _ _ _ _ _ _ place c.in-Some.is

pub end_part-requires-clause-may : goal.end_part-requires-clause-may
end_part-requires-clause-may c =
    let place = member_at _ _ _ _ _ _ c.self.view_is c.self.invariant.3 c.requires.place.member c.index.ensures in
    asked_of_events _ _ _ _ _ _ (λ n seen. CanEndPart n c.args.member seen) c.self.view_is place c.requires.place

pub invariant_of-self : goal.invariant_of-self
invariant_of-self c =
    let place = member_at _ _ _ _ _ _ c.self.view_is c.self.invariant.3 c.requires.place.member c.index_mut.ensures.value in
    let step = part_end_all _ _ _ _ _ _ _ place c.end_part.ensures.acted in
    (c.end_part.ensures.seat.0 ∙ c.self.invariant.0, c.end_part.ensures.seat.1 ∙ c.self.invariant.1, c.self.invariant.2, step.all, noted_after _ _ _ _ c.self.invariant.4 step.goes (λ i. refl))

pub returns-clause-known : goal.returns-clause-known
returns-clause-known c = known_to_all _ _ _ _ c.self.view_is c.self.invariant.3

pub returns-clause-stands : goal.returns-clause-stands
returns-clause-stands c = λ h st0.
    let st = stands_here _ _ _ h _ c.self.view_is st0 in
    let read = member_at _ _ _ _ _ _ c.self.view_is c.self.invariant.3 c.requires.place.member c.index.ensures in
    let place = member_at _ _ _ _ _ _ c.self.view_is c.self.invariant.3 c.requires.place.member c.index_mut.ensures.value in
    rw (own_number_in _ _ _ _ _ _ _ h read c.in-Some.is st) ((part_end_all _ _ _ _ _ _ _ place c.end_part.ensures.acted).stands h st)

pub unreachable-requires : goal.unreachable-requires
unreachable-requires c =
    let place = member_at _ _ _ _ _ _ c.self.view_is c.self.invariant.3 c.requires.place.member c.index.ensures in
    part_not_outside _ _ _ _ _ place (view_is_asked _ _ _ _ _ _ (λ n seen. CanEndPart n c.args.member seen) c.self.view_is place c.requires.place).within c.in_default.is
