use Rattle.std.proofs.Common.{refl, ◌∙◌}
use Rattle.gomp_shares.specs.Calls.{CanSee}
use Rattle.gomp_share_ring.proofs.AllSteps.{see_all}
use Rattle.gomp_share_ring.proofs.AllAnswers.{sees_it, same_share_in}
use Rattle.gomp_share_ring.proofs.AllCalls.{member_at, asked_of_events, known_to_all, stands_here, stands_itself, in_share_of_all}
use Rattle.gomp_share_ring.proofs.NotedTakes.{noted_after}
use Rattle.gomp_share_ring.proofs.ring_all.RingAllShares.see.Goals as goal

pub see_cancelled-requires-clause-inside : goal.see_cancelled-requires-clause-inside
see_cancelled-requires-clause-inside c =
    let place = member_at _ _ _ _ _ _ c.self.view_is c.self.invariant.3 c.requires.place.member c.index.ensures in
    in_share_of_all _ _ _ _ _ _ _ place c.in-Some.is

pub see_cancelled-requires-clause-may : goal.see_cancelled-requires-clause-may
see_cancelled-requires-clause-may c =
    let place = member_at _ _ _ _ _ _ c.self.view_is c.self.invariant.3 c.requires.place.member c.index.ensures in
    (asked_of_events _ _ _ _ _ _ (λ n seen. CanSee n c.args.member seen) c.self.view_is place c.requires.place).inside

pub invariant_of-self : goal.invariant_of-self
invariant_of-self c =
    let read = member_at _ _ _ _ _ _ c.self.view_is c.self.invariant.3 c.requires.place.member c.index.ensures in
    let place = member_at _ _ _ _ _ _ c.self.view_is c.self.invariant.3 c.requires.place.member c.index_mut.ensures.value in
    let cancelled = c.requires.cancelled c.self.inside.seat.me.0.did (stands_itself _ _ _ _ c.self.view_is c.self.invariant.3) in
    let acts = sees_it _ _ _ _ _ _ _ _ _ read c.in-Some.is cancelled c.see_cancelled.ensures.seen in
    let step = see_all _ _ _ _ _ _ place acts in
    (c.see_cancelled.ensures.seat.0 ∙ c.self.invariant.0, c.see_cancelled.ensures.seat.1 ∙ c.self.invariant.1, c.self.invariant.2, step.all, noted_after _ _ _ _ c.self.invariant.4 step.goes (λ i. refl))

pub returns-clause-known : goal.returns-clause-known
returns-clause-known c = known_to_all _ _ _ _ c.self.view_is c.self.invariant.3

pub returns-clause-stands : goal.returns-clause-stands
returns-clause-stands c = λ h st0.
    let st = stands_here _ _ _ h _ c.self.view_is st0 in
    let read = member_at _ _ _ _ _ _ c.self.view_is c.self.invariant.3 c.requires.place.member c.index.ensures in
    let place = member_at _ _ _ _ _ _ c.self.view_is c.self.invariant.3 c.requires.place.member c.index_mut.ensures.value in
    let cancelled = c.requires.cancelled c.self.inside.seat.me.0.did (stands_itself _ _ _ _ c.self.view_is c.self.invariant.3) in
    let acts = sees_it _ _ _ _ _ _ _ _ _ read c.in-Some.is cancelled c.see_cancelled.ensures.seen in
    rw (same_share_in _ c.args.member _ _ h st) ((see_all _ _ _ _ _ _ place acts).stands h st)
