use Rattle.std.proofs.Common.{◌≡◌, ℕ, refl, ◌∙◌, ap}
use Rattle.gomp_chunks.specs.Plans.{PlanView}
use Rattle.gomp_shares.specs.Calls.{CanOpen}
use Rattle.gomp_slots.specs.Premises.{slots_members}
use Rattle.gomp_share_ring.proofs.AllSteps.{enter_all}
use Rattle.gomp_share_ring.proofs.AllAnswers.{entered_answer, not_yet_answer, differs_answer, did_same, entered_in}
use Rattle.gomp_share_ring.proofs.AllCalls.{member_at, view_is_asked, asked_of_events, known_to_all, stands_here, before_share_of_all}
use Rattle.gomp_share_ring.proofs.NotedTakes.{noted_after}
use Rattle.gomp_share_ring.proofs.ring_all.RingAllShares.try_open.Goals as goal

pub open_next-requires-clause-next : goal.open_next-requires-clause-next
open_next-requires-clause-next c =
    let place = member_at _ _ _ _ _ _ c.self.view_is c.self.invariant.3 c.requires.place.member c.index.ensures in
    before_share_of_all _ _ _ _ _ place

pub open_next-requires-clause-may : goal.open_next-requires-clause-may
open_next-requires-clause-may c =
    let place = member_at _ _ _ _ _ _ c.self.view_is c.self.invariant.3 c.requires.place.member c.index.ensures in
    asked_of_events _ _ _ _ _ _ (λ n seen. CanOpen n c.args.member c.args.shape.now seen) c.self.view_is place c.requires.place

pub invariant_of-self : goal.invariant_of-self
invariant_of-self c =
    let place = member_at _ _ _ _ _ _ c.self.view_is c.self.invariant.3 c.requires.place.member c.index.ensures in
    let can = view_is_asked _ _ _ _ _ _ (λ n seen. CanOpen n c.args.member c.args.shape.now seen) c.self.view_is place c.requires.place in
    let opens = c.in-Entered.ensures.answer in
    let team : ◌≡◌ {A = PlanView} (record { members = c.self.inside.members; shape = c.args.shape.now }) (record { members = slots_members c.self.inside.slots; shape = c.args.shape.now }) = ap (λ (n : ℕ). record { members = n; shape = c.args.shape.now }) c.self.invariant.2 in
    let step = enter_all _ _ c.index.result.now.seen.entered c.args.shape.now _ _ c.in_share.result _ _ opens.0 place refl can.valid opens.1 opens.2 opens.3 c.in_share.ensures.seen c.in_share.ensures.own (c.in_share.ensures.plan ∙ team) in
    (c.open_next.ensures.seat.0 ∙ c.self.invariant.0, c.open_next.ensures.seat.1 ∙ c.self.invariant.1, c.self.invariant.2, step.all, noted_after _ _ _ _ c.self.invariant.4 step.goes (λ i. refl))

pub invariant_of-self-in-Differs : goal.invariant_of-self-in-Differs
invariant_of-self-in-Differs c = (c.open_next.ensures.seat.0 ∙ c.self.invariant.0, c.open_next.ensures.seat.1 ∙ c.self.invariant.1, c.self.invariant.2, did_same _ _ _ _ c.self.invariant.3 c.in-Differs.ensures.answer.1, rw c.in-Differs.ensures.answer.1.did_is c.self.invariant.4)

pub returns-in-Entered-clause-known : goal.returns-in-Entered-clause-known
returns-in-Entered-clause-known c = known_to_all _ _ _ _ c.self.view_is c.self.invariant.3

pub returns-in-Entered-clause-answer : goal.returns-in-Entered-clause-answer
returns-in-Entered-clause-answer c = λ h st0.
    let st = stands_here _ _ _ h _ c.self.view_is st0 in
    let place = member_at _ _ _ _ _ _ c.self.view_is c.self.invariant.3 c.requires.place.member c.index.ensures in
    rw (← c.self.view_is) (entered_answer _ _ _ _ _ _ _ h place c.in-Entered.ensures.answer st)

pub returns-in-Entered-clause-stands : goal.returns-in-Entered-clause-stands
returns-in-Entered-clause-stands c = λ h st0.
    let st = stands_here _ _ _ h _ c.self.view_is st0 in
    let place = member_at _ _ _ _ _ _ c.self.view_is c.self.invariant.3 c.requires.place.member c.index.ensures in
    let can = view_is_asked _ _ _ _ _ _ (λ n seen. CanOpen n c.args.member c.args.shape.now seen) c.self.view_is place c.requires.place in
    let opens = c.in-Entered.ensures.answer in
    let team : ◌≡◌ {A = PlanView} (record { members = c.self.inside.members; shape = c.args.shape.now }) (record { members = slots_members c.self.inside.slots; shape = c.args.shape.now }) = ap (λ (n : ℕ). record { members = n; shape = c.args.shape.now }) c.self.invariant.2 in
    let step = enter_all _ _ c.index.result.now.seen.entered c.args.shape.now _ _ c.in_share.result _ _ opens.0 place refl can.valid opens.1 opens.2 opens.3 c.in_share.ensures.seen c.in_share.ensures.own (c.in_share.ensures.plan ∙ team) in
    rw (entered_in _ _ _ _ _ h place st) (step.stands h st)

pub returns-in-NotYet-clause-known : goal.returns-in-NotYet-clause-known
returns-in-NotYet-clause-known c = known_to_all _ _ _ _ c.self.view_is c.self.invariant.3

pub returns-in-NotYet-clause-answer : goal.returns-in-NotYet-clause-answer
returns-in-NotYet-clause-answer c = λ h st0.
    let st = stands_here _ _ _ h _ c.self.view_is st0 in
    let place = member_at _ _ _ _ _ _ c.self.view_is c.self.invariant.3 c.requires.place.member c.index.ensures in
    rw (← c.self.view_is) (not_yet_answer _ _ _ c.in-NotYet.field-0 _ _ _ _ h place c.in-NotYet.ensures.answer st)

pub returns-in-Differs-clause-known : goal.returns-in-Differs-clause-known
returns-in-Differs-clause-known c = known_to_all _ _ _ _ c.self.view_is c.self.invariant.3

pub returns-in-Differs-clause-answer : goal.returns-in-Differs-clause-answer
returns-in-Differs-clause-answer c = λ h st0.
    let st = stands_here _ _ _ h _ c.self.view_is st0 in
    let place = member_at _ _ _ _ _ _ c.self.view_is c.self.invariant.3 c.requires.place.member c.index.ensures in
    differs_answer _ _ _ _ _ _ _ h place c.in-Differs.ensures.answer st
