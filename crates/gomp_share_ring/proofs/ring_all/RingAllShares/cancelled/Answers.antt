use Rattle.std.proofs.Common.{◌∙◌}
use Rattle.gomp_share_ring.proofs.AllAnswers.{outside_not_cancelled, cancelled_answer}
use Rattle.gomp_share_ring.proofs.AllCalls.{member_at, known_to_all, stands_here, in_share_of_all}
use Rattle.gomp_share_ring.proofs.ring_all.RingAllShares.cancelled.Goals as goal

pub ask_cancelled-requires-clause-inside : goal.ask_cancelled-requires-clause-inside
ask_cancelled-requires-clause-inside c =
    let place = member_at _ _ _ _ _ _ c.self.view_is c.self.invariant.3 c.requires.member c.index.ensures in
    in_share_of_all _ _ _ _ _ _ _ place c.in-Some.is

pub invariant_of-self : goal.invariant_of-self
invariant_of-self c = (c.ask_cancelled.ensures.seat.0 ∙ c.self.invariant.0, c.ask_cancelled.ensures.seat.1 ∙ c.self.invariant.1, c.self.invariant.2, rw c.ask_cancelled.ensures.answer.after c.self.invariant.3, rw c.ask_cancelled.ensures.answer.after c.self.invariant.4)

pub returns-clause-known : goal.returns-clause-known
returns-clause-known c = known_to_all _ _ _ _ c.self.view_is c.self.invariant.3

pub returns-in_default-clause-known : goal.returns-in_default-clause-known
returns-in_default-clause-known c = known_to_all _ _ _ _ c.self.view_is c.self.invariant.3

pub returns-in_default-clause-answer : goal.returns-in_default-clause-answer
returns-in_default-clause-answer c = λ h st0.
    let st = stands_here _ _ _ h _ c.self.view_is st0 in
    let place = member_at _ _ _ _ _ _ c.self.view_is c.self.invariant.3 c.requires.member c.index.ensures in
    outside_not_cancelled _ _ _ _ _ h place c.in_default.is st

pub returns-clause-answer : goal.returns-clause-answer
returns-clause-answer c = λ h st0.
    let st = stands_here _ _ _ h _ c.self.view_is st0 in
    let place = member_at _ _ _ _ _ _ c.self.view_is c.self.invariant.3 c.requires.member c.index.ensures in
    cancelled_answer _ _ _ _ _ _ _ _ h _ place c.in-Some.is c.ask_cancelled.ensures.answer st
