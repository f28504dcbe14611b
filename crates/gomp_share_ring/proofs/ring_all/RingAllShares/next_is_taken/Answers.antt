use Rattle.std.proofs.Common.{ap}
use Rattle.std.specs.Prelude.{option_copied}
use Rattle.gomp_share_ring.proofs.AllAnswers.{taken_by_none, taken_by_last}
use Rattle.gomp_share_ring.proofs.AllCalls.{member_at, known_to_all, stands_here}
use Rattle.gomp_share_ring.proofs.ring_all.RingAllShares.next_is_taken.Goals as goal

pub returns-in_default-clause-known : goal.returns-in_default-clause-known
returns-in_default-clause-known c = known_to_all _ _ _ _ c.self.view_is c.self.invariant.3

pub returns-clause-known : goal.returns-clause-known
returns-clause-known c = known_to_all _ _ _ _ c.self.view_is c.self.invariant.3

pub returns-in_default-clause-answer : goal.returns-in_default-clause-answer
returns-in_default-clause-answer c = λ h st0.
    let st = stands_here _ _ _ h _ c.self.view_is st0 in
    let place = member_at _ _ _ _ _ _ c.self.view_is c.self.invariant.3 c.requires.member c.index.ensures in
    taken_by_none _ _ _ _ _ _ _ h place c.self.invariant.4 c.at.ensures.there (ap option_copied c.in_default.is) st

pub returns-clause-answer : goal.returns-clause-answer
returns-clause-answer c = λ h st0.
    let st = stands_here _ _ _ h _ c.self.view_is st0 in
    let place = member_at _ _ _ _ _ _ c.self.view_is c.self.invariant.3 c.requires.member c.index.ensures in
    taken_by_last _ _ _ _ _ _ _ _ h place c.self.invariant.4 c.at.ensures.there (ap option_copied c.in-Some.is) st
