use Rattle.gomp_share_ring.proofs.AllCalls.{member_at, shown_at, known_to_all}
use Rattle.gomp_share_ring.proofs.ring_all.RingAllShares.look.Goals as goal

pub returns-clause-known : goal.returns-clause-known
returns-clause-known c = known_to_all _ _ _ _ c.self.view_is c.self.invariant.3

pub returns-clause-value : goal.returns-clause-value
returns-clause-value c =
    let place = member_at _ _ _ _ _ _ c.self.view_is c.self.invariant.3 c.requires.member c.index-own.ensures in
    shown_at _ _ _ _ _ _ c.self.view_is place
