use Rattle.std.proofs.Common.{◌≡◌, arith, length}
use Rattle.gomp_member_tests.proofs.OwnSeats.{one_more_has_own_seat}
use Rattle.gomp_member_tests.proofs.walkers.+members_back.Goals as goal

pub returns-clause-seats : goal.returns-clause-seats
returns-clause-seats g t c =
    let walker = c.in-Some.walker in
    let before = c.in_ok-members.members in
    let many : length before.items ≡ walker.number = omega (arith, before.ok.0, c.in_ok-members.ensures.len, c.len-place.ensures, c.if-number-place.false) in
    one_more_has_own_seat g.S.TeamRing.table g.S.TeamRing.members before.items c.push_reserved.new.self.items walker.member walker.number c.push_reserved.ensures.items many c.in_ok-members.ensures.seats walker.own_seat
