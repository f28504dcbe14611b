use Rattle.std.proofs.Common.{rules, subst, arith}
use Rattle.gomp_member_tests.specs.Seats.{HasOwnSeat}
use Rattle.gomp_member_tests.proofs.KeepsParts.{last_has_one_of_each, others_have_one_of_each}
use Rattle.gomp_member_tests.proofs.OwnSeats.{last_has_own_seat}
use Rattle.gomp_member_tests.proofs.walkers.+walkers_of.Goals as goal

pub walkers_of-walkers-requires : goal.walkers_of-walkers-requires
walkers_of-walkers-requires g t c κs within =
    let rest = others_have_one_of_each c.args.members.items c.pop.new.self.items c.in-Some.member c.in-Some.ensures.items c.requires.parts in
    let seats = (last_has_own_seat g.S.TeamRing.table g.S.TeamRing.members c.args.members.items c.pop.new.self.items c.in-Some.member c.in-Some.ensures.items c.requires.seats).0 in
    search rules

pub invariant_of-push_reserved : goal.invariant_of-push_reserved
invariant_of-push_reserved g t c =
    let own = (last_has_own_seat g.S.TeamRing.table g.S.TeamRing.members c.args.members.items c.pop.new.self.items c.in-Some.member c.in-Some.ensures.items c.requires.seats).1 in
    record {
      one_of_each = last_has_one_of_each c.args.members.items c.pop.new.self.items c.in-Some.member c.in-Some.ensures.items c.requires.parts;
      own_seat = subst (λ k. HasOwnSeat g.S.TeamRing.table g.S.TeamRing.members k c.in-Some.member.seat) (omega (arith, c.len-number.ensures, c.pop.new.self.ok.0, c.in-Some.ensures.len, c.requires.few)) own;
    }
