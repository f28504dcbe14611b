use Rattle.std.proofs.Common.{rules}
use Rattle.gomp_team_region.proofs.Taken.{member_opened, number_opened, part_opened, book_part_opened, item_opened, one_part_left, one_book_part_left}
use Rattle.gomp_team_region.proofs.Seats.{first_of_seats, seat_opened}
use Rattle.gomp_team_region.proofs.opening.open_members.Goals as goal

pub loop-tool-preserved : goal.loop-tool-preserved
loop-tool-preserved g c =
    let inv = c.loop-tool.invariant in
    let member = c.in-Ok.member in
    let made = c.in-Ok.ensures in
    let rest = c.open_member.new.rest in
    let share = c.open_member.new.share in
    let before = c.loop-tool.members.items in
    let after = c.push_reserved.new.self.items in
    let is = c.push_reserved.ensures.items in
    let events_left = one_part_left c.loop-tool.rest rest member.events made.rest made.member.events in
    let held_left = one_book_part_left c.loop-tool.share.held share.held member.held made.held made.member.held in
    let freed_left = one_book_part_left c.loop-tool.share.freed share.freed member.freed made.freed made.member.freed in
    let seats = first_of_seats c.args.team.now.value.ring c.loop-tool.number c.loop-tool.seats.items c.pop-in-Some.new.self.items c.in-Some-pop.seat c.in-Some-pop.ensures.items inv.12 in (
      member_opened c.args.team.now.value.team c.loop-tool.number before after member is inv.1 inv.0 made.member,
      number_opened c.loop-tool.number before after member is inv.1,
      item_opened (λ other. other.tool) c.loop-tool.tools.items c.pop.new.self.items _ c.in-Some.tool before after member is c.in-Some.ensures.items made.tool inv.2,
      part_opened c.loop-tool.rest rest c.args.rest.now before after member is made.rest inv.3,
      book_part_opened (λ other. other.held) c.loop-tool.share.held share.held c.args.share.now.held before after member is made.held inv.4,
      book_part_opened (λ other. other.freed) c.loop-tool.share.freed share.freed c.args.share.now.freed before after member is made.freed inv.5,
      search rules,
      search rules,
      search rules,
      search rules,
      search rules,
      search rules,
      seats.1,
      search rules,
      seat_opened c.args.team.now.value.ring c.loop-tool.number before after member c.in-Some-pop.seat is inv.1 inv.14 made.seat seats.0,
    )

pub open_member-requires-clause-seat : goal.open_member-requires-clause-seat
open_member-requires-clause-seat g c =
    (first_of_seats c.args.team.now.value.ring c.loop-tool.number c.loop-tool.seats.items c.pop-in-Some.new.self.items c.in-Some-pop.seat c.in-Some-pop.ensures.items c.loop-tool.invariant.12).0
