use Rattle.std.proofs.Common.{rules, ap, ◌∙◌}
use Rattle.gomp_team_region.proofs.Taken.{part_taken_back, book_part_taken_back, item_taken_back, last_mapped}
use Rattle.gomp_team_region.proofs.returned.take_back.Goals as goal

pub loop-member-preserved : goal.loop-member-preserved
loop-member-preserved g c =
    let inv = c.loop-member.invariant in
    let member = c.in-Some.member in
    let before = c.loop-member.members.items in
    let after = c.pop.new.self.items in
    let is = c.in-Some.ensures.items in
    let parts = c.into_parts-parts.ensures in
    let takes = c.take_parts-seat.ensures in (
      part_taken_back c.loop-member.rest c.take_parts-seat.new.rest _ _ before after member is takes.rest parts.events inv.0,
      book_part_taken_back (λ other. other.held) c.loop-member.share.held c.take_parts-seat.new.share.held _ _ before after member is takes.held parts.held inv.1,
      book_part_taken_back (λ other. other.freed) c.loop-member.share.freed c.take_parts-seat.new.share.freed _ _ before after member is takes.freed parts.freed inv.2,
      item_taken_back (λ other. other.tool) c.loop-member.room.tools.items c.push_reserved-in-Some.new.self.items _ _ before after member is c.push_reserved-in-Some.ensures.items parts.tool inv.3,
      item_taken_back (λ part. part.counts) c.loop-member.room.counts.items c.push_reserved.new.self.items _ _ _ _ member.events (last_mapped (λ other. other.events) after before member is) c.push_reserved.ensures.items (c.counts.ensures.value ∙ ap (λ part. part.counts) parts.events) inv.4,
      item_taken_back (λ other. other.seat) c.loop-member.room.seats.items c.push_reserved-in-Some-2.new.self.items _ _ before after member is c.push_reserved-in-Some-2.ensures.items (takes.seat ∙ parts.seat) inv.5,
      inv.6,
      search rules,
      search rules,
      search rules,
    )
