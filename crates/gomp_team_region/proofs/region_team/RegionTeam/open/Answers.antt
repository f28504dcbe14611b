use Rattle.std.proofs.Common.{List, refl, ap, sym, subst, ◌∙◌, reverse, vec_len}
use Rattle.std.proofs.lemmas.List.{length-map, reverse-reverse}
use Rattle.gomp_ring.specs.RingSeats.{SeatView}
use Rattle.gomp_team_region.specs.Regions.{AreSeatsFrom, seats_of}
use Rattle.gomp_team_region.proofs.Seats.{opened_seats_are_all, new_seats_from}
use Rattle.gomp_team_region.proofs.Taken.{events_given_away, holds_given_away, releases_given_away}
use Rattle.gomp_team_region.proofs.region_team.RegionTeam.open.Goals as goal

pub returns-then-open_members-clause-rest : goal.returns-then-open_members-clause-rest
returns-then-open_members-clause-rest g c =
    let opened = c.if-open_members.ensures in
    events_given_away c.args.team.value.team c.args.rest c.open_members.new.rest c.open_members.new.members.items (vec_len c.args.room.tools) opened.members opened.rest (opened.count refl)

pub returns-then-open_members-clause-held : goal.returns-then-open_members-clause-held
returns-then-open_members-clause-held g c =
    let opened = c.if-open_members.ensures in
    holds_given_away c.args.team.value.team c.args.share.now.held c.open_members.new.share.held c.open_members.new.members.items (vec_len c.args.room.tools) opened.members opened.held (opened.count refl)

pub returns-then-open_members-clause-freed : goal.returns-then-open_members-clause-freed
returns-then-open_members-clause-freed g c =
    let opened = c.if-open_members.ensures in
    releases_given_away c.args.team.value.team c.args.share.now.freed c.open_members.new.share.freed c.open_members.new.members.items (vec_len c.args.room.tools) opened.members opened.freed (opened.count refl)

pub open_members-requires-clause-seats : goal.open_members-requires-clause-seats
open_members-requires-clause-seats g c =
    let seats = c.args.seats.items in
    subst (λ (list : List SeatView). AreSeatsFrom c.args.team.value.ring 0 list) (sym (ap reverse c.reverse.ensures.items ∙ reverse-reverse seats)) (new_seats_from c.args.team.value.ring (vec_len c.args.room.tools) seats c.requires.seats)

pub returns-then-open_members-clause-seats : goal.returns-then-open_members-clause-seats
returns-then-open_members-clause-seats g c =
    let opened = c.if-open_members.ensures in
    let members = c.open_members.new.members.items in
    opened_seats_are_all c.args.team.value.ring (seats_of members) opened.seats (length-map members (λ member. member.seat) ∙ opened.count refl ∙ sym c.requires.seats.size)
