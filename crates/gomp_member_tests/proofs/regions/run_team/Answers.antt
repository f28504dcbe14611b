use Rattle.std.proofs.Common.{◌≡◌, ◌∙◌, ap, length, rules, sym, vec_len}
use Rattle.std.proofs.lemmas.List.{length-map}
use Rattle.gomp_team_region.proofs.Whole.{new_members_have_one_of_each, one_of_each_is_the_whole, holds_come_back, releases_come_back}
use Rattle.gomp_team_region.specs.Regions.{seats_of}
use Rattle.gomp_member_tests.proofs.OwnSeats.{all_have_own_seats, own_seats_are_all}
use Rattle.gomp_member_tests.proofs.regions.run_team.Goals as goal

pub walk_all-members-requires-clause-parts : goal.walk_all-members-requires-clause-parts
walk_all-members-requires-clause-parts g c κs within = new_members_have_one_of_each c.in-Ok.made.0.team 0 c.in-Ok.made.1.items c.in-Ok.ensures.members

pub walk_all-members-requires-clause-seats : goal.walk_all-members-requires-clause-seats
walk_all-members-requires-clause-seats g c κs within = all_have_own_seats c.in-Ok.made.0.ring (seats_of c.in-Ok.made.1.items) c.in-Ok.ensures.seats

pub settle-tools-requires-clause-seats : goal.settle-tools-requires-clause-seats
settle-tools-requires-clause-seats g c =
    own_seats_are_all c.in-Ok.made.0.ring (seats_of c.in-Ok.made.1.items) (seats_of c.walk_all-members.result.items) c.in-Ok.ensures.seats c.walk_all-members.ensures.seats
    (length-map c.walk_all-members.result.items (λ member. member.seat) ∙ sym c.walk_all-members.result.ok.0 ∙ c.walk_all-members.ensures.len ∙ c.in-Ok.made.1.ok.0 ∙ sym (length-map c.in-Ok.made.1.items (λ member. member.seat)))

pub settle-tools-requires-clause-whole : goal.settle-tools-requires-clause-whole
settle-tools-requires-clause-whole g c =
    let made : length c.in-Ok.made.1.items ≡ length c.new_tools-tools.result.items = sym (length-map c.in-Ok.made.1.items (λ member. member.tool)) ∙ ap length c.in-Ok.ensures.tools in
    let count : length c.walk_all-members.result.items ≡ vec_len c.new_tools-tools.result = search (rules, made, c.walk_all-members.ensures.len) in
    one_of_each_is_the_whole c.terms.result.number c.terms.result.icv (vec_len c.new_tools-tools.result) g.L.Ledger.parts c.in-Ok.made.0 c.walk_all-members.result.items c.in-Ok.ensures.region c.walk_all-members.ensures.parts count

pub returns-clause-held : goal.returns-clause-held
returns-clause-held g c =
    let made : length c.in-Ok.made.1.items ≡ length c.new_tools-tools.result.items = sym (length-map c.in-Ok.made.1.items (λ member. member.tool)) ∙ ap length c.in-Ok.ensures.tools in
    let count : length c.walk_all-members.result.items ≡ vec_len c.new_tools-tools.result = search (rules, made, c.walk_all-members.ensures.len) in
    holds_come_back (vec_len c.new_tools-tools.result) c.args.share.now.held c.new.new.share.held c.settle-tools.new.share.held c.walk_all-members.result.items c.in-Ok.ensures.held c.settle-tools.ensures.held c.walk_all-members.ensures.parts count

pub returns-clause-freed : goal.returns-clause-freed
returns-clause-freed g c =
    let made : length c.in-Ok.made.1.items ≡ length c.new_tools-tools.result.items = sym (length-map c.in-Ok.made.1.items (λ member. member.tool)) ∙ ap length c.in-Ok.ensures.tools in
    let count : length c.walk_all-members.result.items ≡ vec_len c.new_tools-tools.result = search (rules, made, c.walk_all-members.ensures.len) in
    releases_come_back (vec_len c.new_tools-tools.result) c.args.share.now.freed c.new.new.share.freed c.settle-tools.new.share.freed c.walk_all-members.result.items c.in-Ok.ensures.freed c.settle-tools.ensures.freed c.walk_all-members.ensures.parts count
