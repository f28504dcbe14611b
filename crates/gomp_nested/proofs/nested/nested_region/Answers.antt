use Rattle.std.proofs.Common.{ap, refl, subst, ◌≡◌}
use Rattle.gomp_fork.specs.Teams.{team_of, team_sized}
use Rattle.gomp_nested.specs.Nested.{EndsTeam, tools_back}
use Rattle.gomp_nested.proofs.ForkedRegions.{region_forked}
use Rattle.gomp_nested.proofs.nested.nested_region.Goals as goal

pub returns-in-Some-ended : goal.returns-in-Some-ended
returns-in-Some-ended g c =
    let members = c.reserve-threads.result in
    let begun = c.team_region-ended.new.forker in
    let handed = c.hand_over-parts.new.forker in
    let after = c.rejoined.result.forker in
    let team : team_of c.terms_of.result ≡ team_sized c.in-Some.number c.forker.inside.icv members =
    subst (λ n. team_of c.terms_of.result ≡ team_sized c.in-Some.number c.forker.inside.icv n) c.size-size.ensures.size c.terms_of.ensures.team in
    let ends : EndsTeam g.T.Tool members handed.tool (tools_back c.in-Some-ended.result) after.tool =
    subst (λ n. EndsTeam g.T.Tool n handed.tool (tools_back c.in-Some-ended.result) after.tool) c.size-size.ensures.size c.rejoined.ensures.tool in
    region_forked g.P.Program g.T.Tool g.C.Site.forks c.args.nest.asked c.args.nest.forker begun handed after _ c.rejoined.result.reply c.in-Some-ended.result
    c.in-Some.number members c.team_size-wanted.result c.forker.inside.icv _ c.in-Some.ensures.above (c.reserve-threads.ensures.some, c.reserve-threads.ensures.few)
    c.team_size-wanted.ensures.size (ap (λ forker. forker.icv) c.forker.view_is) team c.in-Some-ended.ensures.ran (c.in-Some-ended.ensures.begun refl) c.hand_over-parts.ensures.forker
    c.rejoined.ensures.prog ends c.rejoined.ensures.icv c.rejoined.ensures.inner c.rejoined.ensures.reply
