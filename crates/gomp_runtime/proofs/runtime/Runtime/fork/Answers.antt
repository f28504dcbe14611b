use Rattle.std.proofs.Common.{ap, ◌∙◌, subst}
use Rattle.gomp_fork.specs.Reports.{LeavesRegion}
use Rattle.gomp_fork.specs.Teams.{team_of}
use Rattle.gomp_levels.specs.Levels.{Forks}
use Rattle.gomp_runtime.proofs.ForkedRegions.{region_told}
use Rattle.gomp_runtime.proofs.runtime.Runtime.fork.Goals as goal

pub returns-clause-region : goal.returns-clause-region
returns-clause-region g c =
    let size = c.size_for-size.result in
    let team = team_of c.terms-terms.result in
    let begun = c.begin_told-forked.result in
    let leaves = subst (λ progs. LeavesRegion g.P.Program g.T.Tool (Forks g.P.Program g.T.Tool) size team progs begun.tools.items c.region-result.result)
    (ap (λ progs. progs.items) c.begin_told-forked.ensures.progs) c.region-result.ensures.region in
    region_told g.P.Program g.T.Tool c.args.number size c.len.result c.self.inside.numbers.icv c.args.self.now.icv team c.args.forked.progs.items c.args.forked.tools.items begun.tools.items
    c.region-result.result c.end_told.result (ap (λ runtime. runtime.icv) c.self.view_is) (c.len.ensures ∙ c.args.forked.progs.ok.0) c.size_for-size.ensures.size c.terms-terms.ensures.team
    c.begin_told-forked.ensures.tools leaves c.end_told.ensures
