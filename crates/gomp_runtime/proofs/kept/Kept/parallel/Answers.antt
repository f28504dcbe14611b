use Rattle.std.proofs.Common.{ap, subst, ◌∙◌}
use Rattle.gomp_fork.specs.Reports.{LeavesRegion}
use Rattle.gomp_fork.specs.Teams.{team_of}
use Rattle.gomp_levels.specs.Levels.{Forks}
use Rattle.gomp_runtime.proofs.ForkedRegions.{region_forked, region_told, told_by_number}
use Rattle.gomp_runtime.specs.Regions.{ForksRegion, RunsTold}
use Rattle.gomp_runtime.proofs.kept.Kept.parallel.Goals as goal

pub returns-clause-region : goal.returns-clause-region
returns-clause-region g c =
    let progs = c.args.progs.items in
    let tools = c.args.tools.items in
    let size = c.size_for-size.result in
    let team = team_of c.terms-terms.result in
    let begun = c.begin_told-forked.result in
    let result = c.end_told.result in
    let leaves = subst (λ ps. LeavesRegion g.P.Program g.T.Tool (Forks g.P.Program g.T.Tool) size team ps begun.tools.items c.sized_region-result.result)
    (ap (λ ps. ps.items) c.begin_told-forked.ensures.progs) c.sized_region-result.ensures.region in
    let runs = region_told g.P.Program g.T.Tool c.in-Ok.number size c.len.result c.take_number.new.self.icv c.self.inside.numbers.icv team progs tools begun.tools.items
    c.sized_region-result.result result c.in-Ok.ensures.icv (c.len.ensures ∙ c.args.progs.ok.0) c.size_for-size.ensures.size c.terms-terms.ensures.team
    c.begin_told-forked.ensures.tools leaves c.end_told.ensures in
    subst (λ runtime. ForksRegion g.P.Program g.T.Tool runtime progs tools result) c.self.view_is
    (region_forked g.P.Program g.T.Tool c.self.inside.numbers c.in-Ok.number progs tools result c.in-Ok.ensures.number c.in-Ok.ensures.ok c.in-Ok.ensures.some runs)

pub returns-clause-told : goal.returns-clause-told
returns-clause-told g c =
    let progs = c.args.progs.items in
    let tools = c.args.tools.items in
    let size = c.size_for-size.result in
    let team = team_of c.terms-terms.result in
    let begun = c.begin_told-forked.result in
    let result = c.end_told.result in
    let leaves = subst (λ ps. LeavesRegion g.P.Program g.T.Tool (Forks g.P.Program g.T.Tool) size team ps begun.tools.items c.sized_region-result.result)
    (ap (λ ps. ps.items) c.begin_told-forked.ensures.progs) c.sized_region-result.ensures.region in
    let runs = region_told g.P.Program g.T.Tool c.in-Ok.number size c.len.result c.take_number.new.self.icv c.self.inside.numbers.icv team progs tools begun.tools.items
    c.sized_region-result.result result c.in-Ok.ensures.icv (c.len.ensures ∙ c.args.progs.ok.0) c.size_for-size.ensures.size c.terms-terms.ensures.team
    c.begin_told-forked.ensures.tools leaves c.end_told.ensures in
    λ none. subst (λ runtime. RunsTold g.P.Program g.T.Tool runtime.regions runtime.icv progs tools result) c.self.view_is
    (told_by_number g.P.Program g.T.Tool c.self.inside.numbers c.in-Ok.number progs tools result c.in-Ok.ensures.number runs)
