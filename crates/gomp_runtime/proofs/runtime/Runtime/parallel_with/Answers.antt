use Rattle.std.proofs.Common.{subst}
use Rattle.gomp_runtime.proofs.ForkedRegions.{region_forked, told_by_number}
use Rattle.gomp_runtime.specs.Regions.{ForksRegion, RunsTold}
use Rattle.gomp_runtime.proofs.runtime.Runtime.parallel_with.Goals as goal

pub returns-in-Ok-clause-region : goal.returns-in-Ok-clause-region
returns-in-Ok-clause-region g c =
    let progs = c.args.progs.items in
    let tools = c.args.tools.items in
    let runs = subst (λ v. RunsTold g.P.Program g.T.Tool c.in-Ok.number v progs tools c.fork.result) c.in-Ok.ensures.icv c.fork.ensures.region in
    subst (λ runtime. ForksRegion g.P.Program g.T.Tool runtime progs tools c.fork.result) c.self.view_is
    (region_forked g.P.Program g.T.Tool c.self.inside.numbers c.in-Ok.number progs tools c.fork.result c.in-Ok.ensures.number c.in-Ok.ensures.ok c.in-Ok.ensures.some runs)

pub returns-in-Ok-clause-told : goal.returns-in-Ok-clause-told
returns-in-Ok-clause-told g c =
    let progs = c.args.progs.items in
    let tools = c.args.tools.items in
    let runs = subst (λ v. RunsTold g.P.Program g.T.Tool c.in-Ok.number v progs tools c.fork.result) c.in-Ok.ensures.icv c.fork.ensures.region in
    λ none. subst (λ runtime. RunsTold g.P.Program g.T.Tool runtime.regions runtime.icv progs tools c.fork.result) c.self.view_is
    (told_by_number g.P.Program g.T.Tool c.self.inside.numbers c.in-Ok.number progs tools c.fork.result c.in-Ok.ensures.number runs)
