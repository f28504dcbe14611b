use Rattle.std.proofs.Common.{sym, subst, ◌∙◌}
use Rattle.gomp_fork.specs.Counts.{counted_in}
use Rattle.gomp_fork.specs.Teams.{team_of}
use Rattle.gomp_nested.proofs.ForkedRegions.{team_has_run}
use Rattle.gomp_nested.proofs.nested.team_region.Goals as goal

pub returns-clause-ran : goal.returns-clause-ran
returns-clause-ran g c =
    let children = c.in-Ok.children in
    let made = c.in-Ok.ensures in
    let size = c.size-size.ensures.size in
    team_has_run g.P.Program g.T.Tool g.C.Site.forks (team_of c.args.ground.terms) c.args.threads.now c.args.forker.now children.progs.items children.tools.items (counted_in c.spawned.new.share) c.spawned.result
    (subst (λ k. g.P.Program.fork_gives c.args.forker.now.prog k children.progs.items) size made.progs) (subst (λ k. g.T.Tool.fork_gives c.args.forker.now.tool k children.tools.items) size made.tools)
    (sym children.progs.ok.0 ∙ made.prog_each ∙ size) (sym children.tools.ok.0 ∙ made.tool_each ∙ size) c.spawned.ensures.region
