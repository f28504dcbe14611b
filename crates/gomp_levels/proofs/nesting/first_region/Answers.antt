use Rattle.gomp_fork.specs.Teams.{team_of}
use Rattle.gomp_fork.proofs.Rans.{unbegun_leaves_none}
use Rattle.gomp_levels.specs.Levels.{Forks}
use Rattle.gomp_levels.proofs.nesting.first_region.Goals as goal

pub returns-in_default-clause-region : goal.returns-in_default-clause-region
returns-in_default-clause-region g c =
    unbegun_leaves_none g.P.Program g.T.Tool (Forks g.P.Program g.T.Tool) (team_of c.args.terms) c.args.forked.progs.items c.args.forked.tools.items c.args.share.now.held c.args.share.now.freed
    c.not_begun.result.result c.not_begun.ensures.fault c.not_begun.ensures.progs c.not_begun.ensures.tools c.not_begun.ensures.refusal
