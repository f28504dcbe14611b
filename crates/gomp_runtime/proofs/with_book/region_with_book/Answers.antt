use Rattle.std.proofs.Common.{inl, sym, subst, vec_len}
use Rattle.gomp_fork.specs.Reports.{LeavesRegion}
use Rattle.gomp_fork.specs.Teams.{team_of}
use Rattle.gomp_fork.proofs.Rans.{refused_leaves_all}
use Rattle.gomp_levels.specs.Levels.{Forks}
use Rattle.gomp_runtime.proofs.with_book.region_with_book.Goals as goal

pub returns-clause-region : goal.returns-clause-region
returns-clause-region g c =
    subst (λ n. LeavesRegion g.P.Program g.T.Tool (Forks g.P.Program g.T.Tool) n (team_of c.args.ground.terms) c.args.forked.progs.items c.args.forked.tools.items c.outermost-ended.result.result)
    (sym c.args.forked.progs.ok.0) c.outermost-ended.ensures.region.left

pub returns-in-Err-clause-region : goal.returns-in-Err-clause-region
returns-in-Err-clause-region g c =
    refused_leaves_all g.P.Program g.T.Tool (Forks g.P.Program g.T.Tool) (vec_len c.args.forked.progs) (team_of c.args.ground.terms) c.args.forked.progs.items c.args.forked.tools.items
    c.refused.result c.refused.ensures.progs c.refused.ensures.tools (inl c.refused.ensures.refusal)
