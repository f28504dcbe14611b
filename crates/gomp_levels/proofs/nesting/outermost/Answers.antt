use Rattle.gomp_fork.specs.Teams.{team_of}
use Rattle.gomp_fork.proofs.Rans.{unbegun_leaves_none}
use Rattle.gomp_levels.specs.Levels.{Forks}
use Rattle.gomp_levels.proofs.nesting.outermost.Goals.{in-Ok-try_clone, in-Err-try_clone}
use Rattle.gomp_levels.proofs.nesting.outermost.Goals as goal

pub returns-in_default-clause-region : goal.returns-in_default-clause-region
returns-in_default-clause-region g c =
    unbegun_leaves_none g.P.Program g.T.Tool (Forks g.P.Program g.T.Tool) (team_of c.args.ground.terms) c.args.forked.progs.items c.args.forked.tools.items c.args.opened.now.share.held c.args.opened.now.share.freed
    c.not_begun.result.result c.not_begun.ensures.fault c.not_begun.ensures.progs c.not_begun.ensures.tools c.not_begun.ensures.refusal

pub returns-in-Err-clause-region : goal.returns-in-Err-clause-region
returns-in-Err-clause-region g c =
    unbegun_leaves_none g.P.Program g.T.Tool (Forks g.P.Program g.T.Tool) (team_of c.args.ground.terms) c.args.forked.progs.items c.args.forked.tools.items c.args.opened.now.share.held c.args.opened.now.share.freed
    c.not_begun-in-Err.result.result c.not_begun-in-Err.ensures.fault c.not_begun-in-Err.ensures.progs c.not_begun-in-Err.ensures.tools c.not_begun-in-Err.ensures.refusal

pub returns-clause-region : goal.returns-clause-region
returns-clause-region g c = elim c.match-try_clone-2.branch [
  | in-Ok-try_clone w ↦ rw (w.opened-is, w.ended-is) w.first_region-ended.ensures.region
  | in-Err-try_clone w ↦ rw (w.opened-is, w.ended-is) (unbegun_leaves_none g.P.Program g.T.Tool (Forks g.P.Program g.T.Tool) (team_of c.args.ground.terms) c.args.forked.progs.items c.args.forked.tools.items c.args.opened.now.share.held c.args.opened.now.share.freed
      w.not_begun-ended.result.result w.not_begun-ended.ensures.fault w.not_begun-ended.ensures.progs w.not_begun-ended.ensures.tools w.not_begun-ended.ensures.refusal)
]
